-- What stands in front of names in a line of a dry run, which is taken out: directories, and the beginnings of temporary files' names.
use Rattle.std.specs.Prelude.{◌≡◌, ℕ, zero, suc, ◌-◌, List, [], ◌∷◌, ◌++◌, length, Bool, true, false, ◌||◌, ◌&&◌, ◌==◌, nat_le, Option, Some, None, if◌then◌else◌, codes, refl, option_and_then, unwrap_or}
use Rattle.std.specs.Option.{option_or}
use Rattle.texts.specs.Lists.{is_some_and, rest_after}
use Rattle.dry_run_pairs.specs.Cuts.{past}

-- whether a name may begin behind a byte: a quote or `=`
abbrev pub opens_name : ℕ → Bool
opens_name byte = byte == 34 || byte == 61

-- how many bytes stand in front of a name, if one begins here
abbrev pub count_at : (List ℕ → ℕ) → Bool → List ℕ → ℕ
count_at front opens text = if opens then front text else 0

-- a text without what stands in front of its names, if `front` says of a name, and of all that follows it, how many bytes that is. Of
-- these `left` are still to go, and `opens` says whether a name begins here
abbrev pub bare_from : (List ℕ → ℕ) → ℕ → Bool → List ℕ → List ℕ
bare_from front left opens [] = []
bare_from front (suc left) opens (c ∷ cs) = bare_from front left false cs
bare_from front zero opens (c ∷ cs) =
    if count_at front opens (c ∷ cs) == 0 then c ∷ bare_from front 0 (opens_name c) cs
    else bare_from front (count_at front opens (c ∷ cs) - 1) false cs

abbrev pub bare : (List ℕ → ℕ) → List ℕ → List ℕ
bare front text = bare_from front 0 false text

-- a name from behind a directory that it begins with
abbrev pub below : List ℕ → List ℕ → List ℕ
below folder name = unwrap_or (rest_after folder name) name

abbrev pub below_all : List (List ℕ) → List ℕ → List ℕ
below_all [] name = name
below_all (folder ∷ folders) name = below_all folders (below folder name)

-- how many bytes of directories a name begins with, which stand there in this order, each with its `/`
abbrev pub folder_front : List (List ℕ) → List ℕ → ℕ
folder_front folders name = length name - length (below_all folders name)

-- nvcc's temporary files have names like `tmpxft_000030a2_00000000-7_k.ptx`
abbrev pub is_hex_digit : ℕ → Bool
is_hex_digit byte = (nat_le 48 byte && nat_le byte 57) || (nat_le 97 byte && nat_le byte 102)

abbrev pub is_digit : ℕ → Bool
is_digit byte = nat_le 48 byte && nat_le byte 57

-- what follows such a beginning in a text that begins with one
abbrev pub after_beginning : List ℕ → Option (List ℕ)
after_beginning text =
    option_and_then (λ process. option_and_then (λ call. option_and_then (λ number. rest_after (codes "_") (past is_digit number))
    (rest_after (codes "-") (past is_hex_digit call)))
    (rest_after (codes "_") (past is_hex_digit process)))
    (rest_after (codes "tmpxft_") text)

-- what follows a process's number in the name of a temporary file
abbrev pub after_process : List ℕ → Option (List ℕ)
after_process text = option_and_then (λ process. rest_after (codes "_") (past is_hex_digit process)) (rest_after (codes "tmpxft_") text)

-- whether a name is that of a temporary file. nvcc looks for some that end sooner than a beginning does
abbrev pub is_temporary : List ℕ → Bool
is_temporary name = is_some_and (λ rest. true) (after_process name)

pub sought_names_are_temporary : is_temporary (codes "tmpxft_000071ea_00000000-2.cpp") ≡ true
sought_names_are_temporary = refl

pub another_name_is_not : is_temporary (codes "tmpxft_k.ptx") ≡ false
another_name_is_not = refl

-- what follows the last such beginning in the name that a text begins with: no name holds a quote or `=`
abbrev pub after_last : List ℕ → Option (List ℕ)
after_last [] = None
after_last (c ∷ cs) = if opens_name c then None else option_or (after_last cs) (after_beginning (c ∷ cs))

-- how many bytes of a name there are up to its own beginning, with the directory
abbrev pub behind_front : List ℕ → Option (List ℕ) → ℕ
behind_front name None = 0
behind_front name (Some rest) = length name - length rest

abbrev pub temporary_front : List ℕ → ℕ
temporary_front name = behind_front name (after_last name)

-- how many bytes of a name are taken out: those up to the name of a temporary file, if these go, or else those of directories
abbrev pub front_of : Bool → List (List ℕ) → List ℕ → ℕ
front_of false folders name = folder_front folders name
front_of true folders name = if temporary_front name == 0 then folder_front folders name else temporary_front name

-- a text without a directory in front of its names. The directory is given without the `/` at its end
abbrev pub without_folder : List ℕ → List ℕ → List ℕ
without_folder folder text = bare (front_of false ((folder ++ 47 ∷ []) ∷ [])) text

-- examples
pub folders_go : bare (front_of false (codes "/t/" ∷ [])) (codes "cicc \"/t/k.ii\" -o \"/t/t/k\" --x=/t/a /t/b") ≡ codes "cicc \"k.ii\" -o \"t/k\" --x=a /t/b"
folders_go = refl

pub two_folders : folder_front (codes "/w/" ∷ codes "keep/" ∷ []) (codes "/w/keep/k.ii\" /w/") ≡ 8
two_folders = refl

pub second_folder_alone : folder_front (codes "/w/" ∷ codes "keep/" ∷ []) (codes "keep/k.ii") ≡ 5
second_folder_alone = refl

pub temporary_names_go : bare (front_of true []) (codes "ptxas \"/tmp/tmpxft_0a_00-7_k.ptx\" \"kind=elf,file=/tmp/tmpxft_0a_00-12_k.cubin\"") ≡
    codes "ptxas \"k.ptx\" \"kind=elf,file=k.cubin\""
temporary_names_go = refl

pub last_beginning_counts : temporary_front (codes "/tmp/tmpxft_1_0-2_d/tmpxft_1_0-3_k.ii\" \"tmpxft_1_0-4_x") ≡ 33
last_beginning_counts = refl

pub unfinished_beginning : after_beginning (codes "tmpxft_00_g-7_k") ≡ None
unfinished_beginning = refl
