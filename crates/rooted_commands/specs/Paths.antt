-- Paths below a checkout, as they are everywhere. The byte 47 is `/`.
use Rattle.std.specs.Prelude.{ℕ, ◌==◌, nat_eq, List, [], ◌∷◌, ◌++◌, Bool, true, if◌then◌else◌, Option, Some, None, codes, refl, option_and_then}
use Rattle.std.specs.List.{starts_with}
use Rattle.std.specs.Option.{option_or, is_some}
use Rattle.texts.specs.Lists.{first_word, rest_after}
use Rattle.texts.specs.Path.{is_absolute_path, joined}
use Rattle.texts.specs.Rows.{Gives}
use Rattle.rooted_commands.specs.declared.paths.Root.{Root}

-- whether a name ends before a text: the text is empty or begins with `/`
abbrev pub ends_name : List ℕ → Bool
ends_name [] = true
ends_name (c ∷ cs) = c == 47

abbrev pub if_name_ends : List ℕ → Option (List ℕ)
if_name_ends rest = if ends_name rest then Some rest else None

-- what is behind a folder in a path that is the folder or below it: nothing, or `/` and more
abbrev pub behind : List ℕ → List ℕ → Option (List ℕ)
behind folder path = option_and_then if_name_ends (rest_after folder path)

-- the same of the first folder that the path is or is below
abbrev pub behind_first : List (List ℕ) → List ℕ → Option (List ℕ)
behind_first [] path = None
behind_first (folder ∷ folders) path = option_or (behind folder path) (behind_first folders path)

-- what is behind the checkout's folder in a whole path. Generated files aren't in the checkout
abbrev pub place : Root → List ℕ → Option (List ℕ)
place r path = if is_some (behind r.tmp path) then None else behind_first r.folders path

-- what is behind it in a path that is seen from the call's directory
abbrev pub place_of : Root → List ℕ → Option (List ℕ)
place_of r path = place r (joined r.cwd path)

-- a path with the root in place of the folder, if it has a place there
abbrev pub put : List ℕ → List ℕ → Option (List ℕ) → List ℕ
put root path None = path
put root path (Some rest) = root ++ rest

abbrev pub rooted_path : Root → List ℕ → List ℕ
rooted_path r path = put r.root path (place_of r path)

-- examples: a call in a folder of a checkout that a link names, too
abbrev pub call_in : List ℕ → List ℕ → Root
call_in cwd tmp = record { folders = codes "/home/u/p" ∷ codes "/data/p" ∷ []; root = codes "/src"; cwd = cwd; tmp = tmp }

pub paths_in_a_checkout : Gives (rooted_path (call_in (codes "/home/u/p/a") (codes "/home/u/p/t"))) (
    (codes "/home/u/p/a/k.cu", codes "/src/a/k.cu")
    ∷ (codes "/data/p/b.h", codes "/src/b.h")
    ∷ (codes "k.cu", codes "/src/a/k.cu")
    ∷ (codes "../b/k.cu", codes "/src/a/../b/k.cu")
    ∷ (codes "/home/u/p", codes "/src")
    ∷ (codes "/home/u/p/", codes "/src/")
    ∷ (codes "/home/u/pq/k.cu", codes "/home/u/pq/k.cu")
    ∷ (codes "/usr/include/stdio.h", codes "/usr/include/stdio.h")
    ∷ (codes "/home/u/p/t/x_0.ii", codes "/home/u/p/t/x_0.ii")
    ∷ (codes "/home/u/p/t", codes "/home/u/p/t")
    ∷ (codes "/home/u/p/t2/k.cu", codes "/src/t2/k.cu")
    ∷ [])
paths_in_a_checkout = refl

-- a call elsewhere: its own relative names stay
pub paths_elsewhere : Gives (rooted_path (call_in (codes "/build") (codes "/tmp/z"))) (
    (codes "k.cu", codes "k.cu")
    ∷ (codes "/home/u/p/k.cu", codes "/src/k.cu")
    ∷ ([], [])
    ∷ [])
paths_elsewhere = refl

-- a path with the checkout's first folder in place of the root, if it is the root or below it
abbrev pub own_in : Root → List ℕ → Option (List ℕ) → List ℕ
own_in r path None = path
own_in r path (Some folder) = put folder path (behind r.root path)

abbrev pub own_path : Root → List ℕ → List ℕ
own_path r path = own_in r path (first_word r.folders)

pub own_paths : Gives (own_path (call_in (codes "/data/p/a") (codes "/t"))) (
    (codes "/src/a/k.cu", codes "/home/u/p/a/k.cu")
    ∷ (codes "/src", codes "/home/u/p")
    ∷ (codes "/srcs/k.cu", codes "/srcs/k.cu")
    ∷ (codes "../src/k.cu", codes "../src/k.cu")
    ∷ (codes "/usr/src/k.cu", codes "/usr/src/k.cu")
    ∷ [])
own_paths = refl

-- what is before a path in a word of nvcc's line
abbrev pub front_of : List ℕ → List ℕ
front_of word =
    if starts_with nat_eq word (codes "-I") then codes "-I"
    else (if starts_with nat_eq word (codes "-isystem=") then codes "-isystem="
    else (if starts_with nat_eq word (codes "--include-path=") then codes "--include-path="
    else (if starts_with nat_eq word (codes "--system-include=") then codes "--system-include=" else [])))

-- a path that is rooted if it is absolute: a relative one has no name of the checkout
abbrev pub whole_path : Root → List ℕ → List ℕ
whole_path r path = if is_absolute_path path then rooted_path r path else path

abbrev pub word_in : Root → List ℕ → List ℕ → Option (List ℕ) → List ℕ
word_in r word front None = word
word_in r word front (Some path) = front ++ whole_path r path

-- a word of nvcc's line as any checkout has it
abbrev pub line_word : Root → List ℕ → List ℕ
line_word r word = word_in r word (front_of word) (rest_after (front_of word) word)

pub line_words : Gives (line_word (call_in (codes "/data/p/a") (codes "/t"))) (
    (codes "/home/u/p/a/k.cu", codes "/src/a/k.cu")
    ∷ (codes "-I/data/p/inc", codes "-I/src/inc")
    ∷ (codes "-isystem=/data/p/inc", codes "-isystem=/src/inc")
    ∷ (codes "--system-include=/data/p", codes "--system-include=/src")
    ∷ (codes "-I../inc", codes "-I../inc")
    ∷ (codes "k.cu", codes "k.cu")
    ∷ (codes "-DTOP=/data/p", codes "-DTOP=/data/p")
    ∷ (codes "-I/usr/include", codes "-I/usr/include")
    ∷ [])
line_words = refl
