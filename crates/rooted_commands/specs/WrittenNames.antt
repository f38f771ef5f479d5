-- What gcc writes for the name of a file: its prefix maps are in the order of its words, and the last one that fits counts.
use Rattle.std.specs.Prelude.{◌≡◌, ℕ, List, [], ◌∷◌, ◌++◌, Bool, true, false, not, ◌==◌, ◌&&◌, ◌||◌, if◌then◌else◌, Option, Some, None, codes, refl, bytes_eq, option_map, option_and_then}
use Rattle.std.specs.List.{list_any}
use Rattle.std.specs.Option.{is_some, option_eq}
use Rattle.texts.specs.Lists.{latest, rest_after}
use Rattle.texts.specs.Path.{is_absolute_path, lacks}
use Rattle.texts.specs.Rows.{Gives, spaced}
use Rattle.compilers.specs.Programs.{program_at}
use Rattle.compilers.specs.declared.plans.plan.NvccGeneratedSubcommand.{NvccGeneratedSubcommand}
use Rattle.compilers.specs.declared.plans.program.Program.TheVariants as programs
use Rattle.command_files.specs.Files.{is_among}
use Rattle.rooted_commands.specs.Paths.{call_in, place_of, rooted_path}
use Rattle.rooted_commands.specs.Commands.{file_maps, rooted_command, writes_names}
use Rattle.rooted_commands.specs.declared.paths.Root.{Root}

-- what is before and behind the last `=` of a text, which is the byte 61: gcc cuts a map there, clang at the first
abbrev pub with_front : ℕ → List ℕ → Option (List ℕ × List ℕ) → Option (List ℕ × List ℕ)
with_front c cs None = if c == 61 then Some ([], cs) else None
with_front c cs (Some parts) = Some (c ∷ parts.0, parts.1)

abbrev pub cut_at_equals : List ℕ → Option (List ℕ × List ℕ)
cut_at_equals [] = None
cut_at_equals (c ∷ cs) = with_front c cs (cut_at_equals cs)

-- a name with a new beginning, if it has the old one. Bytes are compared, so a part of a folder's name is a beginning, too
abbrev pub with_beginning : List ℕ → List ℕ × List ℕ → Option (List ℕ)
with_beginning name change = option_map (λ rest. change.1 ++ rest) (rest_after change.0 name)

-- the new name by one word, if the word is a map that fits
abbrev pub new_name : List ℕ → List ℕ → Option (List ℕ)
new_name name word = option_and_then (with_beginning name) (option_and_then cut_at_equals (rest_after (codes "-ffile-prefix-map=") word))

abbrev pub last_new_name : List ℕ → List (List ℕ) → Option (List ℕ)
last_new_name name [] = None
last_new_name name (w ∷ ws) = latest (new_name name w) (last_new_name name ws)

abbrev pub name_or : List ℕ → Option (List ℕ) → List ℕ
name_or name None = name
name_or name (Some new) = new

-- what gcc writes for a name, by its words
abbrev pub written_name : List (List ℕ) → List ℕ → List ℕ
written_name words name = name_or name (last_new_name name words)

-- whether a word is a prefix map of any kind
abbrev pub is_map : List ℕ → Bool
is_map word =
    is_some (rest_after (codes "-ffile-prefix-map=") word)
    || (is_some (rest_after (codes "-fdebug-prefix-map=") word) || is_some (rest_after (codes "-fmacro-prefix-map=") word))

abbrev pub has_maps : List (List ℕ) → Bool
has_maps words = list_any is_map words

-- Which paths are clear to a command's maps.

-- what is behind a folder in a path, as far as the maps of a command in some directory tell it: they compare bytes, and those of a command
-- that doesn't run at the checkout's top have a `/` behind the folder
abbrev pub if_told : Bool → List ℕ → Option (List ℕ)
if_told at_top rest = if at_top || is_absolute_path rest then Some rest else None

abbrev pub told_by : Bool → List ℕ → List ℕ → Option (List ℕ)
told_by at_top path folder = option_and_then (if_told at_top) (rest_after folder path)

-- the same of the last folder that counts
abbrev pub last_told : Bool → List ℕ → List (List ℕ) → Option (List ℕ)
last_told at_top path [] = None
last_told at_top path (folder ∷ folders) = latest (told_by at_top path folder) (last_told at_top path folders)

-- Whether a path is clear to a command that runs in a directory: what is told of it is its place, and it doesn't begin like the folder of
-- generated files
abbrev pub is_clear : Root → List ℕ → List ℕ → Bool
is_clear r cwd path = not (is_some (rest_after r.tmp path)) && option_eq bytes_eq (last_told (is_among r.folders cwd) path r.folders) (place_of r path)

-- whether gcc can be told of the root
abbrev pub can_be_told : Root → Bool
can_be_told r = lacks 61 r.root

-- What a host compiler writes for a clear path is the rooted path, if its own words have no maps.
abbrev pub HostsWriteRootedPaths : Type 0
HostsWriteRootedPaths =
    (r : Root) (c : NvccGeneratedSubcommand) (path : List ℕ)
    → program_at c.exe ≡ programs.Other → writes_names c.args ≡ true → has_maps c.args ≡ false → can_be_told r ≡ true → is_clear r c.cwd path ≡ true
    → written_name (rooted_command r c).args path ≡ rooted_path r path

-- For a generated file it writes a path below `/tmp`, whatever the folder of these is called.
abbrev pub HostsWriteGeneratedPaths : Type 0
HostsWriteGeneratedPaths =
    (r : Root) (c : NvccGeneratedSubcommand) (rest : List ℕ)
    → program_at c.exe ≡ programs.Other → writes_names c.args ≡ true → has_maps c.args ≡ false
    → written_name (rooted_command r c).args (r.tmp ++ rest) ≡ codes "/tmp" ++ rest

-- examples: in a folder of the checkout, and at its top, where the path of a folder beside it that begins so isn't clear
abbrev below : Root
below = call_in (codes "/data/p/a") (codes "/t")

abbrev at_top : Root
at_top = call_in (codes "/data/p") (codes "/t")

pub names_below_a_checkout : Gives (written_name (file_maps below (codes "/data/p/a"))) (
    (codes "/data/p/a/k.cu", codes "/src/a/k.cu")
    ∷ (codes "/home/u/p/b.h", codes "/src/b.h")
    ∷ (codes "/data/p/a", codes "/src/a")
    ∷ (codes "/data/p", codes "/data/p")
    ∷ (codes "/data/pq/k.cu", codes "/data/pq/k.cu")
    ∷ (codes "/t/x_0.ii", codes "/tmp/x_0.ii")
    ∷ (codes "k.cu", codes "k.cu")
    ∷ [])
names_below_a_checkout = refl

pub names_at_its_top : Gives (written_name (file_maps at_top (codes "/data/p"))) (
    (codes "/data/p/k.cu", codes "/src/k.cu") ∷ (codes "/data/p", codes "/src") ∷ (codes "/data/pq/k.cu", codes "/srcq/k.cu") ∷ [])
names_at_its_top = refl

pub clear_below_a_checkout : Gives (is_clear below (codes "/data/p/a")) (
    (codes "/data/p/a/k.cu", true)
    ∷ (codes "/data/p/a", true)
    ∷ (codes "/data/p", false)
    ∷ (codes "/data/pq/k.cu", true)
    ∷ (codes "/usr/include/stdio.h", true)
    ∷ (codes "/tx/k.cu", false)
    ∷ (codes "k.cu", false)
    ∷ [])
clear_below_a_checkout = refl

pub clear_at_its_top : Gives (is_clear at_top (codes "/data/p")) ((codes "/data/p/k.cu", true) ∷ (codes "/data/p", true) ∷ (codes "/data/pq/k.cu", false) ∷ [])
clear_at_its_top = refl

-- a link's name that the folder's own begins is clear if it is last, too
abbrev linked : List (List ℕ) → Root
linked folders = record { folders = folders; root = codes "/src"; cwd = codes "/data/p"; tmp = codes "/t" }

pub clear_by_a_link : Gives (λ (folders : List (List ℕ)). is_clear (linked folders) (codes "/data/p") (codes "/data/p2/k.cu")) (
    (codes "/data/p2" ∷ codes "/data/p" ∷ [], false) ∷ (codes "/data/p2" ∷ codes "/data/p" ∷ codes "/data/p2" ∷ [], true) ∷ [])
clear_by_a_link = refl

-- the last map counts, and so a command's own
pub own_maps_count : written_name (spaced "-ffile-prefix-map=/w=a/=/src/ -ffile-prefix-map=/w=a/b/=/own/") (codes "/w=a/b/k.cu") ≡ codes "/own/k.cu"
own_maps_count = refl
