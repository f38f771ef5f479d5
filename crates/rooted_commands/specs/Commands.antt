-- The commands of a plan with the root in place of the checkout's folder.
use Rattle.std.specs.Prelude.{◌≡◌, ℕ, nat_eq, List, [], ◌∷◌, ◌++◌, Bool, ◌&&◌, ◌||◌, if◌then◌else◌, Option, Some, None, map, codes, refl, bytes_eq}
use Rattle.std.specs.Bool.{beq}
use Rattle.std.specs.List.{flat_map, list_any, starts_with}
use Rattle.texts.specs.Lists.{rest_after}
use Rattle.texts.specs.Rows.{spaced}
use Rattle.compilers.specs.Programs.{program_at}
use Rattle.compilers.specs.declared.command.Cacheable.TheVariants.{Yes}
use Rattle.compilers.specs.declared.plans.plan.NvccGeneratedSubcommand.{NvccGeneratedSubcommand}
use Rattle.compilers.specs.declared.plans.program.Program.{Program}
use Rattle.compilers.specs.declared.plans.program.Program.TheVariants as programs
use Rattle.command_files.specs.Files.{is_among}
use Rattle.command_files.specs.PlanNeeds.{preprocesses}
use Rattle.placed_commands.specs.PlacedCommands.{files_of, are_same, placed_command}
use Rattle.rooted_commands.specs.Paths.{call_in, rooted_path}
use Rattle.rooted_commands.specs.declared.paths.Root.{Root}

-- whether the word behind an option of cicc and cudafe++ is the source's name, which they write into what they make
abbrev pub names_source : List ℕ → Bool
names_source option = bytes_eq option (codes "--orig_src_file_name") || bytes_eq option (codes "--orig_src_path_name")

-- words behind another
abbrev pub source_words : Root → List ℕ → List (List ℕ) → List (List ℕ)
source_words r before [] = []
source_words r before (w ∷ ws) = (if names_source before then rooted_path r w else w) ∷ source_words r w ws

-- a word of fatbinary, by what is behind `--ident=` in it
abbrev pub with_ident : Root → List ℕ → Option (List ℕ) → List ℕ
with_ident r word None = word
with_ident r word (Some name) = codes "--ident=" ++ rooted_path r name

abbrev pub ident_word : Root → List ℕ → List ℕ
ident_word r word = with_ident r word (rest_after (codes "--ident=") word)

-- the words of a tool of nvcc
abbrev pub tool_words : Root → Program → List (List ℕ) → List (List ℕ)
tool_words r programs.Cicc words = source_words r [] words
tool_words r programs.Cudafe words = source_words r [] words
tool_words r programs.Fatbinary words = map (ident_word r) words
tool_words r programs.Ptxas words = words
tool_words r programs.Nvlink words = words
tool_words r programs.Other words = words

-- whether a command has the record of another, and preprocesses if that does
abbrev pub keeps_record : NvccGeneratedSubcommand → NvccGeneratedSubcommand → Bool
keeps_record c d = are_same (files_of c) (files_of d) && beq (preprocesses c.args) (preprocesses d.args)

abbrev pub with_words : NvccGeneratedSubcommand → List (List ℕ) → NvccGeneratedSubcommand
with_words c words = record c { args = words }

-- a tool's command with other words, if its record stays
abbrev pub if_kept : NvccGeneratedSubcommand → NvccGeneratedSubcommand → NvccGeneratedSubcommand
if_kept c d = if keeps_record d c then d else c

abbrev pub rooted_tool : Root → Program → NvccGeneratedSubcommand → NvccGeneratedSubcommand
rooted_tool r tool c = if_kept c (with_words c (tool_words r tool c.args))

-- a word that has gcc write names that begin with a text and an end with another text and that end in their place. The last word that fits
-- a name counts
abbrev pub file_map : List ℕ → List ℕ → List ℕ → List ℕ
file_map old new end = codes "-ffile-prefix-map=" ++ (old ++ (end ++ (codes "=" ++ (new ++ end))))

-- those for one of the checkout's folders: for what is below it, and for itself if the command runs at the checkout's top. gcc compares bytes,
-- so the second one also fits folders beside it whose names begin so
abbrev pub folder_maps : Root → Bool → List ℕ → List (List ℕ)
folder_maps r at_top folder = file_map folder r.root (codes "/") ∷ (if at_top then file_map folder r.root [] ∷ [] else [])

abbrev pub file_maps : Root → List ℕ → List (List ℕ)
file_maps r cwd = flat_map (folder_maps r (is_among r.folders cwd)) r.folders ++ file_map r.tmp (codes "/tmp") [] ∷ []

-- whether a word asks for what debuggers need, as `-g` and `-ggdb` do
abbrev pub is_for_debuggers : List ℕ → Bool
is_for_debuggers word = starts_with nat_eq word (codes "-g")

-- whether a word is nvcc's for a command that reads a source, which a compile of what cudafe++ has written lacks
abbrev pub is_for_sources : List ℕ → Bool
is_for_sources word = bytes_eq (codes "-D__NVCC__") word

-- whether it says that a host compiler writes names
abbrev pub tells_of_names : List ℕ → Bool
tells_of_names word = is_for_debuggers word || is_for_sources word

-- whether a host compiler writes names that its text lacks: it reads sources, or notes where it runs
abbrev pub writes_names : List (List ℕ) → Bool
writes_names words = preprocesses words || list_any tells_of_names words

-- a host compiler's command, which may write rooted names
abbrev pub mapped_host : Root → NvccGeneratedSubcommand → NvccGeneratedSubcommand
mapped_host r c = with_words c (file_maps r c.cwd ++ c.args)

abbrev pub rooted_host : Root → NvccGeneratedSubcommand → NvccGeneratedSubcommand
rooted_host r c = if writes_names c.args then mapped_host r c else c

-- the command that runs in place of one of a plan, by its program: tools run in `/`
abbrev pub placed_tool : Root → Program → NvccGeneratedSubcommand → NvccGeneratedSubcommand
placed_tool r tool c = rooted_tool r tool (placed_command r.tmp (codes "/") c)

abbrev pub rooted_by : Root → Program → NvccGeneratedSubcommand → NvccGeneratedSubcommand
rooted_by r programs.Cicc c = placed_tool r programs.Cicc c
rooted_by r programs.Cudafe c = placed_tool r programs.Cudafe c
rooted_by r programs.Ptxas c = placed_tool r programs.Ptxas c
rooted_by r programs.Fatbinary c = placed_tool r programs.Fatbinary c
rooted_by r programs.Nvlink c = placed_tool r programs.Nvlink c
rooted_by r programs.Other c = rooted_host r c

abbrev pub rooted_command : Root → NvccGeneratedSubcommand → NvccGeneratedSubcommand
rooted_command r c = rooted_by r (program_at c.exe) c

-- examples, of a call in a checkout
abbrev line : List ℕ → List (List ℕ) → List ℕ → NvccGeneratedSubcommand
line program words cwd = record { exe = program; args = words; cwd = cwd; env_vars = []; cacheable = Yes }

abbrev pub example_call : Root
example_call = call_in (codes "/data/p/a") (codes "/t")

pub cicc_below_the_root :
    rooted_command example_call
    (line (codes "/c/cicc") (spaced "--orig_src_file_name k.cu --orig_src_path_name /home/u/p/a/k.cu -m64 x_0.cpp1.ii -o k.ptx") (codes "/t"))
    ≡ line (codes "/c/cicc") (spaced "--orig_src_file_name /src/a/k.cu --orig_src_path_name /src/a/k.cu -m64 /t/x_0.cpp1.ii -o /t/k.ptx") (codes "/")
cicc_below_the_root = refl

pub fatbinary_below_the_root :
    rooted_command example_call
    (line (codes "/c/fatbinary") (spaced "--create=k.fatbin --ident=k.cu --image3=kind=elf,sm=80,file=k.cubin") (codes "/t"))
    ≡ line (codes "/c/fatbinary") (spaced "--create=/t/k.fatbin --ident=/src/a/k.cu --image3=kind=elf,sm=80,file=/t/k.cubin") (codes "/")
fatbinary_below_the_root = refl

-- a name that is also cicc's input stays: the record would be another
pub another_record_below_the_root :
    rooted_command example_call (line (codes "/c/cicc") (spaced "--orig_src_file_name /data/p/l.cpp1.ii -o k.ptx") (codes "/t"))
    ≡ line (codes "/c/cicc") (spaced "--orig_src_file_name /data/p/l.cpp1.ii -o /t/k.ptx") (codes "/")
another_record_below_the_root = refl

pub host_compiler_in_the_checkout :
    rooted_command example_call (line (codes "/usr/bin/g++") (spaced "-c -x c++ -g /t/k.cpp -o k.o") (codes "/data/p/a"))
    ≡ line (codes "/usr/bin/g++")
    (spaced "-ffile-prefix-map=/home/u/p/=/src/ -ffile-prefix-map=/data/p/=/src/ -ffile-prefix-map=/t=/tmp -c -x c++ -g /t/k.cpp -o k.o")
    (codes "/data/p/a")
host_compiler_in_the_checkout = refl

pub host_compiler_without_names :
    rooted_command example_call (line (codes "/usr/bin/g++") (spaced "-c -x c++ /t/k.cpp -o k.o") (codes "/data/p/a"))
    ≡ line (codes "/usr/bin/g++") (spaced "-c -x c++ /t/k.cpp -o k.o") (codes "/data/p/a")
host_compiler_without_names = refl

pub host_compiler_at_its_top :
    rooted_command (call_in (codes "/data/p") (codes "/t")) (line (codes "gcc") (spaced "-E k.cu") (codes "/data/p"))
    ≡ line (codes "gcc")
    (spaced "-ffile-prefix-map=/home/u/p/=/src/ -ffile-prefix-map=/home/u/p=/src -ffile-prefix-map=/data/p/=/src/ -ffile-prefix-map=/data/p=/src -ffile-prefix-map=/t=/tmp -E k.cu")
    (codes "/data/p")
host_compiler_at_its_top = refl
