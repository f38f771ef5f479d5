-- One project in two checkouts: which commands of two calls are alike but for the checkouts' folders, and that alike ones run alike.
use Rattle.std.specs.Prelude.{◌≡◌, ◌⊎◌, ℕ, List, [], ◌∷◌, ◌++◌, Bool, true, false, not, ◌&&◌, ◌||◌, ◌==◌, if◌then◌else◌, Option, Some, None, map, codes, refl, bytes_eq}
use Rattle.std.specs.Bool.{beq}
use Rattle.std.specs.Cmp.Lexicographic.{pointwise}
use Rattle.std.specs.List.{AllZip, list_all}
use Rattle.std.specs.Option.{is_some}
use Rattle.texts.specs.Equality.{words_eq}
use Rattle.texts.specs.Lists.{rest_after}
use Rattle.texts.specs.Path.{joined}
use Rattle.texts.specs.Rows.{Gives, blank_separated, spaced}
use Rattle.compilers.specs.Programs.{program_at}
use Rattle.compilers.specs.declared.command.Cacheable.TheVariants.{Yes}
use Rattle.compilers.specs.declared.plans.plan.NvccGeneratedSubcommand.{NvccGeneratedSubcommand}
use Rattle.compilers.specs.declared.plans.plan.Plan.{Plan}
use Rattle.compilers.specs.declared.plans.program.Program.{Program}
use Rattle.compilers.specs.declared.plans.program.Program.TheVariants as programs
use Rattle.command_files.specs.declared.files.CommandFiles.{CommandFiles}
use Rattle.placed_commands.specs.PlacedCommands.{files_of, moved, placed_command}
use Rattle.placed_commands.specs.PlacedWords.{is_file}
use Rattle.rooted_commands.specs.Paths.{behind, call_in, place_of, rooted_path}
use Rattle.rooted_commands.specs.Commands.{keeps_record, names_source, rooted_command, tool_words, with_words, writes_names}
use Rattle.rooted_commands.specs.WrittenNames.{can_be_told, has_maps, is_clear, written_name}
use Rattle.rooted_commands.specs.declared.paths.Root.{Root}

-- whether two paths of two calls are one place of the project, or one path outside both checkouts, given their places
abbrev pub are_one : Option (List ℕ) → Option (List ℕ) → Bool → Bool
are_one None None same = same
are_one (Some rest) (Some other) same = bytes_eq rest other
are_one _ _ same = false

abbrev pub is_one_place : Root → Root → List ℕ → List ℕ → Bool
is_one_place r s path name = are_one (place_of r path) (place_of s name) (bytes_eq path name)

-- paths of two calls that have one rooted path, and aren't below the root themselves, are one place
abbrev pub EqualPathsAreOnePlace : Type 0
EqualPathsAreOnePlace =
    (r s : Root) (path name : List ℕ)
    → r.root ≡ s.root → behind r.root path ≡ None → behind s.root name ≡ None → rooted_path r path ≡ rooted_path s name → is_one_place r s path name ≡ true

-- Words are alike if they are equal, or name one place where the root is put in.

-- behind the options of cicc and cudafe++ for the source's name, which isn't called like one of these
abbrev pub are_names : Root → Root → List ℕ → List ℕ → Bool
are_names r s word other = (not (names_source word) && not (names_source other)) && is_one_place r s word other

abbrev pub source_words_alike : Root → Root → List ℕ → List (List ℕ) → List (List ℕ) → Bool
source_words_alike r s before [] [] = true
source_words_alike r s before (w ∷ ws) (v ∷ vs) = (if names_source before then are_names r s w v else bytes_eq w v) && source_words_alike r s w ws vs
source_words_alike r s before _ _ = false

-- what is behind `--ident=` in a word of fatbinary
abbrev pub ident_of : List ℕ → Option (List ℕ)
ident_of word = rest_after (codes "--ident=") word

-- two names behind a text, or else words without it
abbrev pub names_or_words : Root → Root → Option (List ℕ) → Option (List ℕ) → Bool → Bool
names_or_words r s None None same = same
names_or_words r s (Some name) (Some other) same = is_one_place r s name other
names_or_words r s _ _ same = false

abbrev pub ident_words_alike : Root → Root → List (List ℕ) → List (List ℕ) → Bool
ident_words_alike r s words others = pointwise (λ w v. names_or_words r s (ident_of w) (ident_of v) (bytes_eq w v)) words others

-- whether two paths are one generated file, as seen from each call's own folder of these
abbrev pub is_one_generated : Root → Root → List ℕ → List ℕ → Bool
is_one_generated r s path name = are_one (behind r.tmp path) (behind s.tmp name) false

-- of a host compiler, all of a word that is no option, or what is behind `-I`: gcc looks there, and its maps say what it writes
abbrev pub is_option : List ℕ → Bool
is_option word = is_some (rest_after (codes "-") word)

abbrev pub are_paths : Root → Root → List ℕ → List ℕ → Bool
are_paths r s word other = (not (is_option word) && not (is_option other)) && (is_one_place r s word other || is_one_generated r s word other)

abbrev pub host_word_alike : Root → Root → List ℕ → List ℕ → Bool
host_word_alike r s word other =
    bytes_eq word other || (are_paths r s word other || names_or_words r s (rest_after (codes "-I") word) (rest_after (codes "-I") other) false)

abbrev pub host_words_alike : Root → Root → List (List ℕ) → List (List ℕ) → Bool
host_words_alike r s words others = pointwise (host_word_alike r s) words others

-- the words of two commands of a program
abbrev pub words_alike : Root → Root → Program → List (List ℕ) → List (List ℕ) → Bool
words_alike r s programs.Cicc words others = source_words_alike r s [] words others
words_alike r s programs.Cudafe words others = source_words_alike r s [] words others
words_alike r s programs.Fatbinary words others = ident_words_alike r s words others
words_alike r s programs.Ptxas words others = words_eq words others
words_alike r s programs.Nvlink words others = words_eq words others
words_alike r s programs.Other words others = host_words_alike r s words others

abbrev pub is_tool : Program → Bool
is_tool programs.Cicc = true
is_tool programs.Cudafe = true
is_tool programs.Fatbinary = true
is_tool programs.Ptxas = true
is_tool programs.Nvlink = true
is_tool programs.Other = false

-- With rooted names, alike words of a tool of nvcc are equal, whatever the calls' folders of generated files are called.
abbrev pub RootedWordsAgree : Type 0
RootedWordsAgree =
    (r s : Root) (tool : Program) (words others : List (List ℕ))
    → is_tool tool ≡ true → r.root ≡ s.root → words_alike r s tool words others ≡ true → tool_words r tool words ≡ tool_words s tool others

-- What is asked of a tool's command, so that it runs in `/` and the root is put in: it ran in the folder of generated files, its record stays
-- once these have whole paths, its source's names stay then, and its record stays when names are rooted, too.

-- the words, behind another, that name the source
abbrev pub names_among : List ℕ → List (List ℕ) → List (Option (List ℕ))
names_among before [] = []
names_among before (w ∷ ws) = (if names_source before then Some w else None) ∷ names_among w ws

abbrev pub names_of : Program → List (List ℕ) → List (Option (List ℕ))
names_of programs.Cicc words = names_among [] words
names_of programs.Cudafe words = names_among [] words
names_of programs.Fatbinary words = map ident_of words
names_of programs.Ptxas words = []
names_of programs.Nvlink words = []
names_of programs.Other words = []

-- a command with rooted names, and one in `/`, its files with whole paths
abbrev pub with_root : Root → Program → NvccGeneratedSubcommand → NvccGeneratedSubcommand
with_root r tool c = with_words c (tool_words r tool c.args)

abbrev pub in_top : NvccGeneratedSubcommand → NvccGeneratedSubcommand
in_top c = moved (files_of c) (codes "/") c

pub record TakesRoot (r : Root) (tool : Program) (c : NvccGeneratedSubcommand) : Type 0 where
  pub cwd : c.cwd ≡ r.tmp
  pub is_placed : placed_command r.tmp (codes "/") c ≡ in_top c
  pub keeps_names : names_of tool (in_top c).args ≡ names_of tool c.args
  pub keeps_rooted : keeps_record (with_root r tool (in_top c)) (in_top c) ≡ true

-- whether the ends of a word at which a file's name may begin name files of both records, each seen from its own folder, or of neither
abbrev pub same_ends : CommandFiles → CommandFiles → List ℕ → List ℕ → Bool → List ℕ → Bool
same_ends files others folder other begins [] = not begins || beq (is_file files folder []) (is_file others other [])
same_ends files others folder other begins (c ∷ cs) =
    (not begins || beq (is_file files folder (c ∷ cs)) (is_file others other (c ∷ cs))) && same_ends files others folder other (c == 61) cs

abbrev pub ends_alike : NvccGeneratedSubcommand → NvccGeneratedSubcommand → Bool
ends_alike c d = list_all (same_ends (files_of c) (files_of d) c.cwd d.cwd true) c.args

-- Commands are alike: of a tool, which runs in each call's own folder of generated files.
pub record AlikeTools (r s : Root) (tool : Program) (c d : NvccGeneratedSubcommand) : Type 0 where
  pub exe : c.exe ≡ d.exe
  pub env_vars : c.env_vars ≡ d.env_vars
  pub cacheable : c.cacheable ≡ d.cacheable
  pub words : words_alike r s tool c.args d.args ≡ true
  pub ends : ends_alike c d ≡ true
  pub first : TakesRoot r tool c
  pub second : TakesRoot s tool d

-- of a host compiler, which may run in another folder
pub record AlikeHosts (r s : Root) (c d : NvccGeneratedSubcommand) : Type 0 where
  pub exe : c.exe ≡ d.exe
  pub env_vars : c.env_vars ≡ d.env_vars
  pub words : words_alike r s programs.Other c.args d.args ≡ true
  pub own_maps : has_maps c.args ≡ false

abbrev pub AlikeBy : Program → Root → Root → NvccGeneratedSubcommand → NvccGeneratedSubcommand → Type 0
AlikeBy programs.Cicc r s c d = AlikeTools r s programs.Cicc c d
AlikeBy programs.Cudafe r s c d = AlikeTools r s programs.Cudafe c d
AlikeBy programs.Fatbinary r s c d = AlikeTools r s programs.Fatbinary c d
AlikeBy programs.Ptxas r s c d = AlikeTools r s programs.Ptxas c d
AlikeBy programs.Nvlink r s c d = AlikeTools r s programs.Nvlink c d
AlikeBy programs.Other r s c d = AlikeHosts r s c d

abbrev pub Alike : Root → Root → NvccGeneratedSubcommand → NvccGeneratedSubcommand → Type 0
Alike r s c d = AlikeBy (program_at c.exe) r s c d

-- What runs in their place: of a tool, commands that differ only in where words name generated files. A word in both is one text, or one but
-- for an end that is one name in each call's folder of these.
abbrev pub AreMoved : List ℕ → List ℕ → List ℕ → List ℕ → Type 0
AreMoved folder other word moved =
    (word ≡ moved) ⊎ ((head : List ℕ) × (name : List ℕ) × (word ≡ head ++ joined folder name) × (moved ≡ head ++ joined other name))

pub record RunAsOne (r s : Root) (c d : NvccGeneratedSubcommand) : Type 0 where
  pub exe : c.exe ≡ d.exe
  pub args : AllZip (AreMoved r.tmp s.tmp) c.args d.args
  pub cwd : c.cwd ≡ d.cwd
  pub env_vars : c.env_vars ≡ d.env_vars
  pub cacheable : c.cacheable ≡ d.cacheable

-- Host compilers are one program with the same variables; both write names or neither, and what they write for two clear paths of one place is
-- one text, and so for two generated files of one name.
pub record WriteAlike (r s : Root) (c d : NvccGeneratedSubcommand) : Type 0 where
  pub exe : (rooted_command r c).exe ≡ (rooted_command s d).exe
  pub env_vars : (rooted_command r c).env_vars ≡ (rooted_command s d).env_vars
  pub both : writes_names c.args ≡ writes_names d.args
  pub names :
      (path name : List ℕ) → writes_names c.args ≡ true → is_clear r c.cwd path ≡ true → is_clear s d.cwd name ≡ true → is_one_place r s path name ≡ true
      → written_name (rooted_command r c).args path ≡ written_name (rooted_command s d).args name
  pub generated :
      (rest : List ℕ) → writes_names c.args ≡ true
      → written_name (rooted_command r c).args (r.tmp ++ rest) ≡ written_name (rooted_command s d).args (s.tmp ++ rest)

abbrev pub RunAlikeBy : Program → Root → Root → NvccGeneratedSubcommand → NvccGeneratedSubcommand → Type 0
RunAlikeBy programs.Cicc r s c d = RunAsOne r s (rooted_command r c) (rooted_command s d)
RunAlikeBy programs.Cudafe r s c d = RunAsOne r s (rooted_command r c) (rooted_command s d)
RunAlikeBy programs.Fatbinary r s c d = RunAsOne r s (rooted_command r c) (rooted_command s d)
RunAlikeBy programs.Ptxas r s c d = RunAsOne r s (rooted_command r c) (rooted_command s d)
RunAlikeBy programs.Nvlink r s c d = RunAsOne r s (rooted_command r c) (rooted_command s d)
RunAlikeBy programs.Other r s c d = WriteAlike r s c d

abbrev pub RunAlike : Root → Root → NvccGeneratedSubcommand → NvccGeneratedSubcommand → Type 0
RunAlike r s c d = RunAlikeBy (program_at c.exe) r s c d

-- Two calls in two checkouts, each with its own folder of generated files, and with one root that gcc can be told of: if their plans' commands
-- are alike, place by place, so is what runs.
abbrev pub AlikePlansRunAlike : Type 0
AlikePlansRunAlike =
    (r s : Root) (plan other : Plan) → r.root ≡ s.root → can_be_told r ≡ true
    → AllZip (AllZip (Alike r s)) plan.groups other.groups → AllZip (AllZip (RunAlike r s)) plan.groups other.groups

-- Examples, of calls in two checkouts: one that a link names too, and one with a longer name, also of the folder of generated files.
abbrev one : Root
one = call_in (codes "/data/p/a") (codes "/t")

abbrev another : Root
another = record { folders = codes "/build/x/p" ∷ []; root = codes "/src"; cwd = codes "/build/x/p/a"; tmp = codes "/u/z" }

abbrev line : List ℕ → List (List ℕ) → List ℕ → NvccGeneratedSubcommand
line program words cwd = record { exe = program; args = words; cwd = cwd; env_vars = []; cacheable = Yes }

pub places_in_two_checkouts : Gives (λ (paths : List ℕ × List ℕ). is_one_place one another paths.0 paths.1) (
    ((codes "k.cu", codes "k.cu"), true)
    ∷ ((codes "/home/u/p/a/k.cu", codes "k.cu"), true)
    ∷ ((codes "/data/p/a/k.cu", codes "/build/x/p/a/k.cu"), true)
    ∷ ((codes "/data/p/a/k.cu", codes "/build/x/p/k.cu"), false)
    ∷ ((codes "/usr/include/stdio.h", codes "/usr/include/stdio.h"), true)
    ∷ ((codes "/data/p/a/k.cu", codes "/data/p/a/k.cu"), false)
    ∷ [])
places_in_two_checkouts = refl

pub words_of_host_compilers : Gives (λ (words : List ℕ × List ℕ). host_word_alike one another words.0 words.1) (
    ((codes "-I/data/p/inc", codes "-I/build/x/p/inc"), true)
    ∷ ((codes "/home/u/p/sys", codes "/build/x/p/sys"), true)
    ∷ ((codes "-I/data/p/inc", codes "-I/build/x/p/lib"), false)
    ∷ ((codes "-DTOP=/data/p", codes "-DTOP=/build/x/p"), false)
    ∷ ((codes "/t/x_0.cpp4.ii", codes "/u/z/x_0.cpp4.ii"), true)
    ∷ ((codes "/t/x_0.cpp4.ii", codes "/u/z/x_0.cpp1.ii"), false)
    ∷ ((codes "/t/x_0.cpp4.ii", codes "/u/x_0.cpp4.ii"), false)
    ∷ [])
words_of_host_compilers = refl

-- What nvcc plans for a source with `-G`, in a folder, with fewer words for host compilers.
abbrev cicc_line : List ℕ → List (List ℕ) → NvccGeneratedSubcommand
cicc_line tmp words = line (codes "/c/nvvm/bin/cicc") words tmp

abbrev names_of_source : List ℕ → List ℕ
names_of_source folder = codes "--orig_src_file_name " ++ (folder ++ (codes "/k.cu --orig_src_path_name " ++ (folder ++ codes "/k.cu ")))

abbrev commands_in : List ℕ → List ℕ → List NvccGeneratedSubcommand
commands_in folder tmp =
    line (codes "gcc")
    (blank_separated (codes "-E -x c++ -I" ++ (folder ++ (codes "/inc -isystem " ++ (folder ++ (codes "/sys -m64 " ++ (folder ++ (codes "/k.cu -o " ++ (tmp ++ codes "/x_0.cpp4.ii")))))))))
    folder
    ∷ line (codes "/c/bin/cudafe++")
    (blank_separated (codes "--c++17 --static-host-stub --device-hidden-visibility --gnu_version=120200 --display_error_number " ++ (names_of_source folder
    ++ codes "--allow_managed --debug_mode --m64 --parse_templates --gen_c_file_name x_0.cudafe1.cpp --stub_file_name x_0.cudafe1.stub.c --gen_module_id_file --module_id_file_name k.module_id x_0.cpp4.ii")))
    tmp
    ∷ cicc_line tmp
    (blank_separated (codes "--c++17 --static-host-stub --device-hidden-visibility --gnu_version=120200 --display_error_number " ++ (names_of_source folder
    ++ codes "--allow_managed --debug_mode -arch compute_75 -m64 --no-version-ident -ftz=0 -prec_div=1 -prec_sqrt=1 -fmad=1 --include_file_name k.fatbin.c -g -O0 -tused --module_id_file_name k.module_id --gen_c_file_name x_0.cudafe1.c --stub_file_name x_0.cudafe1.stub.c --gen_device_file_name k.cudafe1.gpu x_0.cpp1.ii -o k.ptx")))
    ∷ line (codes "/c/bin/ptxas") (spaced "-arch=sm_75 -m64 -g --dont-merge-basicblocks --return-at-end k.ptx -o k.sm_75.cubin") tmp
    ∷ line (codes "/c/bin/fatbinary")
    (blank_separated (codes "--create=k.fatbin -64 --ident=" ++ (folder ++ codes "/k.cu --image3=kind=elf,sm=75,file=k.sm_75.cubin --image3=kind=ptx,sm=75,file=k.ptx --embedded-fatbin=k.fatbin.c")))
    tmp
    ∷ line (codes "gcc") (blank_separated (codes "-c -x c++ -Wno-psabi -I" ++ (folder ++ (codes "/inc -m64 " ++ (tmp ++ codes "/x_0.cudafe1.cpp -o k.o"))))) folder
    ∷ []

pub alike_commands : AllZip (Alike one another) (commands_in (codes "/data/p/a") (codes "/t")) (commands_in (codes "/build/x/p/a") (codes "/u/z"))
alike_commands = (
  record { exe = refl; env_vars = refl; words = refl; own_maps = refl },
  (
    record { exe = refl; env_vars = refl; cacheable = refl; words = refl; ends = refl; first = record { cwd = refl; is_placed = refl; keeps_names = refl; keeps_rooted = refl }; second = record { cwd = refl; is_placed = refl; keeps_names = refl; keeps_rooted = refl } },
    (record { exe = refl; env_vars = refl; cacheable = refl; words = refl; ends = refl; first = record { cwd = refl; is_placed = refl; keeps_names = refl; keeps_rooted = refl }; second = record { cwd = refl; is_placed = refl; keeps_names = refl; keeps_rooted = refl } }, (record { exe = refl; env_vars = refl; cacheable = refl; words = refl; ends = refl; first = record { cwd = refl; is_placed = refl; keeps_names = refl; keeps_rooted = refl }; second = record { cwd = refl; is_placed = refl; keeps_names = refl; keeps_rooted = refl } }, (record { exe = refl; env_vars = refl; cacheable = refl; words = refl; ends = refl; first = record { cwd = refl; is_placed = refl; keeps_names = refl; keeps_rooted = refl }; second = record { cwd = refl; is_placed = refl; keeps_names = refl; keeps_rooted = refl } }, (record { exe = refl; env_vars = refl; words = refl; own_maps = refl }, tt)))),
  ),
)

-- Without a premise what runs differs. A name that is also cicc's input stays: the record would be another
abbrev run_by : Root → List (List ℕ) → List (List ℕ)
run_by r words = (rooted_command r (cicc_line r.tmp words)).args

pub names_that_are_read :
    let here = spaced "--orig_src_file_name /data/p/l.cpp1.ii -o k.ptx" in
    let there = spaced "--orig_src_file_name /build/x/p/l.cpp1.ii -o k.ptx" in
    (source_words_alike one another [] here there ≡ true)
    × (run_by one here ≡ spaced "--orig_src_file_name /data/p/l.cpp1.ii -o /t/k.ptx")
    × (run_by another there ≡ spaced "--orig_src_file_name /build/x/p/l.cpp1.ii -o /u/z/k.ptx")
names_that_are_read = (refl, refl, refl)

-- a name that is called like an option would have the next word rooted in one checkout alone
pub name_like_an_option :
    let here = spaced "--orig_src_file_name --orig_src_file_name k.cu" in
    let there = spaced "--orig_src_file_name /build/x/p/a/--orig_src_file_name k.cu" in
    (source_words_alike one another [] here there ≡ false)
    × (tool_words one programs.Cicc here ≡ spaced "--orig_src_file_name /src/a/--orig_src_file_name /src/a/k.cu")
    × (tool_words another programs.Cicc there ≡ spaced "--orig_src_file_name /src/a/--orig_src_file_name k.cu")
name_like_an_option = (refl, refl, refl)

-- a name whose end is a generated file's gets that file's whole path, and then it may be below the checkout no more
abbrev pub with_equals : Root
with_equals = record { folders = codes "/w=b" ∷ []; root = codes "/src"; cwd = codes "/w=b"; tmp = codes "/t" }

pub names_that_end_in_a_file :
    let here = spaced "--orig_src_path_name /w=b/k.cu x_0.cpp1.ii -o b/k.cu" in
    let there = spaced "--orig_src_path_name /build/x/p/k.cu x_0.cpp1.ii -o b/k.cu" in
    (source_words_alike with_equals another [] here there ≡ true)
    × (run_by with_equals here ≡ spaced "--orig_src_path_name /w=/t/b/k.cu /t/x_0.cpp1.ii -o /t/b/k.cu")
    × (run_by another there ≡ spaced "--orig_src_path_name /src/k.cu /u/z/x_0.cpp1.ii -o /u/z/b/k.cu")
names_that_end_in_a_file = (refl, refl, refl)

-- a name of a generated file counts only in the call whose own folder another word names
pub files_of_one_call :
    let words = spaced "-DX=k.ptx x_0.cpp1.ii -o /t/k.ptx" in
    (ends_alike (cicc_line (codes "/t") words) (cicc_line (codes "/u/z") words) ≡ false)
    × (run_by one words ≡ spaced "-DX=/t/k.ptx /t/x_0.cpp1.ii -o /t/k.ptx")
    × (run_by another words ≡ spaced "-DX=k.ptx /u/z/x_0.cpp1.ii -o /t/k.ptx")
files_of_one_call = (refl, refl, refl)

-- gcc can't be told of a root with a `=`, nor of a name that a command's own map names
abbrev pub root_with_equals : Root
root_with_equals = record { folders = codes "/w" ∷ []; root = codes "/s=rc"; cwd = codes "/w"; tmp = codes "/t" }

abbrev written_by : Root → List (List ℕ) → List ℕ → List ℕ
written_by r words name = written_name (rooted_command r (line (codes "gcc") words (codes "/w/a"))).args name

pub names_that_gcc_writes :
    (written_by root_with_equals (spaced "-E k.cu") (codes "/w/a/k.cu") ≡ codes "/w/a/k.cu")
    × (written_by another (spaced "-E -ffile-prefix-map=/build/=/own/ k.cu") (codes "/build/x/p/k.cu") ≡ codes "/own/x/p/k.cu")
names_that_gcc_writes = (refl, refl)
