-- A host compile in two halves, and fatbinary beside the first of them.
use Rattle.std.specs.Prelude.{◌≡◌, ℕ, List, [], ◌∷◌, ◌++◌, Bool, false, ◌&&◌, nat_eq, if◌then◌else◌, Option, Some, None, map, codes, refl, bytes_eq, option_and_then, option_map}
use Rattle.std.specs.List.{starts_with}
use Rattle.texts.specs.Equality.{words_eq}
use Rattle.texts.specs.Extension.{with_extension}
use Rattle.texts.specs.Lists.{rest_after}
use Rattle.texts.specs.Path.{joined}
use Rattle.texts.specs.Rows.{spaced}
use Rattle.compilers.specs.declared.command.Cacheable.TheVariants.{Yes, No}
use Rattle.compilers.specs.declared.plans.plan.NvccGeneratedSubcommand.{NvccGeneratedSubcommand}
use Rattle.command_files.specs.declared.files.CommandFiles.{CommandFiles}
use Rattle.command_files.specs.CommandFiles.{first_path}
use Rattle.command_files.specs.Files.{is_among}
use Rattle.early_starts.specs.Overlaps.{files_of}
use Rattle.early_starts.specs.declared.split.Places.{Places}
use Rattle.early_starts.specs.declared.split.Split.{Split}
use Rattle.early_starts.specs.declared.split.SplitWords.{SplitWords}
use Rattle.early_starts.specs.declared.words.Half.TheVariants.{Compiler, Assembler}
use Rattle.early_starts.specs.LateWords.{late_words}

-- what begins the word that names fatbinary's file for a host compiler, and the first such file that words name
abbrev pub embedded_option : List ℕ
embedded_option = codes "--embedded-fatbin="

abbrev pub embedded : List (List ℕ) → Option (List ℕ)
embedded [] = None
embedded (w ∷ ws) = first_path (rest_after embedded_option w) (embedded ws)

-- a word that names another file there
abbrev pub moved_word : List ℕ → List ℕ → List ℕ
moved_word to word = if starts_with nat_eq word embedded_option then embedded_option ++ to else word

-- the words of a split, given those of fatbinary and of a host compile
abbrev pub words_of : Places → List (List ℕ) → List (List ℕ) → Option SplitWords
words_of places fatbinary compile =
    option_and_then
    (λ compiler. option_map
    (λ assembler. record { fatbinary = map (moved_word places.fatbin_file) fatbinary; compiler = compiler; assembler = assembler })
    (late_words Assembler places.text_file compile))
    (late_words Compiler places.text_file compile)

-- a command with other words, for which no cache answers
abbrev pub with_words : NvccGeneratedSubcommand → List (List ℕ) → NvccGeneratedSubcommand
with_words c words = record c { args = words; cacheable = No }

-- a split, given its words, and the files that the compiler reads beside its own
abbrev pub cut : NvccGeneratedSubcommand → NvccGeneratedSubcommand → SplitWords → List ℕ → List ℕ → Split
cut fatbinary compile words read stub = record {
  fatbinary = with_words fatbinary words.fatbinary;
  compiler = with_words compile words.compiler;
  assembler = with_words compile words.assembler;
  read = read;
  stub = stub;
  is_linked = is_among fatbinary.args (codes "--device-c");
}

-- the stub file that cudafe++'s file includes, if a compile reads that one alone by its words
abbrev pub stub_of : List (List ℕ) → Option (List ℕ)
stub_of [] = None
stub_of (source ∷ []) = Some (with_extension source (codes "stub.c"))
stub_of (source ∷ other ∷ paths) = None

-- whether paths are this one alone
abbrev pub is_only : List ℕ → List (List ℕ) → Bool
is_only path [] = false
is_only path (only ∷ []) = bytes_eq path only
is_only path (only ∷ other ∷ paths) = false

-- whether the words of both halves of a compile name its files and the assembler text, and no others
abbrev pub has_records : List ℕ → CommandFiles → Split → Bool
has_records text_file files s =
    ((words_eq (files_of s.compiler).reads files.reads && is_only text_file (files_of s.compiler).writes)
    && is_only text_file (files_of s.assembler).reads)
    && words_eq (files_of s.assembler).writes files.writes

abbrev pub checked : List ℕ → CommandFiles → Split → Option Split
checked text_file files s = if has_records text_file files s then Some s else None

-- the split of fatbinary and a compile, given its words, and fatbinary's word for the file that the compiler reads
abbrev pub split_with : List ℕ → NvccGeneratedSubcommand → NvccGeneratedSubcommand → SplitWords → List ℕ → Option Split
split_with text_file fatbinary compile words file =
    option_and_then (λ stub. checked text_file (files_of compile) (cut fatbinary compile words (joined fatbinary.cwd file) stub)) (stub_of (files_of compile).reads)

abbrev pub split_of : Places → NvccGeneratedSubcommand → NvccGeneratedSubcommand → Option Split
split_of places fatbinary compile =
    option_and_then
    (λ file. option_and_then (λ words. split_with places.text_file fatbinary compile words file) (words_of places fatbinary.args compile.args))
    (embedded fatbinary.args)

-- the record of the compiler's half: cudafe++'s file includes the stub file, and that one fatbinary's
abbrev pub compiler_files : Split → CommandFiles
compiler_files s = record (files_of s.compiler) { reads = (files_of s.compiler).reads ++ s.stub ∷ s.read ∷ [] }

-- the record of the assembler's half: what it includes is made for it of fatbinary's file
abbrev pub assembler_files : Places → Split → CommandFiles
assembler_files places s = record (files_of s.assembler) {
  reads = (files_of s.assembler).reads ++ places.fatbin_file ∷ [];
  writes = (files_of s.assembler).writes ++ places.included ∷ [];
}

-- a call for one target
abbrev line : List ℕ → List (List ℕ) → List ℕ → NvccGeneratedSubcommand
line program words cwd = record { exe = program; args = words; cwd = cwd; env_vars = []; cacheable = Yes }

abbrev ran : List ℕ → List (List ℕ) → List ℕ → NvccGeneratedSubcommand
ran program words cwd = record (line program words cwd) { cacheable = No }

abbrev own_places : Places
own_places = record { text_file = codes "/t/own/late.s"; fatbin_file = codes "/t/own/fatbin.c"; included = codes "/t/own/fatbin.s" }

abbrev one_fatbinary : NvccGeneratedSubcommand
one_fatbinary = line (codes "/c/fatbinary") (spaced "--create=k.fatbin -64 --image3=kind=elf,sm=80,file=k.cubin --embedded-fatbin=k.fatbin.c") (codes "/t")

abbrev one_compile : NvccGeneratedSubcommand
one_compile = line (codes "gcc") (spaced "-c -x c++ -m64 /t/x_0.cudafe1.cpp -o k.o") (codes "/w")

abbrev one_split : Split
one_split = record {
  fatbinary = ran (codes "/c/fatbinary") (spaced "--create=k.fatbin -64 --image3=kind=elf,sm=80,file=k.cubin --embedded-fatbin=/t/own/fatbin.c") (codes "/t");
  compiler = ran (codes "gcc") (spaced "-S -x c++ -m64 /t/x_0.cudafe1.cpp -o /t/own/late.s") (codes "/w");
  assembler = ran (codes "gcc") (spaced "-c -x assembler -m64 /t/own/late.s -o k.o") (codes "/w");
  read = codes "/t/k.fatbin.c";
  stub = codes "/t/x_0.cudafe1.stub.c";
  is_linked = false;
}

pub split_of_a_call : split_of own_places one_fatbinary one_compile ≡ Some one_split
split_of_a_call = refl

pub files_of_the_compiler :
    compiler_files one_split
    ≡ record {
      reads = codes "/t/x_0.cudafe1.cpp" ∷ codes "/t/x_0.cudafe1.stub.c" ∷ codes "/t/k.fatbin.c" ∷ [];
      writes = codes "/t/own/late.s" ∷ [];
      may_write = [];
      complete = false;
    }
files_of_the_compiler = refl

pub files_of_the_assembler :
    assembler_files own_places one_split
    ≡ record {
      reads = codes "/t/own/late.s" ∷ codes "/t/own/fatbin.c" ∷ [];
      writes = codes "/w/k.o" ∷ codes "/t/own/fatbin.s" ∷ [];
      may_write = [];
      complete = false;
    }
files_of_the_assembler = refl

pub relative_places : split_of (record own_places { text_file = codes "late.s" }) one_fatbinary (record one_compile { cwd = codes "/t" }) ≡ None
relative_places = refl
