-- Worked lines of the gcc reader and writer, each computed.
use Rattle.std.specs.Prelude.{◌≡◌, ℕ, List, [], ◌∷◌, Bool, true, false, Option, None, codes}
use Prim.Native.String.{String}
use Rattle.texts.specs.declared.language.Language.{Language}
use Rattle.texts.specs.declared.language.Language.TheVariants.{C, Cxx, Cuda, Ptx}
use Rattle.compilers.specs.declared.compiler.CCompilerKind.{CCompilerKind}
use Rattle.compilers.specs.declared.compiler.CCompilerKind.TheVariants.{Nvcc, Nvhpc}
use Rattle.compilers.specs.declared.arguments.ColorMode.TheVariants.{Auto}
use Rattle.compilers.specs.declared.arguments.ParsedArguments.{ParsedArguments}
use Rattle.host_lines.specs.declared.gcc.options.ArgData.{ArgData}
use Rattle.host_lines.specs.declared.gcc.options.ArgData.TheVariants.{Standard, DepArgumentPath}
use Rattle.compilers.specs.declared.table.ArgDisposition.TheVariants.{Separated}
use Rattle.compilers.specs.Table.{Entry, longest_match, longer_choice}
use Rattle.host_lines.specs.GccOptions.{gcc_entries, joined_by_equals}
use Rattle.compilers.specs.declared.outputs.ArtifactDescriptor.{ArtifactDescriptor}
use Rattle.compilers.specs.Arguments.{plain_arguments}
use Rattle.compilers.specs.Compiler.{Reading, accepted, cannot_cache, not_compilation}
use Rattle.host_lines.specs.Gcc.{profile_reading}
use Rattle.host_lines.specs.GccLine.{gcc_words}
use Rattle.compilers.specs.Items.{raw, with_value}
use Rattle.compilers.specs.WordsLaw.{parts}
use Rattle.texts.specs.Rows.{spaced, Gives}

-- what the profile's table chooses, as a pair with an empty one
abbrev pub chosen_alone : List ℕ → Option (Entry ArgData)
chosen_alone word = longer_choice (longest_match gcc_entries word) (longest_match [] word)

-- what is answered to a line over the profile's table alone
abbrev pub read_by : Bool → CCompilerKind → List (List ℕ) → Reading
read_by plusplus kind line = profile_reading chosen_alone (codes "/w") plusplus kind line

-- the arguments of a line that compiles one file by `-c`, and has no other words
abbrev pub compiled : List ℕ → Language → List ℕ → ParsedArguments
compiled input language obj =
    record (plain_arguments input language ((codes "obj", record { path = obj; optional = false }) ∷ [])) {
      compilation_flag = codes "-c";
      color_mode = Auto;
    }

-- the outputs of a line that asks for a dependency file: that file, and the object
abbrev pub with_dependency_file : String → String → List (List ℕ × ArtifactDescriptor)
with_dependency_file dependency_file obj =
    (codes "d", record { path = codes dependency_file; optional = false }) ∷ (codes "obj", record { path = codes obj; optional = false }) ∷ []

-- what nvhpc reads worked lines as
abbrev pub LinesOfNvhpc : Type 0
LinesOfNvhpc = Gives (read_by false Nvhpc) (
    -- the object is the named one, or stands beside the input
    (spaced "-c a/foo.c", accepted (compiled (codes "a/foo.c") C (codes "a/foo.o")))
    ∷ (spaced "-c foo.cxx -o foo.o", accepted (compiled (codes "foo.cxx") Cxx (codes "foo.o")))
    -- the words of the target come last, and the dependency file is an output
    ∷ (
      spaced "-c foo.c -MD",
      accepted (record (compiled (codes "foo.c") C (codes "foo.o")) {
        dependency_args = spaced "-MD -MT foo.o -MF foo.d";
        outputs = with_dependency_file "foo.d" "foo.o";
      }),
    )
    ∷ (
      spaced "-x c++ -c foo.c -fabc -MD -MT foo.o -MF foo.o.d -o foo.o",
      accepted (record (compiled (codes "foo.c") Cxx (codes "foo.o")) {
        common_args = spaced "-fabc";
        dependency_args = spaced "-MD -MF foo.o.d -MT foo.o";
        outputs = with_dependency_file "foo.o.d" "foo.o";
      }),
    )
    -- words after the first `--` are inputs, also if they begin with `-`, and a second `--` is one too
    ∷ (spaced "-c -- -x.c", accepted (record (compiled (codes "-x.c") C (codes "-x.o")) { double_dash_input = true }))
    ∷ (spaced "-c -- a.c --", cannot_cache (codes "multiple input files") None)
    -- but `--` can be a value
    ∷ (spaced "-c a.c -o --", accepted (compiled (codes "a.c") C (codes "--")))
    -- one input, whose language is known
    ∷ (spaced "-c a.c b.c", cannot_cache (codes "multiple input files") None)
    ∷ (spaced "-c", cannot_cache (codes "no input file") None)
    ∷ (spaced "-c a.txt", cannot_cache (codes "unknown source language") None)
    -- no flag asks for a compilation
    ∷ (spaced "a.c", not_compilation)
    ∷ (spaced "foo.cu", not_compilation)
    -- a missing value, a language that gcc lacks, and a missing one
    ∷ (spaced "-c a.c -MF", cannot_cache (codes "argument parse") None)
    ∷ (spaced "-x foo a.c -c", cannot_cache (codes "-x") None)
    ∷ (spaced "-c a.c -x", cannot_cache (codes "-x") None)
    -- a response file, and preprocessing
    ∷ (spaced "@f", cannot_cache (codes "@") None)
    ∷ (spaced "-c foo.c -o foo.o -E", cannot_cache (codes "-E") None)
    -- the first of several refusals
    ∷ (spaced "-c foo.c -M -E -x foo", cannot_cache (codes "-M") None)
    -- an output takes the rest of its word
    ∷ (spaced "-c a.c -options-file=f", accepted (compiled (codes "a.c") C (codes "ptions-file=f")))
    -- a standard is joined, so a word after it is an input, and an empty one loses its `=`
    ∷ (spaced "-c a.c -std c++17", cannot_cache (codes "multiple input files") None)
    ∷ (spaced "-c a.c -std=", accepted (record (compiled (codes "a.c") C (codes "a.o")) { common_args = spaced "-std" }))
    -- an option of two bytes is written in one word, any other in two; so also as the last word
    ∷ (
      spaced "-c a.c -I d -isysteme -DX=1 -I",
      accepted (record (compiled (codes "a.c") C (codes "a.o")) {
        preprocessor_args = spaced "-Id -isystem e -DX=1 -I";
      }),
    )
    ∷ (spaced "-c a.c -isystem", accepted (record (compiled (codes "a.c") C (codes "a.o")) { preprocessor_args = codes "-isystem" ∷ [] ∷ [] }))
    ∷ [])

-- what gcc's options make of worked lines: of nvhpc's, and of those that compilers for C++ and nvcc read otherwise
abbrev pub LinesRead : Type 0
LinesRead =
    LinesOfNvhpc
    -- a compiler for C++ takes C files for C++, but not the language that an option names
    × Gives (read_by true Nvhpc) (
    (spaced "-c a.c", accepted (compiled (codes "a.c") Cxx (codes "a.o")))
    ∷ (spaced "-x c -c a.cu", accepted (compiled (codes "a.cu") C (codes "a.o")))
    ∷ [])
    -- nvcc compiles a single CUDA file without being asked to
    × Gives (read_by false Nvcc) (
    (spaced "foo.cu", accepted (record (compiled (codes "foo.cu") Cuda (codes "foo.o")) { compilation_flag = [] }))
    ∷ (spaced "a.cu b.cu", not_compilation)
    ∷ [])

-- what worked arguments are written as
pub record LinesWritten : Type 0 where
  pub writes_dashes_before_the_input : gcc_words (record (compiled (codes "-x.c") C (codes "-x.o")) { double_dash_input = true }) (codes "-x.o")
      ≡ spaced "-x c -c -o -x.o -- -x.c"
  pub writes_options_by_their_lists : gcc_words (record (compiled (codes "a.cc") Cxx []) {
    common_args = spaced "-fabc";
    preprocessor_args = spaced "-Id";
    unhashed_args = spaced "-t1";
    arch_args = spaced "-arch x";
  }) (codes "b.o")
      ≡ spaced "-x c++ -c -o b.o -Id -t1 -fabc -arch x a.cc"
  pub writes_no_language_and_no_flag : gcc_words (record (compiled (codes "k.ptx") Ptx []) { compilation_flag = [] }) (codes "k") ≡ spaced "-o k k.ptx"

-- the parts of a line: an option whose value is empty has its own word, and the word after it is an item
pub record LinesParted : Type 0 where
  pub empty_value_is_a_part : parts chosen_alone (spaced "-std= x")
      ≡ (with_value (codes "-std") Standard [] joined_by_equals, spaced "-std=") ∷ (raw (codes "x"), spaced "x") ∷ []
  pub next_word_is_in_the_part : parts chosen_alone (spaced "-MF d x")
      ≡ (with_value (codes "-MF") DepArgumentPath (codes "d") Separated, spaced "-MF d") ∷ (raw (codes "x"), spaced "x") ∷ []
