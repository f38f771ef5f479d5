-- What the gcc reader answers: this project's profile of gcc's options.
use Rattle.std.specs.Prelude.{ℕ, List, [], ◌∷◌, ◌++◌, Bool, true, false, ◌&&◌, ◌||◌, if◌then◌else◌, Option, Some, None, is_some, is_none, unwrap_or, Result, Ok, Err, codes}
use Rattle.std.specs.Option.{option_map, option_or}
use Rattle.texts.specs.declared.language.Language.{Language}
use Rattle.texts.specs.declared.language.Language.TheVariants.{C, Cxx, Cuda}
use Rattle.compilers.specs.declared.compiler.CCompilerKind.{CCompilerKind}
use Rattle.compilers.specs.declared.compiler.CCompilerKind.TheVariants.{Nvcc}
use Rattle.compilers.specs.declared.outputs.ArtifactDescriptor.{ArtifactDescriptor}
use Rattle.compilers.specs.declared.arguments.ColorMode.TheVariants.{Auto}
use Rattle.compilers.specs.declared.arguments.ParsedArguments.{ParsedArguments}
use Rattle.host_lines.specs.declared.gcc.options.ArgData.{ArgData}
use Rattle.compilers.specs.Arguments.{plain_arguments}
use Rattle.compilers.specs.Compiler.{Reading, accepted, cannot_cache, not_compilation}
use Rattle.texts.specs.Extension.{with_extension}
use Rattle.texts.specs.Language.{language_of_file}
use Rattle.compilers.specs.Outputs.{with_entry}
use Rattle.compilers.specs.Table.{Entry}
use Rattle.host_lines.specs.GccItems.{Asked, items_to_dashes, has_double_dash, first_refusal, asked_of}

-- a file's language for a compiler that takes C for C++, or doesn't
abbrev pub as_plusplus : Bool → Language → Language
as_plusplus true C = Cxx
as_plusplus _ language = language

-- the language of the first input, by its file name
abbrev pub language_of_first : Bool → List (List ℕ) → Option Language
language_of_first plusplus [] = None
language_of_first plusplus (input ∷ _) = option_map (as_plusplus plusplus) (language_of_file input)

-- the language: the one that an option names, else that of the first input
abbrev pub language_read : Bool → Asked → Option Language
language_read plusplus a = option_or a.language (language_of_first plusplus a.inputs)

-- whether nvcc gets one CUDA file, which it compiles without being asked to
abbrev pub is_lone_cuda : CCompilerKind → Option Language → List (List ℕ) → Bool
is_lone_cuda Nvcc (Some Cuda) (_ ∷ []) = true
is_lone_cuda _ _ _ = false

-- whether the line asks for a compilation
abbrev pub is_compilation : CCompilerKind → Option Language → Asked → Bool
is_compilation kind language a = is_some a.compilation_flag || is_lone_cuda kind language a.inputs

-- the path of the file that is made: the one that an option names, else the input's with the extension `o`
abbrev pub obj_of : Asked → List ℕ → List ℕ
obj_of a input = unwrap_or a.obj (with_extension input (codes "o"))

-- the path of the dependency file: the one that an option names, else, if one is needed, the object's with the
-- extension `d`
abbrev pub dependency_file_of : Asked → List ℕ → Option (List ℕ)
dependency_file_of a obj = option_or a.dependency_file (if a.target_needed then Some (with_extension obj (codes "d")) else None)

-- the words that name the target, if one is needed: those of the last option that names one, else the object's path
abbrev pub target_words : Asked → List ℕ → List (List ℕ)
target_words a obj = if a.target_needed then unwrap_or a.target (codes "-MT" ∷ obj ∷ []) else []

-- the words that name the dependency file, if one is needed and no option names one
abbrev pub dependency_file_words : Asked → List ℕ → List (List ℕ)
dependency_file_words a obj = if a.target_needed && is_none a.dependency_file then codes "-MF" ∷ with_extension obj (codes "d") ∷ [] else []

-- a file that is always made
abbrev pub made_file : List ℕ → ArtifactDescriptor
made_file path = record { path = path; optional = false }

-- the outputs, with a dependency file and without one
abbrev pub outputs_of : List ℕ → Option (List ℕ) → List (List ℕ × ArtifactDescriptor)
outputs_of obj None = with_entry [] (codes "obj", made_file obj)
outputs_of obj (Some path) = with_entry (with_entry [] (codes "obj", made_file obj)) (codes "d", made_file path)

-- the arguments of a line whose input, language and object are known
abbrev pub arguments_of : Asked → List ℕ → Language → List ℕ → ParsedArguments
arguments_of a input language obj = record (plain_arguments input language (outputs_of obj (dependency_file_of a obj))) {
  double_dash_input = a.double_dash_input;
  compilation_flag = unwrap_or a.compilation_flag [];
  dependency_args = (a.dependency_args ++ target_words a obj) ++ dependency_file_words a obj;
  preprocessor_args = a.preprocessor_args;
  common_args = a.common_args;
  arch_args = a.arch_args;
  unhashed_args = a.unhashed_args;
  extra_hash_files = a.extra_hash_files;
  color_mode = Auto;
}

-- the input of a line and its language, or the text that the line is refused with
abbrev pub sole_input : Option Language → List (List ℕ) → Result (List ℕ × Language) (List ℕ)
sole_input language [] = Err (codes "no input file")
sole_input language (_ ∷ _ ∷ _) = Err (codes "multiple input files")
sole_input None (_ ∷ []) = Err (codes "unknown source language")
sole_input (Some language) (input ∷ []) = Ok (input, language)

-- what is answered to a line that asks for a compilation, by its input and language
abbrev pub reading_of_input : Asked → Result (List ℕ × Language) (List ℕ) → Reading
reading_of_input a (Ok found) = accepted (arguments_of a found.0 found.1 (obj_of a found.0))
reading_of_input a (Err text) = cannot_cache text None

-- what is answered to a line that asks for this
abbrev pub reading_of_asked : Bool → CCompilerKind → Asked → Reading
reading_of_asked plusplus kind a =
    let language = language_read plusplus a in
    if is_compilation kind language a then reading_of_input a (sole_input language a.inputs) else not_compilation

-- what the items of a line ask for, unless one refuses: the first that does decides
abbrev pub unless_refused : Option (List ℕ) → Asked → Result Asked (List ℕ)
unless_refused None a = Ok a
unless_refused (Some text) a = Err text

-- what a line asks for over a table, of what it chooses for each word and the working directory, or the text that the
-- line is refused with
abbrev pub gathering : (List ℕ → Option (Entry ArgData)) → List ℕ → List (List ℕ) → Result Asked (List ℕ)
gathering chosen cwd line =
    let is = items_to_dashes chosen line in
    unless_refused (first_refusal is) (asked_of cwd (has_double_dash chosen line) is)

-- what is answered to a line
abbrev pub reading_of_gathering : Bool → CCompilerKind → Result Asked (List ℕ) → Reading
reading_of_gathering plusplus kind (Ok a) = reading_of_asked plusplus kind a
reading_of_gathering plusplus kind (Err text) = cannot_cache text None

-- what the reader answers to a line, of what a table chooses for each word, the working directory, whether the compiler
-- takes C files for C++, the compiler's kind, and the line
abbrev pub profile_reading : (List ℕ → Option (Entry ArgData)) → List ℕ → Bool → CCompilerKind → List (List ℕ) → Reading
profile_reading chosen cwd plusplus kind line = reading_of_gathering plusplus kind (gathering chosen cwd line)
