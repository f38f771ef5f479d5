-- cudafe++'s options, and what its lines are read as.
use Rattle.std.specs.Prelude.{ℕ, List, [], ◌∷◌, Option, codes}
use Rattle.compilers.specs.declared.arguments.ParsedArguments.{ParsedArguments}
use Rattle.texts.specs.declared.language.Language.TheVariants as languages
use Rattle.compilers.specs.Compiler.{Reading}
use Rattle.compilers.specs.Table.{Entry, longest_match}
use Rattle.device_lines.specs.declared.options.ArgData.{ArgData}
use Rattle.device_lines.specs.declared.options.ArgData.TheVariants.{Output, GenModuleIdFileFlag, UnhashedPassThrough, UnhashedOutput}
use Rattle.device_lines.specs.Reading.{plain_flag, separated, reading, tool_reading}

-- cudafe++'s option table; its main output is the module id file
abbrev pub cudafe_options : List (Entry ArgData)
cudafe_options =
    separated (codes "--gen_c_file_name") UnhashedOutput ∷
    plain_flag (codes "--gen_module_id_file") GenModuleIdFileFlag ∷
    separated (codes "--module_id_file_name") Output ∷
    separated (codes "--stub_file_name") UnhashedPassThrough ∷
    []

-- what a cudafe++ line is read as at a working directory; its input is the last word
abbrev pub cudafe_reading : List ℕ → List (List ℕ) → Option ParsedArguments
cudafe_reading cwd words = reading (longest_match cudafe_options) cwd languages.CudaFE 1 words

-- the same, as a compiler's answer
abbrev pub cudafe_answer : List ℕ → List (List ℕ) → Reading
cudafe_answer cwd words = tool_reading cudafe_options cwd languages.CudaFE 1 words
