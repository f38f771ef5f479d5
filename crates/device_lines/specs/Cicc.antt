-- cicc's options, and what its lines are read as.
use Rattle.std.specs.Prelude.{ℕ, List, [], ◌∷◌, Option, codes}
use Rattle.compilers.specs.declared.arguments.ParsedArguments.{ParsedArguments}
use Rattle.texts.specs.declared.language.Language.TheVariants.{Ptx}
use Rattle.compilers.specs.Compiler.{Reading}
use Rattle.compilers.specs.Table.{Entry, longest_match}
use Rattle.device_lines.specs.declared.options.ArgData.{ArgData}
use Rattle.device_lines.specs.declared.options.ArgData.TheVariants.{Output, PassThrough, GenModuleIdFileFlag, ModuleIdFileName, UnhashedOutput}
use Rattle.device_lines.specs.Reading.{plain_flag, separated, reading, tool_reading}

-- cicc's option table
abbrev pub cicc_options : List (Entry ArgData)
cicc_options =
    separated (codes "--gen_c_file_name") UnhashedOutput ∷
    separated (codes "--gen_device_file_name") UnhashedOutput ∷
    plain_flag (codes "--gen_module_id_file") GenModuleIdFileFlag ∷
    separated (codes "--include_file_name") PassThrough ∷
    separated (codes "--module_id_file_name") ModuleIdFileName ∷
    separated (codes "--stub_file_name") UnhashedOutput ∷
    separated (codes "-o") Output ∷
    []

-- what a cicc line is read as at a working directory; if no word ends like the input, that is the third word from the end,
-- because a line ends in the input, `-o` and the output
abbrev pub cicc_reading : List ℕ → List (List ℕ) → Option ParsedArguments
cicc_reading cwd words = reading (longest_match cicc_options) cwd Ptx 3 words

-- the same, as a compiler's answer
abbrev pub cicc_answer : List ℕ → List (List ℕ) → Reading
cicc_answer cwd words = tool_reading cicc_options cwd Ptx 3 words
