-- The text of a line that a device tool reads and writes back.
use Rattle.std.specs.Prelude.{ℕ, List, [], ◌∷◌, ◌++◌, Option, Some, None, Result, Ok, Err, flat_map}
use Rattle.compilers.specs.declared.arguments.ParsedArguments.{ParsedArguments}
use Rattle.compilers.specs.declared.command.Cacheable.{Cacheable}
use Rattle.compilers.specs.declared.command.SingleCompileCommand.{SingleCompileCommand}
use Rattle.texts.specs.declared.fault.Fault.{Fault}
use Rattle.texts.specs.declared.language.Language.TheVariants.{Ptx, Cubin, CudaFE}
use Rattle.compilers.specs.Command.{written}
use Rattle.compilers.specs.Compiler.{Reading, accepted, cannot_cache, not_compilation}
use Rattle.device_lines.specs.Cicc.{cicc_options}
use Rattle.device_lines.specs.CudaFE.{cudafe_options}
use Rattle.device_lines.specs.DeviceWords.{cicc_words, cudafe_words}
use Rattle.device_lines.specs.Ptxas.{ptxas_options}
use Rattle.device_lines.specs.Reading.{tool_reading}
use Rattle.plan_texts.specs.declared.tool.Tool.{Tool}
use Rattle.plan_texts.specs.declared.tool.Tool.TheVariants.{Cicc, Ptxas, CudaFe}

-- a list of words, each on a line of its own
abbrev pub show_line : List (List ℕ) → List ℕ
show_line words = flat_map (λ word. word ++ 10 ∷ []) words

-- the text of a command's words
abbrev pub show_command : Result (SingleCompileCommand × Cacheable) Fault → Result (Option (List ℕ)) Fault
show_command (Ok c) = Ok (Some (show_line c.0.arguments))
show_command (Err fault) = Err fault

-- how a tool reads a line, and how it writes arguments and their output
abbrev pub reading_by : Tool → List ℕ → List (List ℕ) → Reading
reading_by Cicc cwd words = tool_reading cicc_options cwd Ptx 3 words
reading_by Ptxas cwd words = tool_reading ptxas_options cwd Cubin 3 words
reading_by CudaFe cwd words = tool_reading cudafe_options cwd CudaFE 1 words

abbrev pub words_of : Tool → ParsedArguments → List ℕ → List (List ℕ)
words_of Cicc = cicc_words
words_of Ptxas = cicc_words
words_of CudaFe = cudafe_words

-- the text of what a line was read as: its arguments written back, or none if it compiles nothing
abbrev pub show_reading : Tool → List ℕ → Reading → Result (Option (List ℕ)) Fault
show_reading tool cwd (accepted p) = show_command (written (words_of tool) [] p cwd [])
show_reading tool cwd (cannot_cache text word) = Ok None
show_reading tool cwd not_compilation = Ok None

-- the text of a tool's line, read at a working directory and written back
abbrev pub line_text : Tool → List ℕ → List (List ℕ) → Result (Option (List ℕ)) Fault
line_text tool cwd words = show_reading tool cwd (reading_by tool cwd words)
