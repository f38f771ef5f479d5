-- The commands that preprocess the input of an nvcc or nvhpc line.
use Rattle.std.specs.Prelude.{ℕ, List, [], ◌∷◌, ◌++◌, ◌==◌, ◌||◌, if◌then◌else◌, Option, Some, None, Result, Ok, Err, Vec, map, fold, length, codes, bytes_eq}
use Rattle.std.specs.declared.alloc.Global.{Global}
use Rattle.texts.specs.declared.language.Language.{Language}
use Rattle.texts.specs.declared.language.Language.TheVariants.{Cuda}
use Rattle.compilers.specs.declared.arguments.ParsedArguments.{ParsedArguments}
use Rattle.compilers.specs.declared.command.SingleCompileCommand.{SingleCompileCommand}
use Rattle.texts.specs.declared.fault.Fault.{Fault}
use Rattle.texts.specs.declared.fault.Fault.TheVariants.{NoPreprocess}
use Rattle.texts.specs.Lists.{with_name}
use Rattle.compilers.specs.Command.{single_command}
use Rattle.host_lines.specs.GccItems.{name_of_language}
use Rattle.compilers.specs.declared.compiler.NvccHostCompiler.{NvccHostCompiler}
use Rattle.compilers.specs.declared.compiler.NvccHostCompiler.TheVariants as host
use Rattle.host_lines.specs.NvccEnvironment.{without_flags}

-- what both commands have: their first words are the preprocessor's, the common ones, `-x`, the language's name and the input
abbrev pub common_command : List ℕ → ParsedArguments → List ℕ → List ℕ → List (List ℕ × List ℕ) → SingleCompileCommand
common_command executable p name cwd env_vars =
    single_command executable (p.preprocessor_args ++ (p.common_args ++ (codes "-x" ∷ name ∷ p.input ∷ []))) cwd env_vars

-- a command with more words at its end
abbrev pub with_words : SingleCompileCommand → List (List ℕ) → SingleCompileCommand
with_words c words = record c { arguments = c.arguments ++ words }

-- the commands, from what both have, the words for the dependencies and those for the preprocessed code: the one for the
-- dependencies comes first, and only if there are words for it
abbrev pub preprocess_commands : SingleCompileCommand → List (List ℕ) → List (List ℕ) → List SingleCompileCommand
preprocess_commands c dependency preprocessor =
    if length dependency == 0 then with_words c preprocessor ∷ [] else with_words c dependency ∷ with_words c preprocessor ∷ []

-- the commands by the language's name, or a refusal with this text if it has none
abbrev pub unless_unnamed : List ℕ → (List ℕ → List SingleCompileCommand) → Option (List ℕ) → Result (List SingleCompileCommand) Fault
unless_unnamed text commands None = Err (NoPreprocess text)
unless_unnamed text commands (Some name) = Ok (commands name)

-- nvcc's word for the dependencies without a compilation, in place of one for both
abbrev pub nvcc_dependency_word : List ℕ → List ℕ
nvcc_dependency_word word =
    if bytes_eq word (codes "-MD") || bytes_eq word (codes "--generate-dependencies-with-compile") then codes "-M"
    else if bytes_eq word (codes "-MMD") || bytes_eq word (codes "--generate-nonsystem-dependencies-with-compile")
    then codes "-MM"
    else word

-- the words for nvcc's dependencies, each at its first appearance, without repetitions, even of options' values
abbrev pub nvcc_dependency_words : List (List ℕ) → List (List ℕ)
nvcc_dependency_words words = fold (λ seen word. with_name seen (Some word)) [] (map nvcc_dependency_word words)

-- the words for nvcc's preprocessed code, without line numbers from the host compiler
abbrev pub nvcc_preprocessor_words : NvccHostCompiler → List (List ℕ)
nvcc_preprocessor_words host.Gcc = codes "-E" ∷ codes "-Xcompiler=-P" ∷ []
nvcc_preprocessor_words host.Msvc = codes "-E" ∷ codes "-Xcompiler=-EP" ∷ []
nvcc_preprocessor_words host.Nvhpc = codes "-E" ∷ [] ∷ []

-- nvcc's commands, by the host compiler, the executable, the arguments, the working directory and the environment
abbrev pub nvcc_preprocess : NvccHostCompiler → List ℕ → ParsedArguments → List ℕ → List (List ℕ × List ℕ) → Result (List SingleCompileCommand) Fault
nvcc_preprocess host_compiler executable p cwd env_vars =
    unless_unnamed (codes "PCH not supported by nvcc")
    (λ name. preprocess_commands (common_command executable p name cwd (without_flags env_vars))
    (nvcc_dependency_words p.dependency_args) (nvcc_preprocessor_words host_compiler))
    (name_of_language p.language)

-- nvhpc's word for the dependencies without a compilation, in place of one for both
abbrev pub nvhpc_dependency_word : List ℕ → List ℕ
nvhpc_dependency_word word =
    if bytes_eq word (codes "-MD") then codes "-M" else if bytes_eq word (codes "-MMD") then codes "-MM" else word

-- nvhpc's name for a language: gcc's, and none for CUDA
abbrev pub name_for_nvhpc : Language → Option (List ℕ)
name_for_nvhpc Cuda = None
name_for_nvhpc language = name_of_language language

-- the text of nvhpc's refusal of a language
abbrev pub nvhpc_refusal : Language → List ℕ
nvhpc_refusal Cuda = codes "CUDA compilation not supported by nvhpc"
nvhpc_refusal language = codes "PCH not supported by nvhpc"

-- nvhpc's commands, by the executable, the arguments, the working directory and the environment
abbrev pub nvhpc_preprocess : List ℕ → ParsedArguments → List ℕ → List (List ℕ × List ℕ) → Result (List SingleCompileCommand) Fault
nvhpc_preprocess executable p cwd env_vars =
    unless_unnamed (nvhpc_refusal p.language)
    (λ name. preprocess_commands (common_command executable p name cwd env_vars)
    (map nvhpc_dependency_word p.dependency_args) (codes "-E" ∷ []))
    (name_for_nvhpc p.language)

-- the answer of a call, as a list of commands
abbrev pub commands_seen : Result (Vec SingleCompileCommand Global) Fault → Result (List SingleCompileCommand) Fault
commands_seen (Ok commands) = Ok commands.items
commands_seen (Err fault) = Err fault
