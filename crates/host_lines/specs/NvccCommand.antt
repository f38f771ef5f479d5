-- What nvcc arguments are written back as, and the two dry runs of that command.
use Rattle.std.specs.Prelude.{ℕ, List, [], ◌∷◌, ◌++◌, if◌then◌else◌, Option, Result, Ok, codes, ok_or}
use Rattle.compilers.specs.declared.arguments.ParsedArguments.{ParsedArguments}
use Rattle.compilers.specs.declared.command.SingleCompileCommand.{SingleCompileCommand}
use Rattle.compilers.specs.declared.command.Cacheable.{Cacheable}
use Rattle.compilers.specs.declared.command.Cacheable.TheVariants.{No}
use Rattle.compilers.specs.declared.compiler.Places.{Places}
use Rattle.texts.specs.declared.fault.Fault.{Fault}
use Rattle.texts.specs.declared.fault.Fault.TheVariants.{NoFileName}
use Rattle.compilers.specs.Arguments.{obj_of}
use Rattle.compilers.specs.Command.{single_command}
use Rattle.host_lines.specs.GccLine.{language_words}
use Rattle.texts.specs.Path.{is_absolute_path, joined, file_name_of}
use Rattle.compilers.specs.declared.compiler.NvccHostCompiler.{NvccHostCompiler}
use Rattle.host_lines.specs.declared.nvcc.command.NvccCompileCommand.{NvccCompileCommand}
use Rattle.host_lines.specs.KeepThreads.{keep_of, threads_of}
use Rattle.host_lines.specs.NvccEnvironment.{without_flags}
use Rattle.texts.specs.ObjectFlags.{makes_objects}
pub use Rattle.texts.specs.Results.{and_then}

-- the words of an nvcc line: of the working directory, the arguments, the output's path, what keep words and thread
-- words leave of the unhashed words, and the canonical input. The output is written as given under a flag that asks for
-- an object file, else joined to the working directory; and the input as given if it's absolute, else the canonical one
abbrev pub nvcc_words : List ℕ → ParsedArguments → List ℕ → List (List ℕ) → List ℕ → List (List ℕ)
nvcc_words cwd p obj unhashed canonical =
    language_words p.language
    ++ (codes "-o" ∷ (if makes_objects p.compilation_flag then obj else joined cwd obj) ∷ [])
    ++ p.preprocessor_args
    ++ unhashed
    ++ p.common_args
    ++ p.arch_args
    ++ (if p.double_dash_input then codes "--" ∷ [] else [])
    ++ ((if is_absolute_path p.input then p.input else canonical) ∷ [])

-- keep words, and after them thread words, removed from a line at a working directory: the words that stay, the keep
-- directory, and how many commands may run at once
abbrev pub taken_of : List ℕ → List (List ℕ) → Result (List (List ℕ) × Option (List ℕ) × ℕ) Fault
taken_of cwd words =
    and_then (keep_of cwd words) (λ kept.
    and_then (threads_of kept.0) (λ threaded.
    Ok (threaded.0, kept.1, threaded.1)))

-- the output's path and its file name; it is refused to have no output, and no file name
abbrev pub output_of : ParsedArguments → Result (List ℕ × List ℕ) Fault
output_of p =
    and_then (obj_of p) (λ obj.
    and_then (ok_or (file_name_of obj.path) NoFileName) (λ name.
    Ok (obj.path, name)))

-- the command, of what is taken out of the unhashed words, and the output's path and file name
abbrev pub nvcc_command : List ℕ → ParsedArguments → List ℕ → List (List ℕ × List ℕ) → NvccHostCompiler → Places →
    List (List ℕ) × Option (List ℕ) × ℕ → List ℕ × List ℕ → NvccCompileCommand
nvcc_command executable p cwd env_vars host_compiler places taken output = record {
  temp_dir = places.temp_dir;
  keep_dir = taken.1;
  num_parallel = taken.2;
  executable = executable;
  arguments = nvcc_words cwd p output.0 taken.0 places.canonical_input;
  compilation_flag = p.compilation_flag;
  env_vars = without_flags env_vars;
  cwd = cwd;
  host_compiler = host_compiler;
  output_file_name = output.1;
}

-- arguments written back, of the executable, the arguments, the working directory, the environment, the host compiler
-- and the places; what is wrong with the unhashed words is refused before what is wrong with the output. No cache
-- serves the command itself.
abbrev pub nvcc_written : List ℕ → ParsedArguments → List ℕ → List (List ℕ × List ℕ) → NvccHostCompiler → Places → Result (NvccCompileCommand × Cacheable) Fault
nvcc_written executable p cwd env_vars host_compiler places =
    and_then (taken_of cwd p.unhashed_args) (λ taken.
    and_then (output_of p) (λ output.
    Ok (nvcc_command executable p cwd env_vars host_compiler places taken output, No)))

-- The dry runs.

-- the command with further words, which only says what it would run
abbrev pub dry_run_with : NvccCompileCommand → List (List ℕ) → SingleCompileCommand
dry_run_with c words = single_command c.executable (c.arguments ++ words) c.cwd c.env_vars

-- the first dry run, and the second, whose files would be kept in the folder for temporary files
abbrev pub dry_runs : NvccCompileCommand → SingleCompileCommand × SingleCompileCommand
dry_runs c = (
  dry_run_with c (codes "--dryrun" ∷ codes "--keep" ∷ []),
  dry_run_with c (codes "--keep-dir" ∷ c.temp_dir ∷ codes "--dryrun" ∷ codes "--keep" ∷ []),
)
