-- The commands that arguments are written back as.
use Rattle.std.specs.Prelude.{ℕ, List, false, Option, Result, Ok, Err}
use Rattle.compilers.specs.declared.arguments.ParsedArguments.{ParsedArguments}
use Rattle.compilers.specs.declared.outputs.ArtifactDescriptor.{ArtifactDescriptor}
use Rattle.compilers.specs.declared.command.SingleCompileCommand.{SingleCompileCommand}
use Rattle.compilers.specs.declared.command.Cacheable.{Cacheable}
use Rattle.compilers.specs.declared.command.Cacheable.TheVariants.{Yes}
use Rattle.texts.specs.declared.fault.Fault.{Fault}
use Rattle.compilers.specs.Arguments.{obj_or_missing, obj_of}

-- a command with these words that takes no part in a jobserver
abbrev pub single_command : List ℕ → List (List ℕ) → List ℕ → List (List ℕ × List ℕ) → SingleCompileCommand
single_command executable words cwd env_vars =
    record { executable = executable; arguments = words; env_vars = env_vars; cwd = cwd; share_jobserver = false }

-- the words of arguments, of what they are written as with the path of their output
abbrev pub Writing : Type 0
Writing = ParsedArguments → List ℕ → List (List ℕ)

-- arguments written back as a command that a cache may serve, of the output that they are for or the refusal without it
abbrev pub written_with : Writing → List ℕ → ParsedArguments → List ℕ → List (List ℕ × List ℕ)
    → Result ArtifactDescriptor Fault → Result (SingleCompileCommand × Cacheable) Fault
written_with words executable p cwd env_vars (Err fault) = Err fault
written_with words executable p cwd env_vars (Ok obj) = Ok (single_command executable (words p obj.path) cwd env_vars, Yes)

-- the same, of what stands under the output's key
abbrev pub written_to : Writing → List ℕ → ParsedArguments → List ℕ → List (List ℕ × List ℕ)
    → Option ArtifactDescriptor → Result (SingleCompileCommand × Cacheable) Fault
written_to words executable p cwd env_vars found = written_with words executable p cwd env_vars (obj_or_missing p.language found)

-- arguments written back; without an output `obj` they are refused
abbrev pub written : Writing → List ℕ → ParsedArguments → List ℕ → List (List ℕ × List ℕ) → Result (SingleCompileCommand × Cacheable) Fault
written words executable p cwd env_vars = written_with words executable p cwd env_vars (obj_of p)
