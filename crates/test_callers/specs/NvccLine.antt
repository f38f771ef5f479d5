-- The dry runs of an nvcc line.
use Rattle.std.specs.Prelude.{ℕ, List, Option, Some, None, Result, Ok, Err}
use Rattle.cuda_plans.specs.declared.command.Cacheable.{Cacheable}
use Rattle.cuda_plans.specs.declared.command.SingleCompileCommand.{SingleCompileCommand}
use Rattle.cuda_plans.specs.declared.compiler.NvccHostCompiler.{NvccHostCompiler}
use Rattle.cuda_plans.specs.declared.compiler.Places.{Places}
use Rattle.cuda_plans.specs.declared.fault.Fault.{Fault}
use Rattle.cuda_plans.specs.Compiler.{Reading, accepted, cannot_cache, not_compilation}
use Rattle.cuda_plans.specs.declared.nvcc.NvccCompileCommand.{NvccCompileCommand}
use Rattle.cuda_plans.specs.NvccCommand.{dry_runs, nvcc_written}

-- the dry runs of a command, or the refusal to write it
abbrev pub runs_of : Result (NvccCompileCommand × Cacheable) Fault → Result (Option (SingleCompileCommand × SingleCompileCommand)) Fault
runs_of (Ok command) = Ok (Some (dry_runs command.0))
runs_of (Err fault) = Err fault

-- the dry runs of what a line was read as
abbrev pub commands_of : NvccHostCompiler → List ℕ → List ℕ → List (List ℕ × List ℕ) → Places → Reading
    → Result (Option (SingleCompileCommand × SingleCompileCommand)) Fault
commands_of host executable cwd env places (accepted p) = runs_of (nvcc_written executable p cwd env host places)
commands_of host executable cwd env places (cannot_cache text word) = Ok None
commands_of host executable cwd env places not_compilation = Ok None
