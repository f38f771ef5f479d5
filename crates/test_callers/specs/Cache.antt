-- What a cache needs of a cicc line.
use Rattle.std.specs.Prelude.{ℕ, List, [], map, Option, Some, None, Result, Ok, Err}
use Rattle.cuda_plans.specs.declared.arguments.ParsedArguments.{ParsedArguments}
use Rattle.cuda_plans.specs.declared.command.Cacheable.{Cacheable}
use Rattle.cuda_plans.specs.declared.command.SingleCompileCommand.{SingleCompileCommand}
use Rattle.cuda_plans.specs.declared.fault.Fault.{Fault}
use Rattle.cuda_plans.specs.declared.outputs.ArtifactDescriptor.{ArtifactDescriptor}
use Rattle.cuda_plans.specs.Command.{written}
use Rattle.cuda_plans.specs.Compiler.{Reading, accepted, cannot_cache, not_compilation}
use Rattle.cuda_plans.specs.DeviceWords.{cicc_words}
use Rattle.test_callers.specs.declared.cache.Entry.{Entry}

-- the paths of outputs, in the order of their keys
abbrev pub paths_of : List (List ℕ × ArtifactDescriptor) → List (List ℕ)
paths_of outputs = map (λ e. e.1.path) outputs

-- an entry with a command, or the refusal to write one
abbrev pub with_command : (List ℕ → List ℕ) → ParsedArguments → Result (SingleCompileCommand × Cacheable) Fault → Result Entry Fault
with_command digest p (Ok command) = Ok (record {
  words = p.common_args;
  digests = map digest p.extra_hash_files;
  files = paths_of p.outputs;
  command = command.0;
})
with_command digest p (Err fault) = Err fault

-- what a cache needs of arguments, by the digests of files, the executable and the working directory
abbrev pub entry_of : (List ℕ → List ℕ) → List ℕ → List ℕ → ParsedArguments → Result Entry Fault
entry_of digest executable cwd p = with_command digest p (written cicc_words executable p cwd [])

-- an entry that is there
abbrev pub some_entry : Result Entry Fault → Result (Option Entry) Fault
some_entry (Ok entry) = Ok (Some entry)
some_entry (Err fault) = Err fault

-- the same of what a line was read as
abbrev pub entry_of_reading : (List ℕ → List ℕ) → List ℕ → List ℕ → Reading → Result (Option Entry) Fault
entry_of_reading digest executable cwd (accepted p) = some_entry (entry_of digest executable cwd p)
entry_of_reading digest executable cwd (cannot_cache text word) = Ok None
entry_of_reading digest executable cwd not_compilation = Ok None
