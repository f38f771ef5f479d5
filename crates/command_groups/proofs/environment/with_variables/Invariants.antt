use Rattle.std.proofs.Common.{◌≡◌, map}
use Rattle.texts.specs.Variables.{pair_of}
use Rattle.dry_runs.specs.Environment.{with_variables}
use Rattle.command_groups.proofs.environment.with_variables.Given as goal

-- the environment so far, with the variables that are left, is the whole one
abbrev pub invariant-loop-name : goal.invariant-loop-name
invariant-loop-name l = with_variables (map pair_of l.environment.items) (map pair_of l.name-iterator.rest.items) ≡ with_variables (map pair_of l.env_vars) l.fn.variables
