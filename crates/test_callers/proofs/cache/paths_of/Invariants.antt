use Rattle.std.proofs.Common.{◌≡◌, ◌++◌}
use Rattle.test_callers.specs.Cache as spec
use Rattle.test_callers.proofs.cache.paths_of.Given as goal

abbrev pub invariant-loop-file : goal.invariant-loop-file
invariant-loop-file l = l.paths ++ spec.paths_of l.file-iterator ≡ spec.paths_of l.outputs
