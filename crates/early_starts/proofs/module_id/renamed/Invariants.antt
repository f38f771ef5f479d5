use Rattle.std.proofs.Common.{◌≡◌, ◌++◌, map, length, string_bytes}
use Rattle.early_starts.specs.LateFiles as spec
use Rattle.early_starts.proofs.module_id.renamed.Given as goal

-- the words so far, and the rest once its file has another name, are all
abbrev pub invariant-loop-rest : goal.invariant-loop-rest
invariant-loop-rest l = l.renamed ++ spec.renamed l.option l.name (map string_bytes l.rest) ≡ spec.renamed l.option l.name (map string_bytes l.words)

abbrev pub decreases-loop-rest : goal.decreases-loop-rest
decreases-loop-rest l = length l.rest
