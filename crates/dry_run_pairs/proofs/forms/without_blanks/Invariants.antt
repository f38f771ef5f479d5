use Rattle.std.proofs.Common.{◌≡◌, ◌==◌, length, reverse}
use Rattle.dry_run_pairs.specs.Cuts.{past}
use Rattle.dry_run_pairs.proofs.forms.without_blanks.Given as goal

abbrev pub invariant-loop-last : goal.invariant-loop-last
invariant-loop-last l = past (λ c. c == 32) (reverse l.rest) ≡ past (λ c. c == 32) (reverse l.line)

abbrev pub decreases-loop-last : goal.decreases-loop-last
decreases-loop-last l = length l.rest
