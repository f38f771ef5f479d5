use Rattle.std.proofs.Common.{◌≡◌, length, codes, nat_eq}
use Rattle.std.specs.List.{list_any, starts_with}
use Rattle.std.specs.Str.Lines.{lines}
use Rattle.dry_runs.proofs.lines.is_dry_run.Given as goal

abbrev pub invariant-loop-line : goal.invariant-loop-line
invariant-loop-line l =
    list_any (λ line. starts_with nat_eq line (codes "#$ ")) (lines l.rest) ≡ list_any (λ line. starts_with nat_eq line (codes "#$ ")) (lines l.bytes)

abbrev pub decreases-loop-line : goal.decreases-loop-line
decreases-loop-line l = length l.rest
