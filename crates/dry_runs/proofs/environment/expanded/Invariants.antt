use Rattle.std.proofs.Common.{◌≡◌, ◌∷◌, ◌-◌, Some, fold, drop, length, string_bytes}
use Rattle.dry_runs.specs.Limit.{expanded_fitting, made}
use Rattle.compilers.specs.Replacing.{replaced}
use Rattle.dry_runs.proofs.environment.expanded.Given as goal

abbrev pub invariant-loop-next : goal.invariant-loop-next
invariant-loop-next l = fold expanded_fitting (Some (l.room, string_bytes l.expanded)) (drop l.from l.env) ≡ fold expanded_fitting (made l.left (replaced (36 ∷ l.first.name.now) l.first.value.now l.text)) (drop l.first.next l.env)

abbrev pub decreases-loop-next : goal.decreases-loop-next
decreases-loop-next l = length l.env - l.from
