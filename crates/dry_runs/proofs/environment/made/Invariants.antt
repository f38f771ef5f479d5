use Rattle.std.proofs.Common.{◌≡◌, ◌∷◌, ◌++◌, length, string_bytes}
use denote.Text.{Utf8}
use denote.Shadow.{shadow}
use Rattle.compilers.specs.Replacing as replacing
use Rattle.dry_runs.proofs.environment.made.Given as goal

abbrev pub invariant-loop-front : goal.invariant-loop-front
invariant-loop-front l = shadow (Utf8 l.rest) × (string_bytes l.out ++ replacing.replaced (36 ∷ l.name) l.value l.rest ≡ replacing.replaced (36 ∷ l.name) l.value l.text)

abbrev pub decreases-loop-front : goal.decreases-loop-front
decreases-loop-front l = length l.rest
