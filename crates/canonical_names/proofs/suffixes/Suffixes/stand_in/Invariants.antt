use Rattle.std.proofs.Common.{◌≡◌, length}
use denote.Text.{Utf8}
use denote.Shadow.{shadow}
use Rattle.std.specs.List.{list_any}
use Rattle.canonical_names.specs.Alike.{holds}
use Rattle.canonical_names.proofs.suffixes.Suffixes.stand_in.Given as goal

abbrev pub invariant-loop-after : goal.invariant-loop-after
invariant-loop-after l = shadow (Utf8 l.rest) × (list_any (λ s. holds s l.rest) l.self ≡ list_any (λ s. holds s l.text) l.self)

abbrev pub decreases-loop-after : goal.decreases-loop-after
decreases-loop-after l = length l.rest
