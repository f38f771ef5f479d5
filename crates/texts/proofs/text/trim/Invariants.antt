use Rattle.std.proofs.Common.{◌≡◌, length, reverse}
use denote.Text.{Utf8}
use denote.Shadow.{shadow}
use Rattle.texts.specs.Path.{trimmed, is_idle}
use Rattle.texts.proofs.text.trim.Given as goal

abbrev pub invariant-loop-front : goal.invariant-loop-front
invariant-loop-front l = shadow (Utf8 l.rest) × (trimmed (is_idle l.keeps_root) (reverse l.rest) ≡ trimmed (is_idle l.keeps_root) (reverse l.text))

abbrev pub decreases-loop-front : goal.decreases-loop-front
decreases-loop-front l = length l.rest
