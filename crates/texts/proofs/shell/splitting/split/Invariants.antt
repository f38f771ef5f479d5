use Rattle.std.proofs.Common.{◌≡◌, length, fold, chars}
use denote.Text.{Utf8}
use denote.Shadow.{shadow}
use Rattle.texts.specs.Shell.Splitting.{after, start}
use Rattle.texts.proofs.shell.splitting.split.Given as goal

abbrev pub invariant-loop-rest : goal.invariant-loop-rest
invariant-loop-rest l = shadow (Utf8 l.rest) × (fold after l.splitter (chars l.rest) ≡ fold after start (chars l.text))

abbrev pub decreases-loop-rest : goal.decreases-loop-rest
decreases-loop-rest l = length l.rest
