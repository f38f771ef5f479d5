use Rattle.std.proofs.Common.{◌≡◌, ◌++◌, string_bytes, drop, flat_map}
use Rattle.plan_texts.specs.Graph.{comment}
use Rattle.plan_texts.proofs.ninja.push_comments.Given as goal

abbrev pub invariant-loop-command : goal.invariant-loop-command
invariant-loop-command l = string_bytes l.text ++ flat_map comment (drop l.command-index l.dropped) ≡ string_bytes l.fn.text ++ flat_map comment l.dropped
