use Rattle.std.proofs.Common.{◌≡◌, ◌++◌, string_bytes, drop}
use Rattle.plan_texts.specs.Script.{lines, script}
use Rattle.plan_texts.proofs.shell.script.Given as goal

abbrev pub invariant-loop-listed : goal.invariant-loop-listed
invariant-loop-listed l = string_bytes l.text ++ lines (drop l.listed-index l.commands) ≡ script l.tmp l.commands
