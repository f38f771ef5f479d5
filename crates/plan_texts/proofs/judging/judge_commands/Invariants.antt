use Rattle.std.proofs.Common.{◌≡◌, drop}
use Rattle.plan_texts.specs.Judging.{judged_commands}
use Rattle.plan_texts.proofs.judging.judge_commands.Given as goal

abbrev pub invariant-loop-listed : goal.invariant-loop-listed
invariant-loop-listed l = judged_commands l.format (drop l.listed-index l.commands) ≡ judged_commands l.format l.commands
