use Rattle.std.proofs.Common.{◌≡◌, ◌++◌, drop}
use Rattle.compilers.specs.Listed.{listed_group}
use Rattle.compilers.proofs.plans.listed.push_group.Given as goal

abbrev pub invariant-loop-place : goal.invariant-loop-place
invariant-loop-place l = l.listed.items ++ listed_group l.group l.place (drop l.place l.commands) ≡ l.fn.listed.items ++ listed_group l.group 0 l.commands
