use Rattle.std.proofs.Common.{◌≡◌, ◌+◌, length}
use Rattle.cuda_plans.proofs.RunningLemmas.{GroupSoFar}
use Rattle.cuda_plans.proofs.execution.run_group.Given as goal

abbrev pub invariant-loop-command : goal.invariant-loop-command
invariant-loop-command g l = record {
  far : GroupSoFar (g.R.Runner.log l.fn.runner) (g.R.Runner.log l.runner) l.group l.index l.command-iterator.rest.items l.fn.commands.items l.fn.output l.joined;
  room : l.index + length l.command-iterator.rest.items ≡ length l.fn.commands.items;
}
