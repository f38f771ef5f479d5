use Rattle.std.proofs.Common.{◌≡◌, ◌+◌, ◌≤◌, ◌<◌, ◌^◌, map, vec_items, length}
use Rattle.cuda_plans.specs.Schedule.{chunk_of, device_groups, steps}
use Rattle.cuda_plans.proofs.ScheduleLemmas.{PlanSoFar}
use Rattle.cuda_plans.proofs.execution.run_groups.Given as goal

abbrev pub invariant-loop-commands : goal.invariant-loop-commands
invariant-loop-commands g l = record {
  far : PlanSoFar (chunk_of (device_groups l.fn.groups) l.num_parallel) (g.R.Runner.log l.fn.runner) (g.R.Runner.log l.runner) (steps l.fn.groups) l.group (map vec_items l.commands-iterator.rest.items) l.chunk l.joined;
  room : l.group + length l.commands-iterator.rest.items < 2 ^ 64;
  devices : l.device_groups ≡ device_groups l.fn.groups;
  ordered : l.chunk ≤ chunk_of (device_groups l.fn.groups) l.num_parallel l.group;
}
