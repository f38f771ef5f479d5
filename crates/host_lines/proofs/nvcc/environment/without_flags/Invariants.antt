use Rattle.std.proofs.Common.{◌≡◌, ◌++◌, map, drop}
use Rattle.texts.specs.Variables.{pair_of}
use Rattle.host_lines.specs.NvccEnvironment.{without_flags}
use Rattle.host_lines.proofs.nvcc.environment.without_flags.Given as goal

abbrev pub invariant-loop-pair : goal.invariant-loop-pair
invariant-loop-pair l =
    l.left ++ without_flags (map pair_of (drop l.pair-index l.env_vars)) ≡ without_flags (map pair_of l.env_vars)
