use Rattle.std.proofs.Common.{◌≡◌, map, string_bytes, drop}
use Rattle.plan_fitness.specs.Written.{seen, with_files}
use Rattle.plan_fitness.proofs.written.Written.add_all.Given as goal

-- what the paths that are left add is what all paths add
abbrev pub invariant-loop-path : goal.invariant-loop-path
invariant-loop-path l =
    with_files (seen l.self) (map string_bytes (drop l.path-index l.paths)) ≡ with_files (seen l.initial.self) (map string_bytes l.paths)
