use Rattle.std.proofs.Common.{◌≡◌, ◌++◌, map, string_bytes, drop}
use Rattle.command_files.specs.Touched.{readers_seen, writers_seen, with_numbers, touching}
use Rattle.command_files.proofs.touched.Touched.read_all.Given as goal

-- what the paths that are left add is what all paths add
abbrev pub invariant-loop-path : goal.invariant-loop-path
invariant-loop-path l =
    (l.needs.items ++ touching l.number (writers_seen l.self) (map string_bytes (drop l.path-index l.paths))
    ≡ l.initial.needs.items ++ touching l.number (writers_seen l.initial.self) (map string_bytes l.paths))
    × (with_numbers (readers_seen l.self) (map string_bytes (drop l.path-index l.paths)) l.number ≡ with_numbers (readers_seen l.initial.self) (map string_bytes l.paths) l.number)
    × (writers_seen l.self ≡ writers_seen l.initial.self)
