use Rattle.std.proofs.Common.{◌≡◌, ◌++◌, map, string_bytes, drop}
use Rattle.command_files.specs.Touched.{readers_seen, writers_seen, with_numbers, touching_either}
use Rattle.command_files.proofs.touched.Touched.write_all.Given as goal

-- what the paths that are left add is what all paths add
abbrev pub invariant-loop-path : goal.invariant-loop-path
invariant-loop-path l =
    (l.needs.items ++ touching_either l.number (readers_seen l.self) (writers_seen l.self) (map string_bytes (drop l.path-index l.paths))
    ≡ l.initial.needs.items ++ touching_either l.number (readers_seen l.initial.self) (writers_seen l.initial.self) (map string_bytes l.paths))
    × (readers_seen l.self ≡ readers_seen l.initial.self)
    × (with_numbers (writers_seen l.self) (map string_bytes (drop l.path-index l.paths)) l.number ≡ with_numbers (writers_seen l.initial.self) (map string_bytes l.paths) l.number)
