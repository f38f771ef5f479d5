use Rattle.std.proofs.Common.{◌≡◌, map, string_bytes, drop}
use Rattle.rooted_commands.specs.Paths as spec
use Rattle.rooted_commands.proofs.paths.behind_first.Given as goal

abbrev pub invariant-loop-folder : goal.invariant-loop-folder
invariant-loop-folder l = spec.behind_first (map string_bytes (drop l.folder-index l.folders)) l.path ≡ spec.behind_first (map string_bytes l.folders) l.path
