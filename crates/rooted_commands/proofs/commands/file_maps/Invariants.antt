use Rattle.std.proofs.Common.{◌≡◌, ◌++◌, map, drop, string_bytes}
use Rattle.std.specs.List.{flat_map}
use Rattle.rooted_commands.specs.Commands.{folder_maps}
use Rattle.rooted_commands.proofs.commands.file_maps.Given as goal

abbrev pub invariant-loop-folder : goal.invariant-loop-folder
invariant-loop-folder l = l.words ++ flat_map (folder_maps l.root l.at_top) (map string_bytes (drop l.folder-index l.folders)) ≡ flat_map (folder_maps l.root l.at_top) l.root.folders
