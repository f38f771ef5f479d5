use Rattle.std.proofs.Common.{◌≡◌, length}
use Rattle.std.specs.List.{list_any}
use Rattle.command_keys.specs.Images.{is_file, parts_of}
use Rattle.command_keys.proofs.images.names_file.Given as goal

abbrev pub invariant-loop-part : goal.invariant-loop-part
invariant-loop-part l = list_any is_file (parts_of l.rest) ≡ list_any is_file (parts_of l.image)

abbrev pub decreases-loop-part : goal.decreases-loop-part
decreases-loop-part l = length l.rest
