use Rattle.std.proofs.Common.{◌≡◌, length}
use Rattle.command_keys.specs.Images.{image_name}
use Rattle.command_keys.proofs.images.image_name.Given as goal

abbrev pub invariant-loop-part : goal.invariant-loop-part
invariant-loop-part l = image_name l.rest ≡ image_name l.image

abbrev pub decreases-loop-part : goal.decreases-loop-part
decreases-loop-part l = length l.rest
