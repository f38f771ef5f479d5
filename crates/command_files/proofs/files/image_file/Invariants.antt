use Rattle.std.proofs.Common.{◌≡◌, length}
use denote.Text.{Utf8}
use denote.Shadow.{shadow}
use Rattle.command_files.specs.CommandFiles.{file_of_parts, parts_of, image_file}
use Rattle.command_files.proofs.files.image_file.Given as goal

-- the file is that of the parts that are left
abbrev pub invariant-loop-part : goal.invariant-loop-part
invariant-loop-part l = shadow (Utf8 l.rest) × (file_of_parts (parts_of l.rest) ≡ image_file l.word)

abbrev pub decreases-loop-part : goal.decreases-loop-part
decreases-loop-part l = length l.rest
