use Rattle.std.proofs.Common.{◌≡◌, map, length}
use denote.Text.{Utf8}
use denote.Shadow.{shadow}
use Rattle.dry_runs.specs.Limit.{left_behind}
use Rattle.dry_runs.specs.Candidates.{in_part, parts_of}
use Rattle.dry_runs.specs.LookupLimit.{tried_bytes}
use Rattle.dry_runs.proofs.lookup_limit.left_behind_lookup.Given as goal

-- what the parts that are left leave of the room is what all parts leave
abbrev pub invariant-loop-part : goal.invariant-loop-part
invariant-loop-part l =
    shadow (Utf8 l.rest)
    × (left_behind l.room (tried_bytes (map (in_part l.program l.folder) (parts_of l.rest))) ≡ left_behind l.left (tried_bytes (map (in_part l.program l.folder) (parts_of l.path))))

abbrev pub decreases-loop-part : goal.decreases-loop-part
decreases-loop-part l = length l.rest
