use Rattle.std.proofs.Common.{◌≡◌, ◌++◌, map, length}
use denote.Text.{Utf8}
use denote.Shadow.{shadow}
use Rattle.dry_runs.specs.Candidates.{in_part, parts_of}
use Rattle.dry_runs.proofs.search_path.candidates.Given as goal

-- the paths so far, and those in the parts that are left, are all
abbrev pub invariant-loop-part : goal.invariant-loop-part
invariant-loop-part l = shadow (Utf8 l.rest) × (l.paths ++ map (in_part l.program l.folder) (parts_of l.rest) ≡ map (in_part l.program l.folder) (parts_of l.path))

abbrev pub decreases-loop-part : goal.decreases-loop-part
decreases-loop-part l = length l.rest
