use Rattle.std.proofs.Common.{◌≡◌, ◌≤◌, drop, length}
use Rattle.dry_run_pairs.specs.Names as spec
use Rattle.dry_run_pairs.proofs.names.folder_front.Given as goal

abbrev pub invariant-loop-folder : goal.invariant-loop-folder
invariant-loop-folder l = (spec.below_all (drop l.folder-index l.folders) l.rest ≡ spec.below_all l.folders l.name) × (length l.rest ≤ length l.name)
