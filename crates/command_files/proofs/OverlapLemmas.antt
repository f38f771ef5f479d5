-- Commands that overlap are commands cut into parts.
use Rattle.std.proofs.Common.{◌≡◌, ℕ, zero, suc, ◌<◌, ◌≤◌, List, [], ◌∷◌, true, length, get_or, refl, ap, arith}
use Rattle.std.proofs.lemmas.Bool.{false≢true, eq-eqb}
use Rattle.command_files.specs.Files.{Files, must_follow}
use Rattle.command_files.specs.Order.{files_at, Hold}
use Rattle.command_files.specs.Overlap.{ArePartsOf, part_follows, part_needs, part_records, OverlapsAgree}
use Rattle.command_files.proofs.NeedLemmas.{length-needs_behind, needs_each}
use Rattle.command_files.proofs.OrderLemmas.{runs_agree}

length-part_records : (plan : List Files) (parts : List ℕ) → length (part_records plan parts) ≡ length parts
length-part_records plan [] = refl
length-part_records plan (p ∷ ps) = ap suc (length-part_records plan ps)

part_at : (plan : List Files) (parts : List ℕ) (i : ℕ) → i < length parts → files_at (part_records plan parts) i ≡ files_at plan (get_or parts i 0)
part_at plan [] i h = absurd (omega arith)
part_at plan (p ∷ ps) zero h = refl
part_at plan (p ∷ ps) (suc i) h = part_at plan ps i (omega arith)

follows : (plan : List Files) (needs : List (List ℕ)) → Hold must_follow plan needs → (a b : ℕ) → a ≤ b → b < length plan → must_follow (files_at plan a) (files_at plan b) ≡ true → part_follows needs a b ≡ true
follows plan needs holds a b h k e = grind (arith, false≢true, eq-eqb)

parts_hold : (plan : List Files) (needs : List (List ℕ)) (parts : List ℕ) → Hold must_follow plan needs → ArePartsOf plan parts → Hold must_follow (part_records plan parts) (part_needs needs parts)
parts_hold plan needs parts holds are = grind (arith, length-needs_behind, length-part_records, needs_each, follows, part_at)

pub overlaps_agree : OverlapsAgree must_follow
overlaps_agree plan needs parts ran effects contents holds are is stay = grind (arith, runs_agree, parts_hold)
