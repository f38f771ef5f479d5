-- The numbers by which Unix says how a process ended.
use Rattle.std.proofs.Common.{[], ◌∷◌, ◌-◌, ◌*◌, ◌%◌, ℤ, pos, negsuc, refl}
use Rattle.texts.specs.Rows.{Gives}

-- the number of a process that exits with a code, of which the low eight bits count; they stand in bits 8 to 15
abbrev pub status_of_code : ℤ → ℤ
status_of_code (pos n) = pos (n % 256 * 256)
status_of_code (negsuc n) = pos ((255 - n % 256) * 256)

-- examples: three, minus two, and a code above a byte
pub statuses_of_codes : Gives status_of_code ((pos 3, pos 768) ∷ (negsuc 1, pos 65024) ∷ (pos 257, pos 256) ∷ [])
statuses_of_codes = refl
