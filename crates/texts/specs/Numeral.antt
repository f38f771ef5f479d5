-- Numbers in decimal digits.
use Rattle.std.specs.Prelude.{ℕ, ◌+◌, List, [], ◌∷◌, map, ◌==◌, if◌then◌else◌, refl, codes}
use Rattle.std.specs.Int.Digits.{digits_of}
use Rattle.texts.specs.Rows.{Gives}

-- a number in decimal digits
abbrev pub numeral : ℕ → List ℕ
numeral n = if n == 0 then codes "0" else map (λ d. 48 + d) (digits_of 10 n)

pub numerals : Gives numeral ((0, codes "0") ∷ (10, codes "10") ∷ (1203, codes "1203") ∷ [])
numerals = refl
