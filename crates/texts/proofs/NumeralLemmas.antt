-- Numerals: a number below 2^64 is printed as its numeral, numerals are UTF-8, and they tell numbers apart.
use Rattle.std.proofs.Common.{◌≡◌, ◌≢◌, ℕ, ◌+◌, ◌-◌, ◌<◌, ◌^◌, Bool, false, cond, eqb, eqb-true, List, [], ◌∷◌, map, refl, ap, sym, ◌∙◌, subst, get_or, codes, arith, decimal, IsUtf8, IsAscii}
use Rattle.std.specs.Int.Digits.{digits_of}
use Rattle.std.specs.List.{AllByRecursion}
use Rattle.std.proofs.lemmas.Bool.{cond_both, eqb-false}
use Rattle.std.proofs.lemmas.Fmt.{decimal_digit, decimal-digits_of}
use Rattle.std.proofs.lemmas.Int.Digits.{all_below_base_digits_of, same_from_digits_of, first_digits_of}
use Rattle.std.proofs.lemmas.Str.{IsUtf8-from_ascii}
use Rattle.std.proofs.lemmas.Str.Ascii.{IsAscii-nil, IsAscii-cons}
use Rattle.texts.specs.Numeral.{numeral}

positive : (n : ℕ) → eqb n 0 ≡ false → 0 < n
positive n h = let some : n ≢ 0 = eqb-false n 0 h in omega (arith, some)

printed : (n : ℕ) (zero : Bool) → n < 2 ^ 64 → eqb n 0 ≡ zero → decimal n ≡ cond zero (codes "0") (map (λ d. 48 + d) (digits_of 10 n))
printed n zero fits e = grind (arith, eqb-true, decimal_digit, decimal-digits_of, positive)

pub decimal-numeral : (n : ℕ) → n < 2 ^ 64 → decimal n ≡ numeral n
decimal-numeral n fits = printed n (eqb n 0) fits refl

ascii-digits : (ds : List ℕ) → AllByRecursion (λ d. d < 10) ds → IsAscii (map (λ d. 48 + d) ds)
ascii-digits [] small = IsAscii-nil
ascii-digits (d ∷ ds) small = let low : d < 10 = small.0 in IsAscii-cons (48 + d) (map (λ d. 48 + d) ds) (omega arith) (ascii-digits ds small.1)

pub utf8-numeral : (n : ℕ) → IsUtf8 (numeral n)
unfolding lib.Utf8.encode
utf8-numeral n = grind (arith, cond_both, IsUtf8-from_ascii, ascii-digits, all_below_base_digits_of)

-- two lists of digits that are written alike are one
unshift : (ds : List ℕ) → map (λ d. d - 48) (map (λ d. 48 + d) ds) ≡ ds
unshift [] = refl
unshift (d ∷ ds) = grind (arith, (unshift ds))

shift-cancel : (xs ys : List ℕ) → map (λ d. 48 + d) xs ≡ map (λ d. 48 + d) ys → xs ≡ ys
shift-cancel xs ys e = sym (unshift xs) ∙ ap (map (λ d. d - 48)) e ∙ unshift ys

-- no other number is written as nothing is
no-zero_digit : (n : ℕ) → 0 < n → codes "0" ≡ map (λ d. 48 + d) (digits_of 10 n) → ⊥
no-zero_digit n pos e =
    let bad : 0 < get_or (0 ∷ []) 0 0 = subst (λ ds. 0 < get_or ds 0 0) (sym (unshift (digits_of 10 n)) ∙ sym (ap (map (λ d. d - 48)) e)) (first_digits_of 10 n (omega arith) pos) in
    grind arith

pub numeral-same : (m n : ℕ) → numeral m ≡ numeral n → m ≡ n
numeral-same m n e = grind (arith, eqb-true, no-zero_digit, positive, same_from_digits_of, shift-cancel)
