-- What `parse` gives is the number that a text reads as.
use Rattle.std.proofs.Common.{◌≡◌, ℕ, ◌<◌, ◌^◌, ◌==◌, List, [], ◌∷◌, Bool, true, false, ◌&&◌, cond, Some, None, Result, length, refl, arith, rules, eqb-true, ltb-true, lt-ltb}
use Rattle.std.specs.Result.{OkIff, result_ok}
use Rattle.std.specs.Str.{all_ascii_digits}
use Rattle.std.specs.Str.Parse.{ParsesUnsigned}
use Rattle.std.proofs.lemmas.Bool.{cond-true, eqb-false, false≢true}
use Rattle.std.proofs.lemmas.Str.Parse.{IsNumeralModel, numerals_by_fold, parse_plain, parse_plus}
use Rattle.host_lines.specs.KeepThreads.{digits_after, is_number, number_of}

numerals : IsNumeralModel (λ ds. all_ascii_digits ds ≡ true) (digits_after 0)
numerals = numerals_by_fold _ (search rules) digits_after (search rules)

both : (a b : Bool) → (a && b) ≡ true → (a ≡ true) × (b ≡ true)
both a b e = grind (arith, false≢true)

-- the digits after the sign
digits_parsed : {E : Type 0} (ds : List ℕ) (r : Result ℕ E) → OkIff r ((all_ascii_digits ds ≡ true) × (0 < length ds) × (digits_after 0 ds < 2 ^ 64)) (digits_after 0 ds) → result_ok r ≡ cond (is_number ds) (Some (digits_after 0 ds)) None
digits_parsed ds r h = grind (arith, cond-true, lt-ltb, both, ltb-true)

-- the number that `parse` gives, if it gives one
pub number_parsed : {E : Type 0} (bs : List ℕ) (r : Result ℕ E) → ParsesUnsigned 64 10 bs r → result_ok r ≡ number_of bs
number_parsed [] r h = digits_parsed [] r (parse_plain numerals 64 [] r h (λ e. omega arith))
number_parsed (c ∷ cs) r h =
    elim (c == 43)
    as (λ b. (c == 43) ≡ b → result_ok r ≡ cond (is_number (cond b cs (c ∷ cs))) (Some (digits_after 0 (cond b cs (c ∷ cs)))) None)
    [ true ↦ λ yes. digits_parsed cs r (parse_plus numerals 64 (c ∷ cs) r h (eqb-true c 43 yes)) | false ↦ λ no. digits_parsed (c ∷ cs) r (parse_plain numerals 64 (c ∷ cs) r h (eqb-false c 43 no)) ]
    refl
