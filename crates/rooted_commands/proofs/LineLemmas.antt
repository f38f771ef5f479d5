-- A text is its first line and the others.
use Rattle.std.proofs.Common.{◌≡◌, ℕ, ◌+◌, ◌≤◌, ◌==◌, true, false, cond, eqb, List, [], ◌∷◌, length, take, drop, ap, sym, ◌∙◌, subst, refl, arith, one-add}
use Rattle.rooted_commands.specs.Markers.{line_length, lines_of, with_byte}

shift : (c m : ℕ) (text : List ℕ) → with_byte c (take m text ∷ lines_of (drop m text)) ≡ take (1 + m) (c ∷ text) ∷ lines_of (drop (1 + m) (c ∷ text))
shift c m text = subst (λ n. (c ∷ take m text) ∷ lines_of (drop m text) ≡ take n (c ∷ text) ∷ lines_of (drop n (c ∷ text))) (sym (one-add m)) refl

longer : (c : ℕ) (cs : List ℕ) → with_byte c (lines_of cs) ≡ take (1 + line_length cs) (c ∷ cs) ∷ lines_of (drop (1 + line_length cs) (c ∷ cs))
longer c [] = refl
longer c (d ∷ ds) =
    elim (eqb d 10)
    as (λ b. with_byte c (cond b ((d ∷ []) ∷ lines_of ds) (with_byte d (lines_of ds))) ≡ take (1 + cond b 1 (1 + line_length ds)) (c ∷ d ∷ ds) ∷ lines_of (drop (1 + cond b 1 (1 + line_length ds)) (c ∷ d ∷ ds))) [
      | true ↦ shift c 1 (d ∷ ds)
      | false ↦ ap (with_byte c) (longer d ds) ∙ shift c (1 + line_length ds) (d ∷ ds)
    ]

first : (c : ℕ) (cs : List ℕ) → lines_of (c ∷ cs) ≡ take (line_length (c ∷ cs)) (c ∷ cs) ∷ lines_of (drop (line_length (c ∷ cs)) (c ∷ cs))
first c cs =
    elim (eqb c 10)
    as (λ b. cond b ((c ∷ []) ∷ lines_of cs) (with_byte c (lines_of cs)) ≡ take (cond b 1 (1 + line_length cs)) (c ∷ cs) ∷ lines_of (drop (cond b 1 (1 + line_length cs)) (c ∷ cs)))
    [ true ↦ refl | false ↦ longer c cs ]

pub cut-first : (text : List ℕ) → (length text == 0) ≡ false → lines_of text ≡ take (line_length text) text ∷ lines_of (drop (line_length text) text)
cut-first [] none = cc
cut-first (c ∷ cs) some = first c cs

pub has-byte : (text : List ℕ) → (length text == 0) ≡ false → 1 ≤ line_length text
has-byte [] none = cc
has-byte (c ∷ cs) some = elim (eqb c 10) as (λ b. 1 ≤ cond b 1 (1 + line_length cs)) [ true ↦ omega arith | false ↦ omega arith ]
