-- A text that was pushed to, one part after the other.
use Rattle.std.proofs.Common.{◌≡◌, ℕ, suc, ◌+◌, ◌<◌, List, ◌∷◌, ◌++◌, length, drop, drop-cons, get_or, add-one, append_assoc, arith, ap, sym, ◌∙◌, Result, OnOk, is_ok, if◌then◌else◌}

-- what stands behind a pushed part stands behind that part and the text before it
pub pushed : (before part after rest : List ℕ) → after ≡ before ++ part → after ++ rest ≡ before ++ (part ++ rest)
pushed before part after rest e = ap (λ t. t ++ rest) e ∙ append_assoc before part rest

-- four pushed parts and what stands behind them
pub pushed-parts : (t0 t1 t2 t3 t4 a b c d e : List ℕ) → t1 ≡ t0 ++ a → t2 ≡ t1 ++ b → t3 ≡ t2 ++ c → t4 ≡ t3 ++ d → t4 ++ e ≡ t0 ++ (a ++ (b ++ (c ++ (d ++ e))))
pushed-parts t0 t1 t2 t3 t4 a b c d e h0 h1 h2 h3 =
    pushed t3 d t4 e h3 ∙ pushed t2 c t3 (d ++ e) h2 ∙ pushed t1 b t2 (c ++ (d ++ e)) h1 ∙ pushed t0 a t1 (b ++ (c ++ (d ++ e))) h0

-- a text that is pushed to last: what it is unless memory runs out
pub on-ok : {X E : Type 0} (r : Result X E) (new long short : List ℕ) → new ≡ (if is_ok r then long else short) → OnOk r (new ≡ long)
on-ok r new long short e = grind arith

-- what stands behind pushed items, as for texts
pub pushed-items : {X : Type 0} (before part after rest : List X) → after ≡ before ++ part → after ++ rest ≡ before ++ (part ++ rest)
pushed-items before part after rest e = ap (λ t. t ++ rest) e ∙ append_assoc before part rest

-- what is left at an element is that element and what is left behind it
pub next-left : {X : Type 0} (xs : List X) (i : ℕ) (item : X) → i < length xs → item ≡ get_or xs i item → drop i xs ≡ item ∷ drop (i + 1) xs
next-left xs i item within is = rw add-one (drop-cons xs i item within ∙ ap (λ w. w ∷ drop (suc i) xs) (sym is))
