-- From what is compared at once to the place where a span ends.
use Rattle.std.proofs.Common.{ℕ, List, [], ◌∷◌, ◌++◌, ◌≡◌, refl, sym, ap, ◌∙◌, Bool, true, false, not, ◌||◌, ◌==◌, eqb, ◌<◌, ◌≤◌, ◌+◌, ◌%◌, ◌^◌, arith, length, take, drop, cond, map, replicate, bit_or}
use Rattle.std.specs.List.{position_or_len}
use Rattle.std.proofs.lemmas.List.{length-map, take-append-drop, drop-drop}
use Rattle.std.proofs.lemmas.Simd.{map-map, mask_l-mod, zip2_splat, zip2_of_maps, length-chunk, first_set_mask_l}
use lib.Lanes.{zip2, mask_l, top}
use lib.Count.{count_trailing_zeros}

-- ---- the bytes that are compared at once

-- what a comparison leaves at a byte: all bits where the test passes, and none elsewhere
abbrev marked : (ℕ → Bool) → ℕ → ℕ
marked test b = cond (test b) 255 0

either_mark : (a b : Bool) → bit_or (cond a 255 0) (cond b 255 0) ≡ cond (a || b) 255 0
either_mark a b = grind arith

top_mark : (a : Bool) → top 7 (cond a 255 0) ≡ a
top_mark a = grind arith

pub equal_marks : (b : ℕ) (v : List ℕ) → length v ≡ 16 → zip2 (λ x y. cond (eqb x y) 255 0) v (replicate 16 b) ≡ map (marked (λ x. x == b)) v
equal_marks b v long = zip2_splat _ v 16 b long

pub either_marks : (p q : ℕ → Bool) (v : List ℕ) {a b : List ℕ} → a ≡ map (marked p) v → b ≡ map (marked q) v → zip2 bit_or a b ≡ map (marked (λ x. p x || q x)) v
either_marks p q v first second = zip2_of_maps bit_or (marked p) (marked q) v first second ∙ ap (λ f. map f v) (λ i x. either_mark (p x) (q x) i)

pub first_mark : (p : ℕ → Bool) (v : List ℕ) {z : List ℕ} (n : ℕ) → length v ≡ 16 → z ≡ map (marked p) v →
    n ≡ cond (eqb (mask_l (map (top 7) z) % 2 ^ 64) 0) 16 (count_trailing_zeros 64 (mask_l (map (top 7) z) % 2 ^ 64)) → n ≡ position_or_len p v
first_mark p v {z} n long is count =
    let tops : map (top 7) z ≡ map p v = ap (map (top 7)) is ∙ map-map (top 7) (marked p) v ∙ ap (λ f. map f v) (λ i x. top_mark (p x) i) in
    let bits : mask_l (map (top 7) z) % 2 ^ 64 ≡ mask_l (map p v) = ap (λ l. mask_l l % 2 ^ 64) tops ∙ mask_l-mod (map p v) 64 (omega (arith, length-map v p, long)) in
    grind (arith, first_set_mask_l)

-- ---- the bytes before and behind them

ends_in : (p : ℕ → Bool) (xs ys : List ℕ) → position_or_len p xs < length xs → position_or_len p (xs ++ ys) ≡ position_or_len p xs
ends_in p [] ys less = absurd (omega arith)
ends_in p (x ∷ xs) ys less =
    elim (p x) as (λ b. cond (not b) (1 + position_or_len p xs) 0 < length (x ∷ xs) → cond (not b) (1 + position_or_len p (xs ++ ys)) 0 ≡ cond (not b) (1 + position_or_len p xs) 0)
    [ true ↦ λ _. refl | false ↦ λ l. ap (λ n. 1 + n) (ends_in p xs ys (omega (arith, l))) ] less

goes_past : (p : ℕ → Bool) (xs ys : List ℕ) → length xs ≤ position_or_len p xs → position_or_len p (xs ++ ys) ≡ length xs + position_or_len p ys
goes_past p [] ys all = omega arith
goes_past p (x ∷ xs) ys all =
    elim (p x) as (λ b. length (x ∷ xs) ≤ cond (not b) (1 + position_or_len p xs) 0 → cond (not b) (1 + position_or_len p (xs ++ ys)) 0 ≡ length (x ∷ xs) + position_or_len p ys)
    [ true ↦ λ l. absurd (omega arith) | false ↦ λ l. omega (arith, goes_past p xs ys (omega (arith, l))) ] all

pub run_ends : (p : ℕ → Bool) (xs : List ℕ) (at run : ℕ) → at + 16 ≤ length xs → run ≡ position_or_len p (take 16 (drop at xs)) → run < 16 → position_or_len p (drop at xs) ≡ run
run_ends p xs at run room is less = grind (arith, length-chunk, take-append-drop, ends_in)

pub run_goes_on : (p : ℕ → Bool) (xs : List ℕ) (at run : ℕ) → at + 16 ≤ length xs → run ≡ position_or_len p (take 16 (drop at xs)) → 16 ≤ run → position_or_len p (drop at xs) ≡ 16 + position_or_len p (drop (at + 16) xs)
run_goes_on p xs at run room is past =
    let long : length (take 16 (drop at xs)) ≡ 16 = length-chunk at 16 xs room in
    ap (position_or_len p) (sym (take-append-drop 16 (drop at xs)))
    ∙ goes_past p (take 16 (drop at xs)) (drop 16 (drop at xs)) (omega (arith, long, is))
    ∙ ap (λ n. n + position_or_len p (drop 16 (drop at xs))) long ∙ ap (λ ys. 16 + position_or_len p ys) (drop-drop 16 at xs)
