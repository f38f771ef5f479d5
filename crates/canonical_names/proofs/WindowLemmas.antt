-- Which names of a length stand in a text, by the parts of it that have that length.
use Rattle.std.proofs.Common.{◌≡◌, ℕ, ◌+◌, ◌-◌, ◌<◌, ◌≤◌, ◌&&◌, ◌||◌, Bool, true, false, suc, zero, List, [], ◌∷◌, is_some, map, refl, ap, sym, ◌∙◌, subst, eqb, nat_eq, nat_le, length, fold, take, drop, arith, string_bytes, String, get_or, add-one, bytes_eq, IsUtf8, IsCharBoundary, Global, length-take-le}
use Rattle.std.specs.List.{list_any, starts_with}
use Rattle.std.specs.Map.{lookup}
use Rattle.std.proofs.lemmas.Bool.{false≢true, false_from_ne_true, or_from, or_parts}
use Rattle.std.proofs.lemmas.List.{length-take}
use Rattle.std.proofs.lemmas.Slice.Eq.{bytes_eq-Decides}
use Rattle.std.proofs.lemmas.Str.{IsUtf8-string_bytes, IsUtf8-drop, IsCharBoundary-from_take, IsCharBoundary-from_rest, IsCharBoundary-start}
use Rattle.std.proofs.Math.Bool.{and-false, and-or_distrib_left}
use Rattle.texts.specs.Variables.{pair_of}
use Rattle.canonical_names.specs.Alike.{holds}
use Rattle.canonical_names.specs.Counted.{old_names}
use Rattle.canonical_names.specs.References.{longer, longest_in, stand_of, window_is, windows_are}
use Rattle.canonical_names.proofs.AlikeLemmas.{same-tests}
use Rattle.canonical_names.proofs.CanonicalLemmas.{bytes_eq-itself}
use Rattle.canonical_names.proofs.LengthLemmas.{longest-bound, longer-least, fold-more}

-- tests of all names
any-none : {A : Type 0} (f : A → Bool) → ((x : A) → f x ≡ false) → (xs : List A) → list_any f xs ≡ false
any-none f h [] = refl
any-none f h (x ∷ xs) = ap (λ b. b || list_any f xs) (h x) ∙ any-none f h xs

any-or : {A : Type 0} (f g : A → Bool) (xs : List A) → (list_any f xs || list_any g xs) ≡ list_any (λ x. f x || g x) xs
any-or f g [] = refl
any-or f g (x ∷ xs) = grind (arith, (any-or f g xs))

any-and : {A : Type 0} (a : Bool) (f : A → Bool) (xs : List A) → (a && list_any f xs) ≡ list_any (λ x. a && f x) xs
any-and a f xs = grind (arith, any-none)

module _ (k : ℕ) (names : List (List ℕ)) where
  -- a text that is shorter has no such part
  pub windows-none : (text : List ℕ) → length text < k → windows_are k names text ≡ false
  windows-none [] short = refl
  windows-none (c ∷ cs) short = grind (arith, (windows-none cs (omega (arith, short))))

  pub windows-from : 0 < k → (text : List ℕ) (i : ℕ) → i + k ≤ length text → windows_are k names (drop i text) ≡ (window_is k names (drop i text) || windows_are k names (drop (i + 1) text))
  windows-from some text i within = rw add-one (from text i within) where
    from : (text : List ℕ) (i : ℕ) → i + k ≤ length text → windows_are k names (drop i text) ≡ (window_is k names (drop i text) || windows_are k names (drop (suc i) text))
    from [] i within = absurd (omega (arith, within, some))
    from (c ∷ cs) zero within =
        let more : nat_le k (length (c ∷ cs)) ≡ true = grind (arith, within) in
        ap (λ b. (b && window_is k names (c ∷ cs)) || windows_are k names cs) more
    from (c ∷ cs) (suc i) within = from cs i (omega (arith, within))

  pub windows-end : 0 < k → (text : List ℕ) (i : ℕ) → length text < i + k → windows_are k names (drop i text) ≡ false
  windows-end some text i past = windows-none (drop i text) (short text i past) where
    short : (text : List ℕ) (i : ℕ) → length text < i + k → length (drop i text) < k
    short text zero past = omega (arith, past)
    short [] (suc i) past = some
    short (c ∷ cs) (suc i) past = short cs i (omega (arith, past))

  -- a part is a name of that length at the beginning
  part-begins : (text n : List ℕ) → (nat_le k (length text) && bytes_eq (take k text) n) ≡ true → (eqb (length n) k && starts_with nat_eq text n) ≡ true
  part-begins text n h = grind (arith, bytes_eq-Decides, bytes_eq-itself, length-take-le)

  part-whole : (text n : List ℕ) → (eqb (length n) k && starts_with nat_eq text n) ≡ true → (nat_le k (length text) && bytes_eq (take k text) n) ≡ true
  part-whole text n h = grind (arith, bytes_eq-Decides, bytes_eq-itself, length-take)

  part-is : (text n : List ℕ) → (nat_le k (length text) && bytes_eq (take k text) n) ≡ (eqb (length n) k && starts_with nat_eq text n)
  part-is text n =
      same-tests (nat_le k (length text) && bytes_eq (take k text) n) (eqb (length n) k && starts_with nat_eq text n) (part-begins text n) (part-whole text n)

  -- the parts that are names are the names that stand in the text
  pub windows-stand : 0 < k → (text : List ℕ) → windows_are k names text ≡ stand_of k names text
  windows-stand some [] = sym (any-none (λ n. eqb (length n) k && holds n []) none names) where
    none : (n : List ℕ) → (eqb (length n) k && bytes_eq n []) ≡ false
    none [] = let other : eqb (length {A = ℕ} []) k ≡ false = grind (arith, some) in ap (λ b. b && bytes_eq [] []) other
    none (c ∷ n) = and-false (eqb (length (c ∷ n)) k)
  windows-stand some (c ∷ cs) =
      simp (any-and, part-is, any-or, and-or_distrib_left, (windows-stand some cs))

-- the longest name, length by length
module _ (text : List ℕ) (k : ℕ) where
  less-fold : 0 < k → (names : List (List ℕ)) (best : ℕ) → stand_of k names text ≡ false → fold (longer text k) best names ≡ fold (longer text (k - 1)) best names
  less-fold some [] best none = refl
  less-fold some (n ∷ names) best none =
      grind (arith, or_parts, (less-fold some names (longer text (k - 1) best n)))

  pub longest-less : 0 < k → (names : List (List ℕ)) → stand_of k names text ≡ false → longest_in text k names ≡ longest_in text (k - 1) names
  longest-less some names none = less-fold some names 0 none

  stands-least : (names : List (List ℕ)) (best : ℕ) → stand_of k names text ≡ true → k ≤ fold (longer text k) best names
  stands-least [] best h = absurd (false≢true h)
  stands-least (n ∷ names) best h = grind (arith, longer-least, fold-more, (stands-least names (longer text k best n)))

  pub longest-stands : (names : List (List ℕ)) → stand_of k names text ≡ true → longest_in text k names ≡ k
  longest-stands names h = grind (arith, stands-least, longest-bound)

pub longest-nothing : (text : List ℕ) (names : List (List ℕ)) → longest_in text 0 names ≡ 0
longest-nothing text names = let bound : longest_in text 0 names ≤ 0 = longest-bound text 0 names in omega (arith, bound)

-- what is found in the map
pub found-named : (es : List (String Global × String Global)) (part : List ℕ) → is_some (lookup (λ k. bytes_eq part (string_bytes k)) es) ≡ list_any (bytes_eq part) (old_names (map pair_of es))
found-named [] part = refl
found-named (e ∷ es) part = grind (arith, (found-named es part))

-- a part that no characters make up is no name
module _ (text : List ℕ) (utf8 : IsUtf8 text) (i k : ℕ) (some : 0 < k) (within : i + k ≤ length text) where
  enough : (text : List ℕ) (i : ℕ) → i + k ≤ length text → k ≤ length (drop i text)
  enough text zero le = omega (arith, le)
  enough [] (suc i) le = absurd (omega (arith, le))
  enough (c ∷ cs) (suc i) le = enough cs i (omega (arith, le))

  front : (k : ℕ) (t : List ℕ) → 0 < k → get_or (take k t) 0 0 ≡ get_or t 0 0
  front k t lt = grind arith

  dropped : (t : List ℕ) (i : ℕ) → get_or (drop i t) 0 0 ≡ get_or t i 0
  dropped t zero = refl
  dropped [] (suc i) = refl
  dropped (c ∷ cs) (suc i) = dropped cs i

  begins : (n : List ℕ) → IsUtf8 n → take k (drop i text) ≡ n → IsCharBoundary text i
  begins n ok is =
      let head : get_or n 0 0 ≡ get_or text i 0 = ap (λ z. get_or z 0 0) (sym is) ∙ front k (drop i text) some ∙ dropped text i in
      let long : length n ≡ k = ap length (sym is) ∙ length-take-le k (drop i text) (enough text i within) in (
        omega (arith, within),
        λ lt high.
            let lead : 192 ≤ get_or n 0 0 = (IsCharBoundary-start n ok).1 (omega (arith, long, some)) (omega (arith, high, head)) in
            omega (arith, lead, head),
      )

  part-cut : (n : List ℕ) → IsUtf8 n → take k (drop i text) ≡ n → IsCharBoundary text i × IsCharBoundary text (i + k)
  part-cut n ok is =
      let first = begins n ok is in (
        first,
        IsCharBoundary-from_rest text i k (omega (arith, within)) (IsCharBoundary-from_take (drop i text) k (IsUtf8-drop text i utf8 first) (enough text i within) (subst IsUtf8 (sym is) ok)),
      )

  pub no-part : ((IsCharBoundary text i) → (IsCharBoundary text (i + k)) → ⊥) → (es : List (String Global × String Global)) → list_any (bytes_eq (take k (drop i text))) (old_names (map pair_of es)) ≡ false
  no-part never [] = refl
  no-part never (e ∷ es) =
      or_from (bytes_eq (take k (drop i text)) (string_bytes e.0)) _
      (false_from_ne_true _ (λ t.
      let cut = part-cut (string_bytes e.0) (IsUtf8-string_bytes e.0) ((bytes_eq-Decides (take k (drop i text)) (string_bytes e.0)).0 t) in never cut.0 cut.1)) (no-part never es)
