-- References in the order of their lengths, and what they make of a text.
use Rattle.std.proofs.Common.{◌≡◌, ℕ, ◌+◌, ◌-◌, ◌<◌, ◌++◌, true, false, List, [], ◌∷◌, Option, is_some, map, refl, ap, sym, ◌∙◌, subst, nat_eq, length, fold, take, arith, append_assoc, length-append}
use Rattle.std.specs.List.{list_any, list_all, ends_with, AllByRecursion, Contains}
use Rattle.std.proofs.lemmas.Bool.{false≢true, false_from_ne_true}
use Rattle.compilers.specs.Replacing.{replaced}
use Rattle.canonical_names.specs.Alike.{holds}
use Rattle.canonical_names.specs.Counted.{has_class, with_canonical}
use Rattle.canonical_names.specs.Generated.{class_of_name}
use Rattle.canonical_names.specs.Renaming.{insert_by, longest_first, canonical_name, rewritten}
use Rattle.canonical_names.specs.References.{replaced_by_all, longest_pairs_first}
use Rattle.canonical_names.specs.SuffixRule.{is_suffix, are_suffixes}
use Rattle.canonical_names.proofs.CanonicalLemmas.{find-found, ends-split}
use Rattle.canonical_names.proofs.ReplaceLemmas.{holds-split, holds-within}
use Rattle.canonical_names.proofs.RewriteLemmas.{none-rewritten}
use Rattle.canonical_names.proofs.SuffixLemmas.{each-member, each-suffix, none-member}

-- pairs of names and what they became are in the order of the names
module _ (f : List ℕ → List ℕ) where
  insert-mapped : (names : List (List ℕ)) (n : List ℕ) →
      insert_by {A = List ℕ × List ℕ} (λ p. length p.0) (map (λ m. (m, f m)) names) (n, f n) ≡ map (λ m. (m, f m)) (insert_by length names n)
  insert-mapped [] n = refl
  insert-mapped (m ∷ names) n = grind (arith, (insert-mapped names n))

  fold-mapped : (names sorted : List (List ℕ)) →
      fold (insert_by {A = List ℕ × List ℕ} (λ p. length p.0)) (map (λ m. (m, f m)) sorted) (map (λ m. (m, f m)) names)
      ≡ map (λ m. (m, f m)) (fold (insert_by length) sorted names)
  fold-mapped [] sorted = refl
  fold-mapped (n ∷ names) sorted =
      ap (λ ps. fold (insert_by {A = List ℕ × List ℕ} (λ p. length p.0)) ps (map (λ m. (m, f m)) names)) (insert-mapped sorted n)
      ∙ fold-mapped names (insert_by length sorted n)

  replaced-mapped : (names : List (List ℕ)) (text : List ℕ) → replaced_by_all (map (λ m. (m, f m)) names) text ≡ fold (λ t n. replaced n (f n) t) text names
  replaced-mapped [] text = refl
  replaced-mapped (n ∷ names) text = replaced-mapped names (replaced n (f n) text)

-- what all references make of a text
pub rewritten-by_pairs : (suffixes names : List (List ℕ)) (pairs : List (List ℕ × List ℕ)) → pairs ≡ map (with_canonical suffixes names) names → (text : List ℕ) →
    replaced_by_all (longest_pairs_first pairs) text ≡ rewritten suffixes names text
rewritten-by_pairs suffixes names pairs is text =
    ap (λ ps. replaced_by_all (longest_pairs_first ps) text) is
    ∙ ap (λ ps. replaced_by_all ps text) (fold-mapped (canonical_name suffixes names) names [])
    ∙ replaced-mapped (canonical_name suffixes names) (longest_first names) text

-- no name is empty
first-some : (s : List ℕ) → is_suffix s ≡ true → 0 < length s
first-some s h = grind (arith, false≢true)

pub class-found : (suffixes : List (List ℕ)) (n : List ℕ) (o : Option (List ℕ)) → class_of_name suffixes n ≡ o → is_some o ≡ true → (c : List ℕ) × Contains suffixes c × (ends_with nat_eq n c ≡ true)
class-found suffixes n o e h = grind (arith, false≢true, find-found)

named-some : (suffixes : List (List ℕ)) → are_suffixes suffixes ≡ true → (n : List ℕ) → has_class suffixes n ≡ true → 0 < length n
named-some suffixes accepted n h =
    let class = class-found suffixes n (class_of_name suffixes n) refl h in
    let parts : length n ≡ length (take (length n - length class.0) n) + length class.0 = ap length (ends-split n class.0 class.2) ∙ length-append (take (length n - length class.0) n) class.0 in
    grind (arith, (first-some class.0 (each-member is_suffix suffixes class.0 (each-suffix suffixes accepted) class.1)))

names-some : (suffixes : List (List ℕ)) → are_suffixes suffixes ≡ true → (names : List (List ℕ)) → list_all (has_class suffixes) names ≡ true → AllByRecursion (λ n. 0 < length n) names
names-some suffixes accepted [] h = tt
names-some suffixes accepted (n ∷ names) h = grind (arith, named-some, (names-some suffixes accepted names))

pairs-some : (f : List ℕ → List ℕ) (names : List (List ℕ)) → AllByRecursion (λ n. 0 < length n) names → AllByRecursion (λ (p : List ℕ × List ℕ). 0 < length p.0) (map (λ m. (m, f m)) names)
pairs-some f [] h = tt
pairs-some f (n ∷ names) h = (h.0, pairs-some f names h.1)

pub pairs-named : (suffixes names : List (List ℕ)) (pairs : List (List ℕ × List ℕ)) → are_suffixes suffixes ≡ true → list_all (has_class suffixes) names ≡ true → pairs ≡ map (with_canonical suffixes names) names →
    AllByRecursion (λ (p : List ℕ × List ℕ). 0 < length p.0) pairs
pairs-named suffixes names pairs accepted classes is =
    subst (AllByRecursion (λ (p : List ℕ × List ℕ). 0 < length p.0)) (sym is) (pairs-some (canonical_name suffixes names) names (names-some suffixes accepted names classes))

-- A text that holds no suffix holds no name: names end in a suffix.
pub name-needs_suffix : (suffixes : List (List ℕ)) (text n : List ℕ) → has_class suffixes n ≡ true → list_any (λ s. holds s text) suffixes ≡ false → holds n text ≡ false
name-needs_suffix suffixes text n class none =
    false_from_ne_true (holds n text) (λ e.
    let found = class-found suffixes n (class_of_name suffixes n) refl class in
    let front = take (length n - length found.0) n in
    let split = holds-split n text e in
    let whole : text ≡ (split.0 ++ front) ++ (found.0 ++ split.1) =
    split.2 ∙ ap (λ z. split.0 ++ (z ++ split.1)) (ends-split n found.0 found.2) ∙ simp append_assoc in
    false≢true (sym (none-member (λ t. holds t text) suffixes found.0 none found.1) ∙ ap (holds found.0) whole
    ∙ holds-within found.0 (split.0 ++ front) split.1))

pub no-suffix-no_names : (suffixes names : List (List ℕ)) (text : List ℕ) → list_all (has_class suffixes) names ≡ true → list_any (λ s. holds s text) suffixes ≡ false → list_any (λ n. holds n text) names ≡ false
no-suffix-no_names suffixes [] text classes none = refl
no-suffix-no_names suffixes (n ∷ names) text classes none =
    grind (arith, name-needs_suffix, (no-suffix-no_names suffixes names text))

pub rewritten-none : (suffixes names : List (List ℕ)) (text : List ℕ) → list_all (has_class suffixes) names ≡ true → list_any (λ s. holds s text) suffixes ≡ false → text ≡ rewritten suffixes names text
rewritten-none suffixes names text classes none = sym (none-rewritten suffixes names text (no-suffix-no_names suffixes names text classes none))
