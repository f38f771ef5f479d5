-- A name that is new is counted, and a name that was seen keeps its canonical name.
use Rattle.std.proofs.Common.{◌≡◌, ℕ, ◌+◌, ◌<◌, ◌≤◌, true, false, cond, suc, zero, List, [], ◌∷◌, ◌++◌, Option, Some, None, map, length, refl, ap, sym, ◌∙◌, nat_eq, codes, arith, string_bytes, String, slice_set, get_or, replicate, ◌^◌, unwrap_or, bytes_eq, Global}
use Rattle.std.specs.List.{Contains, ends_with, list_all, list_any, slice_get}
use Rattle.std.specs.Map.{lookup}
use Rattle.indexmap.specs.IndexMap.{insert_entry}
use Rattle.std.proofs.lemmas.Bool.{false≢true, false_from_ne_true, and_parts, and_from, or_parts}
use Rattle.texts.proofs.NumeralLemmas.{decimal-numeral}
use Rattle.std.proofs.lemmas.List.{map-append, length-append, length-map, get_or_default}
use Rattle.std.proofs.lemmas.List.Elements.{filter-append}
use Rattle.std.proofs.lemmas.Slice.Eq.{bytes_eq-Decides}
use Rattle.texts.specs.Path.{joined, folder_of}
use Rattle.texts.specs.Variables.{pair_of}
use Rattle.canonical_names.specs.Counted.{old_names, count_of, has_class, IsCounted, IsCount, decimal_file}
use Rattle.canonical_names.specs.Generated.{class_of_name}
use Rattle.canonical_names.specs.Renaming.{rank, canonical_file, canonical_in, canonical_or, canonical_name}
use Rattle.canonical_names.specs.SuffixRule.{is_apart, are_apart, are_suffixes}
use Rattle.canonical_names.proofs.CanonicalLemmas.{no-member, head-member, tail-member, member-cases, canonical-at, find-found, bytes_eq-itself, any-turned, rank-absent, rank-found, rank-settled}
use Rattle.canonical_names.proofs.SuffixLemmas.{one-end, all-apart}

-- what is found in the map
pub known-name : (f : List ℕ → List ℕ) (es : List (String Global × String Global)) (name : List ℕ) → map pair_of es ≡ map (λ n. (n, f n)) (old_names (map pair_of es)) →
    (v : String Global) → lookup (λ k. bytes_eq name (string_bytes k)) es ≡ Some v → (string_bytes v ≡ f name) × (list_any (bytes_eq name) (old_names (map pair_of es)) ≡ true)
known-name f [] name all v h = cc
known-name f (e ∷ es) name all v h = grind (arith, bytes_eq-Decides, (known-name f es name))

pub unknown-name : (es : List (String Global × String Global)) (name : List ℕ) → lookup (λ k. bytes_eq name (string_bytes k)) es ≡ None → list_any (bytes_eq name) (old_names (map pair_of es)) ≡ false
unknown-name [] name h = refl
unknown-name (e ∷ es) name h = grind (arith, (unknown-name es name))

-- names that were seen keep their canonical names
same-map : {A B : Type 0} (f g : A → B) (xs : List A) → ((x : A) → Contains xs x → f x ≡ g x) → map f xs ≡ map g xs
same-map f g [] h = refl
same-map f g (x ∷ xs) h = ap (λ y. y ∷ map f xs) (h x (head-member x xs)) ∙ ap (λ ys. g x ∷ ys) (same-map f g xs (λ y m. h y (tail-member x xs y m)))

pub member-among : (names : List (List ℕ)) (m : List ℕ) → Contains names m → list_any (λ n. bytes_eq n m) names ≡ true
member-among [] m h = absurd (no-member m h)
member-among (x ∷ xs) m h = grind (arith, member-cases, bytes_eq-itself, (member-among xs m))

canonical-stays : (names more : List (List ℕ)) (m : List ℕ) (o : Option (List ℕ)) → list_any (λ n. bytes_eq n m) names ≡ true → canonical_or (names ++ more) m o ≡ canonical_or names m o
canonical-stays names more m o h = grind (arith, rank-found)

rank-same : (class n : List ℕ) (names : List (List ℕ)) → list_any (bytes_eq n) names ≡ false → rank class (names ++ n ∷ []) n ≡ rank class names n
rank-same class n names new = grind (arith, any-turned, rank-settled, rank-absent)

-- a new name's rank is the counter of its class
pub rank-counted : (class n : List ℕ) (names : List (List ℕ)) → list_any (bytes_eq n) names ≡ false → rank class names n ≡ count_of names class
rank-counted class n names new = rank-absent class n names (sym (any-turned class n names) ∙ new)

-- counters
count-of-push : (names : List (List ℕ)) (n class : List ℕ) → count_of (names ++ n ∷ []) class ≡ count_of names class + cond (ends_with nat_eq n class) 1 0
count-of-push names n class = grind (arith, filter-append, length-append)

count-other : (names : List (List ℕ)) (n class : List ℕ) → ends_with nat_eq n class ≡ false → count_of names class ≡ count_of (names ++ n ∷ []) class
count-other names n class other = grind (arith, count-of-push)

counts-others : (names : List (List ℕ)) (n s : List ℕ) → ends_with nat_eq n s ≡ true → (suffixes : List (List ℕ)) → list_all (is_apart s) suffixes ≡ true → map (count_of names) suffixes ≡ map (count_of (names ++ n ∷ [])) suffixes
counts-others names n s ends [] h = refl
counts-others names n s ends (t ∷ suffixes) h =
    grind (arith, count-other, one-end, (counts-others names n s ends suffixes))

apart-at : (s : List ℕ) (suffixes : List (List ℕ)) (i : ℕ) (class : List ℕ) → list_all (is_apart s) suffixes ≡ true → slice_get suffixes i ≡ Some class → is_apart s class ≡ true
apart-at s [] i class h at = cc
apart-at s (t ∷ suffixes) zero class h at = grind (arith, and_parts)
apart-at s (t ∷ suffixes) (suc i) class h at = apart-at s suffixes i class (and_parts (is_apart s t) (list_all (is_apart s) suffixes) h).1 at

counts-raised : (names : List (List ℕ)) (n class : List ℕ) → ends_with nat_eq n class ≡ true → (suffixes : List (List ℕ)) → are_apart suffixes ≡ true → (i : ℕ) → slice_get suffixes i ≡ Some class →
    slice_set (map (count_of names) suffixes) i (count_of names class + 1) ≡ map (count_of (names ++ n ∷ [])) suffixes
counts-raised names n class ends [] apart i at = cc
counts-raised names n class ends (s ∷ suffixes) apart zero at = grind (arith, and_parts, count-of-push, counts-others)
counts-raised names n class ends (s ∷ suffixes) apart (suc i) at =
    let parts = and_parts (list_all (is_apart s) suffixes) (are_apart suffixes) apart in
    let other = false_from_ne_true (ends_with nat_eq n s) (λ e. false≢true (sym (one-end n s class (apart-at s suffixes i class parts.0 at) e) ∙ ends)) in
    ap (λ k. k ∷ slice_set (map (count_of names) suffixes) i (count_of names class + 1)) (count-other names n s other)
    ∙ ap (λ ks. count_of (names ++ n ∷ []) s ∷ ks) (counts-raised names n class ends suffixes parts.1 i at)

pub count-at : (names suffixes : List (List ℕ)) (i : ℕ) (class : List ℕ) → slice_get suffixes i ≡ Some class → (d : ℕ) → get_or (map (count_of names) suffixes) i d ≡ count_of names class
count-at names [] i class at d = cc
count-at names (s ∷ suffixes) zero class at d = let is : s ≡ class = cc in ap (count_of names) is
count-at names (s ∷ suffixes) (suc i) class at d = count-at names suffixes i class at d

pub count-bound : (names : List (List ℕ)) (class : List ℕ) → count_of names class ≤ length names
count-bound [] class = omega arith
count-bound (n ∷ names) class = grind (arith, (count-bound names class))

-- nothing is counted at first
pub nothing-counted : (suffixes : List (List ℕ)) → are_suffixes suffixes ≡ true → (counts : List ℕ) → counts ≡ replicate (length suffixes) 0 → IsCounted suffixes [] [] counts
nothing-counted suffixes accepted counts zeros = record { accepted = accepted; classes = refl; canonical = refl; counted = zeros ∙ all-zero suffixes } where
  all-zero : (suffixes : List (List ℕ)) → replicate (length suffixes) 0 ≡ map (count_of []) suffixes
  all-zero [] = refl
  all-zero (s ∷ suffixes) = ap (λ ks. 0 ∷ ks) (all-zero suffixes)

-- one more name is counted
classes-push : (suffixes names : List (List ℕ)) (n : List ℕ) → list_all (has_class suffixes) names ≡ true → has_class suffixes n ≡ true → list_all (has_class suffixes) (names ++ n ∷ []) ≡ true
classes-push suffixes [] n h one = and_from (has_class suffixes n) true one refl
classes-push suffixes (m ∷ names) n h one = grind (arith, and_from, (classes-push suffixes names n))

pub name-counted : (suffixes names : List (List ℕ)) (pairs : List (List ℕ × List ℕ)) (counts : List ℕ) (n class : List ℕ) (i : ℕ) → IsCounted suffixes names pairs counts →
    slice_get suffixes i ≡ Some class → class_of_name suffixes n ≡ Some class → list_any (bytes_eq n) names ≡ false →
    IsCounted suffixes (names ++ n ∷ []) (pairs ++ (n, canonical_in names n class) ∷ []) (slice_set counts i (count_of names class + 1))
name-counted suffixes names pairs counts n class i before at is new = grind (arith, find-found, same-map, canonical-stays, member-among, rank-same, canonical-at, classes-push, map-append, counts-raised, all-apart)

pub decimal-file : (k : ℕ) (class : List ℕ) → k < 2 ^ 64 → decimal_file k class ≡ canonical_file k class
decimal-file k class small = ap (λ n. codes "x_" ++ (n ++ class)) (sym ((sym (decimal-numeral k small))))

pub old_names-length : (es : List (String Global × String Global)) → length (old_names (map pair_of es)) ≡ length es
old_names-length [] = refl
old_names-length (e ∷ es) = ap suc (old_names-length es)

pub counter-is : (suffixes names : List (List ℕ)) (pairs : List (List ℕ × List ℕ)) (counts : List ℕ) → IsCounted suffixes names pairs counts → (i : ℕ) (class : List ℕ) → slice_get suffixes i ≡ Some class → get_or counts i 0 ≡ count_of names class
counter-is suffixes names pairs counts h i class at = ap (λ ks. get_or ks i 0) h.counted ∙ count-at names suffixes i class at 0

pub pairs-push : (es : List (String Global × String Global)) (n c : String Global) → map pair_of (es ++ (n, c) ∷ []) ≡ map pair_of es ++ (string_bytes n, string_bytes c) ∷ []
pairs-push es n c = map-append pair_of es ((n, c) ∷ [])

-- a new name goes last in the map
pub entry-last : (es : List (String Global × String Global)) (n c : String Global) → list_any (bytes_eq (string_bytes n)) (old_names (map pair_of es)) ≡ false →
    insert_entry (λ (a b : String Global). bytes_eq (string_bytes a) (string_bytes b)) es n c ≡ es ++ (n, c) ∷ []
entry-last [] n c h = refl
entry-last (e ∷ es) n c h = grind (arith, or_parts, (entry-last es n c))

pub names-put : (es more : List (String Global × String Global)) (n c : String Global) → more ≡ es ++ (n, c) ∷ [] → old_names (map pair_of more) ≡ old_names (map pair_of es) ++ string_bytes n ∷ []
names-put es more n c is = ap (λ l. old_names (map pair_of l)) is ∙ simp map-append

pub class-at : (suffixes : List (List ℕ)) (i : ℕ) → i < length suffixes → (class : List ℕ) × (slice_get suffixes i ≡ Some class)
class-at [] i lt = absurd (omega (arith, lt))
class-at (s ∷ suffixes) zero lt = (s, refl)
class-at (s ∷ suffixes) (suc i) lt = class-at suffixes i (omega (arith, lt))

-- a counter is a number of names, of which there are no more than the map has entries
pub counter-limit : (suffixes names : List (List ℕ)) (pairs : List (List ℕ × List ℕ)) (counts : List ℕ) → IsCounted suffixes names pairs counts → (i : ℕ) → i < length suffixes → get_or counts i 0 ≤ length names
counter-limit suffixes names pairs counts h i within =
    let at = class-at suffixes i within in rw (counter-is suffixes names pairs counts h i at.0 at.1) (count-bound names at.0)

pub put-counted : (suffixes : List (List ℕ)) (es more : List (String Global × String Global)) (counts raised : List ℕ) (n c : String Global) (i k : ℕ) → IsCounted suffixes (old_names (map pair_of es)) (map pair_of es) counts →
    i < length suffixes → class_of_name suffixes (string_bytes n) ≡ slice_get suffixes i → list_any (bytes_eq (string_bytes n)) (old_names (map pair_of es)) ≡ false →
    string_bytes c ≡ canonical_name suffixes (old_names (map pair_of es)) (string_bytes n) → more ≡ es ++ (n, c) ∷ [] → IsCount suffixes (old_names (map pair_of es)) i k → raised ≡ slice_set counts i (k + 1) →
    IsCounted suffixes (old_names (map pair_of more)) (map pair_of more) raised
put-counted suffixes es more counts raised n c i k before within class new canonical is count up =
    let at = class-at suffixes i within in
    let names = old_names (map pair_of es) in
    grind (arith, names-put, pairs-push, (name-counted suffixes names (map pair_of es) counts (string_bytes n) at.0 i before at.1 (class ∙ at.1) new))

-- the canonical name of a name that is new, by the counter of its class
pub counted-name : (suffixes names : List (List ℕ)) (n suffix : List ℕ) (i k : ℕ) → i < length suffixes → class_of_name suffixes n ≡ slice_get suffixes i → unwrap_or (slice_get suffixes i) [] ≡ suffix → list_any (bytes_eq n) names ≡ false →
    IsCount suffixes names i k → k < 2 ^ 64 → joined (folder_of n) (decimal_file k suffix) ≡ canonical_name suffixes names n
counted-name suffixes names n suffix i k within class given new count small =
    grind (arith, decimal-file, canonical-at, rank-counted, (class-at suffixes i within))

-- what a counter reads as
pub counter-read : (suffixes names : List (List ℕ)) (pairs : List (List ℕ × List ℕ)) (counts : List ℕ) → IsCounted suffixes names pairs counts → (i x : ℕ) → i < length suffixes → x ≡ get_or counts i x → x ≡ get_or counts i 0
counter-read suffixes names pairs counts h i x within read = grind (arith, length-map, get_or_default)
