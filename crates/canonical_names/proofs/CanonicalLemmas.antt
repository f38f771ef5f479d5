-- Canonical names, and the ranks in them, counted over the appearances of names.
use Rattle.std.proofs.Common.{◌≡◌, ℕ, ◌+◌, ◌++◌, ◌&&◌, ◌||◌, Bool, true, false, cond, eqb, ne_eqb, eqb-true, eq-eqb, List, [], ◌∷◌, Option, Some, refl, ap, sym, ◌∙◌, subst, nat_eq, length, fold, append_assoc, arith, append-nil, bytes_eq, ◌⊎◌, ◌-◌, ◌≤◌, None, inl, inr, map, take, drop, codes, option_map}
use Rattle.std.specs.List.{list_any, ends_with, filter, filter_map, cons_option, Contains, All, find}
use Rattle.std.proofs.lemmas.Bool.{false≢true, or_parts, or_from, and_from, cond_both, eqb-false, cases_lt}
use Rattle.std.proofs.lemmas.Slice.Eq.{bytes_eq-Decides}
use Rattle.std.specs.Int.Digits.{digits_of}
use Rattle.std.proofs.lemmas.List.{length-append, take-append-drop, append_cancel_left, append_cancel_right}
use Rattle.std.proofs.lemmas.List.Elements.{All-nil, All-push, All-contains, Contains-append_left, Contains-append_right, Contains-append_cases, Contains-push, Contains-push_cases}
use Rattle.std.proofs.lemmas.List.Sums.{AllPass-from_list_all}
use Rattle.std.proofs.Math.Seq.{drop-append_seam, drop-append-add}
use Rattle.compilers.specs.CommandLines.{CommandLine, words_of_command}
use Rattle.texts.specs.Lists.{with_name}
use Rattle.texts.specs.Path.{folder_of, is_bare, lacks, separator_after}
use Rattle.texts.proofs.PathLaw.{joined-keeps_folder, folders-cancel}
use Rattle.texts.specs.Numeral.{numeral}
use Rattle.texts.proofs.NumeralLemmas.{numeral-same}
use Rattle.canonical_names.specs.Generated.{generated_name, class_of_name, core_of, begins_with_dash}
use Rattle.canonical_names.specs.Renaming.{rank, seen_after_word, seen_after, canonical_file, canonical_in, canonical_or, canonical_name, names_of_run}
use Rattle.canonical_names.specs.Appearances.{appearances}
use Rattle.canonical_names.specs.CanonicalNames.{before_name, RankCountsNames, AreSuffixes, StandardAreSuffixes, DifferentNames, FolderAndClassStay}

-- equality of texts, by the test
pub bytes_eq-itself : (a : List ℕ) → bytes_eq a a ≡ true
bytes_eq-itself [] = refl
bytes_eq-itself (x ∷ xs) = and_from (eqb x x) (bytes_eq xs xs) (eq-eqb x x refl) (bytes_eq-itself xs)

pub eqb-turned : (a b : ℕ) → eqb a b ≡ eqb b a
eqb-turned a b = elim (eqb a b) as (λ t. eqb a b ≡ t → t ≡ eqb b a) [ true ↦ λ e. sym (eq-eqb b a (sym (eqb-true a b e))) | false ↦ λ e. sym (ne_eqb b a (λ k. eqb-false a b e (sym k))) ] refl

pub bytes_eq-turned : (a b : List ℕ) → bytes_eq a b ≡ bytes_eq b a
bytes_eq-turned [] [] = refl
bytes_eq-turned [] (y ∷ ys) = refl
bytes_eq-turned (x ∷ xs) [] = refl
bytes_eq-turned (x ∷ xs) (y ∷ ys) = ap (λ t. t && bytes_eq xs ys) (eqb-turned x y) ∙ ap (λ t. eqb y x && t) (bytes_eq-turned xs ys)

-- names are added one after the other
abbrev pub add : List (List ℕ) → List ℕ → List (List ℕ)
add seen n = with_name seen (Some n)

pub fold-append : (seen xs ys : List (List ℕ)) → fold add seen (xs ++ ys) ≡ fold add (fold add seen xs) ys
fold-append seen [] ys = refl
fold-append seen (x ∷ xs) ys = fold-append (add seen x) xs ys

-- the names of a run are the different ones among the names that appear
one-name : (o : Option (List ℕ)) (seen more : List (List ℕ)) → fold add (with_name seen o) more ≡ fold add seen (cons_option o more)
one-name o seen more = grind arith

pub words-names : (suffixes seen words : List (List ℕ)) → seen_after suffixes seen words ≡ fold add seen (filter_map (generated_name suffixes) words)
words-names suffixes seen [] = refl
words-names suffixes seen (word ∷ words) = simp (one-name, (words-names suffixes (seen_after_word suffixes seen word) words))

pub run-names : (suffixes seen : List (List ℕ)) (commands : List CommandLine) → fold (λ seen command. seen_after suffixes seen (words_of_command command)) seen commands ≡ fold add seen (appearances suffixes commands)
run-names suffixes seen [] = refl
run-names suffixes seen (command ∷ commands) = grind (arith, words-names, fold-append, (run-names suffixes (seen_after suffixes seen (words_of_command command)) commands))

-- names seen after some words, and then others
pub words-front : (suffixes seen words xs : List (List ℕ)) →
    fold add (seen_after suffixes seen words) xs ≡ fold add seen (filter_map (generated_name suffixes) words ++ xs)
words-front suffixes seen words xs =
    ap (λ s. fold add s xs) (words-names suffixes seen words) ∙ sym (fold-append seen (filter_map (generated_name suffixes) words) xs)

-- names that were seen stay in front
pub fold-front : (seen xs : List (List ℕ)) → (more : List (List ℕ)) × (fold add seen xs ≡ seen ++ more)
fold-front seen [] = ([], sym (append-nil seen))
fold-front seen (x ∷ xs) =
    elim (list_any (bytes_eq x) seen) as (λ t. (more : List (List ℕ)) × (fold add (cond t seen (seen ++ x ∷ [])) xs ≡ seen ++ more))
    [ true ↦ fold-front seen xs | false ↦ let rest = fold-front (seen ++ x ∷ []) xs in (x ∷ rest.0, rest.1 ∙ append_assoc seen (x ∷ []) rest.0) ]

module _ (class name : List ℕ) where
  -- whether the name is among some, and how many of them are of the class
  abbrev pub among : List (List ℕ) → Bool
  among names = list_any (λ n. bytes_eq n name) names

  abbrev pub count : List (List ℕ) → ℕ
  count names = length (filter (λ n. ends_with nat_eq n class) names)

  count-cons : (n : List ℕ) (names : List (List ℕ)) → cond (ends_with nat_eq n class) 1 0 + count names ≡ count (n ∷ names)
  count-cons n names = grind arith

  pub rank-absent : (seen : List (List ℕ)) → among seen ≡ false → rank class seen name ≡ count seen
  rank-absent [] h = refl
  rank-absent (n ∷ seen) h = grind (arith, or_parts, count-cons, (rank-absent seen))

  pub rank-settled : (seen more : List (List ℕ)) → among seen ≡ false → rank class (seen ++ name ∷ more) name ≡ count seen
  rank-settled [] more h = ap (λ b. cond b 0 (cond (ends_with nat_eq name class) 1 0 + rank class more name)) (bytes_eq-itself name)
  rank-settled (n ∷ seen) more h = grind (arith, or_parts, count-cons, (rank-settled seen more))

  among-push : (seen : List (List ℕ)) (x : List ℕ) → among seen ≡ false → bytes_eq x name ≡ false → among (seen ++ x ∷ []) ≡ false
  among-push [] x h k = or_from (bytes_eq x name) false k refl
  among-push (n ∷ seen) x h k = grind (arith, or_parts, or_from, (among-push seen x))

  among-add : (seen : List (List ℕ)) (x : List ℕ) → among seen ≡ false → bytes_eq x name ≡ false → among (add seen x) ≡ false
  among-add seen x h k = cond_both (list_any (bytes_eq x) seen) seen (seen ++ x ∷ []) (λ s. among s ≡ false) (λ _. h) (λ _. among-push seen x h k)

  -- the name, where it is new, is added
  pub any-turned : (seen : List (List ℕ)) → list_any (bytes_eq name) seen ≡ among seen
  any-turned [] = refl
  any-turned (n ∷ seen) = ap (λ t. t || list_any (bytes_eq name) seen) (bytes_eq-turned name n) ∙ ap (λ t. bytes_eq n name || t) (any-turned seen)

  rank-first : (seen xs : List (List ℕ)) → among seen ≡ false → rank class (fold add (add seen name) xs) name ≡ count seen
  rank-first seen xs h = grind (arith, any-turned, append_assoc, rank-settled, (fold-front (seen ++ name ∷ []) xs))

  rank-over : (seen xs : List (List ℕ)) → among seen ≡ false → rank class (fold add seen xs) name ≡ count (fold add seen (before_name name xs))
  rank-over seen [] h = rank-absent seen h
  rank-over seen (x ∷ xs) h = grind (arith, bytes_eq-Decides, rank-first, among-add, (rank-over (add seen x) xs))

  -- a name that was seen keeps its rank
  pub rank-found : (seen more : List (List ℕ)) → among seen ≡ true → rank class (seen ++ more) name ≡ rank class seen name
  rank-found [] more h = absurd (false≢true h)
  rank-found (n ∷ seen) more h = grind (arith, (rank-found seen more))

  pub rank-stable : (seen xs : List (List ℕ)) → rank class (fold add (add seen name) xs) name ≡ rank class seen name
  rank-stable seen xs = grind (arith, any-turned, rank-first, rank-absent, rank-found, (fold-front seen xs))

pub rank-counts_names : RankCountsNames
rank-counts_names suffixes commands name class = simp (run-names, rank-over)

-- Canonical names: their files are bare and end in their class, and ranks tell the names of a class apart.

-- equal texts, by the test
same : (a b : List ℕ) → bytes_eq a b ≡ true → a ≡ b
same a b h = (bytes_eq-Decides a b).0 h

-- a text that ends in s is what stands before, and s
pub ends-split : (text s : List ℕ) → ends_with nat_eq text s ≡ true → text ≡ take (length text - length s) text ++ s
ends-split text s h =
    let end : s ≡ drop (length text - length s) text = same s (drop (length text - length s) text) h in
    grind (arith, take-append-drop)

-- of two ends of one text the shorter one is an end of the longer one
pub shorter-end : (front other s t : List ℕ) → front ++ s ≡ other ++ t → length s ≤ length t → ends_with nat_eq t s ≡ true
shorter-end front other s t e le =
    let places : length front ≡ length other + (length t - length s) = omega (arith, (sym (length-append front s) ∙ ap length e ∙ length-append other t), le) in
    grind (arith, bytes_eq-itself, drop-append_seam, drop-append-add)

pub ends-append : (front s : List ℕ) → ends_with nat_eq (front ++ s) s ≡ true
ends-append front s =
    let places : length (front ++ s) - length s ≡ length front = omega (arith, length-append front s) in
    grind (arith, drop-append_seam, bytes_eq-itself)

-- canonical files are bare
lacks-append : (byte : ℕ) (front back : List ℕ) → lacks byte front ≡ true → lacks byte back ≡ true → lacks byte (front ++ back) ≡ true
lacks-append byte [] back h k = k
lacks-append byte (c ∷ front) back h k = grind (arith, and_from, (lacks-append byte front back))

lacks-shifted : (ds : List ℕ) → lacks 47 (map (λ d. 48 + d) ds) ≡ true
lacks-shifted [] = refl
lacks-shifted (d ∷ ds) = grind (arith, and_from, (lacks-shifted ds))

lacks-numeral : (k : ℕ) → lacks 47 (numeral k) ≡ true
lacks-numeral k = cond_both (eqb k 0) (codes "0") (map (λ d. 48 + d) (digits_of 10 k)) (λ t. lacks 47 t ≡ true) (λ _. refl) (λ _. lacks-shifted (digits_of 10 k))

pub file-bare : (k : ℕ) (class : List ℕ) → is_bare class ≡ true → is_bare (canonical_file k class) ≡ true
file-bare k class bare = lacks-append 47 (codes "x_") (numeral k ++ class) refl (lacks-append 47 (numeral k) class (lacks-numeral k) bare)

-- members of lists
module _ {A : Type 0} where
  pub no-member : (x : A) → Contains [] x → ⊥
  no-member x (k, lt, at) = omega (arith, lt)

  pub head-member : (x : A) (xs : List A) → Contains (x ∷ xs) x
  head-member x xs = Contains-append_left (x ∷ []) xs x (Contains-push [] x)

  pub tail-member : (x : A) (xs : List A) (y : A) → Contains xs y → Contains (x ∷ xs) y
  tail-member x xs y h = Contains-append_right (x ∷ []) xs y h

  pub member-cases : (x : A) (xs : List A) (y : A) → Contains (x ∷ xs) y → (x ≡ y) ⊎ Contains xs y
  member-cases x xs y h = grind (arith, Contains-append_cases, Contains-push_cases, no-member)

  -- the first that passes a test is a member that passes it
  pub find-found : (test : A → Bool) (xs : List A) (x : A) → find test xs ≡ Some x → Contains xs x × (test x ≡ true)
  find-found test [] x h = cc
  find-found test (y ∷ ys) x h = grind (arith, head-member, tail-member, (find-found test ys x))

  -- a member that alone passes a test is found
  pub find-only : (test : A → Bool) (xs : List A) (x : A) → Contains xs x → test x ≡ true → ((z : A) → Contains xs z → test z ≡ true → z ≡ x) → find test xs ≡ Some x
  find-only test [] x among passes only = absurd (no-member x among)
  find-only test (y ∷ ys) x among passes only =
      let later : Contains ys x → find test ys ≡ Some x = λ more. find-only test ys x more passes (λ z m p. only z (tail-member y ys z m) p) in
      grind (arith, member-cases, false≢true, later, (only y (head-member y ys)))

pub class-member : (suffixes : List (List ℕ)) (word class : List ℕ) (b : Bool) →
    cond b None (class_of_name suffixes (core_of word)) ≡ Some class → Contains suffixes class
class-member suffixes word class b e = grind (arith, find-found)

-- of two suffixes that end one text each is the other
pub two-ends : (suffixes : List (List ℕ)) → AreSuffixes suffixes → (s t front other : List ℕ) → Contains suffixes s → Contains suffixes t → front ++ s ≡ other ++ t → s ≡ t
two-ends suffixes lawful s t front other hs ht e =
    elim (cases_lt (length t) (length s)) as (λ _. s ≡ t) [
      | inl lt ↦ lawful.apart s t hs ht (shorter-end other front t s (sym e) (omega (arith, lt)))
      | inr le ↦ sym (lawful.apart t s ht hs (shorter-end front other s t e le))
    ]

-- the canonical name of a name that has a class
pub canonical-at : (suffixes seen : List (List ℕ)) (name class : List ℕ) → class_of_name suffixes name ≡ Some class → canonical_name suffixes seen name ≡ canonical_in seen name class
canonical-at suffixes seen name class h = ap (canonical_or seen name) h

-- a canonical name ends in its class
pub canonical-front : List (List ℕ) → List ℕ → List ℕ → List ℕ
canonical-front seen name class = (folder_of name ++ separator_after (folder_of name)) ++ (codes "x_" ++ numeral (rank class seen name))

pub canonical-split : (seen : List (List ℕ)) (name class : List ℕ) → canonical_in seen name class ≡ canonical-front seen name class ++ class
unfolding canonical-front
canonical-split seen name class = sym (append_assoc (folder_of name ++ separator_after (folder_of name)) (codes "x_" ++ numeral (rank class seen name)) class)

pub folder_and_class-stay : FolderAndClassStay
folder_and_class-stay suffixes lawful seen name class h =
    let found : Contains suffixes class × (ends_with nat_eq name class ≡ true) = find-found (ends_with nat_eq name) suffixes class h in
    let is = canonical-at suffixes seen name class h in
    let whole = canonical-front seen name class ++ class in
    let ends : ends_with nat_eq whole class ≡ true = ends-append (canonical-front seen name class) class in
    let only : (z : List ℕ) → Contains suffixes z → ends_with nat_eq whole z ≡ true → z ≡ class = λ z among passes.
    two-ends suffixes lawful z class (take (length whole - length z) whole) (canonical-front seen name class) among found.0 (sym (ends-split whole z passes)) in (
      ap folder_of is ∙ joined-keeps_folder name (canonical_file (rank class seen name) class) (file-bare (rank class seen name) class (lawful.bare class found.0)),
      ap (class_of_name suffixes) (is ∙ canonical-split seen name class) ∙ find-only (ends_with nat_eq whole) suffixes class found.0 ends only,
    )

-- names of one class have different ranks
pub rank-apart : (class : List ℕ) (names : List (List ℕ)) (m n : List ℕ) → Contains names m → Contains names n → ends_with nat_eq m class ≡ true → ends_with nat_eq n class ≡ true → rank class names m ≡ rank class names n → m ≡ n
rank-apart class [] m n hm hn cm cn e = absurd (no-member m hm)
rank-apart class (x ∷ xs) m n hm hn cm cn e = grind (arith, bytes_eq-Decides, bytes_eq-itself, member-cases, (rank-apart class xs m n))

-- the names of a run have a class
abbrev pub HasClass : List (List ℕ) → List ℕ → Type 0
HasClass suffixes n = (class : List ℕ) × (class_of_name suffixes n ≡ Some class)

named-class : (suffixes : List (List ℕ)) (core : List ℕ) (o : Option (List ℕ)) → class_of_name suffixes core ≡ o → (n : List ℕ) → option_map (λ (_ : List ℕ). core) o ≡ Some n → HasClass suffixes n
named-class suffixes core None h n e = cc
named-class suffixes core (Some class) h n e = let is : core ≡ n = cc in (class, subst (λ z. class_of_name suffixes z ≡ Some class) is h)

generated-class : (suffixes : List (List ℕ)) (core : List ℕ) (b : Bool) (n : List ℕ) → option_map (λ (_ : List ℕ). core) (cond b None (class_of_name suffixes core)) ≡ Some n → HasClass suffixes n
generated-class suffixes core b n e = grind (arith, named-class)

with_name-all : (P : List ℕ → Type 0) (seen : List (List ℕ)) (o : Option (List ℕ)) → All P seen → ((n : List ℕ) → o ≡ Some n → P n) → All P (with_name seen o)
with_name-all P seen None h p = h
with_name-all P seen (Some n) h p = cond_both (list_any (bytes_eq n) seen) seen (seen ++ n ∷ []) (All P) (λ _. h) (λ _. All-push P seen n h (p n refl))

seen_after-all : (suffixes seen words : List (List ℕ)) → All (HasClass suffixes) seen → All (HasClass suffixes) (seen_after suffixes seen words)
seen_after-all suffixes seen [] h = h
seen_after-all suffixes seen (word ∷ words) h =
    seen_after-all suffixes (seen_after_word suffixes seen word) words
    (with_name-all (HasClass suffixes) seen (generated_name suffixes word) h (λ n e. generated-class suffixes (core_of word) (begins_with_dash (core_of word)) n e))

pub run-all : (suffixes seen : List (List ℕ)) (commands : List CommandLine) → All (HasClass suffixes) seen → All (HasClass suffixes) (fold (λ seen command. seen_after suffixes seen (words_of_command command)) seen commands)
run-all suffixes seen [] h = h
run-all suffixes seen (command ∷ commands) h = run-all suffixes (seen_after suffixes seen (words_of_command command)) commands (seen_after-all suffixes seen (words_of_command command) h)

pub different-names : DifferentNames
different-names suffixes lawful commands m n hm hn e =
    let names = names_of_run suffixes commands in
    let classes : All (HasClass suffixes) names = run-all suffixes [] commands (All-nil (HasClass suffixes)) in
    let cm : HasClass suffixes m = All-contains (HasClass suffixes) names m classes hm in
    let cn : HasClass suffixes n = All-contains (HasClass suffixes) names n classes hn in
    classed suffixes lawful names m n cm.0 cn.0 hm hn cm.1 cn.1 e where
      classed : (suffixes : List (List ℕ)) → AreSuffixes suffixes → (names : List (List ℕ)) (m n cm cn : List ℕ) → Contains names m → Contains names n → class_of_name suffixes m ≡ Some cm → class_of_name suffixes n ≡ Some cn → canonical_name suffixes names m ≡ canonical_name suffixes names n → m ≡ n
      classed suffixes lawful names m n cm cn hm hn km kn e =
          let fm : Contains suffixes cm × (ends_with nat_eq m cm ≡ true) = find-found (ends_with nat_eq m) suffixes cm km in
          let fn : Contains suffixes cn × (ends_with nat_eq n cn ≡ true) = find-found (ends_with nat_eq n) suffixes cn kn in
          let i = rank cm names m in
          let j = rank cn names n in
          let both : canonical_in names m cm ≡ canonical_in names n cn = sym (canonical-at suffixes names m cm km) ∙ e ∙ canonical-at suffixes names n cn kn in
          let files : canonical_file i cm ≡ canonical_file j cn = (folders-cancel m n (canonical_file i cm) (canonical_file j cn) (file-bare i cm (lawful.bare cm fm.0)) (file-bare j cn (lawful.bare cn fn.0)) both).1 in
          let parts : numeral i ++ cm ≡ numeral j ++ cn = append_cancel_left (codes "x_") (numeral i ++ cm) (numeral j ++ cn) files in
          let class : cm ≡ cn = two-ends suffixes lawful cm cn (numeral i) (numeral j) fm.0 fn.0 parts in
          let digits : numeral i ≡ numeral j = append_cancel_right (numeral i) (numeral j) cn (ap (λ c. numeral i ++ c) (sym class) ∙ parts) in
          let ranks : rank cm names m ≡ rank cm names n = numeral-same i j digits ∙ ap (λ c. rank c names n) (sym class) in
          rank-apart cm names m n hm hn fm.1 (subst (λ c. ends_with nat_eq n c ≡ true) (sym class) fn.1) ranks

pub standard-are_suffixes : StandardAreSuffixes
standard-are_suffixes = grind (arith, All-contains, AllPass-from_list_all)
