-- Which renamed words are options, inputs of cicc, and outputs that open a group.
use Rattle.std.proofs.Common.{◌≡◌, ℕ, ◌-◌, ◌++◌, ◌⊎◌, Bool, true, false, cond, eqb-true, List, [], ◌∷◌, Option, Some, None, inl, inr, refl, ap, sym, ◌∙◌, nat_eq, length, take, drop, append_assoc, codes, arith}
use Rattle.std.specs.List.{Contains, starts_with, ends_with}
use Rattle.std.proofs.lemmas.Bool.{false≢true, and_parts, or_cases, not-true}
use Rattle.std.proofs.lemmas.List.{append_cancel_left, append_cancel_right}
use Rattle.std.proofs.lemmas.Option.{same_Some}
use Rattle.texts.specs.DeviceFiles.{is_cicc_word}
use Rattle.texts.specs.Numeral.{numeral}
use Rattle.texts.specs.Path.{joined, is_bare, proper_name, folder_of, separator_after, file_name_of}
use Rattle.texts.proofs.NumeralLemmas.{numeral-same}
use Rattle.texts.proofs.PathLaw.{joined-has_name}
use Rattle.texts.proofs.PathLemmas.{folder-lacking}
use Rattle.canonical_names.specs.CanonicalNames.{AreSuffixes, word_by_all, core_by_all}
use Rattle.canonical_names.specs.Generated.{head_of, core_of, class_of, class_of_name, is_file_mark, begins_with_dash}
use Rattle.canonical_names.specs.Renaming.{canonical_file, canonical_in, rank}
use Rattle.cuda_plans.specs.Shadow.{is_cicc_file, is_plain_output}
use Rattle.canonical_names.proofs.AlikeLemmas.{Unmarked, mark-turned, long-unmarked, one-unmarked, two-unmarked, dash-unmarked, dash-canonical, not-dash}
use Rattle.canonical_names.proofs.CanonicalLemmas.{ends-split, ends-append, two-ends, find-found, find-only, file-bare, canonical-front, canonical-split}
use Rattle.cuda_plans.proofs.FileLemmas.{proper-behind, cicc-front, cicc-file, any-front, dash-file}
use Rattle.canonical_names.proofs.ReplaceLemmas.{starts-split}

-- a word is something before its head and its core
pub unmarked-core : (text : List ℕ) → starts_with nat_eq text (codes "-Fi") ≡ false → core_of text ≡ text
unmarked-core text h = grind (arith, long-unmarked, mark-turned)

unmarked-front : (text : List ℕ) → Unmarked text → (front : List ℕ) × (text ≡ front ++ (head_of text ++ core_of text))
unmarked-front text u = ([], sym (ap (λ b. cond b (codes "-Fi") [] ++ core_of text) u.no_head ∙ u.whole))

marked-text : (a b c : ℕ) (rest : List ℕ) → is_file_mark a b c ≡ true → a ∷ b ∷ c ∷ rest ≡ codes "-Fi" ++ rest
marked-text a b c rest h = grind (arith, and_parts, eqb-true)

marked-front : (rest : List ℕ) → (front : List ℕ) × (rest ≡ front ++ (head_of rest ++ core_of rest)) → (front : List ℕ) × (codes "-Fi" ++ rest ≡ front ++ (codes "-Fi" ++ core_of rest))
marked-front rest more =
    elim (starts_with nat_eq rest (codes "-Fi")) as (λ b. starts_with nat_eq rest (codes "-Fi") ≡ b → (front : List ℕ) × (codes "-Fi" ++ rest ≡ front ++ (codes "-Fi" ++ core_of rest))) [
      | true ↦ λ e. (codes "-Fi" ++ more.0, ap (λ t. codes "-Fi" ++ t) (more.1 ∙ ap (λ b. more.0 ++ (cond b (codes "-Fi") [] ++ core_of rest)) e))
      | false ↦ λ e. ([], ap (λ t. codes "-Fi" ++ t) (sym (unmarked-core rest e)))
    ] refl

pub word-front : (word : List ℕ) → (front : List ℕ) × (word ≡ front ++ (head_of word ++ core_of word))
word-front [] = ([], refl)
word-front (a ∷ []) = unmarked-front (a ∷ []) (one-unmarked a)
word-front (a ∷ b ∷ []) = unmarked-front (a ∷ b ∷ []) (two-unmarked a b)
word-front (a ∷ b ∷ c ∷ rest) =
    let more = marked-front rest (word-front rest) in
    elim (is_file_mark a b c) as (λ t. is_file_mark a b c ≡ t → (front : List ℕ) × (a ∷ b ∷ c ∷ rest ≡ front ++ (head_of (a ∷ b ∷ c ∷ rest) ++ core_of (a ∷ b ∷ c ∷ rest)))) [
      | true ↦ λ e. (
        more.0,
        marked-text a b c rest e ∙ more.1
            ∙ ap (λ m. more.0 ++ (cond m (codes "-Fi") [] ++ core_of rest)) (sym (mark-turned a b c ∙ e))
            ∙ ap (λ t. more.0 ++ (head_of (a ∷ b ∷ c ∷ rest) ++ t)) (sym (ap (λ m. cond m (core_of rest) (a ∷ b ∷ c ∷ rest)) e)),
      )
      | false ↦ λ e. unmarked-front (a ∷ b ∷ c ∷ rest) (long-unmarked a b c rest e)
    ] refl

-- a text that is no option, or one that begins with `-F`
abbrev pub NoOption : List ℕ → Type 0
NoOption text = ((rest : List ℕ) × (text ≡ 45 ∷ 70 ∷ rest)) ⊎ (begins_with_dash text ≡ false)

-- a text that ends in `x_` and more is a proper name
two-behind : (a b : ℕ) (rest : List ℕ) → proper_name (a ∷ b ∷ (rest ++ 120 ∷ 95 ∷ [])) ≡ Some (a ∷ b ∷ (rest ++ 120 ∷ 95 ∷ []))
two-behind a b [] = proper-behind [] a b 120 (95 ∷ [])
two-behind a b (c ∷ rest) = proper-behind [] a b c (rest ++ 120 ∷ 95 ∷ [])

two-proper : (b : List ℕ) → proper_name (b ++ 120 ∷ 95 ∷ []) ≡ Some (b ++ 120 ∷ 95 ∷ [])
two-proper [] = refl
two-proper (a ∷ []) = proper-behind [] a 120 95 []
two-proper (a ∷ b ∷ rest) = two-behind a b rest

file-proper : (b digits class : List ℕ) → proper_name (b ++ 120 ∷ 95 ∷ (digits ++ class)) ≡ Some (b ++ 120 ∷ 95 ∷ (digits ++ class))
file-proper b [] [] = two-proper b
file-proper b [] (c ∷ class) = proper-behind b 120 95 c class
file-proper b (d ∷ digits) class = proper-behind b 120 95 d (digits ++ class)

module _ (suffixes : List (List ℕ)) (lawful : AreSuffixes suffixes) (names : List (List ℕ)) where
  abbrev renamed_one : List ℕ → List ℕ
  renamed_one word = word_by_all suffixes names word

  -- a word stays, or it is no option before nor after
  kept-by_class : (word : List ℕ) → starts_with nat_eq word (codes "-Fi") ≡ false → (o : Option (List ℕ)) → class_of suffixes word ≡ o → (renamed_one word ≡ word) ⊎ (NoOption (renamed_one word) × NoOption word)
  kept-by_class word e o k = grind (arith, unmarked-core, not-dash, dash-canonical)

  pub word-kept : (word : List ℕ) → (renamed_one word ≡ word) ⊎ (NoOption (renamed_one word) × NoOption word)
  word-kept word =
      elim (starts_with nat_eq word (codes "-Fi")) as (λ b. starts_with nat_eq word (codes "-Fi") ≡ b → (renamed_one word ≡ word) ⊎ (NoOption (renamed_one word) × NoOption word)) [
        | true ↦ λ e. inr (
          inl (105 ∷ core_by_all names (core_of word) (class_of suffixes word), ap (λ b. cond b (codes "-Fi") [] ++ core_by_all names (core_of word) (class_of suffixes word)) e),
          inl (105 ∷ drop (length (codes "-Fi")) word, starts-split word (codes "-Fi") e),
        )
        | false ↦ λ e. kept-by_class word e (class_of suffixes word) refl
      ] refl

  pub test-kept : (test : List ℕ → Bool) → ((rest : List ℕ) → test (45 ∷ 70 ∷ rest) ≡ false) → ((text : List ℕ) → begins_with_dash text ≡ false → test text ≡ false) → (word : List ℕ) → test (renamed_one word) ≡ test word
  test-kept test marked plain word = grind (arith, word-kept)

  -- a word that ends as cicc's input does, and begins with no `-`
  pub class-by_end : (class text : List ℕ) → Contains suffixes class → ends_with nat_eq text class ≡ true → class_of_name suffixes text ≡ Some class
  class-by_end class text hc e =
      find-only (ends_with nat_eq text) suffixes class hc e
      (λ z among passes. two-ends suffixes lawful z class (take (length text - length z) text) (take (length text - length class) text) among hc (sym (ends-split text z passes) ∙ ends-split text class e))

  pub plain-class : (word : List ℕ) → begins_with_dash word ≡ false → is_cicc_word word ≡ true → class_of suffixes word ≡ Some (codes ".cpp1.ii")
  plain-class word dash ends =
      ap (λ t. cond (begins_with_dash t) None (class_of_name suffixes t)) (dash-unmarked word dash).whole
      ∙ ap (λ b. cond b None (class_of_name suffixes word)) dash ∙ class-by_end (codes ".cpp1.ii") word lawful.input ends

  pub plain-word : (word : List ℕ) → begins_with_dash word ≡ false → is_cicc_word word ≡ true → renamed_one word ≡ canonical_in names word (codes ".cpp1.ii")
  plain-word word dash ends = grind (arith, dash-unmarked, plain-class)

  pub bare-canonical : (word class : List ℕ) → is_bare word ≡ true → canonical_in names word class ≡ canonical_file (rank class names word) class
  bare-canonical word class bare = ap (λ d. joined d (canonical_file (rank class names word) class)) (folder-lacking word bare)

  pub canonical-file_name : (word class : List ℕ) → Contains suffixes class → file_name_of (canonical_in names word class) ≡ Some (canonical_file (rank class names word) class)
  canonical-file_name word class hc = joined-has_name (folder_of word) (canonical_file (rank class names word) class) (file-bare (rank class names word) class (lawful.bare class hc)) refl

  -- a word is an input of cicc if it becomes one
  core-ends : (word class : List ℕ) → class_of suffixes word ≡ Some class → codes ".cpp1.ii" ≡ class → is_cicc_word word ≡ true
  core-ends word class e same =
      let front = word-front word in
      grind (arith, cicc-front, (find-found (ends_with nat_eq (core_of word)) suffixes class ((not-dash suffixes lawful names word class (begins_with_dash (core_of word)) refl e).1)))

  class-member : (word class : List ℕ) → class_of suffixes word ≡ Some class → Contains suffixes class
  class-member word class e = grind (arith, find-found, not-dash)

  cicc-by_class : (word : List ℕ) (o : Option (List ℕ)) → class_of suffixes word ≡ o → is_cicc_word (head_of word ++ core_by_all names (core_of word) o) ≡ true → is_cicc_word word ≡ true
  cicc-by_class word None e h = grind (arith, cicc-front, (word-front word))
  cicc-by_class word (Some class) e h =
      let text = head_of word ++ canonical_in names (core_of word) class in
      let begin = canonical-front names (core_of word) class in
      let split : text ≡ (head_of word ++ begin) ++ class = ap (λ t. head_of word ++ t) (canonical-split names (core_of word) class) ∙ sym (append_assoc (head_of word) begin class) in
      let same : codes ".cpp1.ii" ≡ class =
      two-ends suffixes lawful (codes ".cpp1.ii") class (take (length text - length (codes ".cpp1.ii")) text) (head_of word ++ begin) lawful.input (class-member word class e)
      (sym (ends-split text (codes ".cpp1.ii") h) ∙ split) in
      core-ends word class e same

  pub renamed-cicc : (word : List ℕ) → is_cicc_word (renamed_one word) ≡ true → is_cicc_word word ≡ true
  renamed-cicc word h = cicc-by_class word (class_of suffixes word) refl h

  -- a word with such a canonical file name has a file name as cicc's input has
  pub file-end : (k : ℕ) → is_cicc_word (canonical_file k (codes ".cpp1.ii")) ≡ true
  file-end k = ends-append (codes "x_" ++ numeral k) (codes ".cpp1.ii")

  unread-by_class : (word : List ℕ) (k : ℕ) (o : Option (List ℕ)) → class_of suffixes word ≡ o → file_name_of (head_of word ++ core_by_all names (core_of word) o) ≡ Some (canonical_file k (codes ".cpp1.ii")) →
      is_cicc_file (file_name_of word) ≡ true
  unread-by_class word k None e h = grind (arith, dash-file, unmarked-core, file-end, (word-front word))
  unread-by_class word k (Some class) e h =
      let core = core_of word in
      let hc = class-member word class e in
      let file = canonical_file (rank class names core) class in
      let front = head_of word ++ (folder_of core ++ separator_after (folder_of core)) in
      let split : head_of word ++ canonical_in names core class ≡ front ++ file = sym (append_assoc (head_of word) (folder_of core ++ separator_after (folder_of core)) file) in
      let found = any-front front file (file-bare (rank class names core) class (lawful.bare class hc)) (λ b. file-proper b (numeral (rank class names core)) class) in
      let name : found.0 ++ file ≡ canonical_file k (codes ".cpp1.ii") = same_Some (found.0 ++ file) (canonical_file k (codes ".cpp1.ii")) (sym found.1 ∙ sym (ap file_name_of split) ∙ h) in
      let same : codes ".cpp1.ii" ≡ class =
      two-ends suffixes lawful (codes ".cpp1.ii") class (codes "x_" ++ numeral k) (found.0 ++ (codes "x_" ++ numeral (rank class names core))) lawful.input hc
      (sym name ∙ sym (append_assoc found.0 (codes "x_" ++ numeral (rank class names core)) class)) in
      cicc-file word (core-ends word class e same)

  -- of plain outputs only an input of cicc gets a canonical file name of its class
  pub plain-outputs_stay_apart : (word : List ℕ) (k : ℕ) → is_plain_output (Some word) ≡ true → file_name_of (renamed_one word) ≡ Some (canonical_file k (codes ".cpp1.ii")) →
      (begins_with_dash word ≡ false) × (is_cicc_word word ≡ true) × (rank (codes ".cpp1.ii") names word ≡ k)
  plain-outputs_stay_apart word k plain h = grind (arith, or_cases, false≢true, not-true, unread-by_class, and_parts, same_Some, plain-word, canonical-file_name, append_cancel_right, append_cancel_left, numeral-same)
