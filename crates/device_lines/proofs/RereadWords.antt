-- The words of a line that are kept are read as the items that they were written for, and the same ones of these are
-- kept again.
use Rattle.std.proofs.Common.{◌≡◌, ℕ, List, [], ◌∷◌, ◌++◌, Bool, true, false, ◌||◌, Option, Some, None, map, refl, ap, sym, ◌∙◌, append-nil, filter, arith, cond, subst}
use Rattle.std.specs.List.{AllByRecursion, flat_map}
use Rattle.std.proofs.Math.Bool.{or-false}
use Rattle.std.proofs.lemmas.Bool.{false≢true}
use Rattle.std.proofs.lemmas.Grind.{flat_map-append}
use Rattle.std.proofs.lemmas.List.Elements.{filter-append}
use Rattle.compilers.specs.Table.{Entry}
use Rattle.compilers.specs.Items.{Item, items, words_of, kind_of}
use Rattle.compilers.specs.WordsLaw.{is_whole, IsReadOver}
use Rattle.compilers.proofs.WordsLemmas.{lists-read_back, lines-hold_read_items}
use Rattle.device_lines.specs.declared.options.ArgData.{ArgData}
use Rattle.device_lines.specs.declared.options.ArgData.TheVariants.{Output, PassThrough, UnhashedFlag, GenModuleIdFileFlag, ModuleIdFileName, UnhashedPassThrough, UnhashedOutput}
use Rattle.device_lines.specs.Reading.{is_unhashed_kind, is_unknown, beside, is_common, common_items, unhashed_items}
use Rattle.device_lines.specs.Reread.{is_filled, AllFilled, common_words, unhashed_words, KeptWordsReadBack, KeptWordsStay}

-- what holds of all of two lists holds of all of both
pub all-append : {X : Type 0} (P : X → Type 0) (xs ys : List X) → AllByRecursion P xs → AllByRecursion P ys → AllByRecursion P (xs ++ ys)
all-append P [] ys h k = k
all-append P (x ∷ xs) ys h k = (h.0, all-append P xs ys h.1 k)

-- the kinds of common items, of the other ones, of unhashed items, and of the other ones
pub common-kind : (P : Option ArgData → Type 0) → P None → P (Some PassThrough) → P (Some GenModuleIdFileFlag) → P (Some ModuleIdFileName) → (b : Bool) (i : Item ArgData) → is_common (b, i) ≡ true → P (kind_of i)
common-kind P n p g m b i h = grind (arith, false≢true)

pub other-kind : (P : Option ArgData → Type 0) → P None → P (Some Output) → P (Some UnhashedFlag) → P (Some UnhashedPassThrough) → P (Some UnhashedOutput) → (b : Bool) (i : Item ArgData) → is_common (b, i) ≡ false → P (kind_of i)
other-kind P n o f p u b i h = grind (arith, false≢true)

pub unhashed-kind : (P : Option ArgData → Type 0) → P (Some UnhashedFlag) → P (Some UnhashedPassThrough) → P (Some UnhashedOutput) → (k : Option ArgData) → is_unhashed_kind k ≡ true → P k
unhashed-kind P f p u k h = grind (arith, false≢true)

-- what is common of items, where one stands before them that is an unknown flag or isn't
abbrev pub common_after : Bool → List (Item ArgData) → List (Item ArgData)
common_after b is = map (λ p. p.1) (filter is_common (beside b is))

-- items of which none is common, whatever stands before them
abbrev pub Silent : Item ArgData → Type 0
Silent i = (b : Bool) → is_common (b, i) ≡ false

common-silent : (is : List (Item ArgData)) → AllByRecursion Silent is → (b : Bool) → common_after b is ≡ []
common-silent [] h b = refl
common-silent (i ∷ is) h b = grind (arith, (common-silent is h.1 (is_unknown i)))

-- the common items are common again, with items after them of which none is common
pub common-again : (b c : Bool) (is tail : List (Item ArgData)) → AllByRecursion Silent tail → common_after (b || c) (common_after c is ++ tail) ≡ common_after c is
common-again b c [] tail none = common-silent tail none (b || c)
common-again b c (i ∷ is) tail none =
    let unknown = is_unknown i in
    let kept = filter is_common (beside unknown is) in
    let again = filter is_common (beside unknown (common_after unknown is ++ tail)) in
    elim (is_common (c, i))
    as (λ t. is_common (c, i) ≡ t → common_after (b || c) (map (λ p. p.1) (cond t ((c, i) ∷ kept) kept) ++ tail) ≡ map (λ p. p.1) (cond t ((c, i) ∷ kept) kept)) [
      | true ↦ λ e.
          let wider : is_common (b || c, i) ≡ true = grind arith in
          ap (λ t. map (λ p. p.1) (cond t ((b || c, i) ∷ again) again)) wider ∙ ap (λ t. i ∷ t) (common-again false unknown is tail none)
      | false ↦ λ e.
          let known : is_unknown i ≡ false = grind arith in
          let later = subst (λ d. common_after d (common_after false is ++ tail) ≡ common_after false is) (or-false (b || c)) (common-again (b || c) false is tail none) in
          subst (λ u. common_after (b || c) (common_after u is ++ tail) ≡ common_after u is) (sym known) later
    ] refl

pub all-unhashed_silent : (is : List (Item ArgData)) → AllByRecursion Silent (unhashed_items is)
all-unhashed_silent [] = tt
all-unhashed_silent (i ∷ is) = grind (arith, (all-unhashed_silent is))

-- what holds of all items, and what it says of those that are common or unhashed
module _ (P Q : Item ArgData → Type 0) where
  common-all : ((b : Bool) (i : Item ArgData) → P i → is_common (b, i) ≡ true → Q i) → (b : Bool) (is : List (Item ArgData)) → AllByRecursion P is → AllByRecursion Q (common_after b is)
  common-all says b [] h = tt
  common-all says b (i ∷ is) h = grind (arith, (common-all says (is_unknown i) is h.1))

  unhashed-all : ((i : Item ArgData) → P i → is_unhashed_kind (kind_of i) ≡ true → Q i) → (is : List (Item ArgData)) → AllByRecursion P is → AllByRecursion Q (unhashed_items is)
  unhashed-all says [] h = tt
  unhashed-all says (i ∷ is) h = grind (arith, (unhashed-all says is h.1))

  pub kept-all : ((b : Bool) (i : Item ArgData) → P i → is_common (b, i) ≡ true → Q i) → ((i : Item ArgData) → P i → is_unhashed_kind (kind_of i) ≡ true → Q i) → (is : List (Item ArgData)) → AllByRecursion P is → AllByRecursion Q (common_items is ++ unhashed_items is)
  kept-all one other is h = all-append Q (common_items is) (unhashed_items is) (common-all one false is h) (unhashed-all other is h)

-- an item that is kept is whole where its value isn't both joined and empty
pub common-whole : (b : Bool) (i : Item ArgData) → is_filled i ≡ true → is_common (b, i) ≡ true → is_whole i ≡ true
common-whole b i h k = grind (arith, false≢true)

pub unhashed-whole : (i : Item ArgData) → is_filled i ≡ true → is_unhashed_kind (kind_of i) ≡ true → is_whole i ≡ true
unhashed-whole i h k = grind (arith, false≢true)

-- the items that are kept, with their words before other words
pub kept-read : (chosen : List ℕ → Option (Entry ArgData)) (line after : List (List ℕ)) → AllFilled (items chosen line) → items chosen ((common_words chosen line ++ unhashed_words chosen line) ++ after) ≡ (common_items (items chosen line) ++ unhashed_items (items chosen line)) ++ items chosen after
kept-read chosen line after filled =
    let is = items chosen line in
    let read = kept-all (IsReadOver chosen) (IsReadOver chosen) (λ b i h e. h) (λ i h e. h) is (lines-hold_read_items chosen line) in
    grind (arith, flat_map-append, lists-read_back, (kept-all (λ i. is_filled i ≡ true) (λ i. is_whole i ≡ true) common-whole unhashed-whole is filled))

pub kept-words_read_back : (chosen : List ℕ → Option (Entry ArgData)) → KeptWordsReadBack chosen
kept-words_read_back chosen line filled =
    let is = items chosen line in
    ap (items chosen) (sym (append-nil (common_words chosen line ++ unhashed_words chosen line))) ∙ kept-read chosen line [] filled ∙ append-nil (common_items is ++ unhashed_items is)

-- no common item is unhashed, and unhashed items are unhashed again
pub common-none_unhashed : (b : Bool) (is : List (Item ArgData)) → unhashed_items (common_after b is) ≡ []
common-none_unhashed b [] = refl
common-none_unhashed b (i ∷ is) = grind (arith, common-kind, (common-none_unhashed (is_unknown i) is))

pub unhashed-again : (is : List (Item ArgData)) → unhashed_items (unhashed_items is) ≡ unhashed_items is
unhashed-again [] = refl
unhashed-again (i ∷ is) = grind (arith, (unhashed-again is))

pub kept-words_stay : (chosen : List ℕ → Option (Entry ArgData)) → KeptWordsStay chosen
kept-words_stay chosen line filled =
    let is = items chosen line in
    let again = kept-words_read_back chosen line filled in (
      ap (λ js. flat_map words_of (common_items js)) again ∙ ap (flat_map words_of) (common-again false false is (unhashed_items is) (all-unhashed_silent is)),
      ap (λ js. flat_map words_of (unhashed_items js)) again ∙ ap (flat_map words_of) (filter-append (λ i. is_unhashed_kind (kind_of i)) (common_items is) (unhashed_items is) ∙ ap (λ t. t ++ unhashed_items (unhashed_items is)) (common-none_unhashed false is) ∙ unhashed-again is),
    )
