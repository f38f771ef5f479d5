-- What the items of a line have of the entries that its words choose, and of the line's words.
use Rattle.std.proofs.Common.{◌≡◌, ℕ, List, [], ◌∷◌, ◌++◌, Bool, true, false, cond, not, ◌&&◌, Option, Some, None, map, flat_map, refl, ap, sym, subst, codes, is_some, option_and_then, bytes_eq, arith}
use Rattle.std.specs.List.{AllByRecursion, fold}
use Rattle.std.proofs.lemmas.Bool.{false≢true}
use Rattle.compilers.specs.declared.table.ArgDisposition.{ArgDisposition}
use Rattle.compilers.specs.declared.table.ArgDisposition.TheVariants.{Separated}
use Rattle.texts.specs.Lists.{rest_after}
use Rattle.compilers.specs.Table.{Entry, Matched, lone, joined, awaiting, matched_rest, matched, is_longer, longer_match, longest_match}
use Rattle.compilers.specs.Items.{Item, raw, unknown_flag, flag, with_value, faulty, Said, item, option, items, said_by, said_of, unmatched_item, last_item, separate_item, joined_form, separate_form, may_stand_last, words_of}
use Rattle.compilers.specs.WordsLaw.{is_joined, is_whole, parts}
use Rattle.compilers.proofs.WordsLemmas.{lines-are_their_parts, whole_items-are_their_parts}
use Rattle.device_lines.specs.declared.options.ArgData.{ArgData}
use Rattle.device_lines.specs.declared.options.ArgData.TheVariants.{Output, UnhashedOutput}
use Rattle.device_lines.specs.Reread.{is_filled, AllFilled}

-- what all entries of a list pass, a chosen entry passes
module _ (passes : Entry ArgData → Bool) (word : List ℕ) where
  folded-passes : (es : List (Entry ArgData)) (best : Option (Entry ArgData)) → AllByRecursion (λ e. passes e ≡ true) es → ((e : Entry ArgData) → best ≡ Some e → passes e ≡ true) → (e : Entry ArgData) → fold (longer_match word) best es ≡ Some e → passes e ≡ true
  folded-passes [] best all before = before
  folded-passes (f ∷ es) best all before =
      folded-passes es (longer_match word best f) all.1 (
      elim (is_some (matched f word) && is_longer f best)
      as (λ b. (e : Entry ArgData) → cond b (Some f) best ≡ Some e → passes e ≡ true)
      [ true ↦ λ e is. let same : f ≡ e = cc in subst (λ g. passes g ≡ true) same all.0 | false ↦ before ]
      )

  chosen-passes : (es : List (Entry ArgData)) → AllByRecursion (λ e. passes e ≡ true) es → (e : Entry ArgData) → longest_match es word ≡ Some e → passes e ≡ true
  chosen-passes es all e is = folded-passes es None all (λ f none. let never : None ≡ Some f = none in cc) e is

-- what holds of what a word says
abbrev pub SaidHolds : (Item ArgData → Type 0) → Said ArgData → Type 0
SaidHolds R (item i) = R i
SaidHolds R (option e) = ((x : List ℕ) → R (separate_item e x)) × R (last_item e)

module _ (chosen : List ℕ → Option (Entry ArgData)) (R : Item ArgData → Type 0) (other : (w : List ℕ) → R (unmatched_item w)) (says : (w : List ℕ) (e : Entry ArgData) → chosen w ≡ Some e → (m : Matched) → matched e w ≡ Some m → SaidHolds R (said_by e w (Some m))) where
  said-holds : (w : List ℕ) → SaidHolds R (said_of w (chosen w))
  said-holds w = elim (chosen w) as (λ c. chosen w ≡ c → SaidHolds R (said_of w c)) [ None ↦ λ _. other w | Some e ↦ λ at. by_match e at (matched e w) refl ] refl where
    by_match : (e : Entry ArgData) → chosen w ≡ Some e → (m : Option Matched) → matched e w ≡ m → SaidHolds R (said_by e w m)
    by_match e at None none = other w
    by_match e at (Some m) is = says w e at m is

  -- what holds of what every word says holds of all items
  pub all-items : (line : List (List ℕ)) → AllByRecursion R (items chosen line)
  all-items [] = tt
  all-items (w ∷ []) = grind (arith, said-holds)
  all-items (w ∷ x ∷ rest) = grind (arith, said-holds, (all-items (x ∷ rest)), (all-items rest))

-- a word of no option
unmatched-test : (test : Item ArgData → Bool) → ((w : List ℕ) → test (raw w) ≡ true) → ((w : List ℕ) → test (unknown_flag w) ≡ true) → (w : List ℕ) → test (unmatched_item w) ≡ true
unmatched-test test one other w = grind arith

-- an option whose value is always the next word, and one that may also be a flag
abbrev pub is_separated : Option ArgDisposition → Bool
is_separated (Some Separated) = true
is_separated _ = false

abbrev pub is_plain : Option ArgDisposition → Bool
is_plain None = true
is_plain (Some Separated) = true
is_plain _ = false

-- a value that is the next word is not joined
separate-apart : (form : Option ArgDisposition) → is_joined (separate_form form) ≡ false
separate-apart form = grind arith

-- over options that are flags or have the next word as their value, no value is both joined and empty
plain-joined : (form : Option ArgDisposition) (rest : Option (List ℕ)) (value : List ℕ) → is_plain form ≡ true → option_and_then (matched_rest form) rest ≡ Some (joined value) → not (is_joined (joined_form form) && bytes_eq value []) ≡ true
plain-joined form rest value h at = grind (arith, false≢true)

plain-last : (text : List ℕ) (kind : ArgData) (form : Option ArgDisposition) → is_plain form ≡ true → is_filled (cond (may_stand_last form) (with_value text kind [] (joined_form form)) faulty) ≡ true
plain-last text kind form h = grind (arith, false≢true)

pub plain-filled : (options : List (Entry ArgData)) → AllByRecursion (λ e. is_plain e.form ≡ true) options → (line : List (List ℕ)) → AllFilled (items (longest_match options) line)
plain-filled options all line = all-items (longest_match options) (λ i. is_filled i ≡ true) (unmatched-test is_filled (λ _. refl) (λ _. refl)) says line where
  plain : (w : List ℕ) (e : Entry ArgData) → longest_match options w ≡ Some e → is_plain e.form ≡ true
  plain w e at = chosen-passes (λ f. is_plain f.form) w options all e at

  says : (w : List ℕ) (e : Entry ArgData) → longest_match options w ≡ Some e → (m : Matched) → matched e w ≡ Some m → SaidHolds (λ i. is_filled i ≡ true) (said_by e w (Some m))
  says w e at lone is = refl
  says w e at (joined value) is = plain-joined e.form (rest_after e.text w) value (plain w e at) is
  says w e at awaiting is = (λ x. ap (λ b. not (b && bytes_eq x [])) (separate-apart e.form), plain-last e.text e.kind e.form (plain w e at))

-- the output's option has the next word as its value, and no option that names another output has the text `obj`
abbrev pub fits : ArgData → List ℕ → Bool → Bool
fits Output text apart = apart
fits UnhashedOutput text apart = not (bytes_eq (codes "obj") text)
fits _ text apart = true

abbrev pub entry_fits : Entry ArgData → Bool
entry_fits e = fits e.kind e.text (is_separated e.form)

abbrev pub item_fits : Item ArgData → Bool
item_fits (flag text kind) = fits kind text true
item_fits (with_value text kind value form) = fits kind text (not (is_joined form))
item_fits _ = true

-- such an entry with another way to stand, where that is apart wherever the entry's is
fits-wider : (kind : ArgData) (text : List ℕ) (a b : Bool) → (a ≡ true → b ≡ true) → fits kind text a ≡ true → fits kind text b ≡ true
fits-wider kind text a b wider h = grind arith

separated-apart : (form : Option ArgDisposition) → is_separated form ≡ true → not (is_joined (joined_form form)) ≡ true
separated-apart form h = grind (arith, false≢true)

pub all-fit : (options : List (Entry ArgData)) → AllByRecursion (λ e. entry_fits e ≡ true) options → (line : List (List ℕ)) → AllByRecursion (λ i. item_fits i ≡ true) (items (longest_match options) line)
all-fit options all line = all-items (longest_match options) (λ i. item_fits i ≡ true) (unmatched-test item_fits (λ _. refl) (λ _. refl)) says line where
  suit : (w : List ℕ) (e : Entry ArgData) → longest_match options w ≡ Some e → entry_fits e ≡ true
  suit w e at = chosen-passes entry_fits w options all e at

  joined-fits : (e : Entry ArgData) (value : List ℕ) → entry_fits e ≡ true → item_fits (with_value e.text e.kind value (joined_form e.form)) ≡ true
  joined-fits e value h = fits-wider e.kind e.text (is_separated e.form) (not (is_joined (joined_form e.form))) (separated-apart e.form) h

  last-fits : (e : Entry ArgData) (b : Bool) → entry_fits e ≡ true → item_fits (cond b (with_value e.text e.kind [] (joined_form e.form)) faulty) ≡ true
  last-fits e true h = joined-fits e [] h
  last-fits e false h = refl

  says : (w : List ℕ) (e : Entry ArgData) → longest_match options w ≡ Some e → (m : Matched) → matched e w ≡ Some m → SaidHolds (λ i. item_fits i ≡ true) (said_by e w (Some m))
  says w e at lone is = fits-wider e.kind e.text (is_separated e.form) true (λ _. refl) (suit w e at)
  says w e at (joined value) is = joined-fits e value (suit w e at)
  says w e at awaiting is =
      (λ x. fits-wider e.kind e.text (is_separated e.form) (not (is_joined (separate_form e.form))) (λ _. ap not (separate-apart e.form)) (suit w e at), last-fits e (may_stand_last e.form) (suit w e at))

-- what holds of all of a list holds of all of both its parts
all-parts : {X : Type 0} (P : X → Type 0) (xs ys : List X) → AllByRecursion P (xs ++ ys) → AllByRecursion P xs × AllByRecursion P ys
all-parts P [] ys h = (tt, h)
all-parts P (x ∷ xs) ys h = let rest = all-parts P xs ys h.1 in ((h.0, rest.0), rest.1)

-- what holds of all words of a line holds of all words of its whole items
module _ (chosen : List ℕ → Option (Entry ArgData)) (P : List ℕ → Type 0) where
  -- the words of an item are among those of which it holds
  abbrev pub HasGoodWords : Item ArgData → Type 0
  HasGoodWords i = is_whole i ≡ true → AllByRecursion P (words_of i)

  parts-words : (ps : List (Item ArgData × List (List ℕ))) → AllByRecursion (λ p. is_whole p.0 ≡ true → words_of p.0 ≡ p.1) ps → AllByRecursion P (flat_map (λ p. p.1) ps) → AllByRecursion HasGoodWords (map (λ p. p.0) ps)
  parts-words [] kept good = tt
  parts-words (p ∷ ps) kept good =
      let both = all-parts P p.1 (flat_map (λ q. q.1) ps) good in ((λ whole. subst (AllByRecursion P) (sym (kept.0 whole)) both.0), parts-words ps kept.1 both.1)

  pub items-words : (line : List (List ℕ)) → AllByRecursion P line → AllByRecursion HasGoodWords (items chosen line)
  items-words line good =
      let are = lines-are_their_parts chosen line in
      subst (AllByRecursion HasGoodWords) are.0 (parts-words (parts chosen line) (whole_items-are_their_parts chosen line) (subst (AllByRecursion P) (sym are.1) good))
