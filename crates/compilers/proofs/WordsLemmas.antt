-- The words that an item is written as are read as that item again.
use Rattle.std.proofs.Common.{◌≡◌, ◌≢◌, ℕ, true, false, not, ◌&&◌, eqb-true, List, [], ◌∷◌, ◌++◌, Option, Some, None, refl, ap, sym, ◌∙◌, append_assoc, append-nil, option_map, bytes_eq, arith}
use Rattle.std.specs.List.{AllByRecursion, flat_map}
use Rattle.std.proofs.lemmas.Bool.{false≢true, and_parts, ltb-true}
use Rattle.std.proofs.lemmas.Str.{encode_ascii}
use Rattle.compilers.specs.declared.table.ArgDisposition.{ArgDisposition}
use Rattle.compilers.specs.Table.{Entry, Matched, lone, joined, awaiting, value_after, matched_rest, matched}
use Rattle.texts.specs.Lists.{rest_after}
use Rattle.compilers.specs.Items.{Item, flag, Said, item, option, items, said_by, said_of, unmatched_item, last_item, separate_item, joined_form, Completes, delimiter_before, value_words, words_of}
use Rattle.compilers.specs.WordsLaw.{is_joined, is_whole, AllWhole, IsReadOver, parts, LinesAreTheirParts, WholeItemsAreTheirParts, LinesHoldReadItems, WordsAreThoseRead, WordsReadBack, ListsReadBack, WholeLinesAreKept}
use Rattle.compilers.proofs.ItemLemmas.{items-completed}

-- a word with a rest after a text is the text and the rest
rest_after-some : (p s rest : List ℕ) → rest_after p s ≡ Some rest → s ≡ p ++ rest
rest_after-some [] s rest h = cc
rest_after-some (c ∷ cs) [] rest h = cc
rest_after-some (c ∷ cs) (d ∷ ds) rest h = grind (arith, eqb-true, (rest_after-some cs ds rest))

-- a value that isn't empty, with what stands before it, is what followed the option's text
value_after-some : (delimiter : Option ℕ) (rest value : List ℕ) → value_after delimiter rest ≡ Some value → value ≢ [] → delimiter_before value delimiter ++ value ≡ rest
value_after-some delimiter rest value h some = grind (arith, and_parts, encode_ascii, ltb-true, eqb-true)

-- nothing follows the text of a flag, or of an option that awaits its value
mapped-not : {A B : Type 0} (f : A → B) (o : Option A) (b : B) → ((a : A) → f a ≢ b) → option_map f o ≢ Some b
mapped-not f o b never h = grind arith

rest-unjoined : (form : Option ArgDisposition) (rest : List ℕ) (m : Matched) → ((value : List ℕ) → joined value ≢ m) → matched_rest form rest ≡ Some m → rest ≡ []
rest-unjoined form rest m never h = grind (arith, mapped-not)

one_word : (text rest value : List ℕ) (delimiter : Option ℕ) → value_after delimiter rest ≡ Some value → not (bytes_eq value []) ≡ true → ((text ++ delimiter_before value delimiter) ++ value) ∷ [] ≡ (text ++ rest) ∷ []
one_word text rest value delimiter h whole = grind (arith, append_assoc, value_after-some)

rest-joined : (form : Option ArgDisposition) (text rest value : List ℕ) → matched_rest form rest ≡ Some (joined value) → not (is_joined (joined_form form) && bytes_eq value []) ≡ true → value_words text value (joined_form form) ≡ (text ++ rest) ∷ []
rest-joined form text rest value h whole = grind (arith, one_word, mapped-not)

-- the text of an entry is the word if nothing follows it
text-alone : (text rest word : List ℕ) → word ≡ text ++ rest → rest ≡ [] → text ≡ word
text-alone text rest word e none = sym (append-nil text) ∙ ap (λ t. text ++ t) (sym none) ∙ sym e

-- a word that is no option is written as itself
unmatched-words : (T : Type 0) (word : List ℕ) → words_of (unmatched_item {T = T} word) ≡ word ∷ []
unmatched-words T word = grind arith

module _ {T : Type 0} where
  -- a word that an entry matches is the entry's text and what follows
  matched-rest : (e : Entry T) (word : List ℕ) (m : Matched) → matched e word ≡ Some m → (rest : List ℕ) × (word ≡ e.text ++ rest) × (matched_rest e.form rest ≡ Some m)
  matched-rest e word m h = grind (arith, rest_after-some)

  -- an item that a word says by itself is written as that word
  said_by-words : (e : Entry T) (word : List ℕ) (m : Option Matched) (j : Item T) → matched e word ≡ m → said_by e word m ≡ item j → is_whole j ≡ true → words_of j ≡ word ∷ []
  said_by-words e word None j at said whole = grind (arith, unmatched-words)
  said_by-words e word (Some lone) j at said whole =
      let is : j ≡ flag e.text e.kind = cc in
      let parts = matched-rest e word lone at in
      ap words_of is ∙ ap (λ t. t ∷ []) (text-alone e.text parts.0 word parts.1 (rest-unjoined e.form parts.0 lone (λ value e. cc) parts.2))
  said_by-words e word (Some (joined value)) j at said whole = grind (arith, matched-rest, rest-joined)
  said_by-words e word (Some awaiting) j at said whole = cc

  said-words : (word : List ℕ) (choice : Option (Entry T)) (j : Item T) → said_of word choice ≡ item j → is_whole j ≡ true → words_of j ≡ word ∷ []
  said-words word choice j said whole = grind (arith, unmatched-words, said_by-words)

  -- an option that awaits its value is the word
  said_by-option : (e f : Entry T) (word : List ℕ) (m : Option Matched) → matched e word ≡ m → said_by e word m ≡ option f → f.text ≡ word
  said_by-option e f word (Some awaiting) at said =
      let same : f ≡ e = cc in
      let parts = matched-rest e word awaiting at in
      ap (λ (g : Entry T). g.text) same ∙ text-alone e.text parts.0 word parts.1 (rest-unjoined e.form parts.0 awaiting (λ value e. cc) parts.2)
  said_by-option e f word _ at said = cc

  said-option : (word : List ℕ) (choice : Option (Entry T)) (f : Entry T) → said_of word choice ≡ option f → f.text ≡ word
  said-option word choice f said = grind (arith, said_by-option)

  -- an option with the next word as its value is written as both
  separate-words : (e : Entry T) (x : List ℕ) → words_of (separate_item e x) ≡ e.text ∷ x ∷ []
  separate-words e x = grind arith

module _ {T : Type 0} (chosen : List ℕ → Option (Entry T)) where
  first-completes : (w : List ℕ) (before : List (List ℕ)) (i : Item T) (later : List (Item T)) → items chosen (w ∷ before) ≡ i ∷ later → (after : List (List ℕ)) × Completes (said_of w (chosen w)) before i after × (later ≡ items chosen after)
  first-completes w before i later h = grind arith

  -- the words of a whole item: the word that begins it, and those that complete it
  completing-words : (w : List ℕ) (s : Said T) (before : List (List ℕ)) (i : Item T) (after : List (List ℕ)) → said_of w (chosen w) ≡ s → Completes s before i after → is_whole i ≡ true → (tail : List (List ℕ)) × (words_of i ≡ w ∷ tail) × (before ≡ tail ++ after) × ((rest : List (List ℕ)) → Completes s (tail ++ rest) i rest)
  completing-words w (item j) before i after said h whole = grind (arith, said-words)
  completing-words w (option e) [] i after said h whole = absurd ((grind (arith, false≢true)))
  completing-words w (option e) (x ∷ rest) i after said h whole =
      (x ∷ [], ap words_of h.0 ∙ separate-words e x ∙ ap (λ t. t ∷ x ∷ []) (said-option w (chosen w) e said), ap (λ r. x ∷ r) (sym h.1), λ more. (h.0, refl))

  first-words : (w : List ℕ) (before : List (List ℕ)) (i : Item T) (later : List (Item T)) → items chosen (w ∷ before) ≡ i ∷ later → is_whole i ≡ true → (after : List (List ℕ)) × (w ∷ before ≡ words_of i ++ after) × (later ≡ items chosen after) × ((rest : List (List ℕ)) → items chosen (words_of i ++ rest) ≡ i ∷ items chosen rest)
  first-words w before i later h whole =
      grind (arith, completing-words, items-completed, (first-completes w before i later h))

  pub words-are_those_read : WordsAreThoseRead chosen
  words-are_those_read [] i later h whole = cc
  words-are_those_read (w ∷ before) i later h whole = let read = first-words w before i later h whole in (read.0, read.1, read.2)

  read-back : (line : List (List ℕ)) (i : Item T) (later : List (Item T)) → items chosen line ≡ i ∷ later → is_whole i ≡ true → (after : List (List ℕ)) → items chosen (words_of i ++ after) ≡ i ∷ items chosen after
  read-back [] i later h whole = cc
  read-back (w ∷ before) i later h whole = let read = first-words w before i later h whole in read.3

  pub words-read_back : WordsReadBack chosen
  words-read_back i read whole = read-back read.0 i read.1 read.2 whole

  pub lists-read_back : ListsReadBack chosen
  lists-read_back [] read whole after = refl
  lists-read_back (i ∷ is) read whole after =
      ap (items chosen) (append_assoc (words_of i) (flat_map words_of is) after) ∙ words-read_back i read.0 whole.0 (flat_map words_of is ++ after) ∙ ap (λ js. i ∷ js) (lists-read_back is read.1 whole.1 after)

  -- each item of a line is the first one of the words from where it begins
  read-first : (w : List ℕ) (before : List (List ℕ)) (i : Item T) (after : List (List ℕ)) → Completes (said_of w (chosen w)) before i after → IsReadOver chosen i
  read-first w before i after h = (w ∷ before, items chosen after, items-completed chosen w before i after h)

  pub lines-hold_read_items : LinesHoldReadItems chosen
  lines-hold_read_items [] = tt
  lines-hold_read_items (w ∷ []) =
      elim (said_of w (chosen w))
      as (λ s. ((i : Item T) (after : List (List ℕ)) → Completes s [] i after → IsReadOver chosen i) → AllByRecursion (IsReadOver chosen) (elim s as (λ _. List (Item T)) [ item j ↦ j ∷ [] | option e ↦ last_item e ∷ [] ]))
      [ item j ↦ λ read. (read j [] (refl, refl), tt) | option e ↦ λ read. (read (last_item e) [] (refl, refl), tt) ] (read-first w [])
  lines-hold_read_items (w ∷ x ∷ rest) =
      let later = lines-hold_read_items (x ∷ rest) in
      let past = lines-hold_read_items rest in
      elim (said_of w (chosen w))
      as (λ s. ((i : Item T) (after : List (List ℕ)) → Completes s (x ∷ rest) i after → IsReadOver chosen i) → AllByRecursion (IsReadOver chosen) (elim s as (λ _. List (Item T)) [ item j ↦ j ∷ items chosen (x ∷ rest) | option e ↦ separate_item e x ∷ items chosen rest ]))
      [ item j ↦ λ read. (read j (x ∷ rest) (refl, refl), later) | option e ↦ λ read. (read (separate_item e x) rest (refl, refl), past) ] (read-first w (x ∷ rest))

  -- a line is its parts
  pub lines-are_their_parts : LinesAreTheirParts chosen
  lines-are_their_parts [] = (refl, refl)
  lines-are_their_parts (w ∷ []) = grind arith
  lines-are_their_parts (w ∷ x ∷ rest) = grind (arith, (lines-are_their_parts (x ∷ rest)), (lines-are_their_parts rest))

  pub whole_items-are_their_parts : WholeItemsAreTheirParts chosen
  whole_items-are_their_parts [] = tt
  whole_items-are_their_parts (w ∷ []) = grind (arith, said-words)
  whole_items-are_their_parts (w ∷ x ∷ rest) = grind (arith, said-words, separate-words, said-option, (whole_items-are_their_parts (x ∷ rest)), (whole_items-are_their_parts rest))

  words-of_items : (is : List (Item T)) (line : List (List ℕ)) → items chosen line ≡ is → AllWhole is → flat_map words_of is ≡ line
  words-of_items [] line h whole = sym ((grind arith))
  words-of_items (i ∷ is) line h whole =
      grind (arith, (words-of_items is), (words-are_those_read line i is h whole.0))

  pub whole-lines_are_kept : WholeLinesAreKept chosen
  whole-lines_are_kept line whole = words-of_items (items chosen line) line refl whole
