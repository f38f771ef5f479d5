-- The words that items are written as are read as the same items again. All of it holds for every choice of entries, so
-- for every table.
use Rattle.std.specs.Prelude.{◌≡◌, ℕ, List, [], ◌∷◌, ◌++◌, Bool, true, false, not, ◌&&◌, map, Option, bytes_eq}
use Rattle.std.specs.List.{AllByRecursion, flat_map}
use Rattle.compilers.specs.declared.table.ArgDisposition.{ArgDisposition}
use Rattle.compilers.specs.declared.table.ArgDisposition.TheVariants.{Concatenated, CanBeSeparated}
use Rattle.compilers.specs.Table.{Entry}
use Rattle.compilers.specs.Items.{Item, with_value, faulty, item, option, said_of, last_item, separate_item, items, words_of}

-- whether a value of this form is written in its option's own word
abbrev pub is_joined : ArgDisposition → Bool
is_joined (Concatenated delimiter) = true
is_joined (CanBeSeparated delimiter) = true
is_joined _ = false

module _ {T : Type 0} where
  -- whether an item is whole: it isn't faulty, and its value isn't both joined and empty
  abbrev pub is_whole : Item T → Bool
  is_whole (with_value text kind value form) = not (is_joined form && bytes_eq value [])
  is_whole faulty = false
  is_whole _ = true

  -- all items of a list are whole
  abbrev pub AllWhole : List (Item T) → Type 0
  AllWhole is = AllByRecursion (λ i. is_whole i ≡ true) is

module _ {T : Type 0} (chosen : List ℕ → Option (Entry T)) where
  -- an item that is read over the table: the first one of some line
  abbrev pub IsReadOver : Item T → Type 0
  IsReadOver i = (line : List (List ℕ)) × (later : List (Item T)) × (items chosen line ≡ i ∷ later)

  -- each item of a line is read over the table, also those that aren't the first
  abbrev pub LinesHoldReadItems : Type 0
  LinesHoldReadItems = (line : List (List ℕ)) → AllByRecursion IsReadOver (items chosen line)

  -- the words of a whole item are those that it was read from: the line begins with them, and the items after it
  -- are the items of the words after them
  abbrev pub WordsAreThoseRead : Type 0
  WordsAreThoseRead =
      (line : List (List ℕ)) (i : Item T) (later : List (Item T)) → items chosen line ≡ i ∷ later
      → is_whole i ≡ true → (after : List (List ℕ)) × (line ≡ words_of i ++ after) × (later ≡ items chosen after)

  -- the words of a whole item that was read over the table are read as that item, whatever words come after them
  abbrev pub WordsReadBack : Type 0
  WordsReadBack = (i : Item T) → IsReadOver i → is_whole i ≡ true → (after : List (List ℕ)) → items chosen (words_of i ++ after) ≡ i ∷ items chosen after

  -- the same of the words of a list of such items
  abbrev pub ListsReadBack : Type 0
  ListsReadBack =
      (is : List (Item T)) → AllByRecursion IsReadOver is → AllWhole is → (after : List (List ℕ))
      → items chosen (flat_map words_of is ++ after) ≡ is ++ items chosen after

  -- the items of a line, each with the part of the line that it was read from: its first word, and for an option
  -- that takes the next word that one
  abbrev pub parts : List (List ℕ) → List (Item T × List (List ℕ))
  parts [] = []
  parts (w ∷ []) = elim (said_of w (chosen w)) [ item i ↦ (i, w ∷ []) ∷ [] | option e ↦ (last_item e, w ∷ []) ∷ [] ]
  parts (w ∷ x ∷ rest) = elim (said_of w (chosen w)) [ item i ↦ (i, w ∷ []) ∷ parts (x ∷ rest) | option e ↦ (separate_item e x, w ∷ x ∷ []) ∷ parts rest ]

  -- the parts of a line are those of its items, and one after the other they are the line
  abbrev pub LinesAreTheirParts : Type 0
  LinesAreTheirParts = (line : List (List ℕ)) → (map (λ p. p.0) (parts line) ≡ items chosen line) × (flat_map (λ p. p.1) (parts line) ≡ line)

  -- the words of each whole item of a line are its part, whatever items come before it
  abbrev pub WholeItemsAreTheirParts : Type 0
  WholeItemsAreTheirParts = (line : List (List ℕ)) → AllByRecursion (λ p. is_whole p.0 ≡ true → words_of p.0 ≡ p.1) (parts line)

  -- a line whose items are all whole is written as the line itself
  abbrev pub WholeLinesAreKept : Type 0
  WholeLinesAreKept = (line : List (List ℕ)) → AllWhole (items chosen line) → flat_map words_of (items chosen line) ≡ line
