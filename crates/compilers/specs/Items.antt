-- The items of a command line, and the words that an item is written as.
use Rattle.std.specs.Prelude.{◌≡◌, ℕ, List, [], ◌∷◌, ◌++◌, Bool, true, false, ◌==◌, if◌then◌else◌, Option, Some, None, Result, Ok, Err, IfSome, IfNone, string_bytes, encode_utf8}
use Rattle.compilers.specs.declared.table.ArgDisposition.{ArgDisposition}
use Rattle.compilers.specs.declared.table.ArgDisposition.TheVariants.{Separated, Concatenated, CanBeSeparated, CanBeConcatenated}
use Rattle.compilers.specs.declared.items.Argument.{Argument}
use Rattle.compilers.specs.declared.items.Argument.TheVariants.{Raw, UnknownFlag, Flag, WithValue}
use Rattle.compilers.specs.declared.items.ArgParseError.{ArgParseError}
use Rattle.compilers.specs.declared.items.NormalizedDisposition.{NormalizedDisposition}
use Rattle.compilers.specs.declared.items.NormalizedDisposition.TheVariants as normal
use Rattle.compilers.specs.Table.{Entry, Matched, lone, joined, awaiting, matched}

-- an item of a command line: a word that is no option, an unknown flag, a flag, an option with its value and that
-- value's form, or an option whose value is missing
pub data Item (T : Type 0) : Type 0 where
  raw : List ℕ → Item T
  unknown_flag : List ℕ → Item T
  flag : List ℕ → T → Item T
  with_value : List ℕ → T → List ℕ → ArgDisposition → Item T
  faulty : Item T

-- the form of a value that is joined to its option
abbrev pub joined_form : Option ArgDisposition → ArgDisposition
joined_form None = Concatenated None
joined_form (Some (CanBeConcatenated delimiter)) = CanBeSeparated delimiter
joined_form (Some form) = form

-- the form of a value that is the next word
abbrev pub separate_form : Option ArgDisposition → ArgDisposition
separate_form (Some (CanBeSeparated delimiter)) = CanBeConcatenated delimiter
separate_form (Some (CanBeConcatenated delimiter)) = CanBeConcatenated delimiter
separate_form _ = Separated

-- whether an option that awaits its value may be the last word: it then has the empty value, joined to it
abbrev pub may_stand_last : Option ArgDisposition → Bool
may_stand_last (Some (CanBeSeparated None)) = true
may_stand_last (Some (CanBeConcatenated None)) = true
may_stand_last _ = false

module _ {T : Type 0} where
  -- a word that no entry matches is an unknown flag if it begins with `-`, else a raw word
  abbrev pub unmatched_item : List ℕ → Item T
  unmatched_item [] = raw []
  unmatched_item (c ∷ cs) = if c == 45 then unknown_flag (c ∷ cs) else raw (c ∷ cs)

  -- an option whose value is the next word
  abbrev pub separate_item : Entry T → List ℕ → Item T
  separate_item e value = with_value e.text e.kind value (separate_form e.form)

  -- an option that awaits its value, as the last word
  abbrev pub last_item : Entry T → Item T
  last_item e = if may_stand_last e.form then with_value e.text e.kind [] (joined_form e.form) else faulty

-- what a word is by itself: an item, or an option whose value is the next word
pub data Said (T : Type 0) : Type 0 where
  item : Item T → Said T
  option : Entry T → Said T

module _ {T : Type 0} where
  -- what a word is that an entry matches
  abbrev pub said_by : Entry T → List ℕ → Option Matched → Said T
  said_by e word None = item (unmatched_item word)
  said_by e word (Some lone) = item (flag e.text e.kind)
  said_by e word (Some (joined value)) = item (with_value e.text e.kind value (joined_form e.form))
  said_by e word (Some awaiting) = option e

  -- what a word is, with the entry that it chooses
  abbrev pub said_of : List ℕ → Option (Entry T) → Said T
  said_of word None = item (unmatched_item word)
  said_of word (Some e) = said_by e word (matched e word)

module _ {T : Type 0} (chosen : List ℕ → Option (Entry T)) where
  -- the items of a line over a table
  abbrev pub items : List (List ℕ) → List (Item T)
  items [] = []
  items (w ∷ []) = elim (said_of w (chosen w)) [ item i ↦ i ∷ [] | option e ↦ last_item e ∷ [] ]
  items (w ∷ x ∷ rest) = elim (said_of w (chosen w)) [ item i ↦ i ∷ items (x ∷ rest) | option e ↦ separate_item e x ∷ items rest ]

-- the item that a word begins, with the words after it before and after reading: an option takes the next word, and at
-- the end of the line it is the last item
abbrev pub Completes : {T : Type 0} → Said T → List (List ℕ) → Item T → List (List ℕ) → Type 0
Completes (item j) before i after = (i ≡ j) × (after ≡ before)
Completes (option e) [] i after = (i ≡ last_item e) × (after ≡ [])
Completes (option e) (x ∷ rest) i after = (i ≡ separate_item e x) × (after ≡ rest)

-- the bytes between an option and a joined value
abbrev pub delimiter_before : List ℕ → Option ℕ → List ℕ
delimiter_before value None = []
delimiter_before [] (Some d) = []
delimiter_before (c ∷ cs) (Some d) = encode_utf8 d

-- the words of an option with its value
abbrev pub value_words : List ℕ → List ℕ → ArgDisposition → List (List ℕ)
value_words text value Separated = text ∷ value ∷ []
value_words text value (CanBeConcatenated delimiter) = text ∷ value ∷ []
value_words text value (Concatenated delimiter) = ((text ++ delimiter_before value delimiter) ++ value) ∷ []
value_words text value (CanBeSeparated delimiter) = ((text ++ delimiter_before value delimiter) ++ value) ∷ []

-- the form to write a value in, if its option may be written both ways; any other value keeps its form
abbrev pub normal_form : NormalizedDisposition → ArgDisposition → ArgDisposition
normal_form disposition Separated = Separated
normal_form disposition (Concatenated delimiter) = Concatenated delimiter
normal_form normal.Separated (CanBeSeparated delimiter) = Separated
normal_form normal.Concatenated (CanBeSeparated delimiter) = Concatenated delimiter
normal_form normal.Separated (CanBeConcatenated delimiter) = Separated
normal_form normal.Concatenated (CanBeConcatenated delimiter) = Concatenated delimiter

module _ {T : Type 0} where
  -- an item in the form to write it in
  abbrev pub normalized : NormalizedDisposition → Item T → Item T
  normalized disposition (with_value text kind value form) = with_value text kind value (normal_form disposition form)
  normalized disposition i = i

  -- the words that an item is written as; a faulty one has none
  abbrev pub words_of : Item T → List (List ℕ)
  words_of (raw word) = word ∷ []
  words_of (unknown_flag word) = word ∷ []
  words_of (flag text kind) = text ∷ []
  words_of (with_value text kind value form) = value_words text value form
  words_of faulty = []

  -- the kind of the option that an item is
  abbrev pub kind_of : Item T → Option T
  kind_of (flag text kind) = Some kind
  kind_of (with_value text kind value form) = Some kind
  kind_of _ = None

  -- the text of the option that an item is
  abbrev pub text_of : Item T → Option (List ℕ)
  text_of (flag text kind) = Some text
  text_of (with_value text kind value form) = Some text
  text_of _ = None

  -- the value that an item has, and the empty text if it has none
  abbrev pub value_of : Item T → List ℕ
  value_of (with_value text kind value form) = value
  value_of _ = []

  -- the item that an argument is
  abbrev pub item_of : Argument T → Item T
  item_of (Raw word) = raw (string_bytes word)
  item_of (UnknownFlag word) = unknown_flag (string_bytes word)
  item_of (Flag text kind) = flag text.now kind
  item_of (WithValue text kind value form) = with_value text.now kind (string_bytes value) form

  -- the item that one step of reading gives
  abbrev pub item_read : Result (Argument T) ArgParseError → Item T
  item_read (Ok argument) = item_of argument
  item_read (Err error) = faulty

-- the words left after an item, of the words after its first: an option takes the next one
abbrev pub words_past : {T : Type 0} → Said T → List (List ℕ) → List (List ℕ)
words_past (option e) (x ∷ rest) = rest
words_past _ before = before

-- the words of a line that are left after its first item
abbrev pub words_after : {T : Type 0} → (List ℕ → Option (Entry T)) → List (List ℕ) → List (List ℕ)
words_after chosen [] = []
words_after chosen (w ∷ before) = words_past (said_of w (chosen w)) before

-- One step of reading a line, from the words and the state before it to those after it. An item that comes is the first
-- of the items left. If none comes, an allocation failed or no word is left. After an allocation failure nothing more
-- comes. Without words nothing comes and nothing fails. The words left are those after the first item, even if copying it
-- failed.
pub record ReadsItem {T : Type 0} (chosen : List ℕ → Option (Entry T)) (before : List (List ℕ)) (was_refused : Bool)
    (read : Option (Item T)) (after : List (List ℕ)) (refused : Bool) : Type 0 where
  pub next : IfSome read (λ i. items chosen before ≡ i ∷ items chosen after)
  pub goes_on : IfSome read (λ _. refused ≡ false)
  pub at_end : IfNone read (refused ≡ false → before ≡ [])
  pub ended : was_refused ≡ true → (read ≡ None) × (refused ≡ true)
  pub without_words : before ≡ [] → (read ≡ None) × (refused ≡ was_refused)
  pub left : after ≡ (if was_refused then before else words_after chosen before)
