-- Option tables: how an entry matches a word, and which entry of a table a word chooses.
use Rattle.std.specs.Prelude.{◌≡◌, ℕ, ◌≤◌, List, [], ◌∷◌, Bool, true, ◌==◌, ◌&&◌, nat_lt, if◌then◌else◌, Option, Some, None, is_some, length, fold, IsSome, MatchOption, All, Contains, option_map, option_and_then}
use Rattle.texts.specs.Lists.{rest_after}
use Rattle.compilers.specs.declared.table.ArgDisposition.{ArgDisposition}
use Rattle.compilers.specs.declared.table.ArgDisposition.TheVariants.{Separated, Concatenated, CanBeSeparated, CanBeConcatenated}
use Rattle.compilers.specs.declared.table.ArgInfo.{ArgInfo}
use Rattle.compilers.specs.declared.table.ArgInfo.TheVariants.{Flag, TakeArg}
use Rattle.compilers.specs.declared.table.Match.{Match}
use Rattle.compilers.specs.declared.table.Match.TheVariants.{Lone, Joined, Awaiting}

-- an entry of a table: its text, its kind, and how it takes a value; a flag takes none
pub record Entry (T : Type 0) : Type 0 where
  pub text : List ℕ
  pub kind : T
  pub form : Option ArgDisposition

-- an entry of a table of the code
abbrev pub entry_of : {T : Type 0} → ArgInfo T → Entry T
entry_of (Flag text kind) = record { text = text.now; kind = kind; form = None }
entry_of (TakeArg text kind form) = record { text = text.now; kind = kind; form = Some form }

-- the value in the option's own word, by what follows the option's text there: all of it, or with an ASCII delimiter
-- nothing, or what follows the delimiter; another delimiter never matches
abbrev pub value_after : Option ℕ → List ℕ → Option (List ℕ)
value_after None rest = Some rest
value_after (Some d) [] = if nat_lt d 128 then Some [] else None
value_after (Some d) (c ∷ cs) = if nat_lt d 128 && (c == d) then Some cs else None

-- how an entry matches a word: as a lone flag, as an option with its value joined to it, or as an option whose value is
-- the next word
pub data Matched : Type 0 where
  lone : Matched
  joined : List ℕ → Matched
  awaiting : Matched

-- the same, as the code has it
abbrev pub matched_of : Match → Matched
matched_of Lone = lone
matched_of (Joined value) = joined value.now
matched_of Awaiting = awaiting

-- how an option that may be separated matches a word, by what follows its text: alone it awaits its value
abbrev pub matched_either : Option ℕ → List ℕ → Option Matched
matched_either delimiter [] = option_map (λ _. awaiting) (value_after delimiter [])
matched_either delimiter (c ∷ cs) = option_map joined (value_after delimiter (c ∷ cs))

-- how an entry of a form matches a word, by what follows its text
abbrev pub matched_rest : Option ArgDisposition → List ℕ → Option Matched
matched_rest None [] = Some lone
matched_rest (Some Separated) [] = Some awaiting
matched_rest (Some (Concatenated delimiter)) rest = option_map joined (value_after delimiter rest)
matched_rest (Some (CanBeSeparated delimiter)) rest = matched_either delimiter rest
matched_rest (Some (CanBeConcatenated delimiter)) rest = matched_either delimiter rest
matched_rest _ _ = None

module _ {T : Type 0} where
  -- how an entry matches a word; `None` if it doesn't
  abbrev pub matched : Entry T → List ℕ → Option Matched
  matched e word = option_and_then (matched_rest e.form) (rest_after e.text word)

  -- an entry with the longest text of those that match the word; none exactly when none matches
  abbrev pub IsLongestMatch : List (Entry T) → List ℕ → Option (Entry T) → Type 0
  IsLongestMatch entries word choice =
      MatchOption choice (All (λ e. matched e word ≡ None) entries)
      (λ e. Contains entries e × IsSome (matched e word) × All (λ f. IsSome (matched f word) → length f.text ≤ length e.text) entries)

  -- whether an entry's text is longer than that of the choice so far
  abbrev pub is_longer : Entry T → Option (Entry T) → Bool
  is_longer e None = true
  is_longer e (Some best) = nat_lt (length best.text) (length e.text)

  -- the choice so far, or the next entry if it matches and is longer
  abbrev pub longer_match : List ℕ → Option (Entry T) → Entry T → Option (Entry T)
  longer_match word best e = if is_some (matched e word) && is_longer e best then Some e else best

  -- the entry of a list that a word chooses: the longest match, and the first of equally long ones
  abbrev pub longest_match : List (Entry T) → List ℕ → Option (Entry T)
  longest_match entries word = fold (longer_match word) None entries

  -- the choice of two tables: the longer one, and the second table's if both are equally long
  abbrev pub longer_choice : Option (Entry T) → Option (Entry T) → Option (Entry T)
  longer_choice None second = second
  longer_choice (Some first) None = Some first
  longer_choice (Some first) (Some second) = if nat_lt (length second.text) (length first.text) then Some first else Some second

  -- the entry of two lists that a word chooses: the longer of their choices, and the second's if both are equally long
  abbrev pub longest_of_two : List (Entry T) → List (Entry T) → List ℕ → Option (Entry T)
  longest_of_two first second word = longer_choice (longest_match first word) (longest_match second word)
