-- Whether words may become the number of a line, by macros.
--
-- Of a macro that is defined more than once each definition counts. A macro may put parts of words together (`##`), in any order.
use denote.Ref.{Bor}
use Rattle.std.specs.Prelude.{◌≡◌, refl, ℕ, zero, suc, ◌+◌, ◌-◌, List, [], ◌∷◌, ◌++◌, Bool, true, false, not, ◌&&◌, ◌||◌, map, length, take, drop, codes, bytes_eq}
use Rattle.std.specs.List.{list_all, concat, Contains}
use Rattle.source_layouts.specs.declared.line_numbers.Macro.{Macro}

-- a set of words
abbrev pub Set : Type 0
Set = List ℕ → Bool

abbrev pub no_words : Set
no_words = λ word. false

abbrev pub with_word : Set → List ℕ → Set
with_word set word = λ other. bytes_eq word other || set other

abbrev pub with_words : Set → List (List ℕ) → Set
with_words set [] = set
with_words set (word ∷ words) = with_words (with_word set word) words

-- the set of some words
abbrev pub among : List (List ℕ) → Set
among words = with_words no_words words

abbrev pub shown : Bor (List ℕ) → List ℕ
shown text = text.now

-- a macro: its name, and the words of all that it may become
pub record Defined : Type 0 where
  pub name : List ℕ
  pub words : List (List ℕ)

abbrev pub defined : Macro → Defined
defined m = record { name = m.name.now; words = map shown m.words.now }

-- the macro that is the number of a line
abbrev pub line : List ℕ
line = codes "__LINE__"

-- what gcc's own macros put behind a word
abbrev pub suffixes : List (List ℕ)
suffixes = codes "L" ∷ codes "LL" ∷ codes "U" ∷ codes "UL" ∷ codes "ULL" ∷ []

-- a text that is words of a set, one behind the other
pub record IsJoined (set : Set) (text : List ℕ) : Type 0 where
  pub parts : List (List ℕ)
  pub known : list_all set parts ≡ true
  pub whole : concat parts ≡ text

-- A set is closed if it has the words of a text and those of gcc's own macros, with a macro's name all that the macro may become, and each name,
-- of a macro or of the line's number, that is words of the set put together.
pub record IsClosed (macros : List Defined) (words : List (List ℕ)) (set : Set) : Type 0 where
  pub has : (word : List ℕ) → Contains words word → set word ≡ true
  pub suffix : (word : List ℕ) → Contains suffixes word → set word ≡ true
  pub becomes : (m : Defined) → Contains macros m → set m.name ≡ true → (word : List ℕ) → Contains m.words word → set word ≡ true
  pub joins : (m : Defined) → Contains macros m → IsJoined set m.name → set m.name ≡ true
  pub number : IsJoined set line → set line ≡ true

-- Words may become the number of a line if each closed set has it: so it is in the least one.
abbrev pub MayBecomeLines : List Defined → List (List ℕ) → Type 0
MayBecomeLines macros words = (set : Set) → IsClosed macros words set → set line ≡ true

abbrev pub NeverBecomeLines : List Defined → List (List ℕ) → Type 0
NeverBecomeLines macros words = MayBecomeLines macros words → ⊥

-- ---- how a set is known to be closed

-- whether a text up to a place is joined, by a word that begins at one of the places before, given which of these the text is joined up to
abbrev pub ends_at : Set → List ℕ → ℕ → ℕ → List Bool → Bool
ends_at set text end start [] = false
ends_at set text end start (b ∷ bs) = (b && set (take (end - start) (drop start text))) || ends_at set text end (start + 1) bs

-- for each place of a text up to one, whether the text up to there is joined
abbrev pub joined_up_to : Set → List ℕ → ℕ → List Bool
joined_up_to set text zero = true ∷ []
joined_up_to set text (suc n) = joined_up_to set text n ++ ends_at set text (suc n) 0 (joined_up_to set text n) ∷ []

abbrev pub joined_at : Set → List ℕ → ℕ → Bool
joined_at set text zero = true
joined_at set text (suc n) = ends_at set text (suc n) 0 (joined_up_to set text n)

abbrev pub is_joined : Set → List ℕ → Bool
is_joined set text = joined_at set text (length text)

abbrev pub has_all : Set → List (List ℕ) → Bool
has_all set words = list_all set words

-- a set that has a macro's name has what the macro becomes, and it has a name that is words of it put together
abbrev pub goes_on : Set → Defined → Bool
goes_on set m = not (set m.name) || has_all set m.words

abbrev pub has_joined : Set → List ℕ → Bool
has_joined set name = set name || not (is_joined set name)

abbrev pub lacks_lines : Set → Bool
lacks_lines set = not (set line) && not (is_joined set line)

-- whether a set is closed, and lacks the number of a line
abbrev pub shuts_out : List Defined → List (List ℕ) → Set → Bool
shuts_out macros words set =
    (lacks_lines set && (has_all set words && has_all set suffixes)) && (list_all (goes_on set) macros && list_all (λ m. has_joined set m.name) macros)

-- then the words of a text don't become the number of a line
abbrev pub ClosedSetsShutOut : Type 0
ClosedSetsShutOut =
    (macros : List Defined) (words : List (List ℕ)) (set : Set) → shuts_out macros words set ≡ true → NeverBecomeLines macros words

-- ---- examples

abbrev chain : List Defined
chain =
    record { name = codes "assert"; words = codes "x" ∷ codes "fail" ∷ line ∷ [] }
    ∷ record { name = codes "CHECK"; words = codes "assert" ∷ [] }
    ∷ record { name = codes "SIZE"; words = codes "64" ∷ [] }
    ∷ []

abbrev pub SetsAreTried : Type 0
SetsAreTried =
    (shuts_out chain (codes "a" ∷ codes "SIZE" ∷ []) (among (codes "a" ∷ codes "SIZE" ∷ codes "64" ∷ suffixes)) ≡ true)
    × (shuts_out chain (codes "SIZE" ∷ []) (among (codes "SIZE" ∷ suffixes)) ≡ false)
    × (shuts_out chain (codes "CHECK" ∷ []) (among (codes "CHECK" ∷ codes "assert" ∷ codes "x" ∷ codes "fail" ∷ suffixes)) ≡ false)
    × (shuts_out chain (codes "as" ∷ codes "sert" ∷ []) (among (codes "as" ∷ codes "sert" ∷ suffixes)) ≡ false)
    × (shuts_out chain (codes "as" ∷ codes "ert" ∷ []) (among (codes "as" ∷ codes "ert" ∷ suffixes)) ≡ true)
    × (shuts_out [] (codes "__" ∷ codes "INE__" ∷ []) (among (codes "__" ∷ codes "INE__" ∷ suffixes)) ≡ false)
    × (shuts_out [] (codes "a" ∷ []) (among suffixes) ≡ false)

pub sets_are_tried : SetsAreTried
sets_are_tried = (refl, refl, refl, refl, refl, refl, refl)
