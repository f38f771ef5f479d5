-- Where the variables of an environment stand, by the beginnings of their names.
use Rattle.std.specs.Prelude.{◌≡◌, ℕ, ◌+◌, List, [], ◌∷◌, ◌++◌, Bool, drop, if◌then◌else◌, refl, codes, bytes_eq, ◌<◌, ◌≤◌, true, false, nat_le, ◌==◌, ◌&&◌, length, slice_get}
use Rattle.std.specs.HashMap.{get_by_text}
use Rattle.std.specs.Option.{option_map_or}
use Rattle.std.specs.List.{take_while, prefix_len, list_all, list_any}
use Rattle.dry_runs.specs.declared.places.NamePlaces.{NamePlaces}
use Rattle.texts.specs.Lists.{is_some_and, rest_after}
use Rattle.dry_runs.specs.Environment.{Variable, is_name_byte, is_followed}

-- the bytes of a name that a text begins with. A name and a text that refers to it begin with the same ones
abbrev pub beginning : List ℕ → List ℕ
beginning text = take_while is_name_byte text

-- what follows them
abbrev pub behind_beginning : List ℕ → List ℕ
behind_beginning text = drop (prefix_len is_name_byte text) text

-- whether all names are made of such bytes alone, as those of environment lines are
abbrev pub are_plain : List Variable → Bool
are_plain env = list_all (λ v. list_all is_name_byte v.0) env

-- the places of variables, for each beginning of their names
abbrev pub Places : Type 0
Places = List ℕ → List ℕ

-- the places as the code holds them
abbrev pub places_seen : NamePlaces → Places
places_seen p start = option_map_or (λ places. places.items) (get_by_text p.places start) []

abbrev pub no_places : Places
no_places start = []

-- one more place
abbrev pub with_place : Places → List ℕ → ℕ → Places
with_place places start place = λ other. if bytes_eq other start then places other ++ place ∷ [] else places other

-- the places of variables, numbered from `place` on
abbrev pub places_from : ℕ → List Variable → Places
places_from place [] start = []
places_from place (v ∷ vs) start = (if bytes_eq start (beginning v.0) then place ∷ [] else []) ++ places_from (place + 1) vs start

-- example: two variables of one beginning
pub places_of_a_beginning : places_from 0 ((codes "A", []) ∷ (codes "B", []) ∷ (codes "A-1", []) ∷ []) (codes "A") ≡ 0 ∷ 2 ∷ []
places_of_a_beginning = refl

-- Which variable of an environment a text refers to first.

-- what follows each `$` of a text, in order
abbrev pub behind_dollars : List ℕ → List (List ℕ)
behind_dollars [] = []
behind_dollars (c ∷ cs) = if c == 36 then cs ∷ behind_dollars cs else behind_dollars cs

-- whether a text refers to a variable, by what follows each `$` of the text
abbrev pub refers : List ℕ → List (List ℕ) → Bool
refers name behind = list_any (λ after. is_followed (rest_after name after)) behind

-- of places that rise, the first that passes a test and is below a bound, or the bound
abbrev pub first_below : (ℕ → Bool) → ℕ → List ℕ → ℕ
first_below test bound [] = bound
first_below test bound (place ∷ places) = if nat_le bound place then bound else if test place then place else first_below test bound places

-- whether the text behind a `$` refers to the variable at a place
abbrev pub follows_at : List Variable → List ℕ → ℕ → Bool
follows_at env after place = is_some_and (λ v. is_followed (rest_after v.0 after)) (slice_get env place)

-- the same, for variables from a place on
abbrev pub follows_from : ℕ → List Variable → List ℕ → ℕ → Bool
follows_from from env after place = nat_le from place && follows_at env after place

-- whether a text refers to the variable at a place
abbrev pub refers_at : List Variable → List ℕ → ℕ → Bool
refers_at env text place = is_some_and (λ v. refers v.0 (behind_dollars text)) (slice_get env place)

-- from a place on, a text refers to this variable first, or to none if there is no variable at the place
pub record IsFirstReferred (env : List Variable) (from : ℕ) (text : List ℕ) (place : ℕ) : Type 0 where
  pub within : place ≤ length env
  pub none_before : (i : ℕ) → from ≤ i → i < place → refers_at env text i ≡ false
  pub is_one : place < length env → (from ≤ place) × (refers_at env text place ≡ true)
