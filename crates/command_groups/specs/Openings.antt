-- Openings of device groups, as names in order of first appearance with the places of the steps that opened them last.
use Rattle.std.specs.Prelude.{ℕ, suc, List, [], ◌∷◌, ◌++◌, Bool, ◌==◌, nat_le, map, if◌then◌else◌, Option, Some, None, slice_get, bytes_eq, String, string_bytes}
use Rattle.std.specs.declared.alloc.Global.{Global}
use Rattle.texts.specs.Lists.{is_some_and}
use Rattle.command_groups.specs.declared.openings.Opening.{Opening}

-- the entries of a map by names, seen as texts
abbrev pub entry_seen : String Global × ℕ → List ℕ × ℕ
entry_seen e = (string_bytes e.0, e.1)

-- names with the places of steps, and the names alone
abbrev pub Opened : Type 0
Opened = List (List ℕ × ℕ)

abbrev pub names_of : Opened → List (List ℕ)
names_of opened = map (λ e. e.0) opened

abbrev pub opening_at : ℕ → ℕ → Opening
opening_at number step = record { number = number; step = step }

-- the same opening, one name further on
abbrev pub further : Option Opening → Option Opening
further None = None
further (Some o) = Some (opening_at (suc o.number) o.step)

-- the last opening of a name
abbrev pub opening_of : Opened → List ℕ → Option Opening
opening_of [] name = None
opening_of (e ∷ es) name = if bytes_eq name e.0 then Some (opening_at 0 e.1) else further (opening_of es name)

-- the number of a name: how many names stand before it
abbrev pub number_of : Opened → List ℕ → ℕ
number_of [] name = 0
number_of (e ∷ es) name = if bytes_eq name e.0 then 0 else suc (number_of es name)

-- whether an opening is the last one of its name
abbrev pub is_live : Opened → Opening → Bool
is_live opened o = is_some_and (λ e. e.1 == o.step) (slice_get opened o.number)

-- of an opening, if any, and a further one, that of the lower number
abbrev pub lower : Option Opening → Opening → Opening
lower None o = o
lower (Some first) o = if nat_le first.number o.number then first else o

-- of openings, the one of the lowest number that is the last one of its name
abbrev pub first_live_after : Opened → Option Opening → List Opening → Option Opening
first_live_after opened first [] = first
first_live_after opened first (o ∷ os) = first_live_after opened (if is_live opened o then Some (lower first o) else first) os

abbrev pub first_live : Opened → List Opening → Option Opening
first_live opened os = first_live_after opened None os

-- files with the openings of the groups that they are made in
abbrev pub Made : Type 0
Made = List ℕ → List Opening

abbrev pub with_file : Made → List ℕ → Opening → Made
with_file made path o = λ other. if bytes_eq other path then made other ++ o ∷ [] else made other
