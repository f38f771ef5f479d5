-- The commands that may start as the entrants of a tournament, and how many of its needs each still waits for.
use Rattle.std.specs.Prelude.{◌≡◌, ℕ, ◌+◌, ◌<◌, ◌≤◌, List, [], ◌∷◌, Bool, ◌&&◌, ◌==◌, not, if◌then◌else◌, length, nat_lt, slice_index}
use Rattle.std.specs.List.{list_all}
use Rattle.schedules.specs.declared.command.CommandState.{CommandState}
use Rattle.schedules.specs.States.{is_waiting, is_succeeded, state_at}
pub use Rattle.schedules.specs.Tournament.{Played, entrant}

-- how many of some commands haven't succeeded, each as often as it is listed
abbrev pub unmet : List CommandState → List ℕ → ℕ
unmet states [] = 0
unmet states (m ∷ ms) = (if is_succeeded (state_at states m) then 0 else 1) + unmet states ms

-- how often a number is listed
abbrev pub times : ℕ → List ℕ → ℕ
times n [] = 0
times n (m ∷ ms) = (if m == n then 1 else 0) + times n ms

-- whether a command may start by what is counted
abbrev pub is_free : List CommandState → List ℕ → ℕ → ℕ → Bool
is_free states waiting limit n = is_waiting (state_at states n) && ((slice_index waiting n == 0) && nat_lt n limit)

-- these are the entrants of the tournament
pub record AreEntered (priorities tree : List ℕ) (states : List CommandState) (waiting : List ℕ) (limit : ℕ) : Type 0 where
  pub size : length tree ≡ length priorities + length priorities
  pub played : Played priorities tree
  pub entrants : (n : ℕ) → n < length priorities → entrant priorities tree n ≡ (if is_free states waiting limit n then n else length priorities)

-- nobody at the places from one up to another, without that one itself, and elsewhere what was there
abbrev pub unless_between : ℕ → ℕ → ℕ → ℕ → ℕ → ℕ
unless_between from to nobody k was = if not (nat_lt k from) && nat_lt k to then nobody else was

-- each entrant is a command or nobody
abbrev pub AreBounded : List ℕ → List ℕ → Type 0
AreBounded priorities tree = (k : ℕ) → k < length priorities → entrant priorities tree k ≤ length priorities

-- whether all numbers are below a number
abbrev pub are_below : ℕ → List ℕ → Bool
are_below count ns = list_all (λ n. nat_lt n count) ns
