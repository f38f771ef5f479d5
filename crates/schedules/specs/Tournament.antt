-- A tournament of commands: who beats whom, and when all games are played.
use Rattle.std.specs.Prelude.{◌≡◌, ℕ, ◌+◌, ◌*◌, ◌<◌, List, Bool, ◌&&◌, ◌||◌, ◌==◌, if◌then◌else◌, length, nat_lt, slice_index}

-- whether the second of two commands has a greater priority than the first, or the same and a lower number
abbrev pub precedes : List ℕ → ℕ → ℕ → Bool
precedes priorities first second =
    nat_lt (slice_index priorities first) (slice_index priorities second)
    || (slice_index priorities first == slice_index priorities second && nat_lt second first)

-- the better one of two. A number that isn't a command's stands for nobody.
abbrev pub better : List ℕ → ℕ → ℕ → ℕ
better priorities first second =
    if nat_lt second (length priorities)
    then (if nat_lt first (length priorities) then (if precedes priorities first second then second else first) else second)
    else first

-- the place of a command in a tree
abbrev pub entrant : List ℕ → List ℕ → ℕ → ℕ
entrant priorities tree k = slice_index tree (length priorities + k)

-- the game at a place is played: there is the better one of the two below
abbrev pub IsPlayed : List ℕ → List ℕ → ℕ → Type 0
IsPlayed priorities tree i = slice_index tree i ≡ better priorities (slice_index tree (2 * i)) (slice_index tree (2 * i + 1))

abbrev pub Played : List ℕ → List ℕ → Type 0
Played priorities tree = (i : ℕ) → 0 < i → i < length priorities → IsPlayed priorities tree i
