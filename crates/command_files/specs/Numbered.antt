-- Items with their numbers, such as the commands of a plan.
use Rattle.std.specs.Prelude.{ℕ, ◌+◌, List, [], ◌∷◌}

-- items from a number on, each described by its number
abbrev pub numbered : {A X : Type 0} → (ℕ → A → X) → ℕ → List A → List X
numbered described number [] = []
numbered described number (x ∷ xs) = described number x ∷ numbered described (number + 1) xs
