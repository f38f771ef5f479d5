-- A line read item by item.
use Rattle.std.proofs.Common.{◌≡◌, ℕ, ◌≤◌, List, ◌∷◌, Option, length, arith}
use Rattle.compilers.specs.Table.{Entry}
use Rattle.compilers.specs.Items.{Item, Said, item, option, items, said_of, separate_item, Completes}

-- an item leaves no more words than there were
pub words-completed : {T : Type 0} (s : Said T) (before : List (List ℕ)) (i : Item T) (after : List (List ℕ)) → Completes s before i after → length after ≤ length before
words-completed s before i after h = grind arith

module _ {T : Type 0} (chosen : List ℕ → Option (Entry T)) where
  -- a word with another after it
  next_completed : (s : Said T) (x : List ℕ) (rest : List (List ℕ)) (i : Item T) (after : List (List ℕ)) → Completes s (x ∷ rest) i after → (elim s as (λ _. List (Item T)) [ item j ↦ j ∷ items chosen (x ∷ rest) | option e ↦ separate_item e x ∷ items chosen rest ]) ≡ i ∷ items chosen after
  next_completed s x rest i after h = grind arith

  -- the item that a word begins is the first of the line's items
  pub items-completed : (w : List ℕ) (before : List (List ℕ)) (i : Item T) (after : List (List ℕ)) → Completes (said_of w (chosen w)) before i after → items chosen (w ∷ before) ≡ i ∷ items chosen after
  items-completed w before i after h = grind (arith, next_completed)
