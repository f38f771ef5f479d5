-- The root that counts is the innermost.
use Rattle.std.proofs.Common.{◌≡◌, ◌≤◌, ℕ, zero, suc, ◌==◌, true, List, [], ◌∷◌, fold, length, get_or, arith}
use Rattle.std.proofs.lemmas.Bool.{false≢true, and_parts}
use Rattle.command_keys.specs.Marks.{begins_with, with_longer, longest, root_of}
use Rattle.command_keys.proofs.MarkLemmas.{root-begins, root-found}
use Rattle.command_keys.proofs.laws.roots.Goals as goal

-- a further root never makes it less
not-less : (text root : List ℕ) (most : ℕ) → most ≤ with_longer text most root
not-less text root most = grind arith

-- and it's at least the length of a root that the text begins with
as-long : (text root : List ℕ) (most : ℕ) → begins_with text root ≡ true → length root ≤ with_longer text most root
as-long text root most begins = grind arith

grows : (text : List ℕ) (roots : List (List ℕ)) (most : ℕ) → most ≤ fold (with_longer text) most roots
grows text [] most = omega arith
grows text (root ∷ roots) most = omega (arith, not-less text root most, grows text roots (with_longer text most root))

bounds : (text : List ℕ) (roots : List (List ℕ)) (most other : ℕ) → begins_with text (get_or roots other []) ≡ true →
    length (get_or roots other []) ≤ fold (with_longer text) most roots
bounds text [] most other begins = absurd (false≢true begins)
bounds text (root ∷ roots) most zero begins = omega (arith, as-long text root most begins, grows text roots (with_longer text most root))
bounds text (root ∷ roots) most (suc other) begins = bounds text roots (with_longer text most root) other begins

pub returns : goal.returns
returns c = λ roots text number other found.
    let both = and_parts (begins_with text (root_of roots number)) (length (root_of roots number) == longest text roots) (root-found roots text number found) in
    (root-begins roots text number found, λ begins. grind (arith, (bounds text roots 0 other begins)))
