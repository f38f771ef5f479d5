-- How heavy a chain of commands begins with each, where each needs the one before it.
use Rattle.std.specs.Prelude.{◌≡◌, ℕ, ◌+◌, ◌<◌, min, max, List, [], ◌∷◌, ◌==◌, nat_lt, if◌then◌else◌, None, length, replicate, refl, slice_index, slice_set}
use Rattle.std.specs.List.{fold, list_any}
use Rattle.schedules.specs.Graphs.{first_late}

-- the chain behind a command, if another one that needs it begins one of this weight
abbrev pub raised : ℕ → List ℕ → ℕ → List ℕ
raised weight chains m = if nat_lt (slice_index chains m) weight then slice_set chains m weight else chains

-- The weight of the chain that begins with a command, from that behind it. One that no number holds is the greatest number of all.
abbrev pub heavier : ℕ → List ℕ → ℕ → ℕ
heavier weight chains n = min (slice_index chains n + weight) 18446744073709551615

-- one command more in front: its own chain, and those behind all that it needs
abbrev pub with_command : ℕ → List ℕ → ℕ → List ℕ → List ℕ
with_command n needs weight chains = fold (raised (heavier weight chains n)) (slice_set chains n (heavier weight chains n)) needs

-- The chains of the commands from a number on, with their weights. Those behind a command are added before it, the last one first.
abbrev pub chains_from : ℕ → List (List ℕ) → List ℕ → List ℕ → List ℕ
chains_from n [] weights chains = chains
chains_from n (ns ∷ needs) weights chains = with_command n ns (slice_index weights n) (chains_from (n + 1) needs weights chains)

abbrev pub chain_weights : List (List ℕ) → List ℕ → List ℕ
chain_weights needs weights = chains_from 0 needs weights (replicate (length needs) 0)

-- What these weights are: a command's own weight, and that of the heaviest chain which begins with a command that needs it.

-- the weight of the heaviest chain that begins with one of some commands which needs the one with a number
abbrev pub behind : ℕ → List (List ℕ) → List ℕ → ℕ
behind n [] chains = 0
behind n (ns ∷ needs) [] = 0
behind n (ns ∷ needs) (chain ∷ chains) = max (if list_any (λ m. m == n) ns then chain else 0) (behind n needs chains)

-- the chains of the commands from a number on
abbrev pub heaviest_from : ℕ → List (List ℕ) → List ℕ → List ℕ
heaviest_from n [] weights = []
heaviest_from n (ns ∷ needs) weights =
    min (behind n needs (heaviest_from (n + 1) needs weights) + slice_index weights n) 18446744073709551615 ∷ heaviest_from (n + 1) needs weights

abbrev pub WeightsAreHeaviest : Type 0
WeightsAreHeaviest = (needs : List (List ℕ)) (weights : List ℕ) (n : ℕ)
    → first_late 0 needs ≡ None
    → n < length needs
    → slice_index (chain_weights needs weights) n ≡ slice_index (heaviest_from 0 needs weights) n

-- Of four commands the last two need the second, and the last one the first too: two chains begin with the second, and the heavier one counts.
abbrev pub ChainsOfFour : Type 0
ChainsOfFour = chain_weights ([] ∷ [] ∷ (1 ∷ []) ∷ (0 ∷ 1 ∷ []) ∷ []) (1 ∷ 20 ∷ 300 ∷ 4000 ∷ []) ≡ 4001 ∷ 4020 ∷ 300 ∷ 4000 ∷ []

pub chains_of_four : ChainsOfFour
chains_of_four = refl

-- a chain of three, and one behind which there are two of equal length
abbrev pub ChainsOfThree : Type 0
ChainsOfThree = chain_weights ([] ∷ (0 ∷ []) ∷ (1 ∷ []) ∷ []) (5 ∷ 6 ∷ 7 ∷ []) ≡ 18 ∷ 13 ∷ 7 ∷ []

pub chains_of_three : ChainsOfThree
chains_of_three = refl
