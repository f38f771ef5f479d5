-- The commands of a plan as one list.
use Rattle.std.specs.Prelude.{◌≡◌, ℕ, ◌+◌, List, [], ◌∷◌, ◌++◌, refl}
use Rattle.compilers.specs.declared.plans.plan.NvccGeneratedSubcommand.{NvccGeneratedSubcommand}

-- a command, the number of its group, and its place there, both from 0
pub record Listed : Type 0 where
  pub group : ℕ
  pub place : ℕ
  pub command : NvccGeneratedSubcommand

-- the commands of a group from a place on
abbrev pub listed_group : ℕ → ℕ → List NvccGeneratedSubcommand → List Listed
listed_group group place [] = []
listed_group group place (c ∷ commands) = record { group = group; place = place; command = c } ∷ listed_group group (place + 1) commands

-- the commands of groups from a number on
abbrev pub listed_from : ℕ → List (List NvccGeneratedSubcommand) → List Listed
listed_from group [] = []
listed_from group (commands ∷ groups) = listed_group group 0 commands ++ listed_from (group + 1) groups

-- the commands of a plan's groups, in plan order: group after group, as they are run
abbrev pub listed : List (List NvccGeneratedSubcommand) → List Listed
listed groups = listed_from 0 groups

-- an empty group counts too
pub empty_group_counts : (a b c : NvccGeneratedSubcommand) →
    listed ((a ∷ b ∷ []) ∷ [] ∷ (c ∷ []) ∷ [])
    ≡ record { group = 0; place = 0; command = a } ∷ record { group = 0; place = 1; command = b } ∷ record { group = 2; place = 0; command = c } ∷ []
empty_group_counts a b c = refl
