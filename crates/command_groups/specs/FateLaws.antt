-- What is claimed of fates and groups, for all lists of commands.
use Rattle.std.specs.Prelude.{◌≡◌, ℕ, List, ◌∷◌, ◌++◌, Bool, true, false, map, flat_map, IsPermutation, bytes_eq}
use Rattle.std.specs.List.{list_any}
use Rattle.command_groups.specs.Stage.{StagedCommand}
use Rattle.command_groups.specs.Fate.{Fate, ungrouped, PlacedCommand, is_device, opens_name, opened_names, fates}
use Rattle.command_groups.specs.Plan.{is_front, is_final, of_fate}

-- whether a fate is no group
abbrev pub is_ungrouped : Fate → Bool
is_ungrouped (ungrouped reason) = true
is_ungrouped _ = false

-- the commands of the front group, of the device groups of these names, of the final group, and of none
abbrev pub regrouped : List (List ℕ) → List PlacedCommand → List PlacedCommand
regrouped names commands =
    of_fate is_front commands ++ (flat_map (λ name. of_fate (is_device name) commands) names ++ (of_fate is_final commands ++ of_fate is_ungrouped commands))

-- the commands of all groups and the dropped ones are together all commands, each once
abbrev pub EachHasOneFate : Type 0
EachHasOneFate = (commands : List StagedCommand) → IsPermutation commands (map (λ p. p.staged) (regrouped (opened_names commands) (fates commands)))

-- the group of a name begins with the last step that opens it, and has besides only what stands after that step
abbrev pub BeginsWithLastStep : List ℕ → List PlacedCommand → Type 0
BeginsWithLastStep name commands =
    (before : List PlacedCommand) × (step : PlacedCommand) × (after : List PlacedCommand) ×
    (commands ≡ before ++ step ∷ after) ×
    (opens_name name step ≡ true) ×
    (list_any (opens_name name) after ≡ false) ×
    (of_fate (is_device name) commands ≡ step ∷ of_fate (is_device name) after)

-- each device group begins with the step that last opened its name, and so is never empty
abbrev pub DeviceGroupsBeginWithTheirStep : Type 0
DeviceGroupsBeginWithTheirStep =
    (commands : List StagedCommand) (name : List ℕ) → list_any (bytes_eq name) (opened_names commands) ≡ true → BeginsWithLastStep name (fates commands)
