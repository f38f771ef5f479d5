-- Where each merged command goes: its place, by the commands before it, and its fate, by the steps after it too.
use Rattle.std.specs.Prelude.{ℕ, List, [], ◌∷◌, ◌++◌, Bool, true, false, not, ◌&&◌, ◌||◌, if◌then◌else◌, Option, Some, None, find, bytes_eq}
use Rattle.std.specs.List.{list_any, fold}
use Rattle.compilers.specs.declared.plans.plan.Reason.{Reason}
use Rattle.compilers.specs.declared.plans.plan.Reason.TheVariants.{NotCuda, NoCiccGroup, NoPtxasGroup, Superseded}
use Rattle.texts.specs.Lists.{last_of, with_name, is_some_and}
use Rattle.command_groups.specs.Stage.{Stage, linking, splitting, device_compiling, assembling, preprocessing, host_compiling, foreign, StagedCommand, opens}

-- where a command goes: the front group, the device group of a name, the final group, or none for a reason
pub data Fate : Type 0 where
  front : Fate
  device : List ℕ → Fate
  final : Fate
  ungrouped : Reason → Fate

-- a command and where it goes: by the commands before it, and later by those after it too
pub record PlacedCommand : Type 0 where
  pub staged : StagedCommand
  pub fate : Fate

-- the different names that groups were opened by, in order of first appearance
abbrev pub opened_names : List StagedCommand → List (List ℕ)
opened_names commands = fold (λ names c. with_name names (opens c.stage)) [] commands

-- the group of a name, else no group for a reason
abbrev pub device_or : Reason → Option (List ℕ) → Fate
device_or reason None = ungrouped reason
device_or reason (Some name) = device name

-- whether a command's place or fate is the device group of a name
abbrev pub is_device : List ℕ → Fate → Bool
is_device name (device other) = bytes_eq other name
is_device name _ = false

-- whether a command opens the group of a name
abbrev pub opens_name : List ℕ → PlacedCommand → Bool
opens_name name p = is_some_and (λ opened. bytes_eq opened name) (opens p.staged.stage)

-- whether a stage is one of cicc
abbrev pub is_device_compiling : Stage → Bool
is_device_compiling (device_compiling name) = true
is_device_compiling _ = false

-- whether a placed command is a cicc of a name's group with a path as its last word
abbrev pub makes : List ℕ → List ℕ → PlacedCommand → Bool
makes path name p = is_device_compiling p.staged.stage && (is_device name p.fate && is_some_and (bytes_eq path) (last_of p.staged.command.words))

-- whether, of the placed commands, a cicc of a name's group makes a path, and no step after it opens that group again
abbrev pub is_made : List ℕ → List PlacedCommand → List ℕ → Bool
is_made path [] name = false
is_made path (p ∷ ps) name = (makes path name p && not (list_any (opens_name name) ps)) || is_made path ps name

-- The place of a stage, of the names opened before and the placed commands before. A preprocess step goes into the group that it opens,
-- if it opens one; cicc into the group of its preprocessed file, if a step before it opened that; and ptxas into the first group, by
-- first appearance of the names, that holds a cicc which makes ptxas's file.
abbrev pub place_of : List (List ℕ) → List PlacedCommand → Stage → Fate
place_of names before linking = final
place_of names before splitting = front
place_of names before (device_compiling None) = ungrouped NoCiccGroup
place_of names before (device_compiling (Some name)) = device_or NoCiccGroup (find (bytes_eq name) names)
place_of names before (assembling None) = ungrouped NoPtxasGroup
place_of names before (assembling (Some path)) = device_or NoPtxasGroup (find (is_made path before) names)
place_of names before (preprocessing None) = front
place_of names before (preprocessing (Some name)) = device name
place_of names before host_compiling = final
place_of names before foreign = ungrouped NotCuda

-- the commands with their places, after those that are placed already, and the names that these opened
abbrev pub placed_after : List (List ℕ) → List PlacedCommand → List StagedCommand → List PlacedCommand
placed_after names before [] = before
placed_after names before (c ∷ cs) =
    placed_after (with_name names (opens c.stage)) (before ++ record { staged = c; fate = place_of names before c.stage } ∷ []) cs

abbrev pub places : List StagedCommand → List PlacedCommand
places commands = placed_after [] [] commands

-- the fate of a place, of the commands after it: a device group that is opened again loses what it had
abbrev pub fate_of : List PlacedCommand → Fate → Fate
fate_of after front = front
fate_of after (device name) = if list_any (opens_name name) after then ungrouped Superseded else device name
fate_of after final = final
fate_of after (ungrouped reason) = ungrouped reason

-- placed commands with their fates in their places' stead
abbrev pub with_fates : List PlacedCommand → List PlacedCommand
with_fates [] = []
with_fates (p ∷ ps) = record { staged = p.staged; fate = fate_of ps p.fate } ∷ with_fates ps

-- the commands with their fates
abbrev pub fates : List StagedCommand → List PlacedCommand
fates commands = with_fates (places commands)
