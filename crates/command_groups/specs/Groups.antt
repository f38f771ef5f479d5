-- The labels of commands, given one after the other, and the groups that a plan cuts the commands into.
use Rattle.std.specs.Prelude.{ℕ, List, [], ◌∷◌, ◌++◌, length, fold, Option, Some, None, bytes_eq, suc, zero, ◌==◌, replicate, if◌then◌else◌, Result, Ok, Err, slice_get, flat_map, option_and_then}
use Rattle.indexmap.specs.IndexMap.{insert_entry}
use Rattle.texts.specs.Lists.{last_of}
use Rattle.compilers.specs.declared.plans.plan.Reason.{Reason}
use Rattle.compilers.specs.declared.plans.plan.Reason.TheVariants.{NotCuda, NoCiccGroup, NoPtxasGroup, Superseded}
use Rattle.compilers.specs.declared.plans.plan.NvccGeneratedSubcommand.{NvccGeneratedSubcommand}
use Rattle.compilers.specs.declared.plans.plan.Dropped.{Dropped}
use Rattle.compilers.specs.declared.plans.origins.Origin.{Origin}
use Rattle.compilers.specs.declared.plans.origins.PlanWithOrigins.{PlanWithOrigins}
use Rattle.command_groups.specs.declared.openings.Opening.{Opening}
use Rattle.command_groups.specs.declared.labels.Label.{Label}
use Rattle.command_groups.specs.declared.labels.Label.TheVariants.{Front, Device, Final, Ungrouped}
use Rattle.command_groups.specs.Stage.{Stage, linking, splitting, device_compiling, assembling, preprocessing, host_compiling, foreign, StagedCommand}
use Rattle.command_groups.specs.Openings.{Opened, Made, opening_at, opening_of, number_of, first_live, with_file, is_live}
use Rattle.command_groups.specs.Fate.{Fate, front, device, final, ungrouped, PlacedCommand}
use Rattle.command_groups.specs.Plan.{PlanSetting, subcommand_of, dropped_for}
use Rattle.command_groups.specs.Origins.{origin_of}

-- a staged command with its label
pub record Labelled : Type 0 where
  pub staged : StagedCommand
  pub label : Label

-- the commands so far, beside the names opened and the files made
pub record GroupingState : Type 0 where
  pub opened : Opened
  pub made : Made
  pub labelled : List Labelled

abbrev pub no_commands : GroupingState
no_commands = record { opened = []; made = λ path. []; labelled = [] }

-- the label of an opening, else of a reason
abbrev pub device_label : Option Opening → Reason → Label
device_label None reason = Ungrouped reason
device_label (Some o) reason = Device o

-- the files made, once cicc of an opening makes its last word
abbrev pub with_made : Made → Option Opening → Option (List ℕ) → Made
with_made made None path = made
with_made made (Some o) None = made
with_made made (Some o) (Some path) = with_file made path o

-- the label of a stage at a place
abbrev pub label_of : Opened → Made → ℕ → Stage → Label
label_of opened made place linking = Final
label_of opened made place splitting = Front
label_of opened made place (device_compiling name) = device_label (option_and_then (opening_of opened) name) NoCiccGroup
label_of opened made place (assembling path) = device_label (option_and_then (λ p. first_live opened (made p)) path) NoPtxasGroup
label_of opened made place (preprocessing None) = Front
label_of opened made place (preprocessing (Some name)) = Device (opening_at (number_of opened name) place)
label_of opened made place host_compiling = Final
label_of opened made place foreign = Ungrouped NotCuda

-- the names opened after a stage
abbrev pub opened_after : Opened → ℕ → Stage → Opened
opened_after opened place (preprocessing (Some name)) = insert_entry bytes_eq opened name place
opened_after opened place _ = opened

-- the files made after a stage with these words
abbrev pub made_after : Opened → Made → List (List ℕ) → Stage → Made
made_after opened made words (device_compiling name) = with_made made (option_and_then (opening_of opened) name) (last_of words)
made_after opened made words _ = made

-- one more command
abbrev pub with_command : GroupingState → StagedCommand → GroupingState
with_command g c = record {
  opened = opened_after g.opened (length g.labelled) c.stage;
  made = made_after g.opened g.made c.command.words c.stage;
  labelled = g.labelled ++ record { staged = c; label = label_of g.opened g.made (length g.labelled) c.stage } ∷ [];
}

abbrev pub grouped : List StagedCommand → GroupingState
grouped commands = fold with_command no_commands commands

-- The plan that labelled commands are cut into, once the openings of all names are known.

-- the fate of a step's opening, by the entry of its number
abbrev pub fate_at : Option (List ℕ × ℕ) → ℕ → Fate
fate_at None step = ungrouped Superseded
fate_at (Some e) step = if e.1 == step then device e.0 else ungrouped Superseded

abbrev pub fate_by : Opened → Label → Fate
fate_by opened Front = front
fate_by opened (Device o) = fate_at (slice_get opened o.number) o.step
fate_by opened Final = final
fate_by opened (Ungrouped reason) = ungrouped reason

-- a labelled command with its fate
abbrev pub settled : Opened → Labelled → PlacedCommand
settled opened l = record { staged = l.staged; fate = fate_by opened l.label }

-- Cutting, step by step.

-- the place of a label's group among all groups, or why it has none
abbrev pub group_of_label : Opened → Label → Result ℕ Reason
group_of_label opened Front = Ok 0
group_of_label opened (Device o) = if is_live opened o then Ok (suc o.number) else Err Superseded
group_of_label opened Final = Ok (suc (length opened))
group_of_label opened (Ungrouped reason) = Err reason

-- lists, of which the one at a place has one more element at its end
abbrev pub put_at : {X : Type 0} → ℕ → X → List (List X) → List (List X)
put_at place x [] = []
put_at zero x (g ∷ gs) = (g ++ x ∷ []) ∷ gs
put_at (suc place) x (g ∷ gs) = g ∷ put_at place x gs

-- a list of groups, with an element for one more command if that has a place
abbrev pub with_grouped : {X : Type 0} → (StagedCommand → X) → List (List X) → StagedCommand → Result ℕ Reason → List (List X)
with_grouped of groups c (Ok place) = put_at place (of c) groups
with_grouped of groups c (Err reason) = groups

-- the dropped commands, with one more command unless that has a place
abbrev pub with_dropped : List Dropped → StagedCommand → Result ℕ Reason → List Dropped
with_dropped dropped c (Ok place) = dropped
with_dropped dropped c (Err reason) = dropped ++ dropped_for reason c.command ∷ []

-- as many groups as a plan has, all of them empty
abbrev pub no_groups : {X : Type 0} → ℕ → List (List X)
no_groups names = replicate (suc (suc names)) []

-- the groups, their commands' origins and the dropped commands so far
pub record CutState : Type 0 where
  pub groups : List (List NvccGeneratedSubcommand)
  pub origins : List (List Origin)
  pub dropped : List Dropped

abbrev pub nothing_cut : ℕ → CutState
nothing_cut names = record { groups = no_groups names; origins = no_groups names; dropped = [] }

abbrev pub with_labelled : PlanSetting → Opened → CutState → Labelled → CutState
with_labelled s opened cut l = record {
  groups = with_grouped (subcommand_of s) cut.groups l.staged (group_of_label opened l.label);
  origins = with_grouped origin_of cut.origins l.staged (group_of_label opened l.label);
  dropped = with_dropped cut.dropped l.staged (group_of_label opened l.label);
}

-- the plan, and the origins of its commands in plan order
abbrev pub planned_of_cut : CutState → PlanWithOrigins
planned_of_cut cut = record {
  plan = record { groups = cut.groups; dropped = cut.dropped };
  origins = flat_map (λ group. group) cut.origins;
}

abbrev pub plan_by_labels : PlanSetting → GroupingState → PlanWithOrigins
plan_by_labels s g = planned_of_cut (fold (with_labelled s g.opened) (nothing_cut (length g.opened)) g.labelled)
