-- What code has, seen as the definitions have it.
use Rattle.std.specs.Prelude.{map, ℕ, List, Bool, if◌then◌else◌, string_bytes, [], vec_items, suc, ◌∷◌, Option, Some, None, option_map, bytes_eq}
use Rattle.std.specs.HashMap.{get_by_text}
use Rattle.std.specs.Option.{option_map_or}
use Rattle.texts.specs.Variables.{pair_of}
use Rattle.compilers.specs.declared.plans.program.Program.{Program}
use Rattle.compilers.specs.declared.plans.program.Program.TheVariants as programs
use Rattle.command_groups.specs.declared.setting.CallToPlan.{CallToPlan}
use Rattle.command_groups.specs.declared.setting.Setting.{Setting}
use Rattle.command_groups.specs.Plan.{PlanSetting}
use Rattle.command_groups.specs.declared.merged_commands.SelectedCommand.{SelectedCommand}
use Rattle.command_groups.specs.Merge.{MergedCommand, is_nvcc_stem, is_host_stem}
use Rattle.command_groups.specs.declared.stage.Stage.{Stage as PlainStage}
use Rattle.command_groups.specs.declared.stage.Stage.TheVariants.{Linking, Splitting, DeviceCompiling, Assembling, Preprocessing, HostCompiling, Foreign}
use Rattle.command_groups.specs.Stage.{ProgramKind, linker, cudafe, cicc, ptxas, other, Stage, linking, splitting, device_compiling, assembling, preprocessing, host_compiling, foreign, cicc_input, ptxas_input, opened_name}
use Rattle.command_groups.specs.declared.openings.MadeFiles.{MadeFiles}
use Rattle.command_groups.specs.Openings.{Made}
use Rattle.command_groups.specs.declared.labels.LabelledCommand.{LabelledCommand}
use Rattle.command_groups.specs.declared.labels.Grouping.{Grouping}
use Rattle.command_groups.specs.Groups.{Labelled, GroupingState, CutState}
use Rattle.command_groups.specs.declared.groups.Cut.{Cut}

-- what a plan is made for
abbrev pub call_seen : CallToPlan → PlanSetting
call_seen c = record { cwd = c.cwd.now; tmp = c.tmp.now; flag = c.compilation_flag.now; host_compiler = c.host_compiler; env_vars = map pair_of c.env_vars.now }

abbrev pub setting_seen : Setting → PlanSetting
setting_seen s = record {
  cwd = s.call.now.cwd.now;
  tmp = s.call.now.tmp.now;
  flag = s.call.now.compilation_flag.now;
  host_compiler = s.call.now.host_compiler;
  env_vars = s.environments;
}

-- a merged command
abbrev pub command_seen : SelectedCommand → MergedCommand
command_seen c = record { line = c.line; run = c.run; program = string_bytes c.program; words = map string_bytes c.words.items }

-- which stems are taken: those of nvcc's own tools, or all others
abbrev pub takes_stem : Bool → List ℕ → Bool
takes_stem own stem = if own then is_nvcc_stem stem else is_host_stem stem

-- the kind of a program
abbrev pub kind_seen : Program → ProgramKind
kind_seen programs.Fatbinary = linker
kind_seen programs.Nvlink = linker
kind_seen programs.Cudafe = cudafe
kind_seen programs.Cicc = cicc
kind_seen programs.Ptxas = ptxas
kind_seen programs.Other = other

-- a stage with the name that a command's words give it
abbrev pub named_stage : PlainStage → List (List ℕ) → Stage
named_stage Linking words = linking
named_stage Splitting words = splitting
named_stage DeviceCompiling words = device_compiling (cicc_input words)
named_stage Assembling words = assembling (ptxas_input words)
named_stage Preprocessing words = preprocessing (opened_name words)
named_stage HostCompiling words = host_compiling
named_stage Foreign words = foreign

-- the files made, as the function from a path to its openings
abbrev pub made_seen : MadeFiles → Made
made_seen m path = option_map_or (λ g. g.items) (get_by_text m.openings path) []

-- labelled commands
abbrev pub labelled_seen : LabelledCommand → Labelled
labelled_seen l = record { staged = record { command = command_seen l.command; stage = named_stage l.stage (command_seen l.command).words }; label = l.label }

abbrev pub grouping_seen : Grouping → GroupingState
grouping_seen g = record { opened = g.opened; made = made_seen g.made; labelled = map labelled_seen g.labelled.items }

-- the groups that are cut
abbrev pub cut_seen : Cut → CutState
cut_seen c = record { groups = map vec_items c.groups.items; origins = map vec_items c.origins.items; dropped = c.dropped.items }

-- the place of the first word that is a given one
abbrev pub word_place : List ℕ → List (List ℕ) → Option ℕ
word_place word [] = None
word_place word (w ∷ ws) = if bytes_eq word w then Some 0 else option_map suc (word_place word ws)

-- The place of a variable in an environment.

-- the place of the first variable of a name
abbrev pub variable_place : List ℕ → List (List ℕ × List ℕ) → Option ℕ
variable_place name [] = None
variable_place name (e ∷ es) = if bytes_eq e.0 name then Some 0 else option_map suc (variable_place name es)
