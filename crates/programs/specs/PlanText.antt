-- The texts that a program writes for a tool's line and for two dry runs.
use Rattle.std.specs.Prelude.{ℕ, List, [], ◌⊎◌, Option, Some, None, Result, Ok, Err}
use Rattle.compilers.specs.declared.compiler.NvccHostCompiler.TheVariants.{Gcc}
use Rattle.texts.specs.declared.fault.Fault.{Fault}
use Rattle.texts.specs.declared.fault.Fault.TheVariants.{Memory, Read}
use Rattle.canonical_names.specs.FurtherSuffixes.{all_suffixes}
use Rattle.compilers.specs.declared.plans.plan.Plan.{Plan}
use Rattle.command_groups.specs.Plan.{PlanSetting}
use Rattle.command_groups.specs.PlanOfBytes.{planning_of}
use Rattle.dry_runs.specs.FirstDir.{first_dir}
use Rattle.programs.specs.declared.stop.Stop.{Stop}
use Rattle.programs.specs.declared.stop.Stop.TheVariants.{NotCompilation}
use Rattle.programs.specs.declared.stop.Stop.TheVariants as stops
use Rattle.plan_texts.specs.declared.tool.Tool.{Tool}
use Rattle.plan_texts.specs.Shown.{line_text}
use Rattle.plan_texts.specs.ShownPlan.{show_plan}
use Rattle.programs.specs.Operands.{PlanOf}
use Rattle.programs.specs.Delivery.{Delivers}

-- what a program plans for: gcc compiles host code, and the call's environment is empty
abbrev pub program_setting : List ℕ → List ℕ → List ℕ → PlanSetting
program_setting cwd tmp flag = record { cwd = cwd; tmp = tmp; flag = flag; host_compiler = Gcc; env_vars = [] }

-- the text of a plan, or why there is none
abbrev pub show_planning : Result Plan Fault → Result (List ℕ) Stop
show_planning (Ok plan) = Ok (show_plan plan)
show_planning (Err fault) = Err (stops.Fault fault)

-- the plan of two dry runs with these suffixes, unless the suffixes are at fault. Nothing keeps generated files, and every program is
-- looked up in the first folder of `PATH`
abbrev pub planned_with : PlanSetting → List ℕ → List ℕ → Result (List (List ℕ)) Fault → Result Plan Fault
planned_with setting first second (Ok suffixes) = planning_of suffixes None setting first_dir first second
planned_with setting first second (Err fault) = Err fault

-- the plan of two dry runs with the standard suffixes and further ones. Bad suffixes come before any fault of a run
abbrev pub planned : List ℕ → List ℕ → List ℕ → List ℕ → List ℕ → List (List ℕ) → Result Plan Fault
planned cwd tmp flag first second further = planned_with (program_setting cwd tmp flag) first second (all_suffixes further)

-- its text
abbrev pub shown_plan : List ℕ → List ℕ → List ℕ → List ℕ → List ℕ → List (List ℕ) → Result (List ℕ) Stop
shown_plan cwd tmp flag first second further = show_planning (planned cwd tmp flag first second further)

-- the answer if memory runs out before there is a text
abbrev pub out_of_memory : Result (List ℕ) Stop
out_of_memory = Err (stops.Fault Memory)

-- What a program writes once it has read a file, given what the file may hold and what follows from its bytes: nothing if
-- memory runs out or the file can't be read.
abbrev pub ReadsFirst :
    (Option (List ℕ) → Type 0) → (List ℕ → Type 0) → Result (Unit {0}) Stop → Option (List ℕ) → Option (List ℕ) → Type 0
ReadsFirst holds Follows answer before after =
    Delivers answer out_of_memory before after
    ⊎ ((holds None × Delivers answer (Err (stops.Fault Read)) before after) ⊎ ((bytes : List ℕ) × holds (Some bytes) × Follows bytes))

-- what a program writes once it has read the two files of a call that plans, given what files may hold and what follows from their bytes
abbrev pub ReadsBoth :
    (List ℕ → Option (List ℕ) → Type 0) → PlanOf → (List ℕ → List ℕ → Type 0) → Result (Unit {0}) Stop → Option (List ℕ) → Option (List ℕ) → Type 0
ReadsBoth holds c Follows answer before after =
    ReadsFirst (holds c.dry1) (λ first. ReadsFirst (holds c.dry2) (Follows first) answer before after) answer before after

-- what a program writes for a call that plans, given what files may hold and the engine's answer: the text of the plan of these two files
abbrev pub PlansFiles :
    (List ℕ → Option (List ℕ) → Type 0) → PlanOf → Result (Unit {0}) Stop → Option (List ℕ) → Option (List ℕ) → Type 0
PlansFiles holds c answer before after =
    ReadsBoth holds c (λ first second. Delivers answer (shown_plan c.cwd c.tmp c.flag first second c.suffixes) before after) answer before after

-- a text, or why there is none
abbrev pub stopped : Result (Option (List ℕ)) Fault → Result (List ℕ) Stop
stopped (Ok (Some text)) = Ok text
stopped (Ok None) = Err NotCompilation
stopped (Err fault) = Err (stops.Fault fault)

-- the text of a tool's line, read at a working directory and written back, or why there is none
abbrev pub shown_line : Tool → List ℕ → List (List ℕ) → Result (List ℕ) Stop
shown_line tool cwd words = stopped (line_text tool cwd words)
