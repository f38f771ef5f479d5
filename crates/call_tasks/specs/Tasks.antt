-- The tasks of a plan.
use Rattle.std.specs.Prelude.{ℕ, ◌-◌, List, [], true, false, Option, Some, None, if◌then◌else◌, map, length, codes}
use Rattle.std.specs.List.{insert}
use Rattle.texts.specs.Lists.{word_after}
use Rattle.compilers.specs.declared.plans.plan.NvccGeneratedSubcommand.{NvccGeneratedSubcommand}
use Rattle.compilers.specs.declared.plans.plan.Plan.{Plan}
use Rattle.compilers.specs.Listed.{Listed, listed}
use Rattle.command_files.specs.declared.files.CommandFiles.{CommandFiles}
use Rattle.command_files.specs.CommandFiles.{joined_option}
use Rattle.command_files.specs.PlanNeeds.{step_in}
use Rattle.early_starts.specs.declared.split.Split.{Split}
use Rattle.placed_commands.specs.PlacedCommands.{placed_command}
use Rattle.call_tasks.specs.declared.task.Asks.{Asks}
use Rattle.call_tasks.specs.declared.task.Task.{Task}
use Rattle.call_tasks.specs.Halves.{halved_by, last_split, task_of}
use Rattle.call_tasks.specs.Heads.{heads_behind, plain_step}

-- a command as it runs: nvcc's tools in the caller's directory, if that is asked for
abbrev pub placed : Asks → NvccGeneratedSubcommand → NvccGeneratedSubcommand
placed asks c = if asks.in_place then placed_command asks.tmp asks.cwd c else c

-- the commands of a plan, each with its record and role
abbrev pub planned_task : Asks → ℕ → Listed → Task
planned_task asks count l = task_of (placed asks l.command) (step_in count l)

abbrev pub planned : Asks → Plan → List Task
planned asks plan = map (planned_task asks (length plan.groups)) (listed plan.groups)

-- what makes the dependency file writes the file behind `-MF`
abbrev pub rule_files : NvccGeneratedSubcommand → CommandFiles
rule_files c = record { reads = []; writes = joined_option c.cwd (word_after (codes "-MF") c.args); may_write = []; complete = false }

abbrev pub rule_task : NvccGeneratedSubcommand → Task
rule_task c = record (task_of c (plain_step (rule_files c))) { is_rule = true }

-- it comes before the last task, which writes the product
abbrev pub with_rule : Option NvccGeneratedSubcommand → List Task → List Task
with_rule None tasks = tasks
with_rule (Some c) tasks = insert tasks (length tasks - 1) (rule_task c)

abbrev pub with_heads : Asks → List Task → List Task
with_heads asks tasks = if asks.heads then heads_behind asks.own [] tasks else tasks

-- the halves of a plan's last host compile, if it runs in two
abbrev pub split_of_plan : Asks → Plan → Option Split
split_of_plan asks plan = last_split asks (planned asks plan)

-- what is started of a plan
abbrev pub tasks_of : Asks → Plan → List Task
tasks_of asks plan = with_heads asks (with_rule asks.rule (halved_by asks (planned asks plan) (split_of_plan asks plan)))
