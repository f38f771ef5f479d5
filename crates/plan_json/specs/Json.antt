-- A plan as JSON, version 1 of the format.
use Rattle.std.specs.Prelude.{ℕ, ◌+◌, ◌-◌, ◌^◌, List, map, length, min, get_or, codes, Bool, true, false}
use Rattle.compilers.specs.declared.command.Cacheable.{Cacheable}
use Rattle.compilers.specs.declared.command.Cacheable.TheVariants.{Yes, No}
use Rattle.compilers.specs.declared.plans.origins.Origin.{Origin}
use Rattle.compilers.specs.declared.plans.origins.PlanWithOrigins.{PlanWithOrigins}
use Rattle.compilers.specs.declared.plans.plan.NvccGeneratedSubcommand.{NvccGeneratedSubcommand}
use Rattle.compilers.specs.declared.plans.plan.Dropped.{Dropped}
use Rattle.compilers.specs.Listed.{Listed, listed}
use Rattle.compilers.specs.Reasons.{reason_name}
use Rattle.command_files.specs.declared.files.CommandFiles.{CommandFiles}
use Rattle.command_files.specs.CommandFiles.{files_of_words}
use Rattle.command_files.specs.Order.{needs_at}
use Rattle.command_files.specs.PlanNeeds.{plan_needs}
use Rattle.command_files.specs.Numbered.{numbered}
use Rattle.plan_json.specs.Values.{texts_data, count_data}
use Rattle.serde_json.specs.Data.{Data, boolean, string, array, object, no_items, item, no_members, member}
use Rattle.serde_json.specs.View.{items_of}

-- a list of numbers
abbrev pub counts_data : List ℕ → Data
counts_data numbers = array (items_of (map count_data numbers))

-- a variable: its name and its value
abbrev pub variable_data : List ℕ × List ℕ → Data
variable_data p = array (item (string p.0) (item (string p.1) no_items))

-- variables in order. A name may occur twice
abbrev pub variables_data : List (List ℕ × List ℕ) → Data
variables_data variables = array (items_of (map variable_data variables))

-- whether a cache may serve a command's outputs
abbrev pub is_cacheable : Cacheable → Bool
is_cacheable Yes = true
is_cacheable No = false

-- a line's number, which counts from 1 here. The greatest number that there is stays itself
abbrev pub from_one : ℕ → ℕ
from_one line = min (line + 1) (2 ^ 64 - 1)

-- A command. The members of an object are in the order of their names. Given are its number in the plan, that of its group,
-- where it comes from, the numbers of the commands that it needs, and its files.
abbrev pub command_data : ℕ → ℕ → Origin → List ℕ → CommandFiles → NvccGeneratedSubcommand → Data
command_data id group origin needs files c =
    object (member (codes "args") (texts_data c.args)
    (member (codes "cacheable") (boolean (is_cacheable c.cacheable))
    (member (codes "complete") (boolean files.complete)
    (member (codes "cwd") (string c.cwd)
    (member (codes "env") (variables_data c.env_vars)
    (member (codes "exe") (string c.exe)
    (member (codes "group") (count_data group)
    (member (codes "id") (count_data id)
    (member (codes "line") (count_data (from_one origin.line))
    (member (codes "may_write") (texts_data files.may_write)
    (member (codes "needs") (counts_data needs)
    (member (codes "reads") (texts_data files.reads)
    (member (codes "run") (count_data origin.run)
    (member (codes "writes") (texts_data files.writes) no_members))))))))))))))

-- what is known of a plan's commands beside the groups: where each comes from, and what it needs, by the numbers of the commands
pub record Known : Type 0 where
  pub origins : List Origin
  pub needs : List (List ℕ)

-- where the command with a number comes from. Run 0 says that nothing is known
abbrev pub origin_at : List Origin → ℕ → Origin
origin_at origins id = get_or origins id (record { line = 0; run = 0 })

-- the command with a number
abbrev pub command_at : Known → ℕ → Listed → Data
command_at known id l =
    command_data id l.group (origin_at known.origins id) (needs_at known.needs id) (files_of_words l.command.exe l.command.args l.command.cwd) l.command

-- a dropped command
abbrev pub dropped_data : Dropped → Data
dropped_data d =
    object (member (codes "args") (texts_data d.args)
    (member (codes "exe") (string d.exe)
    (member (codes "line") (count_data (from_one d.line))
    (member (codes "reason") (string (reason_name d.reason))
    (member (codes "run") (count_data d.run) no_members)))))

-- dropped commands, in order
abbrev pub all_dropped_data : List Dropped → Data
all_dropped_data dropped = array (items_of (map dropped_data dropped))

-- a plan, and what it was made for: the working directory, the temporary directory and the compilation flag
pub record Described : Type 0 where
  pub cwd : List ℕ
  pub tmp : List ℕ
  pub flag : List ℕ
  pub planned : PlanWithOrigins

abbrev pub known_of : PlanWithOrigins → Known
known_of planned = record { origins = planned.origins; needs = plan_needs planned.plan }

abbrev pub commands_data : PlanWithOrigins → Data
commands_data planned = array (items_of (numbered (command_at (known_of planned)) 0 (listed planned.plan.groups)))

-- The data of a plan. Its commands are numbered in plan order; how many groups there are is said because a group may be empty.
abbrev pub data_of : Described → Data
data_of d =
    object (member (codes "commands") (commands_data d.planned)
    (member (codes "cwd") (string d.cwd)
    (member (codes "dropped") (all_dropped_data d.planned.plan.dropped)
    (member (codes "flag") (string d.flag)
    (member (codes "groups") (count_data (length d.planned.plan.groups))
    (member (codes "tmp") (string d.tmp)
    (member (codes "version") (count_data 1) no_members)))))))
