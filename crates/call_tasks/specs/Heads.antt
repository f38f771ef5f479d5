-- What a command touches before it reads a file late, and how it begins without that file.
use Rattle.std.specs.Prelude.{ℕ, List, [], ◌∷◌, ◌++◌, Bool, true, false, not, ◌&&◌, Option, Some, None, if◌then◌else◌, filter, length, codes, bytes_eq}
use Rattle.std.specs.List.{list_any}
use Rattle.std.specs.Option.{option_or}
use Rattle.texts.specs.Numeral.{numeral}
use Rattle.texts.specs.Path.{joined}
use Rattle.command_files.specs.declared.files.CommandFiles.{CommandFiles}
use Rattle.command_files.specs.declared.steps.Role.{Role}
use Rattle.command_files.specs.declared.steps.Role.TheVariants as roles
use Rattle.command_files.specs.declared.steps.Step.{Step}
use Rattle.early_starts.specs.LateFiles.{gives, late_file, module_id_option, renamed}
use Rattle.call_tasks.specs.declared.task.Head.{Head}
use Rattle.call_tasks.specs.declared.task.Task.{Task}
use Rattle.call_tasks.specs.declared.task.Wait.TheVariants.{Opening}

-- the record of a command until it reads a file
abbrev pub head_files : List ℕ → CommandFiles → CommandFiles
head_files late files = record files { reads = filter (λ path. not (bytes_eq path late)) files.reads }

-- a command by its record alone
abbrev pub plain_step : CommandFiles → Step
plain_step files = record { files = files; role = roles.Plain; preprocesses = false }

-- the name by which the task with a number gets the file that it reads late
abbrev pub withheld_name : List ℕ → ℕ → List ℕ
withheld_name own n = joined own (codes "module_id." ++ numeral n)

-- how a task begins that opens a file late: by words that have another name for it
abbrev pub opening_head : List ℕ → ℕ → List ℕ → Task → Head
opening_head own n late t = record {
  args = renamed module_id_option (withheld_name own n) t.command.args;
  step = plain_step (head_files late t.step.files);
  file = late;
  withheld = withheld_name own n;
  wait = Opening;
}

-- whether a role has a command wait for its files alone
abbrev pub is_plain : Role → Bool
is_plain roles.Plain = true
is_plain roles.FrontStep = false
is_plain roles.DeviceStep = false
is_plain roles.Final = false

-- the head of a task behind others: it has one if it reads a file late that a cudafe++ before it makes
abbrev pub head_by : List ℕ → List Task → Task → List ℕ → Option Head
head_by own before t late =
    if is_plain t.step.role && list_any (λ e. gives late e.command) before then Some (opening_head own (length before) late t) else None

abbrev pub found_head : List ℕ → List Task → Task → Option (List ℕ) → Option Head
found_head own before t None = None
found_head own before t (Some late) = head_by own before t late

abbrev pub with_head : List ℕ → List Task → Task → Task
with_head own before t = record t { head = option_or (found_head own before t (late_file t.command)) t.head }

-- tasks with their heads, behind some others
abbrev pub heads_behind : List ℕ → List Task → List Task → List Task
heads_behind own before [] = before
heads_behind own before (t ∷ ts) = heads_behind own (before ++ with_head own before t ∷ []) ts
