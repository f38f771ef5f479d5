-- The parts of tasks: a head that begins early, and the rest.
use Rattle.std.specs.Prelude.{ℕ, ◌+◌, List, [], ◌∷◌, ◌++◌, Bool, true, ◌&&◌, ◌||◌, ◌==◌, Option, Some, None, map}
use Rattle.std.specs.List.{list_all}
use Rattle.command_files.specs.declared.files.CommandFiles.{CommandFiles}
use Rattle.command_files.specs.declared.steps.Step.{Step}
use Rattle.command_files.specs.Files.{Files, is_among}
use Rattle.command_files.specs.Order.{needs_by}
use Rattle.command_files.specs.PlanNeeds.{record_of}
use Rattle.call_tasks.specs.declared.task.Head.{Head}
use Rattle.call_tasks.specs.declared.task.Task.{Task}
use Rattle.call_tasks.specs.Needs.{needs_task}

-- a part of the task with a number, with a record of its own
pub record Part : Type 0 where
  pub number : ℕ
  pub whole : Task
  pub step : Step

abbrev pub head_of : ℕ → Task → Option Head → List Part
head_of n t None = []
head_of n t (Some h) = record { number = n; whole = t; step = h.step } ∷ []

abbrev pub rest_of : ℕ → Task → Part
rest_of n t = record { number = n; whole = t; step = t.step }

abbrev pub parts_from : ℕ → List Task → List Part
parts_from n [] = []
parts_from n (t ∷ ts) = head_of n t t.head ++ rest_of n t ∷ parts_from (n + 1) ts

abbrev pub parts_of : List Task → List Part
parts_of tasks = parts_from 0 tasks

abbrev pub part_records : List Part → List Files
part_records parts = map (λ p. record_of p.step.files) parts

-- the task of each part
abbrev pub part_numbers : List Part → List ℕ
part_numbers parts = map (λ p. p.number) parts

-- A part needs the earlier parts of its task, and all parts of the tasks that it needs: a head those of `head_needs_of`, the rest those of
-- `needs_of`.
abbrev pub part_needs_part : Bool → Part → Part → Bool
part_needs_part frees earlier later = earlier.number == later.number || needs_task frees later.whole.is_rule earlier.whole later.step

abbrev pub part_needs : Bool → List Part → List (List ℕ)
part_needs frees parts = needs_by (part_needs_part frees) parts

-- whether a record is within another
abbrev pub is_within : CommandFiles → CommandFiles → Bool
is_within part whole = list_all (is_among whole.reads) part.reads && list_all (is_among (record_of whole).writes) (record_of part).writes

abbrev pub head_is_within : CommandFiles → Option Head → Bool
head_is_within files None = true
head_is_within files (Some h) = is_within h.step.files files

abbrev pub has_head_within : Task → Bool
has_head_within t = head_is_within t.step.files t.head
