-- What each task needs, and what its head does.
use Rattle.std.specs.Prelude.{ℕ, List, [], ◌∷◌, ◌++◌, Bool, false, not, ◌&&◌, ◌||◌, Option, Some, None}
use Rattle.command_files.specs.declared.steps.Step.{Step}
use Rattle.command_files.specs.Order.{needs_by, numbers_where}
use Rattle.command_files.specs.PlanNeeds.{step_needs}
use Rattle.early_starts.specs.Overlaps.{follows}
use Rattle.call_tasks.specs.declared.task.Head.{Head}
use Rattle.call_tasks.specs.declared.task.Task.{Task}

-- whether two commands preprocess, and touch no file that one of them writes
abbrev pub goes_ahead : Step → Step → Bool
goes_ahead earlier later = (earlier.preprocesses && later.preprocesses) && not (follows earlier.files later.files)

-- Whether a part of a task needs an earlier task, by the part's record and role. What is behind the task that makes the dependency file
-- needs it, and that one needs what preprocesses. If preprocessors are free, they need each other by their files alone.
abbrev pub needs_task : Bool → Bool → Task → Step → Bool
needs_task frees is_rule earlier later =
    ((earlier.is_rule || (is_rule && earlier.step.preprocesses)) || step_needs earlier.step later) && not (frees && goes_ahead earlier.step later)

abbrev pub needs_whole : Bool → Task → Task → Bool
needs_whole frees earlier later = needs_task frees later.is_rule earlier later.step

-- what each task needs before it may start, or go on behind its head
abbrev pub needs_of : Bool → List Task → List (List ℕ)
needs_of frees tasks = needs_by (needs_whole frees) tasks

-- what its head needs, if it has one
abbrev pub head_numbers : Bool → List Task → Option Head → List ℕ
head_numbers frees earlier None = []
head_numbers frees earlier (Some h) = numbers_where (λ e. needs_task frees false e h.step) 0 earlier

abbrev pub head_needs_behind : Bool → List Task → List Task → List (List ℕ)
head_needs_behind frees earlier [] = []
head_needs_behind frees earlier (t ∷ ts) = head_numbers frees earlier t.head ∷ head_needs_behind frees (earlier ++ t ∷ []) ts

abbrev pub head_needs_of : Bool → List Task → List (List ℕ)
head_needs_of frees tasks = head_needs_behind frees [] tasks
