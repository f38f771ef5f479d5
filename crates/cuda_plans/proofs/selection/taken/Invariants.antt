use Rattle.std.proofs.Common.{◌≡◌, ◌++◌, ℕ, List, Bool, map}
use Rattle.compilers.specs.CommandLines.{line_seen}
use Rattle.command_groups.specs.Merge.{selected}
use Rattle.cuda_plans.specs.Selection.{AnswersAs}
use Rattle.cuda_plans.proofs.selection.taken.Given as goal

-- the commands taken so far, and those that are taken of the rest, are all that are taken
abbrev pub invariant-loop-line : goal.invariant-loop-line
invariant-loop-line g l =
    (test : List ℕ → Bool) → AnswersAs (goal.F-post g l.select) test → map line_seen l.taken.items ++ selected test (map line_seen l.line-iterator.rest.items) ≡ selected test l.fn.commands
