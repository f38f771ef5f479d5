-- Commands that run at the same time.
use Rattle.std.specs.Prelude.{ℕ, ◌<◌, ◌≤◌, List, Bool, ◌||◌, ◌==◌, map, length, get_or, filter}
use Rattle.command_files.specs.Files.{Files}
use Rattle.command_files.specs.Order.{needs_by, is_in, needs_at, own_order, IsRun, Contents, Effect, files_at, AllStayWithin, DoesTheSame, Hold}

-- A command may be cut into parts, which run one after the other. Between them parts of other commands may run: then the commands
-- overlap. A part is given by its command's number, and has that command's record. What a command keeps in mind from one part to the
-- next counts as a file that it writes.

-- the parts of commands, in the plan's own order: those of one command stand together
pub record ArePartsOf (plan : List Files) (parts : List ℕ) : Type 0 where
  pub of_commands : (i : ℕ) → i < length parts → get_or parts i 0 < length plan
  pub rise : (i j : ℕ) → i < j → j < length parts → get_or parts i 0 ≤ get_or parts j 0

-- a part needs the earlier parts of its command, and all parts of the commands that its command needs
abbrev pub part_follows : List (List ℕ) → ℕ → ℕ → Bool
part_follows needs earlier later = earlier == later || is_in (needs_at needs later) earlier

abbrev pub part_needs : List (List ℕ) → List ℕ → List (List ℕ)
part_needs needs parts = needs_by (part_follows needs) parts

abbrev pub part_records : List Files → List ℕ → List Files
part_records plan parts = map (files_at plan) parts

-- commands that overlap do what they do one after the other in the plan's own order, in runs that stop early too
abbrev pub OverlapsAgree : (Files → Files → Bool) → Type 0
OverlapsAgree test =
    (plan : List Files) (needs : List (List ℕ)) (parts ran : List ℕ) (effects : ℕ → Effect) (contents : Contents)
    → Hold test plan needs
    → ArePartsOf plan parts
    → IsRun (part_needs needs parts) ran
    → AllStayWithin (part_records plan parts) (part_needs needs parts) effects
    → DoesTheSame (part_records plan parts) effects contents ran (filter (is_in ran) (own_order (part_needs needs parts)))
