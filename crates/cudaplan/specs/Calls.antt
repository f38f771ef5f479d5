-- The calls of the program, and how they end.
use Rattle.std.specs.Prelude.{◌≡◌, ℕ, List, [], ◌∷◌, if◌then◌else◌, Option, None, Result, Ok, Err, MatchOption, codes, option_map, bytes_eq}
use Rattle.std.specs.Io.KnownBytes.{Keeps}
use Rattle.programs.specs.declared.stop.Stop.{Stop}
use Rattle.programs.specs.Operands.{LineOf, PlanOf, line_of, plan_of, line_call_of, plan_call_of}
use Rattle.programs.specs.Delivery.{Delivers}
use Rattle.programs.specs.PlanText.{PlansFiles, shown_line}
use Rattle.cudaplan.specs.declared.program.Call.{Call}
use Rattle.cudaplan.specs.declared.program.Call.TheVariants as calls

pub data CallOf : Type 0 where
  reads : LineOf → CallOf
  plans : PlanOf → CallOf

-- a call, as the code holds it
abbrev pub seen : Call → CallOf
seen (calls.Line call) = reads (line_of call)
seen (calls.Plan call) = plans (plan_of call)

-- the call that the words after the program's name are
abbrev pub call_of : List (List ℕ) → Option CallOf
call_of [] = None
call_of (verb ∷ words) =
    if bytes_eq verb (codes "line") then option_map reads (line_call_of words) else
    if bytes_eq verb (codes "plan") then option_map plans (plan_call_of words) else None

-- the exit status of an engine's answer
abbrev pub status_of : Result (Unit {0}) Stop → ℕ
status_of (Ok _) = 0
status_of (Err _) = 1

-- what the program writes for a call, given what files may hold, and the engine's answer
abbrev pub Serves : (List ℕ → Option (List ℕ) → Type 0) → CallOf → Result (Unit {0}) Stop → Option (List ℕ) → Option (List ℕ) → Type 0
Serves holds (reads c) answer before after = Delivers answer (shown_line c.tool c.cwd c.words) before after
Serves holds (plans c) answer before after = PlansFiles holds c answer before after

-- how a call ends: with status 2 and nothing written if the words are no call, else with the status of an engine's answer,
-- and with what that engine writes
abbrev pub Ends : (List ℕ → Option (List ℕ) → Type 0) → ℕ → Option CallOf → Option (List ℕ) → Option (List ℕ) → Type 0
Ends holds status call before after =
    MatchOption call ((status ≡ 2) × Keeps before after)
    (λ c. (answer : Result (Unit {0}) Stop) × (status ≡ status_of answer) × Serves holds c answer before after)
