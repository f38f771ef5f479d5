-- A runner that starts nothing records all commands of a plan.
use Rattle.std.proofs.Common.{◌≡◌, ℕ, List, [], ◌∷◌, Bool, true, false, not, ◌&&◌, ◌||◌, cond, refl, ap, sym, ◌∙◌, map, filter, subst, Result, Ok, Err, IsErrAnd}
use Rattle.std.specs.List.{list_any}
use Rattle.cuda_plans.specs.declared.fault.Fault.{Fault}
use Rattle.cuda_plans.specs.declared.fault.Fault.TheVariants.{Memory, Process}
use Rattle.cuda_plans.specs.declared.plan.NvccGeneratedSubcommand.{NvccGeneratedSubcommand}
use Rattle.cuda_plans.specs.declared.plan.Plan.{Plan}
use Rattle.cuda_plans.specs.declared.runner.Place.{Place}
use Rattle.cuda_plans.specs.declared.status.Output.{Output}
use Rattle.cuda_plans.specs.Fault.{UnlessMemory}
use Rattle.cuda_plans.specs.Schedule.{Step, steps, chunk_of, device_groups, depends_on, fails, is_due, step_of, output_of_account, Gains, RunsAs, ExecutesAs}
use Rattle.test_callers.specs.declared.runs.Recorder.{Recorder}
use Rattle.test_callers.specs.declared.runs.Started.{Started}
use Rattle.test_callers.specs.Runs.{entry_of, step_seen, steps_of, steps_seen}

-- nothing failed, so all steps are due
none-failed : (started : List Started) → list_any fails (map entry_of started) ≡ false
none-failed [] = refl
none-failed (s ∷ rest) = none-failed rest

none-stops : (chunk : ℕ → ℕ) (p : Place) (started : List Started) → list_any (λ e. depends_on chunk p e.place && fails e) (map entry_of started) ≡ false
none-stops chunk p [] = refl
none-stops chunk p (s ∷ rest) = (λ i. never (depends_on chunk p s.place) i || list_any (λ e. depends_on chunk p e.place && fails e) (map entry_of rest)) ∙ none-stops chunk p rest
  where
    never : (b : Bool) → (b && false) ≡ false
    never true = refl
    never false = refl

all-due : (chunk : ℕ → ℕ) (started : List Started) (all : List Step) → filter (is_due chunk (map entry_of started)) all ≡ all
all-due chunk started [] = refl
all-due chunk started (s ∷ rest) =
    (λ i. cond (not (none-stops chunk s.place started i)) (s ∷ filter (is_due chunk (map entry_of started)) rest) (filter (is_due chunk (map entry_of started)) rest))
    ∙ ap (λ l. s ∷ l) (all-due chunk started rest)

seen-steps : (started : List Started) → map step_of (map entry_of started) ≡ map step_seen started
seen-steps [] = refl
seen-steps (s ∷ rest) = ap (λ l. step_seen s ∷ l) (seen-steps rest)

-- a whole account of successes is of all steps
whole : (groups : List (List NvccGeneratedSubcommand)) (parallel : ℕ) (started : List Started) → filter (is_due (chunk_of (device_groups groups) parallel) (map entry_of started)) (steps groups) ≡ map step_of (map entry_of started) → steps groups ≡ map step_seen started
whole groups parallel started h = sym (all-due (chunk_of (device_groups groups) parallel) started (steps groups)) ∙ h ∙ seen-steps started

pub recorded : (planned : Result Plan Fault) (parallel : ℕ) (recorder : Recorder) (output : Output) → Gains [] (map entry_of recorder.started.items) (λ account. ExecutesAs planned parallel account (Ok output)) → UnlessMemory (steps_seen (Ok recorder)) (steps_of planned)
recorded (Ok plan) parallel recorder output gains =
    let run : RunsAs plan.groups parallel (map entry_of recorder.started.items) (Ok output) = subst (λ account. RunsAs plan.groups parallel account (Ok output)) (sym gains.1) gains.2 in
    ap Ok (whole plan.groups parallel recorder.started.items run.0)
recorded (Err fault) parallel recorder output gains = absurd (no gains.2.1)
  where
    no : UnlessMemory {T = Output} (Ok output) (Err fault) → ⊥
    no e = cc

-- a refusal is the planning's
refused-run : (plan : Plan) (parallel : ℕ) (started : List Started) (fault : Fault) → RunsAs plan.groups parallel (map entry_of started) (Err fault) → UnlessMemory {T = List Step} (Err fault) (Ok (steps plan.groups))
refused-run plan parallel started Memory run = tt
refused-run plan parallel started fault run = absurd (no (ap (λ b. cond b (Err (Process (output_of_account (map entry_of started)))) (Ok (output_of_account (map entry_of started)))) (sym (none-failed started)) ∙ run.1))
  where
    no : Ok (output_of_account (map entry_of started)) ≡ Err fault → ⊥
    no e = cc

refused-planning : (fault other : Fault) → UnlessMemory {T = Output} (Err fault) (Err other) → UnlessMemory {T = List Step} (Err fault) (Err other)
refused-planning Memory other h = tt
refused-planning fault other h = let same : other ≡ fault = cc in ap Err same

pub not-recorded : (planned : Result Plan Fault) (parallel : ℕ) (started : List Started) (fault : Fault) → Gains [] (map entry_of started) (λ account. ExecutesAs planned parallel account (Err fault)) → UnlessMemory {T = List Step} (Err fault) (steps_of planned)
not-recorded (Ok plan) parallel started fault gains = refused-run plan parallel started fault (subst (λ account. RunsAs plan.groups parallel account (Err fault)) (sym gains.1) gains.2)
not-recorded (Err other) parallel started fault gains = refused-planning fault other gains.2.1

pub passed-on : (r : Result Recorder Fault) (fault : Fault) (whole : Result (List Step) Fault) → IsErrAnd r (λ f. f ≡ fault) → UnlessMemory {T = List Step} (Err fault) whole → UnlessMemory (steps_seen r) whole
passed-on (Ok recorder) fault whole is told = absurd is
passed-on (Err f) fault whole is told = subst (λ (g : Fault). UnlessMemory {T = List Step} (Err g) whole) (sym is) told
