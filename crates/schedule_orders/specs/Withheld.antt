-- Histories in which commands begin before a file is there that they read late: the file is withheld from them.
use Rattle.std.specs.Prelude.{◌≡◌, ℕ, ◌<◌, List, [], ◌∷◌, ◌++◌, Bool, true, false, ◌&&◌, not, if◌then◌else◌, length, get_or, take, nat_lt}
use Rattle.std.specs.List.{list_all, range_with_len}
use Rattle.schedules.specs.declared.command.AfterFailure.{AfterFailure}
use Rattle.schedules.specs.declared.command.CommandState.{CommandState}
use Rattle.schedules.specs.declared.command.CommandState.TheVariants as kinds
use Rattle.schedules.specs.States.{is_running, state_at}
use Rattle.schedules.specs.Scheduled.{Scheduled}
use Rattle.schedules.specs.Graphs.{fresh}
use Rattle.schedules.specs.Events.{refusal, changed}
use Rattle.command_files.specs.Files.{Files, is_among, must_follow}
use Rattle.command_files.specs.Order.{is_in, needs_at, files_at, Contents, Effect, contents_after, Hold}
use Rattle.command_files.specs.Overlap.{ArePartsOf}
use Rattle.schedule_orders.specs.Closed.{closed}
use Rattle.schedule_orders.specs.Histories.{Moment, Tells, Runs, ran_in, parts_of, is_accepted, may_end, may_happen}
use Rattle.schedule_orders.specs.Products.{PartsStayWithin, needs_of_parts}

-- A process may begin before a file is there. Until it has found the file it does what its head does, another command of the graph. What it
-- does then are the parts of this command.
pub data Act : Type 0 where
  Does : Moment → Act
  Gives : ℕ → Act
  Finds : ℕ → Act

-- what happens to the schedule and to files, without giving and finding
abbrev pub moments_of : List Act → List Moment
moments_of [] = []
moments_of (Does m ∷ later) = m ∷ moments_of later
moments_of (Gives n ∷ later) = moments_of later
moments_of (Finds n ∷ later) = moments_of later

-- whether a command has ended: then none of its parts runs
abbrev pub has_ended : CommandState → Bool
has_ended kinds.NotStarted = false
has_ended kinds.Running = false
has_ended kinds.Succeeded = true
has_ended kinds.Failed = true
has_ended kinds.Cancelled = true

-- Whether the process of a command may do its parts: if the command waits for a file, once it has found that. Nobody says that the command
-- has started then.
abbrev pub may_go_on : (ℕ → Bool) → Scheduled → List ℕ → ℕ → Bool
may_go_on waits s found n = if waits n then is_in found n && not (has_ended (state_at s.states n)) else is_running (state_at s.states n)

abbrev pub may_do : (ℕ → Bool) → List ℕ → Scheduled → List ℕ → List ℕ → ℕ → Bool
may_do waits parts s done found i =
    nat_lt i (length parts)
    && (may_go_on waits s found (get_or parts i 0) && (not (is_in done i) && list_all (is_in done) (parts_of (take i parts) (get_or parts i 0))))

-- What the caller of a schedule does: it tells each start and end as ever, and gives a command its file once the schedule has accepted the
-- command's start.
abbrev pub may_act : (ℕ → Bool) → List ℕ → Scheduled → List ℕ → List ℕ → List ℕ → List Act → Bool
may_act waits parts s done given found [] = true
may_act waits parts s done given found (Does (Tells e) ∷ later) = is_accepted (refusal s e) && (may_end parts done e && may_act waits parts (changed s e) done given found later)
may_act waits parts s done given found (Does (Runs i) ∷ later) = may_do waits parts s done found i && may_act waits parts s (i ∷ done) given found later
may_act waits parts s done given found (Gives n ∷ later) = is_running (state_at s.states n) && (not (is_in given n) && may_act waits parts s done (n ∷ given) found later)
may_act waits parts s done given found (Finds n ∷ later) = may_act waits parts s done given (n ∷ found) later

-- What the kernel does: who opens a file that is withheld, or reads a pipe, finds it only once it is given.
abbrev pub readers_wait : List ℕ → List Act → Bool
readers_wait given [] = true
readers_wait given (Does m ∷ later) = readers_wait given later
readers_wait given (Gives n ∷ later) = readers_wait (n ∷ given) later
readers_wait given (Finds n ∷ later) = is_in given n && readers_wait given later

-- a law of each history of this kind, of each schedule of a graph
abbrev pub OfWithheld : (List Files → List (List ℕ) → (ℕ → Bool) → List ℕ → Scheduled → List Act → Type 0) → Type 0
OfWithheld law =
    (records : List Files) (needs : List (List ℕ)) (waits : ℕ → Bool) (priorities : List ℕ) (slots : ℕ) (after_failure : AfterFailure) (parts : List ℕ) (acts : List Act)
    → may_act waits parts (fresh needs priorities slots after_failure) [] [] [] acts ≡ true
    → readers_wait [] acts ≡ true
    → law records needs waits parts (fresh needs priorities slots after_failure) acts

-- Then each part runs while its command runs, so what is said of histories holds of this one too.
abbrev pub MayHappen : Type 0
MayHappen = OfWithheld (λ records needs waits parts s acts. may_happen parts s [] (moments_of acts) ≡ true)

-- What a command finds that has these parts first: it is given its file after all that it needs has run, the file's writers too, and each
-- file of its record holds then what it holds when the command's turn comes in the graph's own order.
pub record IsWritten (records : List Files) (needs : List (List ℕ)) (parts ran : List ℕ) (n i : ℕ) (effects : ℕ → Effect) (contents : Contents) : Type 0 where
  pub behind : list_all (is_in ran) (needs_at (needs_of_parts needs parts) i) ≡ true
  pub same : (file : List ℕ) → is_among (files_at records n).reads file ≡ true → contents_after effects ran contents file ≡ contents_after effects (range_with_len 0 i) contents file

-- a command is given its file behind these acts, and `i` is its first part
pub record IsGiven (waits : ℕ → Bool) (parts : List ℕ) (acts before : List Act) (n i : ℕ) : Type 0 where
  pub after : List Act
  pub here : acts ≡ before ++ Gives n ∷ after
  pub late : waits n ≡ true
  pub there : i < length parts
  pub own : get_or parts i 0 ≡ n
  pub first : parts_of (take i parts) n ≡ []

-- so what a command is given is what its writers wrote
abbrev pub GivesWhatWasWritten : Type 0
GivesWhatWasWritten = OfWithheld (λ records needs waits parts s acts. (before : List Act) (n i : ℕ) (effects : ℕ → Effect) (contents : Contents)
    → Hold must_follow records (closed needs)
    → ArePartsOf records parts
    → PartsStayWithin records needs parts effects
    → IsGiven waits parts acts before n i
    → IsWritten records needs parts (ran_in (moments_of before)) n i effects contents)
