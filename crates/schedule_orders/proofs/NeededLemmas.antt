-- No premise of the laws of histories can be left out: a small history for each.
use Rattle.std.proofs.Common.{◌≡◌, ℕ, zero, suc, ◌<◌, ◌≤◌, List, [], ◌∷◌, Bool, true, false, Option, Some, None, get_or, refl, sym, ap, arith}
use Rattle.std.proofs.lemmas.Bool.{false≢true}
use Rattle.schedules.specs.declared.command.AfterFailure.TheVariants.{GoOn}
use Rattle.schedules.specs.declared.command.Outcome.TheVariants.{Success}
use Rattle.schedules.specs.States.{is_succeeded, state_at}
use Rattle.schedules.specs.Graphs.{fresh}
use Rattle.schedules.specs.Events.{Started, Ended, after}
use Rattle.command_files.specs.Files.{Files, must_follow}
use Rattle.command_files.specs.Order.{is_in, needs_at, has_one_place, files_at, Contents, Effect, StaysWithin, Hold}
use Rattle.command_files.specs.Overlap.{ArePartsOf}
use Rattle.schedule_orders.specs.Histories.{Moment, Tells, Runs, events_in}
use Rattle.schedule_orders.specs.Withheld.{Does}
use Rattle.schedule_orders.specs.Needed.{WithoutStayingWithin, WithoutSuccess, WithoutHappening, WithoutCommands, WithoutOrder, WithoutActing}

abbrev nothing : Files
nothing = record { reads = []; writes = [] }

-- a command writes its number into every file
abbrev marks : ℕ → Effect
marks n contents file = Some (n ∷ [])

abbrev empty : Contents
empty file = None

abbrev is_there : Option (List ℕ) → Bool
is_there None = false
is_there (Some text) = true

abbrev is_first : Option (List ℕ) → Bool
is_first None = false
is_first (Some text) = is_in text 0

-- One command, which may do anything, as it has one place.

abbrev pub alone : List (List ℕ)
alone = [] ∷ []

alone_holds : Hold must_follow (nothing ∷ []) alone
alone_holds = record { each = refl; needed = λ i j h k e. absurd (omega (arith, h, k)) }

one_part : ArePartsOf (nothing ∷ []) (0 ∷ [])
one_part = record { of_commands = λ i h. of_it i h; rise = λ i j h k. absurd (omega (arith, h, k)) }
  where
    of_it : (i : ℕ) → i < 1 → get_or (0 ∷ []) i 0 < 1
    of_it zero h = omega arith
    of_it (suc i) h = absurd (omega (arith, h))

has_its_place : (records : List Files) (n : ℕ) → n < 1 → has_one_place alone n ≡ false → StaysWithin records alone n (marks n)
has_its_place records zero h e = absurd (false≢true (sym e))
has_its_place records (suc n) h e = absurd (omega (arith, h))

told_of_success : (n : ℕ) → n < 1 → is_succeeded (state_at (after (fresh alone (0 ∷ []) 1 GoOn) (events_in (Tells (Ended 0 Success) ∷ []))).states n) ≡ true
told_of_success zero h = refl
told_of_success (suc n) h = absurd (omega (arith, h))

pub success-needed : WithoutSuccess → ⊥
success-needed law =
    false≢true (ap is_there ((law (nothing ∷ []) alone (0 ∷ []) 1 GoOn (0 ∷ []) [] alone_holds one_part refl marks empty (has_its_place (nothing ∷ []))).leaves []))

pub happening-needed : WithoutHappening → ⊥
happening-needed law =
    false≢true (ap is_there ((law (nothing ∷ []) alone (0 ∷ []) 1 GoOn (0 ∷ []) (Tells (Ended 0 Success) ∷ []) marks empty alone_holds one_part (has_its_place (nothing ∷ [])) told_of_success).leaves []))

pub order-needed : WithoutOrder → ⊥
order-needed law = false≢true (ap is_there ((law (nothing ∷ []) alone [] marks empty alone_holds (has_its_place (nothing ∷ []))).leaves []))

-- a part of another command never runs
started_and_succeeded : (n : ℕ) → n < 1 → is_succeeded (state_at (after (fresh alone (0 ∷ []) 1 GoOn) (events_in (Tells (Started 0) ∷ Tells (Ended 0 Success) ∷ []))).states n) ≡ true
started_and_succeeded zero h = refl
started_and_succeeded (suc n) h = absurd (omega (arith, h))

pub commands-needed : WithoutCommands → ⊥
commands-needed law =
    false≢true (ap is_there ((law (nothing ∷ []) alone (0 ∷ []) 1 GoOn (7 ∷ []) (Tells (Started 0) ∷ Tells (Ended 0 Success) ∷ []) marks empty alone_holds refl
    (has_its_place (nothing ∷ [])) started_and_succeeded).same.leaves []))

-- Two commands that say nothing of the files that they write.

abbrev apart : List (List ℕ)
apart = [] ∷ [] ∷ []

abbrev backwards : List Moment
backwards =
    Tells (Started 1) ∷ Runs 1 ∷ Tells (Ended 1 Success) ∷ Tells (Started 0) ∷ Runs 0 ∷ Tells (Ended 0 Success) ∷ []

apart_holds : Hold must_follow (nothing ∷ nothing ∷ []) apart
apart_holds = record { each = refl; needed = needed }
  where
    needed : (i j : ℕ) → i < j → j < 2 → must_follow (files_at (nothing ∷ nothing ∷ []) i) (files_at (nothing ∷ nothing ∷ []) j) ≡ true → is_in (needs_at apart j) i ≡ true
    needed i zero h k e = absurd (omega (arith, h))
    needed zero (suc zero) h k e = absurd (false≢true e)
    needed (suc i) (suc zero) h k e = absurd (omega (arith, h))
    needed i (suc (suc j)) h k e = absurd (omega (arith, k))

two_parts : ArePartsOf (nothing ∷ nothing ∷ []) (0 ∷ 1 ∷ [])
two_parts = record { of_commands = of_them; rise = rise }
  where
    of_them : (i : ℕ) → i < 2 → get_or (0 ∷ 1 ∷ []) i 0 < 2
    of_them zero h = omega arith
    of_them (suc zero) h = omega arith
    of_them (suc (suc i)) h = absurd (omega (arith, h))

    rise : (i j : ℕ) → i < j → j < 2 → get_or (0 ∷ 1 ∷ []) i 0 ≤ get_or (0 ∷ 1 ∷ []) j 0
    rise zero j h k = omega arith
    rise (suc i) j h k = absurd (omega (arith, h, k))

both_succeeded : (n : ℕ) → n < 2 → is_succeeded (state_at (after (fresh apart (0 ∷ 0 ∷ []) 1 GoOn) (events_in backwards)).states n) ≡ true
both_succeeded zero h = refl
both_succeeded (suc zero) h = refl
both_succeeded (suc (suc n)) h = absurd (omega (arith, h))

pub staying-needed : WithoutStayingWithin → ⊥
staying-needed law =
    false≢true (sym (ap is_first ((law (nothing ∷ nothing ∷ []) apart (0 ∷ 0 ∷ []) 1 GoOn (0 ∷ 1 ∷ []) backwards apart_holds two_parts refl marks empty both_succeeded).leaves [])))

-- Files that are withheld.

pub acting-needed : WithoutActing → ⊥
acting-needed law = false≢true (law alone (λ n. true) (0 ∷ []) 1 GoOn (0 ∷ []) (Does (Runs 0) ∷ []) refl)
