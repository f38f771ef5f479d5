-- The laws of histories without one of their premises.
use Rattle.std.specs.Prelude.{◌≡◌, ℕ, List, [], Bool, true}
use Rattle.schedules.specs.declared.command.AfterFailure.{AfterFailure}
use Rattle.schedules.specs.Graphs.{fresh}
use Rattle.command_files.specs.Files.{Files, must_follow}
use Rattle.command_files.specs.Order.{own_order, Contents, Effect, AllStayWithin, DoesTheSame, Hold}
use Rattle.command_files.specs.Overlap.{ArePartsOf}
use Rattle.schedule_orders.specs.Closed.{closed}
use Rattle.schedule_orders.specs.Histories.{Moment, may_happen}
use Rattle.schedule_orders.specs.Products.{OfHistories, AllSucceeded, PartsStayWithin, LeavesAll}
use Rattle.schedule_orders.specs.Withheld.{Act, may_act, moments_of, readers_wait}

-- commands do what they like
abbrev pub WithoutStayingWithin : Type 0
WithoutStayingWithin = OfHistories (λ records needs parts s moments. (effects : ℕ → Effect) (contents : Contents)
    → AllSucceeded s moments
    → LeavesAll records needs parts moments effects contents)

-- some commands haven't succeeded
abbrev pub WithoutSuccess : Type 0
WithoutSuccess = OfHistories (λ records needs parts s moments. (effects : ℕ → Effect) (contents : Contents)
    → PartsStayWithin records needs parts effects
    → LeavesAll records needs parts moments effects contents)

-- parts run, or don't, whatever the schedule is told
abbrev pub WithoutHappening : Type 0
WithoutHappening =
    (records : List Files) (needs : List (List ℕ)) (priorities : List ℕ) (slots : ℕ) (after_failure : AfterFailure) (parts : List ℕ) (moments : List Moment)
    (effects : ℕ → Effect) (contents : Contents)
    → Hold must_follow records (closed needs)
    → ArePartsOf records parts
    → PartsStayWithin records needs parts effects
    → AllSucceeded (fresh needs priorities slots after_failure) moments
    → LeavesAll records needs parts moments effects contents

-- parts are of commands that aren't there
abbrev pub WithoutCommands : Type 0
WithoutCommands =
    (records : List Files) (needs : List (List ℕ)) (priorities : List ℕ) (slots : ℕ) (after_failure : AfterFailure) (parts : List ℕ) (moments : List Moment)
    (effects : ℕ → Effect) (contents : Contents)
    → Hold must_follow records (closed needs)
    → may_happen parts (fresh needs priorities slots after_failure) [] moments ≡ true
    → PartsStayWithin records needs parts effects
    → AllSucceeded (fresh needs priorities slots after_failure) moments
    → LeavesAll records needs parts moments effects contents

-- an order leaves commands out
abbrev pub WithoutOrder : Type 0
WithoutOrder =
    (records : List Files) (needs : List (List ℕ)) (order : List ℕ) (effects : ℕ → Effect) (contents : Contents)
    → Hold must_follow records needs
    → AllStayWithin records needs effects
    → DoesTheSame records effects contents order (own_order needs)

-- the caller of a schedule does what it likes
abbrev pub WithoutActing : Type 0
WithoutActing =
    (needs : List (List ℕ)) (waits : ℕ → Bool) (priorities : List ℕ) (slots : ℕ) (after_failure : AfterFailure) (parts : List ℕ) (acts : List Act)
    → readers_wait [] acts ≡ true
    → may_happen parts (fresh needs priorities slots after_failure) [] (moments_of acts) ≡ true

-- the kernel lets readers go on
abbrev pub WithoutWaiting : Type 0
WithoutWaiting =
    (needs : List (List ℕ)) (waits : ℕ → Bool) (priorities : List ℕ) (slots : ℕ) (after_failure : AfterFailure) (parts : List ℕ) (acts : List Act)
    → may_act waits parts (fresh needs priorities slots after_failure) [] [] [] acts ≡ true
    → may_happen parts (fresh needs priorities slots after_failure) [] (moments_of acts) ≡ true
