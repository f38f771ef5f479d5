-- What the parts of a schedule keep.
use Rattle.std.specs.Prelude.{◌≡◌, ℕ, ◌<◌, List, [], true, length, get_or, slice_index, map, vec_items}
use Rattle.schedules.specs.declared.schedule.Schedule.TheInside.{Inside}
use Rattle.schedules.specs.Entered.{unmet, times, are_below, AreEntered}
use Rattle.schedules.specs.Scheduled.{Scheduled, running}
use Rattle.schedules.specs.States.{limit}

-- dependents are the needs, the other way round, each as often
pub record AreTurned (needs dependents : List (List ℕ)) : Type 0 where
  pub size : length dependents ≡ length needs
  pub within : (m : ℕ) → m < length needs → are_below (length needs) (get_or dependents m []) ≡ true
  pub turned : (m n : ℕ) → m < length needs → n < length needs → times n (get_or dependents m []) ≡ times m (get_or needs n [])

-- what is counted of a schedule is so
pub record IsCounted (s : Scheduled) (dependents : List (List ℕ)) (waiting tree : List ℕ) (run below : ℕ) : Type 0 where
  pub as_many_priorities : length s.priorities ≡ length s.states
  pub as_many_needs : length s.needs ≡ length s.states
  pub as_many_waiting : length waiting ≡ length s.states
  pub turned : AreTurned s.needs dependents
  pub counted : (n : ℕ) → n < length s.states → slice_index waiting n ≡ unmet s.states (get_or s.needs n [])
  pub entered : AreEntered s.priorities tree s.states waiting below
  pub limited : below ≡ limit s.after_failure s.states
  pub running_is : run ≡ running s.states
  pub some_slot : 0 < s.slots

abbrev pub scheduled : Inside → Scheduled
scheduled s = record {
  needs = map vec_items s.needs.items;
  priorities = s.priorities.items;
  slots = s.slots;
  after_failure = s.after_failure;
  states = s.states.items;
}

abbrev pub IsKept : Inside → Type 0
IsKept s = IsCounted (scheduled s) (map vec_items s.dependents.items) s.waiting.items s.tree.items s.running s.limit
