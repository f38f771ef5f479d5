-- Small histories: which may happen, and which may not.
use Rattle.std.specs.Prelude.{◌≡◌, ℕ, List, [], ◌∷◌, ◌++◌, Bool, true, false, ◌==◌, length, refl}
use Rattle.schedules.specs.declared.command.AfterFailure.TheVariants.{GoOn}
use Rattle.schedules.specs.declared.command.Outcome.TheVariants.{Success, Failure, Cancelled}
use Rattle.schedules.specs.Graphs.{fresh}
use Rattle.schedules.specs.Events.{Started, Ended}
use Rattle.command_files.specs.Files.{Files}
use Rattle.command_files.specs.Order.{Contents, Effect, contents_after}
use Rattle.command_files.specs.PlanNeeds.{fatbin_plan}
use Rattle.schedule_orders.specs.Closed.{closed}
use Rattle.schedule_orders.specs.Histories.{Moment, Tells, Runs, events_in, ran_in, may_happen}
use Rattle.schedule_orders.specs.Plans.{all_records, all_needs, are_apart, all_apart}
use Rattle.schedule_orders.specs.Products.{needs_of_parts, own_parts, as_a_whole}
use Rattle.schedule_orders.specs.Withheld.{Act, Does, Gives, Finds, may_act, moments_of, readers_wait}

-- Three commands of which the last needs the others, two at a time. The first one has two parts.
abbrev pub happens : List Moment → Bool
happens moments = may_happen (0 ∷ 0 ∷ 1 ∷ 2 ∷ []) (fresh ([] ∷ [] ∷ (0 ∷ 1 ∷ []) ∷ []) (0 ∷ 0 ∷ 0 ∷ []) 2 GoOn) [] moments

-- the first two overlap
abbrev pub overlapping : List Moment
overlapping =
    Tells (Started 0) ∷ Runs 0 ∷ Tells (Started 1) ∷ Runs 2 ∷ Runs 1 ∷ Tells (Ended 0 Success) ∷ Tells (Ended 1 Success) ∷ Tells (Started 2) ∷ Runs 3 ∷ Tells (Ended 2 Success) ∷ []

pub record OfOverlapping : Type 0 where
  pub happens : happens overlapping ≡ true
  pub ran : ran_in overlapping ≡ 0 ∷ 2 ∷ 1 ∷ 3 ∷ []
  pub events : events_in overlapping ≡ Started 0 ∷ Started 1 ∷ Ended 0 Success ∷ Ended 1 Success ∷ Started 2 ∷ Ended 2 Success ∷ []

pub of_overlapping : OfOverlapping
of_overlapping = record { happens = refl; ran = refl; events = refl }

-- a command that fails or is cancelled may stop between its parts
pub record OfStopped : Type 0 where
  pub failed : happens (Tells (Started 0) ∷ Runs 0 ∷ Tells (Ended 0 Failure) ∷ Tells (Started 1) ∷ Runs 2 ∷ []) ≡ true
  pub cancelled : happens (Tells (Started 0) ∷ Tells (Ended 0 Cancelled) ∷ []) ≡ true

pub of_stopped : OfStopped
of_stopped = record { failed = refl; cancelled = refl }

-- what may not happen
pub record OfOthers : Type 0 where
  pub before_its_start : happens (Runs 0 ∷ []) ≡ false
  pub after_its_end : happens (Tells (Started 0) ∷ Runs 0 ∷ Tells (Ended 0 Failure) ∷ Runs 1 ∷ []) ≡ false
  pub succeeds_too_early : happens (Tells (Started 0) ∷ Runs 0 ∷ Tells (Ended 0 Success) ∷ []) ≡ false
  pub twice : happens (Tells (Started 0) ∷ Runs 0 ∷ Runs 0 ∷ []) ≡ false
  pub second_part_first : happens (Tells (Started 0) ∷ Runs 1 ∷ []) ≡ false
  pub no_such_part : happens (Tells (Started 0) ∷ Runs 0 ∷ Runs 1 ∷ Runs 4 ∷ []) ≡ false
  pub need_unmet : happens (Tells (Started 1) ∷ Runs 2 ∷ Tells (Ended 1 Success) ∷ Tells (Started 2) ∷ []) ≡ false
  pub ends_before_its_start : happens (Tells (Ended 0 Failure) ∷ []) ≡ false

pub of_others : OfOthers
of_others = record {
  before_its_start = refl;
  after_its_end = refl;
  succeeds_too_early = refl;
  twice = refl;
  second_part_first = refl;
  no_such_part = refl;
  need_unmet = refl;
  ends_before_its_start = refl;
}

-- A writer, a head that begins beside it, and the rest, which needs both and waits for the writer's file.
abbrev pub may_make : List Act → Bool
may_make made = may_act (λ n. n == 2) (0 ∷ 1 ∷ 2 ∷ []) (fresh ([] ∷ [] ∷ (0 ∷ 1 ∷ []) ∷ []) (0 ∷ 0 ∷ 0 ∷ []) 2 GoOn) [] [] [] made

abbrev pub up_to_its_start : List Act
up_to_its_start =
    Does (Tells (Started 0)) ∷ Does (Tells (Started 1)) ∷ Does (Runs 1) ∷ Does (Runs 0) ∷ Does (Tells (Ended 1 Success)) ∷ Does (Tells (Ended 0 Success)) ∷ Does (Tells (Started 2)) ∷ []

abbrev pub given_its_file : List Act
given_its_file = up_to_its_start ++ Gives 2 ∷ Finds 2 ∷ Does (Runs 2) ∷ Does (Tells (Ended 2 Success)) ∷ []

pub record OfWithheldFiles : Type 0 where
  pub may : may_make given_its_file ≡ true
  pub waits : readers_wait [] given_its_file ≡ true
  pub ran : ran_in (moments_of given_its_file) ≡ 1 ∷ 0 ∷ 2 ∷ []
  pub given_before_its_start : may_make (Does (Tells (Started 1)) ∷ Gives 2 ∷ []) ≡ false
  pub given_twice : may_make (up_to_its_start ++ Gives 2 ∷ Gives 2 ∷ []) ≡ false
  pub goes_on_without_it : may_make (up_to_its_start ++ Gives 2 ∷ Does (Runs 2) ∷ []) ≡ false
  pub goes_on_after_its_end : may_make (up_to_its_start ++ Gives 2 ∷ Finds 2 ∷ Does (Tells (Ended 2 Failure)) ∷ Does (Runs 2) ∷ []) ≡ false
  pub finds_it_too_early : readers_wait [] (up_to_its_start ++ Finds 2 ∷ Gives 2 ∷ []) ≡ false

pub of_withheld_files : OfWithheldFiles
of_withheld_files = record {
  may = refl;
  waits = refl;
  ran = refl;
  given_before_its_start = refl;
  given_twice = refl;
  goes_on_without_it = refl;
  goes_on_after_its_end = refl;
  finds_it_too_early = refl;
}

-- the needs of needs, and those of parts
abbrev pub three_needs : List (List ℕ)
three_needs = [] ∷ [] ∷ (0 ∷ 1 ∷ []) ∷ []

pub record OfNeeds : Type 0 where
  pub through_another : closed ([] ∷ (0 ∷ []) ∷ (1 ∷ []) ∷ []) ≡ [] ∷ (0 ∷ []) ∷ (1 ∷ 0 ∷ []) ∷ []
  pub of_each : closed ([] ∷ (0 ∷ []) ∷ (0 ∷ 1 ∷ []) ∷ []) ≡ [] ∷ (0 ∷ []) ∷ (0 ∷ 1 ∷ 0 ∷ []) ∷ []
  pub of_parts : needs_of_parts three_needs (0 ∷ 0 ∷ 1 ∷ 2 ∷ []) ≡ [] ∷ (0 ∷ []) ∷ [] ∷ (0 ∷ 1 ∷ 2 ∷ []) ∷ []
  pub of_parts_through : needs_of_parts ([] ∷ (0 ∷ []) ∷ (1 ∷ []) ∷ []) (0 ∷ 1 ∷ 2 ∷ []) ≡ [] ∷ (0 ∷ []) ∷ (0 ∷ 1 ∷ []) ∷ []
  pub own_order : own_parts three_needs (0 ∷ 0 ∷ 1 ∷ 2 ∷ []) ≡ 0 ∷ 1 ∷ 2 ∷ 3 ∷ []
  pub as_wholes :
      (effects : ℕ → Effect) (contents : Contents)
      → contents_after (as_a_whole (0 ∷ 0 ∷ 1 ∷ []) effects) (0 ∷ 1 ∷ []) contents ≡ contents_after effects (0 ∷ 1 ∷ 2 ∷ []) contents

pub of_needs : OfNeeds
of_needs = record {
  through_another = refl;
  of_each = refl;
  of_parts = refl;
  of_parts_through = refl;
  own_order = refl;
  as_wholes = λ effects contents. refl;
}

-- whether plans are apart, and their needs in one graph
abbrev pub reading : Files
reading = record { reads = (97 ∷ []) ∷ []; writes = [] }

abbrev pub writing : Files
writing = record { reads = []; writes = (97 ∷ []) ∷ [] }

pub record OfPlans : Type 0 where
  pub both_read : are_apart (reading ∷ []) (reading ∷ []) ≡ true
  pub second_writes : are_apart (reading ∷ []) (writing ∷ []) ≡ false
  pub first_writes : are_apart (writing ∷ []) (reading ∷ []) ≡ false
  pub both_write : are_apart (writing ∷ []) (writing ∷ []) ≡ false
  pub any_of_them : are_apart (reading ∷ writing ∷ []) (reading ∷ []) ≡ false
  pub one_plan : all_apart (fatbin_plan ∷ []) ≡ true
  pub the_same_twice : all_apart (fatbin_plan ∷ fatbin_plan ∷ []) ≡ false
  pub needs_of_two :
      all_needs (fatbin_plan ∷ fatbin_plan ∷ []) ≡
      [] ∷ (0 ∷ []) ∷ (1 ∷ []) ∷ [] ∷ (1 ∷ 3 ∷ []) ∷ (4 ∷ []) ∷ (0 ∷ 1 ∷ 2 ∷ 3 ∷ 4 ∷ 5 ∷ []) ∷ [] ∷ (7 ∷ []) ∷ (8 ∷ []) ∷ [] ∷ (8 ∷ 10 ∷ []) ∷ (11 ∷ []) ∷ (7 ∷ 8 ∷ 9 ∷ 10 ∷ 11 ∷ 12 ∷ []) ∷ []
  pub records_of_two : length (all_records (fatbin_plan ∷ fatbin_plan ∷ [])) ≡ 14

pub of_plans : OfPlans
of_plans = record {
  both_read = refl;
  second_writes = refl;
  first_writes = refl;
  both_write = refl;
  any_of_them = refl;
  one_plan = refl;
  the_same_twice = refl;
  needs_of_two = refl;
  records_of_two = refl;
}
