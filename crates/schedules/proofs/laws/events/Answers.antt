use Rattle.schedules.proofs.LawLemmas.{needs_first, once, slots_suffice, failures, ends, never_stuck}
use Rattle.schedules.proofs.laws.events.Goals as goal

pub returns : goal.returns
returns c = record {
  needs_first = needs_first;
  once = once;
  slots = slots_suffice;
  failures = failures;
  ends = ends;
  never_stuck = never_stuck;
}
