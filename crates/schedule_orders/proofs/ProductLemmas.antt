-- What commands leave that a schedule orders.
use Rattle.std.proofs.Common.{◌≡◌, ℕ, ◌+◌, ◌<◌, inl, inr, List, [], ◌++◌, true, length, get_or, sym, ap, subst, ◌∙◌, arith, IsPermutation}
use Rattle.std.specs.List.{filter, range_with_len}
use Rattle.std.proofs.lemmas.Bool.{false≢true}
use Rattle.std.proofs.lemmas.List.{length-replicate}
use Rattle.schedules.specs.declared.command.AfterFailure.{AfterFailure}
use Rattle.schedules.specs.declared.command.CommandState.TheVariants as kinds
use Rattle.schedules.specs.States.{is_succeeded, state_at}
use Rattle.schedules.specs.Graphs.{fresh}
use Rattle.schedules.specs.Events.{after}
use Rattle.command_files.specs.Files.{Files, must_follow}
use Rattle.command_files.specs.Order.{needs_at, is_in, is_ready, own_order, IsOrder, IsRun, Contents, Effect, contents_after, AllStayWithin, DoesTheSame, Hold}
use Rattle.command_files.specs.Overlap.{ArePartsOf, part_follows, part_records}
use Rattle.command_files.proofs.OrderLemmas.{in_range}
use Rattle.command_files.proofs.NeedLemmas.{length-needs_behind, needs_earlier}
use Rattle.command_files.proofs.OverlapLemmas.{overlaps_agree}
use Rattle.schedule_orders.specs.Closed.{closed}
use Rattle.schedule_orders.specs.Histories.{Moment, events_in, ran_in, may_happen}
use Rattle.schedule_orders.specs.Products.{needs_of_parts, own_parts, as_a_whole}
use Rattle.schedule_orders.proofs.ClosedLemmas.{length-closed}
use Rattle.schedule_orders.proofs.HistoryLemmas.{kept_first, ready_from, each_once, ran_or_runs}
use Rattle.schedule_orders.proofs.ListLemmas.{EachOnce, once_permutes, rest_permutes, rest_ready, the_rest, filter_all}
use Rattle.schedule_orders.proofs.WholeLemmas.{as_wholes}

pub length-own_parts : (needs : List (List ℕ)) (parts : List ℕ) → own_parts needs parts ≡ range_with_len 0 (length parts)
length-own_parts needs parts = ap (range_with_len 0) (length-needs_behind (part_follows (closed needs)) [] parts)

-- a history of a schedule of a graph
module _ (records : List Files) (needs : List (List ℕ)) (priorities : List ℕ) (slots : ℕ) (setting : AfterFailure) (parts : List ℕ) (moments : List Moment)
    (happened : may_happen parts (fresh needs priorities slots setting) [] moments ≡ true) where
  once : EachOnce (length parts) (ran_in moments)
  once = each_once parts (fresh needs priorities slots setting) [] moments happened

  ready : is_ready (needs_at (needs_of_parts needs parts)) [] (ran_in moments) ≡ true
  ready = ready_from needs parts (fresh needs priorities slots setting) [] moments (kept_first needs priorities slots setting parts) happened

  pub runs : IsRun (needs_of_parts needs parts) (ran_in moments)
  runs = record {
    each_once = subst (λ own. IsPermutation (filter (is_in (ran_in moments)) own) (ran_in moments)) (sym (length-own_parts needs parts)) (once_permutes (length parts) (ran_in moments) once);
    ready = ready;
  }

  pub begins : IsOrder (needs_of_parts needs parts) (ran_in moments ++ the_rest (ran_in moments) (length parts))
  begins = record {
    each_once = subst (λ own. IsPermutation own (ran_in moments ++ the_rest (ran_in moments) (length parts))) (sym (length-own_parts needs parts)) (rest_permutes (length parts) (ran_in moments) once);
    ready = rest_ready (needs_at (needs_of_parts needs parts)) (length parts) (ran_in moments) (λ j m h k. needs_earlier (part_follows (closed needs)) 0 parts j m h k) ready;
  }

  -- if all commands have succeeded, all parts have run
  all_ran : ArePartsOf records parts → length needs ≡ length records
      → ((n : ℕ) → n < length (fresh needs priorities slots setting).states → is_succeeded (state_at (after (fresh needs priorities slots setting) (events_in moments)).states n) ≡ true)
      → filter (is_in (ran_in moments)) (own_parts needs parts) ≡ own_parts needs parts
  all_ran are same all = filter_all (is_in (ran_in moments)) (own_parts needs parts) (λ i k. each i (in_range 0 (length parts) i (subst (λ own. is_in own i ≡ true) (length-own_parts needs parts) k)).1)
    where
      each : (i : ℕ) → i < 0 + length parts → is_in (ran_in moments) i ≡ true
      each i h =
          let there : i < length parts = omega (arith, h) in
          let states : length (fresh needs priorities slots setting).states ≡ length needs = length-replicate (length needs) kinds.NotStarted in
          let command : get_or parts i 0 < length records = are.of_commands i there in
          elim (ran_or_runs needs parts (fresh needs priorities slots setting) [] moments i (kept_first needs priorities slots setting parts) happened there (all (get_or parts i 0) (omega (arith, states, same, command)))) [
            | inl k ↦ absurd (false≢true k)
            | inr k ↦ k
          ]

  module _ (holds : Hold must_follow records (closed needs)) (are : ArePartsOf records parts) (effects : ℕ → Effect) (contents : Contents)
      (within : AllStayWithin (part_records records parts) (needs_of_parts needs parts) effects) where
    pub theirs : DoesTheSame (part_records records parts) effects contents (ran_in moments) (filter (is_in (ran_in moments)) (own_parts needs parts))
    theirs = overlaps_agree records (closed needs) parts (ran_in moments) effects contents holds are runs within

    module _ (all : (n : ℕ) → n < length (fresh needs priorities slots setting).states → is_succeeded (state_at (after (fresh needs priorities slots setting) (events_in moments)).states n) ≡ true) where
      count : length needs ≡ length records
      count = sym (length-closed needs) ∙ holds.each

      pub same : DoesTheSame (part_records records parts) effects contents (ran_in moments) (own_parts needs parts)
      same = subst (λ own. DoesTheSame (part_records records parts) effects contents (ran_in moments) own) (all_ran are count all) theirs

      wholes : contents_after effects (own_parts needs parts) contents ≡ contents_after (as_a_whole parts effects) (own_order needs) contents
      wholes =
          ap (λ own. contents_after effects own contents) (length-own_parts needs parts)
          ∙ as_wholes records parts are effects contents
          ∙ ap (λ n. contents_after (as_a_whole parts effects) (range_with_len 0 n) contents) (sym count)

      pub leaves : (file : List ℕ) → contents_after effects (ran_in moments) contents file ≡ contents_after (as_a_whole parts effects) (own_order needs) contents file
      leaves file = same.leaves file ∙ ap (λ (c : Contents). c file) wholes
