use Rattle.std.proofs.Common.{◌≡◌, ◌+◌, ◌-◌, ◌∷◌, length, drop, map, vec_items, true, sym, ap, ◌∙◌, arith}
use Rattle.std.specs.Prelude.{slice_index}
use Rattle.schedules.specs.Chains.{with_command, chains_from}
use Rattle.schedules.specs.Entered.{are_below}
use Rattle.schedules.proofs.ChainLemmas.{length-with_command, needs_of}
use Rattle.schedules.proofs.GraphLemmas.{rest_is, below_more}
use Rattle.schedules.proofs.chains.put_all_in_front.Goals as goal

pub put_in_front-requires-clause-within : goal.put_in_front-requires-clause-within
put_in_front-requires-clause-within c =
    let below : are_below (c.loop-command.command - 1) c.as_slice.result.now ≡ true =
    needs_of vec_items c.args.needs.now (c.loop-command.command - 1) c.index-needs-command.result c.as_slice.result.now c.requires.in_time (omega (arith, c.loop-command-test.true, c.loop-command.invariant.within)) c.index-needs-command.is c.as_slice.ensures.value in
    below_more (c.loop-command.command - 1) (length c.loop-command.chains) c.as_slice.result.now (omega (arith, c.loop-command.invariant.within, c.loop-command.invariant.as_many)) below

pub loop-command-preserved : goal.loop-command-preserved
loop-command-preserved c =
    let next : c.loop-command.command ≡ (c.loop-command.command - 1) + 1 = omega (arith, c.loop-command-test.true) in
    let row : drop (c.loop-command.command - 1) (map vec_items c.args.needs.now) ≡ c.index-needs-command.result.items ∷ drop ((c.loop-command.command - 1) + 1) (map vec_items c.args.needs.now) =
    rest_is vec_items c.args.needs.now (c.loop-command.command - 1) c.index-needs-command.result (omega (arith, c.loop-command-test.true, c.loop-command.invariant.within)) c.index-needs-command.is in
    record {
      within = omega (arith, c.loop-command.invariant.within);
      as_many = ap length c.put_in_front.ensures ∙ length-with_command (c.loop-command.command - 1) c.as_slice.result.now (slice_index c.args.weights.now (c.loop-command.command - 1)) c.loop-command.chains ∙ c.loop-command.invariant.as_many;
      chains_are =
          c.put_in_front.ensures
          ∙ ap (λ ns. with_command (c.loop-command.command - 1) ns (slice_index c.args.weights.now (c.loop-command.command - 1)) c.loop-command.chains) c.as_slice.ensures.value
          ∙ ap (with_command (c.loop-command.command - 1) c.index-needs-command.result.items (slice_index c.args.weights.now (c.loop-command.command - 1))) c.loop-command.invariant.chains_are
          ∙ ap (λ m. with_command (c.loop-command.command - 1) c.index-needs-command.result.items (slice_index c.args.weights.now (c.loop-command.command - 1)) (chains_from m (drop m (map vec_items c.args.needs.now)) c.args.weights.now c.args.chains.now)) next
          ∙ ap (λ rows. chains_from (c.loop-command.command - 1) rows c.args.weights.now c.args.chains.now) (sym row);
    }
