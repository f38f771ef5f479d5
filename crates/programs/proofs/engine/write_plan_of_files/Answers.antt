use Rattle.std.proofs.Common.{inr, rules}
use Rattle.programs.specs.Delivery.{Delivers}
use Rattle.programs.specs.Operands.{plan_of}
use Rattle.programs.specs.PlanText.{shown_plan}
use Rattle.programs.proofs.ReadLemmas.{both_read}
use Rattle.programs.proofs.engine.write_plan_of_files.Goals as goal

pub returns-in_err-dry2 : goal.returns-in_err-dry2
returns-in_err-dry2 g c = inr (inr (c.in_ok-dry1.dry1.items, c.in_ok-dry1.ensures, search rules))

pub returns : goal.returns
returns g c =
    let call = plan_of c.args.call.now in
    let before = g.W.Write.contents c.args.w.now in
    let after = g.W.Write.contents c.write_plan.new.w in
    both_read (g.S.Sources.holds c.args.sources.now) call
    (λ first second. Delivers c.write_plan.result (shown_plan call.cwd call.tmp call.flag first second call.suffixes) before after)
    c.write_plan.result before after c.in_ok-dry1.dry1.items _ c.in_ok-dry2.dry2.items _
    c.in_ok-dry1.ensures c.as_slice.ensures.value c.in_ok-dry2.ensures c.as_slice-2.ensures.value c.write_plan.ensures
