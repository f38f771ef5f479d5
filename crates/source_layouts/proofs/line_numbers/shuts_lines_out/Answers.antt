use Rattle.std.proofs.Common.{◌≡◌, map, ap, ◌∙◌}
use Rattle.std.proofs.lemmas.Result.{IfOk-weaker}
use Rattle.source_layouts.specs.LineNumbers as spec
use Rattle.source_layouts.specs.WordSets.{has}
use Rattle.source_layouts.proofs.line_numbers.shuts_lines_out.Goals as goal

pub returns : goal.returns
returns c =
    let macros = map spec.defined c.args.macros.now in
    let words = map spec.shown c.args.words.now in
    IfOk-weaker c.shuts_out.result (λ answer. answer ≡ spec.shuts_out macros words (has c.in_ok-set.set))
    (λ answer. answer ≡ spec.shuts_out macros words (spec.among (map spec.shown c.args.reached.now)))
    (λ answer is. is ∙ ap (spec.shuts_out macros words) c.in_ok-set.ensures) c.shuts_out.ensures
