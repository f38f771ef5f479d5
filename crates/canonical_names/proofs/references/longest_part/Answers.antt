use Rattle.std.proofs.Common.{ap, sym, ◌∙◌, map, arith}
use Rattle.texts.specs.Variables.{pair_of}
use Rattle.canonical_names.specs.Counted.{old_names}
use Rattle.canonical_names.specs.References.{longest_in}
use Rattle.canonical_names.proofs.WindowLemmas.{longest-less, longest-stands, longest-nothing}
use Rattle.canonical_names.proofs.references.longest_part.Goals as goal

pub returns-then-stand_of : goal.returns-then-stand_of
returns-then-stand_of c = grind (arith, longest-stands)

pub loop-length-preserved : goal.loop-length-preserved
loop-length-preserved c = grind (arith, longest-less)

pub returns : goal.returns
returns c =
    let names = old_names (map pair_of c.args.names.now.entries) in
    sym (longest-nothing c.args.text.now names) ∙ ap (λ n. longest_in c.args.text.now n names) (sym (omega (arith, c.loop-length-test.false))) ∙ c.loop-length.invariant
