use Rattle.std.proofs.Common.{map, arith}
use Rattle.std.proofs.lemmas.List.{length-map}
use Rattle.command_keys.specs.Keys.{shown}
use Rattle.command_keys.proofs.MarkLemmas.{first-root, first-byte, root-within}
use Rattle.command_keys.proofs.marks.first_part.Goals as goal

pub returns-in-Some : goal.returns-in-Some
returns-in-Some c =
    let roots = map shown c.args.roots.now in
    let first = first-root roots c.args.text.now c.in-Some.rest.now c.in-Some.number c.in-Some.ensures.0 c.in-Some.ensures.1 in
    (first.0, first.1, omega (arith, (root-within roots c.args.text.now c.in-Some.number c.in-Some.ensures.0), length-map c.args.roots.now shown))

pub returns : goal.returns
returns c = grind (arith, first-byte)
