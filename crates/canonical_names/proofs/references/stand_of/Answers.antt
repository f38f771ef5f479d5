use Rattle.std.proofs.Common.{◌≡◌, ◌+◌, ◌||◌, false, ap, sym, ◌∙◌, map, drop, arith}
use Rattle.std.proofs.lemmas.Grind.{common_steps}
use Rattle.texts.specs.Variables.{pair_of}
use Rattle.canonical_names.specs.Counted.{old_names}
use Rattle.canonical_names.specs.References.{window_is, windows_are}
use Rattle.canonical_names.proofs.WindowLemmas.{windows-none, windows-from, windows-end, windows-stand}
use Rattle.canonical_names.proofs.references.stand_of.Goals as goal
use Rattle.canonical_names.proofs.references.stand_of.Goals.{After-is_name_at}

pub returns-then-text-length : goal.returns-then-text-length
returns-then-text-length c =
    let names = old_names (map pair_of c.args.names.now.entries) in
    sym (windows-none c.args.length names c.args.text.now c.if-text-length.true) ∙ windows-stand c.args.length names c.requires c.args.text.now

-- a name is in the rest if it is at its start, or in what follows the first byte
from : (c : After-is_name_at) → windows_are c.args.length (old_names (map pair_of c.args.names.now.entries)) (drop c.loop-start.start c.args.text.now)
    ≡ (window_is c.args.length (old_names (map pair_of c.args.names.now.entries)) (drop c.loop-start.start c.args.text.now)
    || windows_are c.args.length (old_names (map pair_of c.args.names.now.entries)) (drop (c.loop-start.start + 1) c.args.text.now))
from c = grind (arith, windows-from)

pub returns-then-is_name_at : goal.returns-then-is_name_at
returns-then-is_name_at c = grind (arith, common_steps, windows-stand, from)

pub loop-start-preserved : goal.loop-start-preserved
loop-start-preserved c =
    let names = old_names (map pair_of c.args.names.now.entries) in
    let k = c.args.length in
    let i = c.loop-start.start in
    let here : window_is k names (drop i c.args.text.now) ≡ false = sym c.is_name_at.ensures ∙ c.if-is_name_at.false in
    sym (from (goal.at.loop-start-preserved c).After-is_name_at ∙ ap (λ b. b || windows_are k names (drop (i + 1) c.args.text.now)) here) ∙ c.loop-start.invariant

pub returns : goal.returns
returns c = grind (arith, windows-stand, windows-end)
