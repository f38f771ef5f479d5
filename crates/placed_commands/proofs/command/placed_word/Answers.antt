use Rattle.std.proofs.Common.{◌++◌, rules, arith, sym, ap, ◌∙◌, string_bytes}
use Rattle.placed_commands.proofs.WordLemmas.{kept, skipped, grown}
use Rattle.placed_commands.specs.PlacedWords as spec
use Rattle.placed_commands.proofs.command.placed_word.Goals as goal

pub returns-in_default : goal.returns-in_default
returns-in_default c =
    let stays = kept c.args.files.now c.args.folder.now c.loop-placed.rest.now c.in_ok-is_file.field-0 c.in_ok-is_file.ensures c.if-not-branch.true c.in_default.ensures.cut in
    c.in_ok-push_str.ensures.bytes ∙ (sym (ap (λ t. string_bytes c.loop-placed.placed ++ t) stays) ∙ c.loop-placed.invariant.1)

pub loop-placed-preserved : goal.loop-placed-preserved
loop-placed-preserved c =
    let skips = skipped c.args.files.now c.args.folder.now c.loop-placed.rest.now c.in-Some.before.now c.in-Some.behind.now c.in_ok-is_file.field-0 c.in_ok-is_file.ensures c.if-not-branch.true c.in-Some.ensures.cut.0 c.in-Some.ensures.cut.1 in
    let all = grown (string_bytes c.loop-placed.placed) c.in-Some.before.now (spec.placed_word c.args.files.now c.args.folder.now c.in-Some.behind.now) in
    (search rules, grind (arith))
