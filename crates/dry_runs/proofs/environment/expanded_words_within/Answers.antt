use Rattle.std.proofs.Common.{◌≡◌, IfOk, subst, nat_le, length, true, arith, option_map}
use Rattle.dry_runs.specs.Limit.{words_seen}
use Rattle.dry_runs.proofs.ExpansionLemmas.{words-too_long, words-from, first-none}
use Rattle.dry_runs.proofs.environment.expanded_words_within.Goals as goal

pub returns-then-text-left : goal.returns-then-text-left
returns-then-text-left c = words-too_long c.args.left c.args.env.now c.args.text.now (grind (arith, c.if-text-left.true))

pub returns-in-None : goal.returns-in-None
returns-in-None c =
    let left = c.args.left in
    let env = c.args.env.now in
    let text = c.args.text.now in
    let fits : nat_le (length text) left ≡ true = grind (arith, c.if-text-left.false) in
    subst (λ q. IfOk c.words_alone.result (λ found. option_map words_seen found ≡ q))
    (words-from left env text _ fits (first-none left env 0 text c.first_reference.result c.in-None.is c.first_reference.ensures.found)) c.words_alone.ensures
