use Rattle.std.proofs.Common.{◌≡◌, ℕ, List, subst, OnOk, arith}
use Rattle.std.proofs.lemmas.Grind.{common_steps}
use Rattle.host_lines.proofs.FirstLemmas.{known_key, new_key}
use Rattle.host_lines.proofs.nvcc.preprocessor.push_unseen.Goals as goal

pub returns-then-not-branch-clause-first : goal.returns-then-not-branch-clause-first
returns-then-not-branch-clause-first c = grind (arith, common_steps, known_key)

pub returns-clause-first : goal.returns-clause-first
returns-clause-first c =
    subst (λ (words : List (List ℕ)). OnOk c.push_str.result (c.push_str.new.self ≡ words))
    (new_key c.args.seen.now.keys c.insert.new.self.keys c.args.word c.args.first.now c.in_ok-insert.field-0 c.requires c.in_ok-insert.ensures.keys c.in_ok-insert.ensures.added c.if-not-branch.false).1
    c.push_str.ensures.ok
