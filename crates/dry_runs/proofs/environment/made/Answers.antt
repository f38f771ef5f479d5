use Rattle.std.proofs.Common.{◌≡◌, ◌∷◌, ◌++◌, ◌∙◌, ap, sym, string_bytes, append_assoc, arith}
use Rattle.std.proofs.lemmas.Grind.{common_steps}
use Rattle.compilers.specs.Replacing as replacing
use Rattle.dry_runs.proofs.ExpansionLemmas.{replaced-cut, replaced-nothing, fits, exceeds, exceeds-from}
use Rattle.dry_runs.proofs.environment.made.Goals as goal

pub returns-then-not-branch : goal.returns-then-not-branch
returns-then-not-branch c =
    let out = string_bytes c.loop-front.out in
    let name = c.args.name.now in
    let value = c.args.value.now in
    let front = c.in-Some.front.now in
    let after = c.in-Some.after.now in
    let left = replacing.replaced (36 ∷ name) value (36 ∷ after) in
    let cut = replaced-cut name value c.loop-front.rest.now front after c.in-Some.ensures.cut.0 c.in-Some.ensures.cut.1 in
    sym (exceeds-from c.args.left (out ++ front) left (replacing.replaced (36 ∷ name) value c.args.text.now)
    (append_assoc out front left ∙ ap (λ t. out ++ t) (sym cut) ∙ c.loop-front.invariant.1) (sym c.in_ok-push_within.ensures.fits ∙ c.if-not-branch.true))

pub returns-then-not-branch-2 : goal.returns-then-not-branch-2
returns-then-not-branch-2 c =
    let out = string_bytes c.loop-front.out in
    let grown = string_bytes c.push_within.new.out in
    let name = c.args.name.now in
    let value = c.args.value.now in
    let front = c.in-Some.front.now in
    let after = c.in-Some.after.now in
    let piece = c.piece_of.result.0.now in
    let left = replacing.replaced (36 ∷ name) value (36 ∷ after) in
    let behind = replacing.replaced (36 ∷ name) value c.piece_of.result.1.now in
    let cut = replaced-cut name value c.loop-front.rest.now front after c.in-Some.ensures.cut.0 c.in-Some.ensures.cut.1 in
    let pushed : grown ≡ out ++ front = c.in_ok-push_within.ensures.text (grind (arith, c.if-not-branch.false)) in
    sym (exceeds-from c.args.left (grown ++ piece) behind (replacing.replaced (36 ∷ name) value c.args.text.now)
    (append_assoc grown piece behind ∙ ap (λ t. grown ++ t) (sym c.piece_of.ensures.cut) ∙ ap (λ t. t ++ left) pushed
    ∙ append_assoc out front left ∙ ap (λ t. out ++ t) (sym cut) ∙ c.loop-front.invariant.1) (sym c.in_ok-push_within-2.ensures.fits ∙ c.if-not-branch-2.true))

pub returns-then-not-branch-3 : goal.returns-then-not-branch-3
returns-then-not-branch-3 c = grind (arith, common_steps, replaced-nothing, exceeds)

pub returns-in-Some-checked_sub : goal.returns-in-Some-checked_sub
returns-in-Some-checked_sub c = grind (arith, common_steps, replaced-nothing, fits)

pub loop-front-preserved : goal.loop-front-preserved
loop-front-preserved c = grind (arith, common_steps, replaced-cut, append_assoc)
