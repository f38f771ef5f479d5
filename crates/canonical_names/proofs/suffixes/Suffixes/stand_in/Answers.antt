use Rattle.std.proofs.Common.{◌≡◌, ◌||◌, true, false, ap, sym, ◌∙◌, nat_eq, drop, rules}
use Rattle.std.specs.List.{list_any, starts_with}
use Rattle.canonical_names.specs.Alike.{holds}
use Rattle.canonical_names.proofs.DotLemmas.{short-none, dot-none, dot-split, dots-none, dots-behind}
use Rattle.canonical_names.proofs.SuffixLemmas.{each-suffix}
use Rattle.canonical_names.proofs.suffixes.Suffixes.stand_in.Goals as goal
use Rattle.canonical_names.proofs.suffixes.Suffixes.stand_in.Goals.{After-follow_dot}

pub returns-then-text-least_length : goal.returns-then-text-least_length
returns-then-text-least_length c = sym (short-none c.args.text.now c.least_length.result c.if-text-least_length.true c.args.self.now c.least_length.ensures)

-- a suffix is in the rest if it follows this dot, or is in what follows the dot
behind : (c : After-follow_dot) → list_any (λ s. holds s c.loop-after.rest.now) c.args.self.now
    ≡ (list_any (λ s. starts_with nat_eq c.in-Some.after.now (drop 1 s)) c.args.self.now || list_any (λ s. holds s c.in-Some.after.now) c.args.self.now)
behind c =
    let dot = dot-split c.loop-after.rest.now (c.in-Some.field-0-0, c.in-Some.after) c.in-Some.ensures.cases in
    dots-behind c.loop-after.rest.now dot.0 c.in-Some.after.now c.args.self.now (each-suffix c.args.self.now c.keeps_the_rule.ensures.rule) dot.1 dot.2

pub returns-then-follow_dot : goal.returns-then-follow_dot
returns-then-follow_dot c =
    let here : list_any (λ s. starts_with nat_eq c.in-Some.after.now (drop 1 s)) c.args.self.now ≡ true = sym c.follow_dot.ensures ∙ c.if-follow_dot.true in
    sym (sym c.loop-after.invariant.1 ∙ behind (goal.at.returns-then-follow_dot c).After-follow_dot ∙ ap (λ b. b || list_any (λ s. holds s c.in-Some.after.now) c.args.self.now) here)

pub loop-after-preserved : goal.loop-after-preserved
loop-after-preserved c =
    let here : list_any (λ s. starts_with nat_eq c.in-Some.after.now (drop 1 s)) c.args.self.now ≡ false = sym c.follow_dot.ensures ∙ c.if-follow_dot.false in
    (search rules, sym (behind (goal.at.loop-after-preserved c).After-follow_dot ∙ ap (λ b. b || list_any (λ s. holds s c.in-Some.after.now) c.args.self.now) here) ∙ c.loop-after.invariant.1)

pub returns : goal.returns
returns c =
    let none = dot-none c.loop-after.rest.now c.split_once.result c.split_once.ensures.cases c.in_default.is in
    sym (sym c.loop-after.invariant.1 ∙ dots-none c.loop-after.rest.now c.args.self.now (each-suffix c.args.self.now c.keeps_the_rule.ensures.rule) none)
