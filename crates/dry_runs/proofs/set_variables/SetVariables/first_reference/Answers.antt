use Rattle.std.proofs.Common.{◌∷◌, ◌∙◌, Some, ap, sym, fold, drop, map, add-one}
use Rattle.std.proofs.lemmas.Option.{slice_get-get_or}
use Rattle.texts.specs.Variables.{pair_of}
use Rattle.dry_runs.specs.Limit.{expanded_fitting, made}
use Rattle.compilers.specs.Replacing.{replaced}
use Rattle.dry_runs.proofs.PlaceLemmas.{first-none-there, first-there, no-pair, pair-there}
use Rattle.dry_runs.proofs.set_variables.SetVariables.first_reference.Goals as goal

pub returns-in-None-clause-found : goal.returns-in-None-clause-found
returns-in-None-clause-found c = λ left.
    let env = c.args.self.now in
    let place = c.first_referred-place.result in
    first-none-there left env c.args.from c.args.text.now place c.first_referred-place.ensures
    (no-pair c.as_slice.result.now env place (ap (map pair_of) c.as_slice.ensures.value ∙ c.self.view_is) c.in-None.ensures.lookup.3)

pub returns-in-Some-clause-found : goal.returns-in-Some-clause-found
returns-in-Some-clause-found c = λ left.
    let env = c.args.self.now in
    let text = c.args.text.now in
    let place = c.first_referred-place.result in
    let pairs = c.as_slice.result.now in
    let pair = c.in-Some.pair.now in
    let there = slice_get-get_or pairs place pair c.in-Some.ensures.lookup.3.0 ∙ ap Some (sym (c.in-Some.ensures.lookup.3.1 pair)) in
    first-there left env c.args.from text place c.first_referred-place.ensures (pair_of pair)
    (pair-there pairs env place pair (ap (map pair_of) c.as_slice.ensures.value ∙ c.self.view_is) there)
    ∙ (λ i. fold expanded_fitting (made left (replaced (36 ∷ sym c.as_str.ensures.value i) (sym c.as_str-in-Some.ensures.value i) text)) (drop (sym (add-one place) i) env))
