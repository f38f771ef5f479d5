use Rattle.std.proofs.Common.{◌≡◌, arith}
use Rattle.std.proofs.lemmas.Map.Text.{text_keys}
use Rattle.texts.proofs.ListLemmas.{on-error}
use Rattle.dry_runs.specs.Places.{beginning, places_seen, with_place}
use Rattle.dry_runs.proofs.places.NamePlaces.add.Goals as goal

pub returns-clause-ok : goal.returns-clause-ok
returns-clause-ok c = λ i start.
    (let at : places_seen (record { places = c.self-3-1.given.0 }) start ≡ with_place (places_seen c.args.self.now) (beginning c.args.name.now) c.args.place start = grind (arith, text_keys) in at) i

pub returns-in_err-push-clause-err : goal.returns-in_err-push-clause-err
returns-in_err-push-clause-err c = on-error {P = places_seen (record { places = c.self-3-1.given.0 }) ≡ places_seen c.args.self.now} _ (λ i start.
    (let at : places_seen (record { places = c.self-3-1.given.0 }) start ≡ places_seen c.args.self.now start = grind (arith, text_keys) in at) i)
