use Rattle.std.proofs.Common.{String, ◌∙◌, [], ◌∷◌, ◌++◌, ◌&&◌, ap, length, Global}
use Rattle.std.specs.List.{list_all}
use Rattle.dry_runs.specs.Environment.{is_name_byte}
use Rattle.dry_runs.specs.Places.{places_seen}
use Rattle.dry_runs.proofs.PlaceLemmas.{places-more, plain-more}
use Rattle.dry_runs.proofs.set_variables.SetVariables.push.Goals as goal

pub invariant_of-self-2 : goal.invariant_of-self-2
invariant_of-self-2 c =
    let pair : String Global × String Global = (c.args.name, c.args.value) in
    let grown = c.push_reserved.ensures.items ∙ ap (λ pairs. pairs ++ pair ∷ []) c.reserve.ensures.items in (
      places-more c.self.inside.pairs.items c.push_reserved.new.self.items pair (places_seen c.self.inside.places) (places_seen c.add.new.self) (length c.as_slice-place.result.now) c.as_str.result.now
          grown
          c.self.invariant.0 (ap length c.as_slice-place.ensures.value) c.as_str.ensures.value c.in_ok-add.ensures.ok,
      plain-more c.self.inside.pairs.items c.push_reserved.new.self.items pair c.self.inside.is_plain c.stays_plain-is_plain.result grown c.self.invariant.1 (c.stays_plain-is_plain.ensures ∙ ap (λ name. c.self.inside.is_plain && list_all is_name_byte name) c.as_str-2.ensures.value),
    )
