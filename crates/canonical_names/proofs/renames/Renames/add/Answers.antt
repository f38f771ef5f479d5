use Rattle.std.proofs.Common.{◌≡◌, ap, sym, ◌∙◌, arith, string_bytes}
use Rattle.canonical_names.specs.Renaming.{canonical_name}
use Rattle.canonical_names.proofs.CountedLemmas.{counted-name}
use Rattle.canonical_names.proofs.renames.Renames.add.Goals as goal
use Rattle.canonical_names.proofs.renames.Renames.add.Goals.{In_ok-key}

-- the text that was made is the name's canonical name
made : (c : In_ok-key) → string_bytes c.in_ok-canonical.canonical ≡ canonical_name c.args.self.now.0 c.args.self.now.1 c.args.name.now
made c = grind (arith, counted-name)

pub put-requires-clause-canonical : goal.put-requires-clause-canonical
put-requires-clause-canonical c =
    made (goal.at.put-requires-clause-canonical c).In_ok-key ∙ ap (canonical_name c.args.self.now.0 c.args.self.now.1) (sym c.in_ok-key.ensures.ok)

pub returns-clause-name : goal.returns-clause-name
returns-clause-name c = c.in_ok-answer.ensures.ok ∙ c.as_str.ensures.value ∙ made (goal.at.returns-clause-name c).In_ok-key
