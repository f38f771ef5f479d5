use Rattle.std.proofs.Common.{◌≡◌, arith}
use Rattle.std.proofs.lemmas.Map.Text.{text_keys}
use Rattle.command_groups.specs.Views.{made_seen}
use Rattle.command_groups.specs.Openings.{with_file}
use Rattle.command_groups.proofs.openings.MadeFiles.add.Goals as goal

pub returns : goal.returns
returns c = λ i path.
    (let at : made_seen (record { openings = c.self-3-1.given.0 }) path ≡ with_file (made_seen c.args.self.now) c.args.path.now c.args.opening path = grind (arith, text_keys) in at) i
