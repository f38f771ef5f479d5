use Rattle.std.proofs.Common.{◌≡◌, arith}
use Rattle.std.proofs.lemmas.Map.Text.{text_keys}
use Rattle.plan_fitness.specs.Written.{seen, with_file}
use Rattle.plan_fitness.proofs.written.Written.add.Goals as goal

pub returns : goal.returns
returns c = λ i path.
    (let at : seen (record { paths = c.self-3-1.given.0 }) path ≡ with_file (seen c.args.self.now) c.args.path.now path = grind (arith, text_keys) in at) i
