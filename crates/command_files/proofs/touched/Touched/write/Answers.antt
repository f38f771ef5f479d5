use Rattle.std.proofs.Common.{◌≡◌, arith}
use Rattle.std.proofs.lemmas.Map.Text.{text_keys}
use Rattle.command_files.specs.Touched.{readers_seen, writers_seen, with_number}
use Rattle.command_files.proofs.touched.Touched.write.Goals as goal

pub returns-clause-readers : goal.returns-clause-readers
returns-clause-readers c = λ i path.
    (let at : readers_seen (record { users = c.self-3-1.given.0 }) path ≡ readers_seen c.args.self.now path = grind (arith, text_keys) in at) i

pub returns-clause-writers : goal.returns-clause-writers
returns-clause-writers c = λ i path.
    (let at : writers_seen (record { users = c.self-3-1.given.0 }) path ≡ with_number (writers_seen c.args.self.now) c.args.path.now c.args.number path = grind (arith, text_keys) in at) i
