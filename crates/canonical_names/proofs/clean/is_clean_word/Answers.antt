use Rattle.std.proofs.Common.{map, sym, ◌∙◌, arith}
use Rattle.std.proofs.lemmas.Grind.{common_steps}
use Rattle.compilers.specs.CommandLines.{line_seen}
use Rattle.canonical_names.proofs.AppearanceLemmas.{clean-without_suffix, names-tested}
use Rattle.canonical_names.proofs.clean.is_clean_word.Goals as goal

pub returns-then-not-stand_in : goal.returns-then-not-stand_in
returns-then-not-stand_in c = sym (clean-without_suffix c.args.suffixes.now (map line_seen c.args.commands.now) c.args.word.now (sym c.stand_in.ensures ∙ c.if-not-stand_in.true))

pub returns : goal.returns
returns c = grind (arith, common_steps, names-tested)
