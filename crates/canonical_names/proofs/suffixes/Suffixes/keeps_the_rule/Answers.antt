use Rattle.canonical_names.proofs.SuffixLemmas.{accepted-are_suffixes}
use Rattle.std.proofs.Common.{◌≡◌, true, rules}
use Rattle.canonical_names.specs.SuffixRule.{are_suffixes}
use Rattle.canonical_names.proofs.suffixes.Suffixes.keeps_the_rule.Goals as goal

pub returns-clause-asked : goal.returns-clause-asked
returns-clause-asked c = let rule : are_suffixes c.args.self.now ≡ true = search rules in accepted-are_suffixes c.args.self.now rule
