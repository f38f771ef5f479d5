use Rattle.std.proofs.Common.{◌≡◌, map, string_bytes}
use Rattle.texts.specs.Variables.{pair_of}
use Rattle.canonical_names.specs.References.{replaced_by_all, longest_pairs_first}
use Rattle.canonical_names.proofs.LengthLemmas.{up_to}
use Rattle.canonical_names.proofs.references.rewrite.Given as goal

abbrev pub invariant-loop-longest : goal.invariant-loop-longest
invariant-loop-longest l = replaced_by_all (longest_pairs_first (up_to l.longest (map pair_of l.names.entries))) (string_bytes l.new) ≡ replaced_by_all (longest_pairs_first (map pair_of l.names.entries)) l.text

abbrev pub decreases-loop-longest : goal.decreases-loop-longest
decreases-loop-longest l = l.longest
