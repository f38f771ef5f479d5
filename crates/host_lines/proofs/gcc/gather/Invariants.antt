use Rattle.std.proofs.Common.{◌≡◌, map, string_bytes, length}
use Rattle.host_lines.specs.Gcc.{gathering}
use Rattle.host_lines.specs.GccSteps.{asked_by}
use Rattle.host_lines.proofs.GccLemmas.{gathering_after}
use Rattle.host_lines.proofs.gcc.gather.Given as goal

-- what the whole line asks for is what the items so far and the words that are left ask for
abbrev pub invariant-loop-word : goal.invariant-loop-word
invariant-loop-word g l = gathering (g.S.SearchableArgInfo.chosen l.fn.arg_info) l.fn.cwd (map string_bytes l.fn.arguments) ≡ gathering_after (g.S.SearchableArgInfo.chosen l.fn.arg_info) l.fn.cwd (asked_by l.gathered) l.line

abbrev pub decreases-loop-word : goal.decreases-loop-word
decreases-loop-word g l = length l.line
