use Rattle.std.proofs.Common.{◌≡◌, ◌++◌, drop}
use Rattle.early_starts.specs.LateTexts.{strings_of, between}
use Rattle.early_starts.proofs.text.strings_of.Given as goal

-- what is said so far, and what the rest says, are all
abbrev pub invariant-loop-byte : goal.invariant-loop-byte
invariant-loop-byte l = l.said.items ++ strings_of l.state (drop l.byte-index l.text) ≡ strings_of between l.text
