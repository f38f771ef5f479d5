use Rattle.std.proofs.Common.{◌≡◌, drop}
use Rattle.token_texts.specs.Normal.{start}
use Rattle.token_texts.proofs.LexingLemmas.{rest_of}
use Rattle.token_texts.proofs.text.token_text.Given as goal

abbrev pub invariant-loop-byte : goal.invariant-loop-byte
invariant-loop-byte l = rest_of l.lexer (drop l.byte-index l.text) ≡ rest_of start l.text
