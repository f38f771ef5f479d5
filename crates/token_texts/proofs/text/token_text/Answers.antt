use Rattle.std.proofs.Common.{arith}
use Rattle.token_texts.proofs.LexingLemmas.{read-on}
use Rattle.token_texts.proofs.text.token_text.Goals as goal

pub loop-byte-preserved : goal.loop-byte-preserved
loop-byte-preserved c =
    read-on c.args.text.now c.loop-byte.byte-index c.loop-byte.lexer c.read.new.self (omega (arith, c.loop-byte-test.true)) c.in_ok-read.ensures c.loop-byte.invariant
