use Rattle.std.proofs.Common.{◌≡◌, ◌++◌, drop, flat_map}
use Rattle.token_texts.specs.Normal.{encoded_byte}
use Rattle.token_texts.proofs.token.push_token.Given as goal

abbrev pub invariant-loop-byte : goal.invariant-loop-byte
invariant-loop-byte l = l.out.items ++ flat_map encoded_byte (drop l.byte-index l.token) ≡ l.initial.out.items ++ flat_map encoded_byte l.token
