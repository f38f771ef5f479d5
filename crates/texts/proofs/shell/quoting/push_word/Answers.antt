use Rattle.std.proofs.Common.{◌≡◌, ◌++◌, ◌∙◌, refl, ap, sym, string_bytes, encode_utf8, encode_utf8_all, map-id, flat_map, chars, arith}
use Rattle.std.proofs.lemmas.Bool.{cond-true}
use Rattle.std.proofs.lemmas.Iterator.{YieldsList-from_chars}
use Rattle.std.proofs.lemmas.Iterator.Consumers.{YieldsList-end}
use Rattle.std.proofs.lemmas.Str.{encodes-chars}
use Rattle.std.proofs.lemmas.Grind.{common_steps}
use Rattle.texts.specs.Shell.Quoting.{quoted_word, quoted_char}
use Rattle.texts.proofs.ShellQuotingLemmas.{quoted_push, quoted_whole, ok_written}
use Rattle.texts.proofs.shell.quoting.push_word.Goals as goal

-- A plain word is written as it stands.
pub returns-then-is_plain : goal.returns-then-is_plain
returns-then-is_plain c = grind (arith, common_steps, cond-true, encodes-chars, ok_written)

pub loop-c-preserved : goal.loop-c-preserved
loop-c-preserved c = quoted_push _ _ _ c.loop-c.yielded c.in-Some.c c.loop-c.invariant c.in_ok-push_char.ensures

pub returns : goal.returns
returns c =
    let done = YieldsList-end (YieldsList-from_chars c.args.word.now c.utf8.word cc) c.loop-c.yielded _ c.loop-c.yielded_by _ _ c.in-None.is c.next.ensures.steps in
    let inside : string_bytes c.loop-c.text ≡ string_bytes c.push.new.self ++ encode_utf8_all (flat_map quoted_char (chars c.args.word.now)) =
    c.loop-c.invariant ∙ ap (λ cs. string_bytes c.push.new.self ++ encode_utf8_all (flat_map quoted_char cs)) (sym (map-id c.loop-c.yielded) ∙ done.0) in
    ok_written c.push-2.result (string_bytes c.loop-c.text) (encode_utf8 39) (string_bytes c.push-2.new.self) (string_bytes c.args.text.now ++ encode_utf8_all (quoted_word (chars c.args.word.now))) c.push-2.ensures.bytes
    (quoted_whole (string_bytes c.args.text.now) (string_bytes c.push.new.self) (string_bytes c.loop-c.text) (string_bytes c.loop-c.text ++ encode_utf8 39) (chars c.args.word.now) (sym c.is_plain.ensures ∙ c.if-is_plain.false) c.in_ok-push.ensures.bytes inside refl)
