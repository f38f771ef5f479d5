-- One more word is written.
use Rattle.std.proofs.Common.{◌≡◌, suc, ◌+◌, ◌++◌, ◌∷◌, ◌∙◌, ap, sym, drop, drop-cons, add-one, map, string_bytes, encode_utf8_all, chars}
use Rattle.texts.specs.Shell.Quoting.{further, quoted_word}
use Rattle.texts.proofs.ShellQuotingLemmas.{further_push}
use Rattle.texts.proofs.shell.quoting.push_further.Goals as goal

pub loop-word-preserved : goal.loop-word-preserved
loop-word-preserved c =
    let left : drop c.loop-word.word-index c.args.words.now ≡ c.word-item.result ∷ drop (c.loop-word.word-index + 1) c.args.words.now =
    rw add-one (drop-cons c.args.words.now c.loop-word.word-index c.word-item.result c.loop-word-test.true ∙ ap (λ w. w ∷ drop (suc c.loop-word.word-index) c.args.words.now) (sym c.word-item.is)) in
    further_push (string_bytes c.loop-word.text) (string_bytes c.push.new.self) (string_bytes c.push_word.new.text) c.word-item.result
    (drop (c.loop-word.word-index + 1) c.args.words.now) _
    (ap (λ ws. string_bytes c.loop-word.text ++ encode_utf8_all (further (map chars (map string_bytes ws)))) (sym left) ∙ c.loop-word.invariant)
    c.in_ok-push.ensures.bytes
    (c.in_ok-push_word.ensures ∙ ap (λ w. string_bytes c.push.new.self ++ encode_utf8_all (quoted_word (chars w))) c.deref.ensures)
