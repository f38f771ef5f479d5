-- A span is read at once.
use Rattle.std.proofs.Common.{◌≡◌, ◌<◌, ◌∙◌, ap, false, arith}
use Rattle.std.specs.List.{position_or_len}
use Rattle.std.proofs.lemmas.Result.{IfOk-weaker}
use Rattle.texts.specs.Shell.Splitting.{Splitting, ends_span}
use Rattle.texts.proofs.ShellSpanLemmas.{span_boundary, span_some, some_read, no_char}
use Rattle.texts.proofs.shell.splitting.Splitter.read_some.Goals as goal

pub returns-in_default-clause-less : goal.returns-in_default-clause-less
returns-in_default-clause-less c some = omega (arith, no_char c.args.text.now c.utf8.text c.in_default.ensures, some)

pub split_at-requires : goal.split_at-requires
split_at-requires c =
    let goes : ends_span c.self.inside.state c.in-Some.c ≡ false = ap (λ (s : Splitting). ends_span s.state c.in-Some.c) c.self.view_is ∙ c.if-not-begin_span.ensures.1 in
    span_boundary c.self.inside.state c.in-Some.c goes c.args.text.now c.span_len.result
    (c.span_len.ensures ∙ ap (position_or_len (ends_span c.self.inside.state)) c.as_bytes.ensures.value)

pub returns-clause-same : goal.returns-clause-same
returns-clause-same c = grind (arith, IfOk-weaker, some_read)

pub returns-clause-less : goal.returns-clause-less
returns-clause-less c =
    let goes : ends_span c.self.inside.state c.in-Some.c ≡ false = ap (λ (s : Splitting). ends_span s.state c.in-Some.c) c.self.view_is ∙ c.if-not-begin_span.ensures.1 in
    let len = c.span_len.ensures ∙ ap (position_or_len (ends_span c.self.inside.state)) c.as_bytes.ensures.value in
    let some : 0 < c.span_len.result = span_some c.self.inside.state c.in-Some.c goes c.args.text.now _ c.span_len.result c.utf8.text c.in-Some.ensures.0 len in
    IfOk-weaker c.take_span.result _ _ (λ left le _. omega (arith, le, some, c.split_at.ensures.back_len)) c.take_span.ensures.less
