-- The first character, and then the others.
use Rattle.std.proofs.Common.{◌≡◌, ◌∙◌, ◌∷◌, ◌++◌, ◌||◌, ◌&&◌, ◌==◌, ap, sym, refl, rules, encode_utf8, chars, tests}
use Rattle.std.specs.List.{list_all}
use Rattle.std.proofs.lemmas.Iterator.{YieldsList-from_chars}
use Rattle.std.proofs.lemmas.Iterator.Search.{all_from_yields_List}
use Rattle.std.proofs.lemmas.Str.{chars_past_char, IsUtf8-past_char}
use Rattle.texts.specs.Shell.Quoting.{is_safe, is_plain}
use Rattle.texts.proofs.shell.quoting.is_plain.Goals as goal

pub returns-then-is_safe : goal.returns-then-is_safe
returns-then-is_safe c =
    let begins : c.args.word.now ≡ encode_utf8 c.in-Some.first ++ c.next.new.self.rest.now = sym c.chars-chars.ensures.rest ∙ c.in-Some.ensures.steps.0 in
    let is_text = IsUtf8-past_char c.args.word.now c.next.new.self.rest.now c.in-Some.first c.utf8.word begins in
    let word : chars c.args.word.now ≡ c.in-Some.first ∷ chars c.next.new.self.rest.now = chars_past_char c.args.word.now c.next.new.self.rest.now c.in-Some.first c.utf8.word begins in
    let others : c.all.result ≡ list_all (λ x. is_safe x || ((c.in-Some.first == 45) && (x == 61))) (chars c.next.new.self.rest.now) =
    all_from_yields_List (λ x. is_safe x || ((c.in-Some.first == 45) && (x == 61))) _ _ c.all.result c.all.ensures.ran (YieldsList-from_chars c.next.new.self.rest.now is_text refl) (λ x b q k. search (rules, tests)) in
    others ∙ ap (λ safe. safe && list_all (λ x. is_safe x || ((c.in-Some.first == 45) && (x == 61))) (chars c.next.new.self.rest.now)) (sym (sym c.is_safe.ensures ∙ c.if-is_safe.true)) ∙ ap is_plain (sym word)
