-- Numbers of line markers, and lines that are comments.
use Rattle.std.proofs.Common.{◌≡◌, ℕ, Bool, true, false, cond, not, ◌==◌, ◌&&◌, List, [], ◌∷◌, ◌++◌, Option, Some, None, option_map, refl, ap, sym, ◌∙◌, length, arith}
use Rattle.std.specs.Char.{is_ascii_digit}
use Rattle.std.specs.List.{list_all}
use Rattle.std.proofs.lemmas.Bool.{and_parts, not-true, false≢true}
use Rattle.std.proofs.lemmas.Bool.Decides.{nat_tests}
use Rattle.token_texts.specs.declared.class.Class.TheVariants.{Digit}
use Rattle.token_texts.specs.declared.lexer.State.{State}
use Rattle.token_texts.specs.declared.lexer.State.TheVariants.{LineStart, Slash, LineComment, Hash, Marker, MarkerNumber, Refused}
use Rattle.token_texts.specs.Classes.{class_of}
use Rattle.token_texts.specs.Lexing.{Lexing, goes, ends, step, step_in, tokens_from}
use Rattle.token_texts.proofs.RunLemmas.{none_more}
use Rattle.token_texts.specs.TokenLaws.{NumbersDontCount, CommentsDontCount, is_number, is_remark}

-- a lexer in a state
abbrev in_state : State → Lexing → Lexing
in_state state s = record s { state = state }

-- a byte that only changes the state
only_state : (s : Lexing) (c : ℕ) (cs : List ℕ) (state : State) → step c s ≡ (in_state state s, []) → tokens_from s (c ∷ cs) ≡ tokens_from (in_state state s) cs
only_state s c cs state is =
    ap (λ (next : Lexing × List (List ℕ)). option_map (λ ts. next.1 ++ ts) (tokens_from next.0 cs)) is ∙ sym (none_more (tokens_from (in_state state s) cs))

digit_class : (c : ℕ) → is_ascii_digit c ≡ true → class_of c ≡ Digit
digit_class c is = grind (arith, nat_tests)

digits_pass : (s : Lexing) (digits rest : List ℕ) → list_all is_ascii_digit digits ≡ true →
    tokens_from (in_state MarkerNumber s) (digits ++ rest) ≡ tokens_from (in_state MarkerNumber s) rest
digits_pass s [] rest all = refl
digits_pass s (c ∷ cs) rest all =
    let parts = and_parts (is_ascii_digit c) (list_all is_ascii_digit cs) all in
    only_state (in_state MarkerNumber s) c (cs ++ rest) MarkerNumber (ap (λ k. step_in MarkerNumber k c (in_state MarkerNumber s)) (digit_class c parts.0))
    ∙ digits_pass s cs rest parts.1

number_passes : (s : Lexing) (number rest : List ℕ) → is_number number ≡ true →
    tokens_from (in_state Marker s) (number ++ rest) ≡ tokens_from (in_state MarkerNumber s) rest
number_passes s [] rest is = absurd (false≢true is)
number_passes s (c ∷ cs) rest is =
    let parts = and_parts (is_ascii_digit c) (list_all is_ascii_digit cs) is in
    only_state (in_state Marker s) c (cs ++ rest) MarkerNumber (ap (λ k. step_in Marker k c (in_state Marker s)) (digit_class c parts.0))
    ∙ digits_pass s cs rest parts.1

begins_marker : (s : Lexing) (text : List ℕ) → s.state ≡ LineStart → tokens_from s (35 ∷ 32 ∷ text) ≡ tokens_from (in_state Marker s) text
begins_marker s text starts =
    only_state s 35 (32 ∷ text) Hash (ap (λ state. step_in state (class_of 35) 35 s) starts)
    ∙ only_state (in_state Hash s) 32 text Marker refl

pub numbers_dont_count : NumbersDontCount
numbers_dont_count at first second rest starts one two =
    begins_marker at (first ++ rest) starts ∙ number_passes at first rest one
    ∙ sym (begins_marker at (second ++ rest) starts ∙ number_passes at second rest two)

remark_passes : (s : Lexing) (remark rest : List ℕ) → is_remark remark ≡ true →
    tokens_from (in_state LineComment s) (remark ++ 10 ∷ rest) ≡ tokens_from (in_state LineStart s) rest
remark_passes s [] rest all = only_state (in_state LineComment s) 10 rest LineStart refl
remark_passes s (c ∷ cs) rest all =
    let parts = and_parts (not (c == 10) && not (c == 92)) (is_remark cs) all in
    let each = and_parts (not (c == 10)) (not (c == 92)) parts.0 in
    only_state (in_state LineComment s) c (cs ++ 10 ∷ rest) LineComment
    (ap (λ b. (in_state (cond b Refused (cond (c == 10) LineStart LineComment)) s, [])) (not-true (c == 92) each.1)
    ∙ ap (λ b. (in_state (cond b LineStart LineComment) s, [])) (not-true (c == 10) each.0))
    ∙ remark_passes s cs rest parts.1

pub comments_dont_count : CommentsDontCount
comments_dont_count at remark rest starts none is =
    only_state at 47 (47 ∷ (remark ++ 10 ∷ rest)) Slash (ap (λ state. step_in state (class_of 47) 47 at) starts)
    ∙ only_state (in_state Slash at) 47 (remark ++ 10 ∷ rest) LineComment
    (ap (λ (token : List ℕ). cond (length token == 0) (goes LineComment (in_state Slash at)) (ends LineComment (in_state Slash at))) none)
    ∙ remark_passes at remark rest is
    ∙ ap (λ state. tokens_from (in_state state at) rest) (sym starts)
