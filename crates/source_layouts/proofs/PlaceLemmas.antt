-- Between two tokens, a reader has no bytes of a word or comment.
use Rattle.std.proofs.Common.{◌≡◌, ℕ, Bool, true, false, cond, not, ◌==◌, ◌&&◌, ◌||◌, List, [], ◌∷◌, refl, ap, sym, ◌∙◌}
use Rattle.std.specs.Prelude.{nat_lt}
use Rattle.std.specs.Char.{is_ascii_digit}
use Rattle.std.proofs.lemmas.Bool.{and_parts, not-true, false≢true}
use Rattle.source_layouts.specs.declared.state.State.{State}
use Rattle.source_layouts.specs.declared.state.State.TheVariants.{Between, Word, OtherWord, Number, Exponent, Dot, Slash, Percent, Text, TextEscape, Character, CharacterEscape, LineComment, Comment, CommentStar, CommentSlash, Hash, Directive, DirectiveEscape, Refused}
use Rattle.source_layouts.specs.Bytes.{begins_word, is_word, may_be_letter, is_blank, is_odd, is_exponent, is_raw_prefix}
use Rattle.source_layouts.specs.Reading.{Reading, beginning, read, step, step_in, start, grow, begins, begins_beside_words, most_brackets, end_line, in_word, in_number, in_directive, in_comment, comment_on, quoted, escaped, may_set_lines}
use Rattle.source_layouts.specs.LayoutLaws.{TextsLeaveNothing}

abbrev pub is_nil : List ℕ → Bool
is_nil [] = true
is_nil (c ∷ cs) = false

pub nil_is : (l : List ℕ) → is_nil l ≡ true → l ≡ []
nil_is [] is = refl
nil_is (c ∷ cs) is = absurd (false≢true is)

-- whether a reader has no bytes of another token than the one that it is in
abbrev pub is_clean_in : State → Reading → Bool
is_clean_in Word s = is_nil s.ends && not s.is_wide
is_clean_in LineComment s = true
is_clean_in Comment s = true
is_clean_in CommentStar s = true
is_clean_in CommentSlash s = true
is_clean_in Refused s = true
is_clean_in _ s = is_nil s.token && (is_nil s.ends && not s.is_wide)

abbrev pub IsClean : Reading → Type 0
IsClean s = is_clean_in s.state s ≡ true

either : (b : Bool) (one other : Reading) → IsClean one → IsClean other → IsClean (cond b one other)
either true one other is isnt = is
either false one other is isnt = isnt

beside_words : (c : ℕ) (s : Reading) → is_clean_in Between s ≡ true → IsClean (begins_beside_words c s)
beside_words c s is =
    either (c == 10) (end_line s) _ is
    (either (c == 47) _ _ is
    (either (c == 46) _ _ is
    (either (c == 34) _ _ is
    (either (c == 39) _ _ is
    (either ((c == 35) && s.is_empty) _ _ (either (s.is_lined || (s.depth == 0)) _ _ is refl)
    (either ((c == 37) && s.is_empty) _ _ is
    (either (c == 40) _ _ (either s.is_lined _ _ is (either (nat_lt s.depth most_brackets) _ _ is refl))
    (either (c == 41) _ _ (either s.is_lined _ _ is (either (s.depth == 0) _ _ refl is))
    (either (is_odd c) _ _ refl is)))))))))

begins_clean : (c : ℕ) (s : Reading) → is_clean_in Between s ≡ true → IsClean (begins c s)
begins_clean c s is =
    either (is_blank c) _ _ is
    (either (begins_word c) _ _ (and_parts (is_nil s.token) (is_nil s.ends && not s.is_wide) is).1
    (either (may_be_letter c) _ _ is
    (either (is_ascii_digit c) _ _ is (beside_words c s is))))

number_clean : (c : ℕ) (s : Reading) → is_clean_in Between s ≡ true → IsClean (in_number c s)
number_clean c s is =
    either (is_exponent c) _ _ is
    (either (is_word c || may_be_letter c || (c == 46)) _ _ is
    (either ((c == 34) || (c == 39)) _ _ refl (begins_clean c s is)))

directive_clean : (c : ℕ) (s : Reading) → is_clean_in Between s ≡ true → IsClean (in_directive c s)
directive_clean c s is =
    either (c == 10) _ _ (either s.is_open _ _ refl is)
    (either (c == 92) _ _ is
    (either (is_odd c || ((c == 34) && (s.last == 82))) _ _ refl is))

-- a comment's byte
comment_clean : (state : State) (c : ℕ) (s : Reading) → ((t : Reading) → is_clean_in state t ≡ true) → IsClean (comment_on state c s)
comment_clean state c s any = either (is_odd c) _ _ refl (any _)

block_clean : (c : ℕ) (s : Reading) → IsClean (in_comment c s)
block_clean c s =
    elim (c == 42) as (λ b. IsClean (comment_on (cond b CommentStar (cond (c == 47) CommentSlash Comment)) c s)) [
      | true ↦ comment_clean CommentStar c s (λ t. refl)
      | false ↦ elim (c == 47) as (λ b. IsClean (comment_on (cond b CommentSlash Comment) c s)) [
        | true ↦ comment_clean CommentSlash c s (λ t. refl)
        | false ↦ comment_clean Comment c s (λ t. refl)
      ]
    ]

quoted_clean : (quote : ℕ) (escape : State) (c : ℕ) (s : Reading) → is_clean_in Between s ≡ true → IsClean (grow escape c s) →
    IsClean (grow s.state c s) → IsClean (quoted quote escape c s)
quoted_clean quote escape c s is behind own =
    either (c == quote) _ _ is (either (c == 92) _ _ behind (either ((c == 10) || (c == 13) || (c == 0)) _ _ refl own))

escaped_clean : (inside : State) (c : ℕ) (s : Reading) → IsClean (grow inside c s) → IsClean (escaped inside c s)
escaped_clean inside c s is = either ((c == 10) || (c == 13) || is_blank c) _ _ refl is

word_clean : (c : ℕ) (s : Reading) → is_clean_in Word s ≡ true → IsClean (in_word c s)
word_clean c s is =
    either (is_word c) _ _ is
    (either ((c == 34) && is_raw_prefix s.token) _ _ refl
    (either (may_be_letter c) _ _ is (begins_clean c (record s { token = [] }) is)))

pub in_clean : (state : State) (c : ℕ) (s : Reading) → s.state ≡ state → is_clean_in state s ≡ true → IsClean (step_in state c s)
in_clean Between c s at is = begins_clean c s is
in_clean Word c s at is = word_clean c s is
in_clean OtherWord c s at is =
    either ((c == 34) || (c == 39)) _ _ refl (either (is_word c || may_be_letter c) _ _ is (begins_clean c s is))
in_clean Number c s at is = number_clean c s is
in_clean Exponent c s at is = either ((c == 43) || (c == 45)) _ _ is (number_clean c s is)
in_clean Dot c s at is = either (is_ascii_digit c) _ _ is (begins_clean c s is)
in_clean Slash c s at is =
    either (c == 47) _ _ refl (either (c == 42) _ _ refl (begins_clean c (start Between 47 s) is))
in_clean Percent c s at is =
    either (c == 58) _ _ (either (s.is_lined || (s.depth == 0)) _ _ is refl) (begins_clean c s is)
in_clean Text c s at is = quoted_clean 34 TextEscape c s is is (ap (λ state. is_clean_in state (grow s.state c s)) at ∙ is)
in_clean TextEscape c s at is = escaped_clean Text c s is
in_clean Character c s at is = quoted_clean 39 CharacterEscape c s is is (ap (λ state. is_clean_in state (grow s.state c s)) at ∙ is)
in_clean CharacterEscape c s at is = escaped_clean Character c s is
in_clean LineComment c s at is = either (c == 10) _ _ refl (comment_clean LineComment c s (λ t. refl))
in_clean Comment c s at is = block_clean c s
in_clean CommentStar c s at is = either (c == 47) _ _ refl (block_clean c s)
in_clean CommentSlash c s at is = either (c == 42) _ _ refl (block_clean c s)
in_clean Hash c s at is =
    either (is_blank c) _ _ is (either (not s.is_lined && may_set_lines c) _ _ refl (directive_clean c s is))
in_clean Directive c s at is = directive_clean c s is
in_clean DirectiveEscape c s at is =
    either (c == 10) _ _ is (either (is_blank c) _ _ is (directive_clean c (record s { last = 92 }) is))
in_clean Refused c s at is = ap (λ state. is_clean_in state s) at

reading_clean : (s : Reading) (text : List ℕ) → IsClean s → IsClean (read s text)
reading_clean s [] is = is
reading_clean s (c ∷ cs) is = reading_clean (step c s) cs (in_clean s.state c s refl is)

pub texts_leave_nothing : TextsLeaveNothing
texts_leave_nothing is_lined text between =
    let at = read (beginning is_lined) text in
    let clean = ap (λ state. is_clean_in state at) (sym between) ∙ reading_clean (beginning is_lined) text refl in
    let parts = and_parts (is_nil at.token) (is_nil at.ends && not at.is_wide) clean in
    let others = and_parts (is_nil at.ends) (not at.is_wide) parts.1 in
    record { state = between; token = nil_is at.token parts.0; ends = nil_is at.ends others.0; wide = not-true at.is_wide others.1 }
