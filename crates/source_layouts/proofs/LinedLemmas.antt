-- Whether lines count stays as it is while a text is read.
use Rattle.std.proofs.Common.{◌≡◌, ℕ, Bool, true, false, cond, not, ◌==◌, ◌&&◌, ◌||◌, List, [], ◌∷◌}
use Rattle.std.specs.Prelude.{nat_lt}
use Rattle.std.specs.Char.{is_ascii_digit}
use Rattle.source_layouts.specs.declared.state.State.{State}
use Rattle.source_layouts.specs.declared.state.State.TheVariants as state
use Rattle.source_layouts.specs.Bytes.{begins_word, is_word, may_be_letter, is_blank, is_odd, is_exponent, is_raw_prefix}
use Rattle.source_layouts.specs.Reading.{Reading, read, step, step_in, start, begins, begins_beside_words, most_brackets, in_word, in_number, in_directive, comment_on, quoted, escaped, may_set_lines}

abbrev Lined : Bool → Reading → Type 0
Lined l s = s.is_lined ≡ l

pick : (l b : Bool) (one other : Reading) → Lined l one → Lined l other → Lined l (cond b one other)
pick l true one other is isnt = is
pick l false one other is isnt = isnt

lined_beside : (l : Bool) (c : ℕ) (s : Reading) → Lined l s → Lined l (begins_beside_words c s)
lined_beside l c s is =
    pick l (c == 10) _ _ is
    (pick l (c == 47) _ _ is
    (pick l (c == 46) _ _ is
    (pick l (c == 34) _ _ is
    (pick l (c == 39) _ _ is
    (pick l ((c == 35) && s.is_empty) _ _ (pick l (s.is_lined || (s.depth == 0)) _ _ is is)
    (pick l ((c == 37) && s.is_empty) _ _ is
    (pick l (c == 40) _ _ (pick l s.is_lined _ _ is (pick l (nat_lt s.depth most_brackets) _ _ is is))
    (pick l (c == 41) _ _ (pick l s.is_lined _ _ is (pick l (s.depth == 0) _ _ is is))
    (pick l (is_odd c) _ _ is is)))))))))

lined_begins : (l : Bool) (c : ℕ) (s : Reading) → Lined l s → Lined l (begins c s)
lined_begins l c s is =
    pick l (is_blank c) _ _ is
    (pick l (begins_word c) _ _ is
    (pick l (may_be_letter c) _ _ is
    (pick l (is_ascii_digit c) _ _ is (lined_beside l c s is))))

lined_number : (l : Bool) (c : ℕ) (s : Reading) → Lined l s → Lined l (in_number c s)
lined_number l c s is =
    pick l (is_exponent c) _ _ is
    (pick l (is_word c || may_be_letter c || (c == 46)) _ _ is
    (pick l ((c == 34) || (c == 39)) _ _ is (lined_begins l c s is)))

lined_directive : (l : Bool) (c : ℕ) (s : Reading) → Lined l s → Lined l (in_directive c s)
lined_directive l c s is =
    pick l (c == 10) _ _ (pick l s.is_open _ _ is is)
    (pick l (c == 92) _ _ is
    (pick l (is_odd c || ((c == 34) && (s.last == 82))) _ _ is is))

lined_comment : (l : Bool) (state : State) (c : ℕ) (s : Reading) → Lined l s → Lined l (comment_on state c s)
lined_comment l state c s is = pick l (is_odd c) _ _ is is

lined_quoted : (l : Bool) (quote : ℕ) (escape : State) (c : ℕ) (s : Reading) → Lined l s → Lined l (quoted quote escape c s)
lined_quoted l quote escape c s is =
    pick l (c == quote) _ _ is (pick l (c == 92) _ _ is (pick l ((c == 10) || (c == 13) || (c == 0)) _ _ is is))

lined_escaped : (l : Bool) (inside : State) (c : ℕ) (s : Reading) → Lined l s → Lined l (escaped inside c s)
lined_escaped l inside c s is = pick l ((c == 10) || (c == 13) || is_blank c) _ _ is is

lined_word : (l : Bool) (c : ℕ) (s : Reading) → Lined l s → Lined l (in_word c s)
lined_word l c s is =
    pick l (is_word c) _ _ is
    (pick l ((c == 34) && is_raw_prefix s.token) _ _ is
    (pick l (may_be_letter c) _ _ is (lined_begins l c (record s { token = [] }) is)))

lined_in : (l : Bool) (state : State) (c : ℕ) (s : Reading) → Lined l s → Lined l (step_in state c s)
lined_in l state.Between c s is = lined_begins l c s is
lined_in l state.Word c s is = lined_word l c s is
lined_in l state.OtherWord c s is =
    pick l ((c == 34) || (c == 39)) _ _ is (pick l (is_word c || may_be_letter c) _ _ is (lined_begins l c s is))
lined_in l state.Number c s is = lined_number l c s is
lined_in l state.Exponent c s is = pick l ((c == 43) || (c == 45)) _ _ is (lined_number l c s is)
lined_in l state.Dot c s is = pick l (is_ascii_digit c) _ _ is (lined_begins l c s is)
lined_in l state.Slash c s is =
    pick l (c == 47) _ _ is (pick l (c == 42) _ _ is (lined_begins l c (start state.Between 47 s) is))
lined_in l state.Percent c s is = pick l (c == 58) _ _ (pick l (s.is_lined || (s.depth == 0)) _ _ is is) (lined_begins l c s is)
lined_in l state.Text c s is = lined_quoted l 34 state.TextEscape c s is
lined_in l state.TextEscape c s is = lined_escaped l state.Text c s is
lined_in l state.Character c s is = lined_quoted l 39 state.CharacterEscape c s is
lined_in l state.CharacterEscape c s is = lined_escaped l state.Character c s is
lined_in l state.LineComment c s is = pick l (c == 10) _ _ is (lined_comment l state.LineComment c s is)
lined_in l state.Comment c s is = lined_comment l (cond (c == 42) state.CommentStar (cond (c == 47) state.CommentSlash state.Comment)) c s is
lined_in l state.CommentStar c s is =
    pick l (c == 47) _ _ is (lined_comment l (cond (c == 42) state.CommentStar (cond (c == 47) state.CommentSlash state.Comment)) c s is)
lined_in l state.CommentSlash c s is =
    pick l (c == 42) _ _ is (lined_comment l (cond (c == 42) state.CommentStar (cond (c == 47) state.CommentSlash state.Comment)) c s is)
lined_in l state.Hash c s is =
    pick l (is_blank c) _ _ is (pick l (not s.is_lined && may_set_lines c) _ _ is (lined_directive l c s is))
lined_in l state.Directive c s is = lined_directive l c s is
lined_in l state.DirectiveEscape c s is =
    pick l (c == 10) _ _ is (pick l (is_blank c) _ _ is (lined_directive l c (record s { last = 92 }) is))
lined_in l state.Refused c s is = is

pub stays_lined : (l : Bool) (s : Reading) (text : List ℕ) → Lined l s → Lined l (read s text)
stays_lined l s [] is = is
stays_lined l s (c ∷ cs) is = stays_lined l (step c s) cs (lined_in l s.state c s is)
