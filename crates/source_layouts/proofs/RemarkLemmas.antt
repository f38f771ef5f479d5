-- Comments and empty lines between tokens.
use Rattle.std.proofs.Common.{◌≡◌, ℕ, Bool, true, false, cond, not, ◌==◌, ◌&&◌, List, [], ◌∷◌, ◌++◌, refl, ap, sym, ◌∙◌}
use Rattle.std.specs.Char.{is_ascii_digit}
use Rattle.std.specs.List.{list_all}
use Rattle.std.specs.Int.{is_in_range}
use Rattle.std.proofs.Math.Bool.{and-false}
use Rattle.std.proofs.lemmas.Bool.{and_parts, not-true}
use Rattle.std.proofs.lemmas.List.{append-nil}
use Rattle.source_layouts.specs.declared.state.State.{State}
use Rattle.source_layouts.specs.declared.state.State.TheVariants.{Between, OtherWord, Number, Slash, LineComment, Comment, CommentStar, CommentSlash, Refused}
use Rattle.source_layouts.specs.Bytes.{begins_word, may_be_letter, is_blank, is_odd}
use Rattle.source_layouts.specs.Reading.{Reading, read, step, step_in, goes, start, start_word, begins_beside_words, end_line, end_comment, comment_on}
use Rattle.source_layouts.specs.LayoutLaws.{IsBetween, CommentsDontCount, CommentsAreBlanks, EmptyLinesDontCount, is_plain, is_remark, is_block}

-- a reader in a comment of ASCII without line ends
abbrev within : State → List ℕ → Reading → Reading
within state token s = record s { state = state; token = token; ends = []; is_wide = false }

-- a reader that rests is the one that it is between tokens
rests : (at : Reading) (state : State) → IsBetween at → record at { state = state } ≡ within state [] at
rests at state is =
    ap (λ (token : List ℕ). record at { state = state; token = token }) is.token
    ∙ ap (λ (ends : List ℕ). record at { state = state; token = []; ends = ends }) is.ends
    ∙ ap (λ (wide : Bool). record at { state = state; token = []; ends = []; is_wide = wide }) is.wide

-- a plain byte goes on with a comment
goes_on : (s : Reading) (state : State) (token : List ℕ) (c : ℕ) (now : State) → is_plain c ≡ true → (s.is_lined && (c == 10)) ≡ false →
    comment_on now c (within state token s) ≡ within now (token ++ c ∷ []) s
goes_on s state token c now plain no_end =
    let parts = and_parts (not (is_odd c)) (not (is_in_range 128 255 c)) plain in
    ap (λ b. cond b (goes Refused (within state token s)) (record s {
      state = now;
      token = token ++ c ∷ [];
      ends = cond (s.is_lined && (c == 10)) (11 ∷ []) [];
      is_wide = is_in_range 128 255 c;
    })) (not-true (is_odd c) parts.0)
    ∙ ap (λ b. record s { state = now; token = token ++ c ∷ []; ends = cond b (11 ∷ []) []; is_wide = is_in_range 128 255 c }) no_end
    ∙ ap (λ b. record s { state = now; token = token ++ c ∷ []; ends = []; is_wide = b }) (not-true (is_in_range 128 255 c) parts.1)

remark_passes : (s : Reading) (token remark rest : List ℕ) → is_remark remark ≡ true →
    read (within LineComment token s) (remark ++ 10 ∷ rest) ≡ read (end_line (within Between [] s)) rest
remark_passes s token [] rest all = ap (λ (out : List ℕ). read (end_line (record (within Between [] s) { out = out })) rest) (append-nil s.out)
remark_passes s token (c ∷ cs) rest all =
    let parts = and_parts (is_plain c && not (c == 10)) (is_remark cs) all in
    let each = and_parts (is_plain c) (not (c == 10)) parts.0 in
    let no_end = not-true (c == 10) each.1 in
    ap (λ b. read (cond b (end_line (end_comment (within LineComment token s))) (comment_on LineComment c (within LineComment token s))) (cs ++ 10 ∷ rest)) no_end
    ∙ ap (λ (now : Reading). read now (cs ++ 10 ∷ rest))
    (goes_on s LineComment token c LineComment each.0 (ap (λ b. s.is_lined && b) no_end ∙ and-false s.is_lined))
    ∙ remark_passes s (token ++ c ∷ []) cs rest parts.1

-- a slash between tokens may begin a comment
begins_comment : (at : Reading) (rest : List ℕ) → IsBetween at → read at (47 ∷ rest) ≡ read (within Slash [] at) rest
begins_comment at rest is =
    ap (λ state. read (step_in state 47 at) rest) is.state ∙ ap (λ (now : Reading). read now rest) (rests at Slash is)

pub comments_dont_count : CommentsDontCount
comments_dont_count at remark rest is all =
    begins_comment at (47 ∷ (remark ++ 10 ∷ rest)) is
    ∙ remark_passes at (47 ∷ 47 ∷ []) remark rest all
    ∙ ap (λ (now : Reading). read (end_line now) rest) (sym (rests at Between is))
    ∙ ap (λ state. read (step_in state 10 at) rest) (sym is.state)

-- a byte of a comment that ends with `*/`
goes_on_block : (s : Reading) (token : List ℕ) (c : ℕ) → s.is_lined ≡ false → is_plain c ≡ true → (c == 42) ≡ false → (c == 47) ≡ false →
    step c (within Comment token s) ≡ within Comment (token ++ c ∷ []) s
goes_on_block s token c unlined plain no_star no_slash =
    ap (λ b. comment_on (cond b CommentStar (cond (c == 47) CommentSlash Comment)) c (within Comment token s)) no_star
    ∙ ap (λ b. comment_on (cond b CommentSlash Comment) c (within Comment token s)) no_slash
    ∙ goes_on s Comment token c Comment plain (ap (λ b. b && (c == 10)) unlined)

block_passes : (s : Reading) (token block rest : List ℕ) → s.is_lined ≡ false → is_block block ≡ true →
    read (within Comment token s) (block ++ 42 ∷ 47 ∷ rest) ≡ read (record (within Between [] s) { has_blank = true }) rest
block_passes s token [] rest unlined all =
    ap (λ (now : Reading). read now (47 ∷ rest)) (goes_on s Comment token 42 CommentStar refl (ap (λ b. b && false) unlined))
    ∙ ap (λ (out : List ℕ). read (record (within Between [] s) { has_blank = true; out = out }) rest) (append-nil s.out)
block_passes s token (c ∷ cs) rest unlined all =
    let parts = and_parts (is_plain c && (not (c == 42) && not (c == 47))) (is_block cs) all in
    let each = and_parts (is_plain c) (not (c == 42) && not (c == 47)) parts.0 in
    let neither = and_parts (not (c == 42)) (not (c == 47)) each.1 in
    ap (λ (now : Reading). read now (cs ++ 42 ∷ 47 ∷ rest))
    (goes_on_block s token c unlined each.0 (not-true (c == 42) neither.0) (not-true (c == 47) neither.1))
    ∙ block_passes s (token ++ c ∷ []) cs rest unlined parts.1

pub comments_are_blanks : CommentsAreBlanks
comments_are_blanks at block rest is unlined all =
    begins_comment at (42 ∷ (block ++ 42 ∷ 47 ∷ rest)) is
    ∙ block_passes at (47 ∷ 42 ∷ []) block rest unlined all
    ∙ ap (λ (now : Reading). read (record now { has_blank = true }) rest) (sym (rests at Between is))
    ∙ ap (λ state. read (step_in state 32 at) rest) (sym is.state)

-- a reader at the beginning of a line, behind blanks if the first is true
abbrev begins_line : Bool → Reading → Reading
begins_line blank s = record s { state = Between; is_empty = true; has_blank = blank; is_lined = false }

blank_passes : (s : Reading) (blank : Bool) (c : ℕ) → is_blank c ≡ true → step c (begins_line blank s) ≡ begins_line true s
blank_passes s blank c is =
    let at = begins_line blank s in
    ap (λ b. cond b (begins_line true s) (cond (begins_word c) (start_word c at) (cond (may_be_letter c) (start OtherWord c at)
    (cond (is_ascii_digit c) (start Number c at) (begins_beside_words c at))))) is

blanks_pass : (s : Reading) (blank : Bool) (blanks rest : List ℕ) → list_all is_blank blanks ≡ true →
    read (begins_line blank s) (blanks ++ 10 ∷ rest) ≡ read (begins_line false s) rest
blanks_pass s blank [] rest all = refl
blanks_pass s blank (c ∷ cs) rest all =
    let parts = and_parts (is_blank c) (list_all is_blank cs) all in
    ap (λ (now : Reading). read now (cs ++ 10 ∷ rest)) (blank_passes s blank c parts.0) ∙ blanks_pass s true cs rest parts.1

begins : (at : Reading) → at.state ≡ Between → at.is_lined ≡ false → at.is_empty ≡ true → at.has_blank ≡ false → at ≡ begins_line false at
begins at between unlined empty blank =
    ap (λ state. record at { state = state }) between
    ∙ ap (λ lined. record at { state = Between; is_lined = lined }) unlined
    ∙ ap (λ empty. record at { state = Between; is_lined = false; is_empty = empty }) empty
    ∙ ap (λ blank. record at { state = Between; is_lined = false; is_empty = true; has_blank = blank }) blank

pub empty_lines_dont_count : EmptyLinesDontCount
empty_lines_dont_count at blanks rest between unlined empty blank all =
    let is = begins at between unlined empty blank in
    ap (λ (now : Reading). read now (blanks ++ 10 ∷ rest)) is ∙ blanks_pass at false blanks rest all ∙ ap (λ (now : Reading). read now rest) (sym is)
