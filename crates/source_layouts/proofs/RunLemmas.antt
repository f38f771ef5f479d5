-- A layout is read as its text: directives, comments, whole texts and their ends.
use Rattle.std.proofs.Common.{◌≡◌, ℕ, ◌+◌, Bool, true, false, cond, not, ◌==◌, ◌&&◌, ◌||◌, List, [], ◌∷◌, ◌++◌, Option, Some, None, refl, ap, sym, subst, ◌∙◌}
use Rattle.std.specs.Prelude.{is_some}
use Rattle.std.specs.Int.{is_in_range}
use Rattle.std.proofs.Math.Bool.{and-false}
use Rattle.std.proofs.lemmas.Bool.{and_parts, false≢true}
use Rattle.std.proofs.lemmas.List.{append-nil, append_assoc}
use Rattle.source_layouts.specs.declared.state.State.{State}
use Rattle.source_layouts.specs.declared.state.State.TheVariants as state
use Rattle.source_layouts.specs.Bytes.{is_blank, is_odd}
use Rattle.source_layouts.specs.Reading.{Reading, goes, start, grow, end_line, end_comment, comment_on, begin_comment, begins, may_set_lines}
use Rattle.source_layouts.specs.Reading as spec
use Rattle.source_layouts.specs.Pieces.{Mode, Scan, Piece, turns, joins, ends, ends_line, next_line, gap, in_code, step, step_in, scan, found, found_in, pieces}
use Rattle.source_layouts.specs.Pieces as piece
use Rattle.source_layouts.specs.Pieces.Mode.{Code, Percent, Slash, Text, TextEscape, Character, CharacterEscape, Remark, Block, Star, Line, LineEscape, Odd}
use Rattle.source_layouts.proofs.PlaceLemmas.{is_nil, nil_is, is_clean_in, IsClean, in_clean}
use Rattle.source_layouts.proofs.PieceLemmas.{scan_append, gap_mode, gap_first, gap_lined, gap_again, gap_turns, gap_next, line_gap, line_turns, gap_at_first, gap_word, by_gap, apart, one_of}
use Rattle.source_layouts.proofs.ReadingLemmas.{written, written_one, Stands, Rests, Copies, Leaves, FollowsIn, Follows, either, both, stands_at, stands_behind, line_follows, first_fails, if_true, if_false, begins_follows, bare_sure, behind, in_mode, grows_so, between, in_word, in_other_word, in_number, in_exponent, behind_dot, behind_percent, in_string, in_character, behind_escape, behind_character_escape, in_directive}

-- ---- in a directive

behind_hash : (c : ℕ) (s : Reading) (m : Scan) → FollowsIn state.Hash s m → Follows (spec.behind_hash c s) (step c m)
behind_hash c s m at =
    in_mode Line (spec.behind_hash c s) c m at.is
    (either (is_blank c) (grow state.Hash c s) (cond (not s.is_lined && may_set_lines c) (goes state.Refused s) (spec.in_directive c s)) (piece.in_line c m)
    (λ is.
    let joined : piece.in_line c m ≡ joins Line c m =
    if_false (c == 10) (ends_line true m) (cond (c == 92) (joins LineEscape c m) (joins Line c m)) (apart is_blank c 10 true is refl)
    ∙ if_false (c == 92) (joins LineEscape c m) (joins Line c m) (apart is_blank c 92 true is refl) in
    subst (λ k. Follows (grow state.Hash c s) k) (sym joined) (grows_so Line Line c s m at joined))
    (λ isnt. either (not s.is_lined && may_set_lines c) (goes state.Refused s) (spec.in_directive c s) (piece.in_line c m) (λ is. refl)
    (λ isnt. in_directive Line c s m at refl)))

behind_backslash : (c : ℕ) (s : Reading) (m : Scan) → FollowsIn state.DirectiveEscape s m → Follows (spec.behind_backslash c s) (step c m)
behind_backslash c s m at =
    let rest = cond ((c == 32) || (c == 9)) (joins LineEscape c m) (piece.in_line c m) in
    in_mode LineEscape (spec.behind_backslash c s) c m at.is
    (both (c == 10) (grow state.Directive c s) (cond (is_blank c) (grow state.DirectiveEscape c s) (spec.in_directive c (record s { last = 92 })))
    (next_line (joins Line c m)) (cond ((c == 32) || (c == 9)) (joins LineEscape c m) (piece.in_line c m))
    (λ is. record {
      wrote = written_one s.is_lined s.out c m (next_line (joins Line c m)) at.wrote
          (ap (λ mode. step_in mode c m) at.is ∙ if_true (c == 10) (next_line (joins Line c m)) rest is);
      is = refl;
      first = refl;
      lined = at.lined;
      empty = at.empty;
      blank = at.blank;
    })
    (λ no_end. both (is_blank c) (grow state.DirectiveEscape c s) (spec.in_directive c (record s { last = 92 })) (joins LineEscape c m) (piece.in_line c m)
    (λ is. grows_so LineEscape LineEscape c s m at (if_false (c == 10) (next_line (joins Line c m)) rest no_end
    ∙ if_true ((c == 32) || (c == 9)) (joins LineEscape c m) (piece.in_line c m) is))
    (λ isnt. in_directive LineEscape c (record s { last = 92 }) m at (if_false (c == 10) (next_line (joins Line c m)) rest no_end
    ∙ if_false ((c == 32) || (c == 9)) (joins LineEscape c m) (piece.in_line c m) isnt))))

-- ---- behind a `/`

abbrev behind_slash_of : ℕ → Scan → Scan
behind_slash_of c front = piece.behind_slash c (turns Slash front)

slash_written : (l e b : Bool) (o : List ℕ) (front : Scan) → Stands l e b o front → ((b && not e) ≡ false → step 47 (written l o) ≡ turns Slash front) →
    written l (cond (b && not e) (o ++ 32 ∷ []) o ++ 47 ∷ []) ≡ turns Slash front
slash_written l e b o front at own =
    elim (b && not e) as (λ t. (b && not e) ≡ t → written l (cond t (o ++ 32 ∷ []) o ++ 47 ∷ []) ≡ turns Slash front) [
      | true ↦ λ both.
          written_one l (o ++ 32 ∷ []) 47 (gap front) (turns Slash front) (written_one l o 32 (written l o) (gap front) refl at.blank)
          (ap (λ mode. step_in mode 47 (gap front)) (gap_mode front) ∙ ap (turns Slash) (at.pend both))
      | false ↦ λ neither. scan_append (piece.start l) o (47 ∷ []) ∙ own neither
    ] refl

stands_behind_slash : (l : Bool) (o : List ℕ) (front : Scan) → front.is_lined ≡ l → written l o ≡ turns Slash front → Stands l false false o (joins Code 47 (turns Slash front))
stands_behind_slash l o front lined wrote = record {
  first = refl;
  lined = lined;
  blank = ap (step 32) wrote;
  line = ap (step 10) wrote;
  tick = ap (step 11) wrote;
  mark = ap (step 12) wrote;
  pend = λ is. absurd (false≢true is);
  drop = λ is. absurd (false≢true is);
  code = λ is. absurd (false≢true is);
  word = λ is. absurd (false≢true is);
}

begins_leaving : (mode : Mode) (c : ℕ) (token ends : List ℕ) (l e b : Bool) (o : List ℕ) (front : Scan) → Stands l e b o front → token ≡ [] → ends ≡ [] →
    ((g : Scan) → behind_slash_of c g ≡ turns mode (gap (turns Slash g))) →
    Leaves mode (token ++ 47 ∷ c ∷ []) ends l e o (turns mode (gap (turns Slash front)))
begins_leaving mode c token ends l e b o front at none no_ends steps =
    let same : written l (o ++ ends) ≡ written l o = ap (λ (ends : List ℕ). written l (o ++ ends)) no_ends ∙ ap (written l) (append-nil o) in
    record {
      front = front;
      now = ap (turns mode) (gap_turns Slash front);
      first = at.first;
      lined = at.lined;
      none = gap_word front (λ first. at.word (sym at.first ∙ first));
      blank = ap (step 32) same ∙ at.blank;
      line = ap (step 10) same ∙ at.line ∙ sym (line_gap front);
      tick = ap (step 11) same ∙ at.tick;
      mark = ap (step 12) same ∙ at.mark;
      drop = λ is. same ∙ at.drop is ∙ sym (gap_at_first front (at.first ∙ is) (at.code is));
      kept =
          ap (λ (token : List ℕ). scan (step 12 (written l o)) (token ++ 47 ∷ c ∷ [])) none
          ∙ ap (λ (k : Scan). step c (step 47 k)) at.mark
          ∙ ap (λ mode. step c (step_in mode 47 (gap front))) (gap_mode front)
          ∙ steps (gap front)
          ∙ ap (turns mode) (gap_turns Slash (gap front) ∙ gap_again front ∙ sym (gap_turns Slash front));
    }

behind_slash : (c : ℕ) (s : Reading) (m : Scan) → FollowsIn state.Slash s m → s.token ≡ [] → s.ends ≡ [] → Follows (spec.behind_slash c s) (step c m)
behind_slash c s m at none no_ends =
    subst (λ k. Follows (spec.behind_slash c s) (step c k)) (sym at.now)
    (both (c == 47) (begin_comment state.LineComment c s) (cond (c == 42) (begin_comment state.Comment c s) (begins c (start state.Between 47 s)))
    (turns Remark (gap (turns Slash at.front))) (cond (c == 42) (turns Block (gap (turns Slash at.front))) (in_code c (joins Code 47 (turns Slash at.front))))
    (λ is. begins_leaving Remark c s.token s.ends s.is_lined s.is_empty s.has_blank s.out at.front at.stands none no_ends
    (λ g. if_true (c == 47) (turns Remark (gap (turns Slash g))) (cond (c == 42) (turns Block (gap (turns Slash g))) (in_code c (joins Code 47 (turns Slash g)))) is))
    (λ no_slash. both (c == 42) (begin_comment state.Comment c s) (begins c (start state.Between 47 s))
    (turns Block (gap (turns Slash at.front))) (in_code c (joins Code 47 (turns Slash at.front)))
    (λ is. begins_leaving Block c s.token s.ends s.is_lined s.is_empty s.has_blank s.out at.front at.stands none no_ends
    (λ g. if_false (c == 47) (turns Remark (gap (turns Slash g))) (cond (c == 42) (turns Block (gap (turns Slash g))) (in_code c (joins Code 47 (turns Slash g)))) no_slash
    ∙ if_true (c == 42) (turns Block (gap (turns Slash g))) (in_code c (joins Code 47 (turns Slash g))) is))
    (λ no_star.
    let wrote = slash_written s.is_lined s.is_empty s.has_blank s.out at.front at.stands at.own in
    begins_follows c (start state.Between 47 s) (joins Code 47 (turns Slash at.front))
    (stands_behind_slash s.is_lined (behind 47 s) at.front at.stands.lined wrote)
    (bare_sure c (start state.Between 47 s) (joins Code 47 (turns Slash at.front))
    (λ any. ap (step c) wrote
    ∙ if_false (c == 47) (turns Remark (gap (turns Slash at.front))) (cond (c == 42) (turns Block (gap (turns Slash at.front))) (in_code c (joins Code 47 (turns Slash at.front)))) no_slash
    ∙ if_false (c == 42) (turns Block (gap (turns Slash at.front))) (in_code c (joins Code 47 (turns Slash at.front))) no_star)
    refl)
    none)))

-- ---- in a comment

code_gap : (front : Scan) → turns Code (gap front) ≡ gap front
code_gap front = ap (λ mode. turns mode (gap front)) (sym (gap_mode front))

empties : (e : Bool) → (true && not e) ≡ false → e ≡ true
empties true is = refl
empties false is = absurd (false≢true (sym is))

-- a comment has ended
pub rests_behind : (wide : Bool) (mode : Mode) (token ends whole : List ℕ) (l e : Bool) (o : List ℕ) (m : Scan) → (at : Leaves mode token ends l e o m) →
    scan (step 12 (written l o)) (whole ++ 12 ∷ []) ≡ gap at.front → Rests l e true (o ++ cond wide (12 ∷ (whole ++ 12 ∷ [])) ends) (gap at.front)
rests_behind true mode token ends whole l e o m at closed =
    let wrote = scan_append (piece.start l) o (12 ∷ (whole ++ 12 ∷ [])) ∙ closed in
    record {
      stands = stands_at l e true (o ++ 12 ∷ (whole ++ 12 ∷ [])) (gap at.front) wrote (gap_mode at.front) (gap_first at.front ∙ at.first)
          (gap_lined at.front ∙ at.lined) at.none (λ any. gap_again at.front);
      mode = gap_mode at.front;
      none = at.none;
      own = λ any. wrote;
    }
rests_behind false mode token ends whole l e o m at closed = record {
  stands = record {
    first = gap_first at.front ∙ at.first;
    lined = gap_lined at.front ∙ at.lined;
    blank = at.blank ∙ sym (gap_again at.front);
    line = at.line;
    tick = at.tick ∙ ap next_line (sym (gap_again at.front));
    mark = at.mark ∙ sym (gap_again at.front);
    pend = λ any. gap_again at.front;
    drop = at.drop;
    code = λ is. gap_mode at.front;
    word = λ is. at.none;
  };
  mode = gap_mode at.front;
  none = at.none;
  own = λ empty. at.drop (empties e empty);
}

-- a comment goes on
leaves_on : (mode next : Mode) (token longer ends : List ℕ) (l e : Bool) (o : List ℕ) (m : Scan) → (at : Leaves mode token ends l e o m) →
    scan (step 12 (written l o)) longer ≡ turns next (gap at.front) → Leaves next longer ends l e o (turns next (gap at.front))
leaves_on mode next token longer ends l e o m at kept = record {
  front = at.front;
  now = refl;
  first = at.first;
  lined = at.lined;
  none = at.none;
  blank = at.blank;
  line = at.line;
  tick = at.tick;
  mark = at.mark;
  drop = at.drop;
  kept = kept;
}

kept_on : (mode : Mode) (token ends : List ℕ) (l e : Bool) (o : List ℕ) (m : Scan) (c : ℕ) → (at : Leaves mode token ends l e o m) →
    scan (step 12 (written l o)) (token ++ c ∷ []) ≡ step c (turns mode (gap at.front))
kept_on mode token ends l e o m c at = scan_append (step 12 (written l o)) token (c ∷ []) ∙ ap (step c) (at.kept ∙ at.now)

-- a byte that ends no line leaves no line end
unended : (l : Bool) (c : ℕ) (ends : List ℕ) → (c == 10) ≡ false → cond (l && (c == 10)) (ends ++ 11 ∷ []) ends ≡ ends
unended l c ends isnt = ap (λ b. cond (l && b) (ends ++ 11 ∷ []) ends) isnt ∙ ap (λ b. cond b (ends ++ 11 ∷ []) ends) (and-false l)

on_without_end : (mode next : Mode) (token ends : List ℕ) (l e : Bool) (o : List ℕ) (m : Scan) (c : ℕ) → (at : Leaves mode token ends l e o m) → (c == 10) ≡ false →
    step c (turns mode (gap at.front)) ≡ turns next (gap at.front) →
    Leaves next (token ++ c ∷ []) (cond (l && (c == 10)) (ends ++ 11 ∷ []) ends) l e o (turns next (gap at.front))
on_without_end mode next token ends l e o m c at isnt steps =
    subst (λ (left : List ℕ). Leaves next (token ++ c ∷ []) left l e o (turns next (gap at.front))) (sym (unended l c ends isnt))
    (leaves_on mode next token (token ++ c ∷ []) ends l e o m at (kept_on mode token ends l e o m c at ∙ steps))

abbrev remarked : ℕ → Reading → Reading
remarked c s = record s {
  state = state.LineComment;
  token = s.token ++ c ∷ [];
  ends = cond (s.is_lined && (c == 10)) (s.ends ++ 11 ∷ []) s.ends;
  is_wide = s.is_wide || is_in_range 128 255 c;
}

line_comment : (c : ℕ) (s : Reading) (m : Scan) → FollowsIn state.LineComment s m → Follows (spec.in_line_comment c s) (step c m)
line_comment c s m at =
    subst (λ k. Follows (spec.in_line_comment c s) (step c k)) (sym at.now)
    (both (c == 10) (end_line (end_comment s)) (comment_on state.LineComment c s) (ends_line false (turns Remark (gap at.front)))
    (cond (c == 12) (turns Code (gap at.front)) (cond (c == 92) (turns Odd (gap at.front)) (turns Remark (gap at.front))))
    (λ is. subst (λ k. Follows (end_line (end_comment s)) k) (sym (line_turns Remark (gap at.front)))
    (line_follows s.is_lined s.is_empty true (s.out ++ cond s.is_wide (12 ∷ (s.token ++ 12 ∷ [])) s.ends) (gap at.front)
    (rests_behind s.is_wide Remark s.token s.ends s.token s.is_lined s.is_empty s.out m at
    (kept_on Remark s.token s.ends s.is_lined s.is_empty s.out m 12 at ∙ code_gap at.front)).stands))
    (λ no_end. either (is_odd c) (goes state.Refused s) (remarked c s)
    (cond (c == 12) (turns Code (gap at.front)) (cond (c == 92) (turns Odd (gap at.front)) (turns Remark (gap at.front))))
    (λ is. refl)
    (λ even.
    let stays : cond (c == 12) (turns Code (gap at.front)) (cond (c == 92) (turns Odd (gap at.front)) (turns Remark (gap at.front))) ≡ turns Remark (gap at.front) =
    if_false (c == 12) (turns Code (gap at.front)) (cond (c == 92) (turns Odd (gap at.front)) (turns Remark (gap at.front))) (apart is_odd c 12 false even refl)
    ∙ if_false (c == 92) (turns Odd (gap at.front)) (turns Remark (gap at.front)) (apart is_odd c 92 false even refl) in
    subst (λ k. Follows (remarked c s) k) (sym stays)
    (on_without_end Remark Remark s.token s.ends s.is_lined s.is_empty s.out m c at no_end
    (if_false (c == 10) (ends_line false (turns Remark (gap at.front)))
    (cond (c == 12) (turns Code (gap at.front)) (cond (c == 92) (turns Odd (gap at.front)) (turns Remark (gap at.front)))) no_end ∙ stays)))))

-- a line end in a comment
block_line : (l : Bool) (mode : Mode) (token ends : List ℕ) (e : Bool) (o : List ℕ) (m : Scan) → (at : Leaves mode token ends l e o m) →
    step 10 (turns mode (gap at.front)) ≡ turns Block (next_line (turns mode (gap at.front))) →
    Leaves Block (token ++ 10 ∷ []) (cond (l && true) (ends ++ 11 ∷ []) ends) l e o (turns Block (next_line (turns mode (gap at.front))))
block_line true mode token ends e o m at steps =
    let wrote : written true (o ++ (ends ++ 11 ∷ [])) ≡ next_line (gap at.front) =
    ap (written true) (sym (append_assoc o ends (11 ∷ []))) ∙ written_one true (o ++ ends) 11 (written true (o ++ ends)) (next_line (gap at.front)) refl at.tick in
    record {
      front = next_line (gap at.front);
      now = ap (turns Block) (sym (gap_next at.front));
      first = gap_first at.front ∙ at.first;
      lined = gap_lined at.front ∙ at.lined;
      none = ap (λ (s : Scan). s.word) (gap_next at.front) ∙ at.none;
      blank = ap (step 32) wrote ∙ ap (λ mode. step_in mode 32 (next_line (gap at.front))) (gap_mode at.front);
      line = ap (step 10) wrote ∙ ap (λ mode. step_in mode 10 (next_line (gap at.front))) (gap_mode at.front) ∙ sym (line_gap (next_line (gap at.front)));
      tick = ap (step 11) wrote ∙ ap (λ mode. step_in mode 11 (next_line (gap at.front))) (gap_mode at.front);
      mark = ap (step 12) wrote ∙ ap (λ mode. step_in mode 12 (next_line (gap at.front))) (gap_mode at.front);
      drop = λ is. wrote ∙ sym (gap_next at.front);
      kept = kept_on mode token ends true e o m 10 at ∙ steps;
    }
block_line false mode token ends e o m at steps =
    let same : turns Block (next_line (turns mode (gap at.front))) ≡ turns Block (gap at.front) =
    ap (λ b. record (gap at.front) { mode = Block; line = cond b ((gap at.front).line + 1) (gap at.front).line }) (gap_lined at.front ∙ at.lined) in
    subst (λ k. Leaves Block (token ++ 10 ∷ []) ends false e o k) (sym same)
    (leaves_on mode Block token (token ++ 10 ∷ []) ends false e o m at (kept_on mode token ends false e o m 10 at ∙ steps ∙ same))

abbrev commented : State → ℕ → Reading → Reading
commented state c s = record s {
  state = state;
  token = s.token ++ c ∷ [];
  ends = cond (s.is_lined && (c == 10)) (s.ends ++ 11 ∷ []) s.ends;
  is_wide = s.is_wide || is_in_range 128 255 c;
}

in_block : (c : ℕ) (mode : Mode) (s : Reading) (m : Scan) → (at : Leaves mode s.token s.ends s.is_lined s.is_empty s.out m) →
    step c (turns mode (gap at.front)) ≡ piece.in_block c (turns mode (gap at.front)) → Follows (spec.in_comment c s) (piece.in_block c (turns mode (gap at.front)))
in_block c mode s m at steps =
    one_of (λ c. step c (turns mode (gap at.front)) ≡ piece.in_block c (turns mode (gap at.front)) →
    Follows (spec.in_comment c s) (piece.in_block c (turns mode (gap at.front)))) c 10
    (λ steps. block_line s.is_lined mode s.token s.ends s.is_empty s.out m at steps)
    (λ no_end. one_of (λ c. step c (turns mode (gap at.front)) ≡ piece.in_block c (turns mode (gap at.front)) →
    Follows (spec.in_comment c s) (piece.in_block c (turns mode (gap at.front)))) c 42
    (λ steps. on_without_end mode Star s.token s.ends s.is_lined s.is_empty s.out m 42 at refl steps)
    (λ no_star steps.
    let stays : piece.in_block c (turns mode (gap at.front)) ≡ turns Block (gap at.front) =
    if_false (c == 10) (turns Block (next_line (turns mode (gap at.front)))) (cond (c == 42) (turns Star (gap at.front)) (turns Block (gap at.front))) no_end
    ∙ if_false (c == 42) (turns Star (gap at.front)) (turns Block (gap at.front)) no_star in
    let leaves = on_without_end mode Block s.token s.ends s.is_lined s.is_empty s.out m c at no_end (steps ∙ stays) in
    subst (λ k. Follows (spec.in_comment c s) k) (sym stays)
    (subst (λ b. Follows (comment_on (cond b state.CommentStar (cond (c == 47) state.CommentSlash state.Comment)) c s) (turns Block (gap at.front))) (sym no_star)
    (elim (c == 47) as (λ b. Follows (comment_on (cond b state.CommentSlash state.Comment) c s) (turns Block (gap at.front))) [
      | true ↦ either (is_odd c) (goes state.Refused s) (commented state.CommentSlash c s) (turns Block (gap at.front)) (λ is. refl) (λ isnt. leaves)
      | false ↦ either (is_odd c) (goes state.Refused s) (commented state.Comment c s) (turns Block (gap at.front)) (λ is. refl) (λ isnt. leaves)
    ]))))
    steps

comment : (c : ℕ) (s : Reading) (m : Scan) → FollowsIn state.Comment s m → Follows (spec.in_comment c s) (step c m)
comment c s m at = subst (λ k. Follows (spec.in_comment c s) (step c k)) (sym at.now) (in_block c Block s m at refl)

comment_slash : (c : ℕ) (s : Reading) (m : Scan) → FollowsIn state.CommentSlash s m → Follows (spec.behind_comment_slash c s) (step c m)
comment_slash c s m at = either (c == 42) (goes state.Refused s) (spec.in_comment c s) (step c m) (λ is. refl) (λ isnt. comment c s m at)

comment_star : (c : ℕ) (s : Reading) (m : Scan) → FollowsIn state.CommentStar s m → Follows (spec.behind_star c s) (step c m)
comment_star c s m at =
    subst (λ k. Follows (spec.behind_star c s) (step c k)) (sym at.now)
    (both (c == 47) (end_comment (record s { token = s.token ++ 47 ∷ [] })) (spec.in_comment c s)
    (turns Code (gap at.front)) (piece.in_block c (turns Star (gap at.front)))
    (λ is. subst (λ k. Rests s.is_lined s.is_empty true (s.out ++ cond s.is_wide (12 ∷ ((s.token ++ 47 ∷ []) ++ 12 ∷ [])) s.ends) k) (sym (code_gap at.front))
    (rests_behind s.is_wide Star s.token s.ends (s.token ++ 47 ∷ []) s.is_lined s.is_empty s.out m at
    (scan_append (step 12 (written s.is_lined s.out)) (s.token ++ 47 ∷ []) (12 ∷ [])
    ∙ ap (step 12) (kept_on Star s.token s.ends s.is_lined s.is_empty s.out m 47 at)
    ∙ gap_turns Code (gap at.front) ∙ gap_again at.front)))
    (λ isnt. in_block c Star s m at (if_false (c == 47) (turns Code (gap at.front)) (piece.in_block c (turns Star (gap at.front))) isnt)))

-- ---- a byte, and a text

clean_token : (s : Reading) → (is_nil s.token && (is_nil s.ends && not s.is_wide)) ≡ true → s.token ≡ []
clean_token s clean = nil_is s.token (and_parts (is_nil s.token) (is_nil s.ends && not s.is_wide) clean).0

clean_ends : (s : Reading) → (is_nil s.token && (is_nil s.ends && not s.is_wide)) ≡ true → s.ends ≡ []
clean_ends s clean =
    nil_is s.ends (and_parts (is_nil s.ends) (not s.is_wide) (and_parts (is_nil s.token) (is_nil s.ends && not s.is_wide) clean).1).0

in_follows : (state : State) (c : ℕ) (s : Reading) (m : Scan) → s.state ≡ state → FollowsIn state s m → is_clean_in state s ≡ true →
    Follows (spec.step_in state c s) (step c m)
in_follows state.Between c s m is at clean = between c s m at (clean_token s clean)
in_follows state.Word c s m is at clean = in_word c s m at
in_follows state.OtherWord c s m is at clean = in_other_word c s m at (clean_token s clean)
in_follows state.Number c s m is at clean = in_mode Code (spec.in_number c s) c m at.is (in_number c s m at (clean_token s clean))
in_follows state.Exponent c s m is at clean = in_mode Code (spec.in_exponent c s) c m at.is (in_exponent c s m at (clean_token s clean))
in_follows state.Dot c s m is at clean = behind_dot c s m at (clean_token s clean)
in_follows state.Slash c s m is at clean = behind_slash c s m at (clean_token s clean) (clean_ends s clean)
in_follows state.Percent c s m is at clean = behind_percent c s m at (clean_token s clean)
in_follows state.Text c s m is at clean = in_string c s m is at
in_follows state.TextEscape c s m is at clean = behind_escape c s m at
in_follows state.Character c s m is at clean = in_character c s m is at
in_follows state.CharacterEscape c s m is at clean = behind_character_escape c s m at
in_follows state.LineComment c s m is at clean = line_comment c s m at
in_follows state.Comment c s m is at clean = comment c s m at
in_follows state.CommentStar c s m is at clean = comment_star c s m at
in_follows state.CommentSlash c s m is at clean = comment_slash c s m at
in_follows state.Hash c s m is at clean = behind_hash c s m at
in_follows state.Directive c s m is at clean = in_mode Line (spec.in_directive c s) c m at.is (in_directive Line c s m at refl)
in_follows state.DirectiveEscape c s m is at clean = behind_backslash c s m at
in_follows state.Refused c s m is at clean = subst (λ state. FollowsIn state s (step c m)) (sym is) refl

-- the reader of a text, with what is read of the text beside it
pub record Reads (s : Reading) (m : Scan) : Type 0 where
  pub follows : Follows s m
  pub clean : IsClean s

pub text_follows : (s : Reading) (m : Scan) (text : List ℕ) → Reads s m → Reads (spec.read s text) (scan m text)
text_follows s m [] reads = reads
text_follows s m (c ∷ cs) reads =
    text_follows (spec.step c s) (step c m) cs (record {
      follows = in_follows s.state c s m refl reads.follows reads.clean;
      clean = in_clean s.state c s refl reads.clean;
    })

-- ---- the end of a text

-- the layout at the end has the same pieces, and has some reading
pub record Ends (l : Bool) (o : List ℕ) (m : Scan) : Type 0 where
  pub same : found (written l o) ≡ found m
  pub some : is_some (found m) ≡ true

abbrev finished : Reading → List ℕ
finished s = cond s.is_empty s.out (s.out ++ 10 ∷ [])

-- at the end of a last line: it ends, or has no token
ends_rest : (l e b : Bool) (o : List ℕ) (m : Scan) → Stands l e b o m → found m ≡ Some (ends false m).pieces → Ends l (cond e o (o ++ 10 ∷ [])) m
ends_rest l e b o m at code = record {
  same = elim e as (λ t. e ≡ t → found (written l (cond t o (o ++ 10 ∷ []))) ≡ found m) [
    | true ↦ λ empty. ap found (at.drop empty)
    | false ↦ λ token. ap found (written_one l o 10 (written l o) (ends_line false m) refl at.line) ∙ sym code
  ] refl;
  some = ap is_some code;
}

ends_in_code : (s : Reading) (m : Scan) → Copies Code s.is_lined s.is_empty s.has_blank s.out m → Ends s.is_lined (finished s) m
ends_in_code s m at =
    ends_rest s.is_lined s.is_empty s.has_blank s.out m (stands_behind Code s.is_lined s.is_empty s.has_blank s.out m at refl refl refl refl)
    (ap (λ mode. found_in mode m) at.is)

ends_in_line : (s : Reading) (m : Scan) → Copies Line s.is_lined s.is_empty s.has_blank s.out m → Ends s.is_lined (finished s) m
ends_in_line s m at = record {
  same =
      ap (λ e. found (written s.is_lined (cond e s.out (s.out ++ 10 ∷ [])))) at.empty
      ∙ ap found (written_one s.is_lined s.out 10 m (ends_line true m) at.wrote (ap (λ mode. step_in mode 10 m) at.is))
      ∙ sym (ap (λ mode. found_in mode m) at.is);
  some = ap (λ mode. is_some (found_in mode m)) at.is;
}

ends_slash : (s : Reading) (m : Scan) → FollowsIn state.Slash s m → Ends s.is_lined (finished (start state.Between 47 s)) m
ends_slash s m at =
    let wrote = slash_written s.is_lined s.is_empty s.has_blank s.out at.front at.stands at.own in
    record {
      same =
          ap found (written_one s.is_lined (behind 47 s) 10 (turns Slash at.front) (ends_line false (joins Code 47 (turns Slash at.front))) wrote refl)
          ∙ ap found (sym at.now);
      some = ap (λ (k : Scan). is_some (found k)) at.now;
    }

gap_pieces : (s : Scan) → (ends false (gap s)).pieces ≡ (gap s).pieces
gap_pieces s = by_gap (λ s. (ends false (gap s)).pieces ≡ (gap s).pieces) s (λ t. refl) (λ t. refl) (λ t c cs. refl)

ends_remark : (s : Reading) (m : Scan) → FollowsIn state.LineComment s m → Ends s.is_lined (finished (end_comment s)) m
ends_remark s m at =
    let rests = rests_behind s.is_wide Remark s.token s.ends s.token s.is_lined s.is_empty s.out m at
    (kept_on Remark s.token s.ends s.is_lined s.is_empty s.out m 12 at ∙ code_gap at.front) in
    let code = ap (λ mode. found_in mode (gap at.front)) (gap_mode at.front) in
    let ended = ends_rest s.is_lined s.is_empty true (s.out ++ cond s.is_wide (12 ∷ (s.token ++ 12 ∷ [])) s.ends) (gap at.front) rests.stands code in
    record {
      same = ended.same ∙ code ∙ ap Some (gap_pieces at.front) ∙ sym (ap found at.now);
      some = ap (λ (k : Scan). is_some (found k)) at.now;
    }

in_ends : (state : State) (s : Reading) (m : Scan) → FollowsIn state s m → spec.may_end state ≡ true → Ends s.is_lined (finished (spec.ended_in state s)) m
in_ends state.Between s m at may =
    ends_rest s.is_lined s.is_empty s.has_blank s.out m at.stands (ap (λ mode. found_in mode m) at.mode)
in_ends state.Word s m at may = ends_in_code s m at.copies
in_ends state.OtherWord s m at may = ends_in_code s m at
in_ends state.Number s m at may = ends_in_code s m at
in_ends state.Exponent s m at may = ends_in_code s m at
in_ends state.Dot s m at may = ends_in_code s m at.copies
in_ends state.Slash s m at may = ends_slash s m at
in_ends state.Percent s m at may =
    ends_rest s.is_lined s.is_empty s.has_blank s.out m (stands_behind Percent s.is_lined s.is_empty s.has_blank s.out m at.copies refl refl refl refl)
    (ap (λ mode. found_in mode m) at.copies.is)
in_ends state.Text s m at may = absurd (false≢true may)
in_ends state.TextEscape s m at may = absurd (false≢true may)
in_ends state.Character s m at may = absurd (false≢true may)
in_ends state.CharacterEscape s m at may = absurd (false≢true may)
in_ends state.LineComment s m at may = ends_remark s m at
in_ends state.Comment s m at may = absurd (false≢true may)
in_ends state.CommentStar s m at may = absurd (false≢true may)
in_ends state.CommentSlash s m at may = absurd (false≢true may)
in_ends state.Hash s m at may = ends_in_line s m at
in_ends state.Directive s m at may = ends_in_line s m at
in_ends state.DirectiveEscape s m at may = absurd (false≢true may)
in_ends state.Refused s m at may = absurd (false≢true may)

-- what a text's layout is, if there is one
abbrev odd_end : Reading → Bool
odd_end s = not (spec.may_end s.state) || s.is_open || not (s.is_lined || (s.depth == 0))

some_of : (b : Bool) (one other : List ℕ) → cond b None (Some one) ≡ Some other → (b ≡ false) × (one ≡ other)
some_of true one other is = absurd (false≢true (ap is_some is))
some_of false one other is = (refl, ap (λ (found : Option (List ℕ)). value found) is)
  where
    value : Option (List ℕ) → List ℕ
    value None = []
    value (Some text) = text

was_true : (a : Bool) → not a ≡ false → a ≡ true
was_true true is = refl
was_true false is = absurd (false≢true (sym is))

pub reading_ends : (s : Reading) (m : Scan) (out : List ℕ) → Reads s m → spec.ending s ≡ Some out → Ends s.is_lined out m
reading_ends s m out reads is =
    let parts = some_of (odd_end s) (finished (spec.ended s)) out is in
    let may = was_true (spec.may_end s.state) (first_fails (not (spec.may_end s.state)) (odd_end s)
    (λ is. ap (λ a. a || s.is_open || not (s.is_lined || (s.depth == 0))) is) parts.0) in
    subst (λ (out : List ℕ). Ends s.is_lined out m) parts.1 (in_ends s.state s m reads.follows may)

pub none_of : (b : Bool) (rest : Option (List ℕ)) (out : List ℕ) → cond b None rest ≡ Some out → rest ≡ Some out
none_of true rest out is = absurd (false≢true (ap is_some is))
none_of false rest out is = is
