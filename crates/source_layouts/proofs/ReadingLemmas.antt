-- A layout is read as its text: what has been read of the one, byte by byte, and of the other.
use Rattle.std.proofs.Common.{◌≡◌, ℕ, ◌-◌, ◌+◌, Bool, true, false, cond, not, ◌==◌, ◌&&◌, ◌||◌, List, [], ◌∷◌, ◌++◌, refl, ap, sym, subst, ◌∙◌}
use Rattle.std.specs.Prelude.{nat_lt}
use Rattle.std.specs.Char.{is_ascii_digit}
use Rattle.std.proofs.Math.Bool.{or-true}
use Rattle.std.proofs.lemmas.Bool.{eqb-true, false≢true}
use Rattle.source_layouts.specs.declared.state.State.{State}
use Rattle.source_layouts.specs.declared.state.State.TheVariants as state
use Rattle.source_layouts.specs.Bytes.{begins_word, is_word, may_be_letter, is_blank, is_odd, is_exponent, is_raw_prefix}
use Rattle.source_layouts.specs.Reading.{Reading, goes, start, start_word, grow, grow_word, end_line, open_bracket, close_bracket, start_directive, begins, begins_beside_words, most_brackets}
use Rattle.source_layouts.specs.Reading as spec
use Rattle.source_layouts.specs.Pieces.{Mode, Scan, turns, joins, ends, ends_in, ends_line, next_line, gap, is_plain, is_number, in_code, step, step_in, scan}
use Rattle.source_layouts.specs.Pieces as piece
use Rattle.source_layouts.specs.Pieces.Mode.{Code, Percent, Slash, Text, TextEscape, Character, CharacterEscape, Remark, Block, Star, Line, LineEscape, Odd}
use Rattle.source_layouts.proofs.PieceLemmas.{scan_append, gap_mode, gap_first, gap_lined, gap_again, line_gap, line_lined, gap_at_first, gap_word, line_at_first, apart, by_byte}

-- what is read of the layout so far: whether lines count, and its bytes
abbrev pub written : Bool → List ℕ → Scan
written l o = scan (piece.start l) o

pub written_one : (l : Bool) (o : List ℕ) (c : ℕ) (m k : Scan) → written l o ≡ m → step c m ≡ k → written l (o ++ c ∷ []) ≡ k
written_one l o c m k is steps = scan_append (piece.start l) o (c ∷ []) ∙ ap (step c) is ∙ steps

-- Parameters of what follows: whether lines count, whether the line has no token, whether blanks are behind its last one, and the layout so far.

-- how the layout goes on, where the text has been read as m
pub record Stands (l e b : Bool) (o : List ℕ) (m : Scan) : Type 0 where
  pub first : m.is_first ≡ e
  pub lined : m.is_lined ≡ l
  pub blank : step 32 (written l o) ≡ gap m
  pub line : step 10 (written l o) ≡ ends_line false m
  pub tick : step 11 (written l o) ≡ next_line (gap m)
  pub mark : step 12 (written l o) ≡ gap m
  pub pend : (b && not e) ≡ true → gap m ≡ m
  pub drop : e ≡ true → written l o ≡ m
  pub code : e ≡ true → m.mode ≡ Code
  pub word : e ≡ true → m.word ≡ []

-- between two tokens
pub record Rests (l e b : Bool) (o : List ℕ) (m : Scan) : Type 0 where
  pub stands : Stands l e b o m
  pub mode : m.mode ≡ Code
  pub none : m.word ≡ []
  pub own : (b && not e) ≡ false → written l o ≡ m

-- behind a `/`
pub record Waits (l e b : Bool) (o : List ℕ) (m : Scan) : Type 0 where
  pub front : Scan
  pub stands : Stands l e b o front
  pub now : m ≡ turns Slash front
  pub own : (b && not e) ≡ false → step 47 (written l o) ≡ turns Slash front

-- in what the layout has byte for byte
pub record Copies (mode : Mode) (l e b : Bool) (o : List ℕ) (m : Scan) : Type 0 where
  pub wrote : written l o ≡ m
  pub is : m.mode ≡ mode
  pub first : m.is_first ≡ false
  pub lined : m.is_lined ≡ l
  pub empty : e ≡ false
  pub blank : b ≡ false

-- in such a token of one byte
pub record Lone (mode : Mode) (l e b : Bool) (o : List ℕ) (m : Scan) : Type 0 where
  pub copies : Copies mode l e b o m
  pub none : m.word ≡ []

abbrev pub begins_so : List ℕ → Bool
begins_so [] = false
begins_so (c ∷ cs) = begins_word c

-- in a word
pub record Spells (token : List ℕ) (l e b : Bool) (o : List ℕ) (m : Scan) : Type 0 where
  pub copies : Copies Code l e b o m
  pub word : m.word ≡ token
  pub begins : begins_so token ≡ true

-- in a comment, which is `token` so far, and may leave `ends`
pub record Leaves (mode : Mode) (token ends : List ℕ) (l e : Bool) (o : List ℕ) (m : Scan) : Type 0 where
  pub front : Scan
  pub now : m ≡ turns mode (gap front)
  pub first : front.is_first ≡ e
  pub lined : front.is_lined ≡ l
  pub none : (gap front).word ≡ []
  pub blank : step 32 (written l (o ++ ends)) ≡ gap front
  pub line : step 10 (written l (o ++ ends)) ≡ ends_line false (gap front)
  pub tick : step 11 (written l (o ++ ends)) ≡ next_line (gap front)
  pub mark : step 12 (written l (o ++ ends)) ≡ gap front
  pub drop : e ≡ true → written l (o ++ ends) ≡ gap front
  pub kept : scan (step 12 (written l o)) token ≡ m

abbrev pub FollowsIn : State → Reading → Scan → Type 0
FollowsIn state.Between s m = Rests s.is_lined s.is_empty s.has_blank s.out m
FollowsIn state.Word s m = Spells s.token s.is_lined s.is_empty s.has_blank s.out m
FollowsIn state.OtherWord s m = Copies Code s.is_lined s.is_empty s.has_blank s.out m
FollowsIn state.Number s m = Copies Code s.is_lined s.is_empty s.has_blank s.out m
FollowsIn state.Exponent s m = Copies Code s.is_lined s.is_empty s.has_blank s.out m
FollowsIn state.Dot s m = Lone Code s.is_lined s.is_empty s.has_blank s.out m
FollowsIn state.Slash s m = Waits s.is_lined s.is_empty s.has_blank s.out m
FollowsIn state.Percent s m = Lone Percent s.is_lined s.is_empty s.has_blank s.out m
FollowsIn state.Text s m = Copies Text s.is_lined s.is_empty s.has_blank s.out m
FollowsIn state.TextEscape s m = Copies TextEscape s.is_lined s.is_empty s.has_blank s.out m
FollowsIn state.Character s m = Copies Character s.is_lined s.is_empty s.has_blank s.out m
FollowsIn state.CharacterEscape s m = Copies CharacterEscape s.is_lined s.is_empty s.has_blank s.out m
FollowsIn state.LineComment s m = Leaves Remark s.token s.ends s.is_lined s.is_empty s.out m
FollowsIn state.Comment s m = Leaves Block s.token s.ends s.is_lined s.is_empty s.out m
FollowsIn state.CommentStar s m = Leaves Star s.token s.ends s.is_lined s.is_empty s.out m
FollowsIn state.CommentSlash s m = Leaves Block s.token s.ends s.is_lined s.is_empty s.out m
FollowsIn state.Hash s m = Copies Line s.is_lined s.is_empty s.has_blank s.out m
FollowsIn state.Directive s m = Copies Line s.is_lined s.is_empty s.has_blank s.out m
FollowsIn state.DirectiveEscape s m = Copies LineEscape s.is_lined s.is_empty s.has_blank s.out m
FollowsIn state.Refused s m = true ≡ true

-- a reader that has a layout so far has read in it what is read in the text
abbrev pub Follows : Reading → Scan → Type 0
Follows s m = FollowsIn s.state s m

-- ---- by cases

pub either : (b : Bool) (one other : Reading) (m : Scan) → (b ≡ true → Follows one m) → (b ≡ false → Follows other m) → Follows (cond b one other) m
either true one other m is isnt = is refl
either false one other m is isnt = isnt refl

pub both : (b : Bool) (one other : Reading) (m k : Scan) → (b ≡ true → Follows one m) → (b ≡ false → Follows other k) → Follows (cond b one other) (cond b m k)
both true one other m k is isnt = is refl
both false one other m k is isnt = isnt refl

or_none : (a b : Bool) → (a || b) ≡ false → (a ≡ false) × (b ≡ false)
or_none true b is = absurd (false≢true (sym is))
or_none false b is = (refl, is)

-- the text's side, where it's known which way it goes
goes_so : (b : Bool) (s : Reading) (m k : Scan) → b ≡ false → Follows s k → Follows s (cond b m k)
goes_so b s m k isnt is = subst (λ b. Follows s (cond b m k)) (sym isnt) is

pub never : {A : Type 0} (b : Bool) → b ≡ true → b ≡ false → A
never b is isnt = absurd (false≢true (sym isnt ∙ is))

-- ---- where the layout has all

pub stands_at : (l e b : Bool) (o : List ℕ) (m : Scan) → written l o ≡ m → m.mode ≡ Code → m.is_first ≡ e → m.is_lined ≡ l → m.word ≡ [] →
    ((b && not e) ≡ true → gap m ≡ m) → Stands l e b o m
stands_at l e b o m wrote mode first lined none pend = record {
  first = first;
  lined = lined;
  blank = ap (step 32) wrote ∙ ap (λ mode. step_in mode 32 m) mode;
  line = ap (step 10) wrote ∙ ap (λ mode. step_in mode 10 m) mode;
  tick = ap (step 11) wrote ∙ ap (λ mode. step_in mode 11 m) mode;
  mark = ap (step 12) wrote ∙ ap (λ mode. step_in mode 12 m) mode;
  pend = pend;
  drop = λ at. wrote;
  code = λ at. mode;
  word = λ at. none;
}

-- with no blank behind it
pub rests_at : (l e b : Bool) (o : List ℕ) (m : Scan) → written l o ≡ m → m.mode ≡ Code → m.is_first ≡ e → m.is_lined ≡ l → m.word ≡ [] → b ≡ false → Rests l e b o m
rests_at l e b o m wrote mode first lined none blank = record {
  stands = stands_at l e b o m wrote mode first lined none (λ both. never (b && not e) both (ap (λ b. b && not e) blank));
  mode = mode;
  none = none;
  own = λ any. wrote;
}

-- behind a token's byte
pub stands_behind : (mode : Mode) (l e b : Bool) (o : List ℕ) (m : Scan) → Copies mode l e b o m →
    step_in mode 32 m ≡ gap m → step_in mode 10 m ≡ ends_line false m → step_in mode 11 m ≡ next_line (gap m) → step_in mode 12 m ≡ gap m → Stands l e b o m
stands_behind mode l e b o m at blank line tick mark = record {
  first = at.first ∙ sym at.empty;
  lined = at.lined;
  blank = ap (step 32) at.wrote ∙ ap (λ mode. step_in mode 32 m) at.is ∙ blank;
  line = ap (step 10) at.wrote ∙ ap (λ mode. step_in mode 10 m) at.is ∙ line;
  tick = ap (step 11) at.wrote ∙ ap (λ mode. step_in mode 11 m) at.is ∙ tick;
  mark = ap (step 12) at.wrote ∙ ap (λ mode. step_in mode 12 m) at.is ∙ mark;
  pend = λ both. never (b && not e) both (ap (λ b. b && not e) at.blank);
  drop = λ is. never e is at.empty;
  code = λ is. never e is at.empty;
  word = λ is. never e is at.empty;
}

-- the layout's bytes go on with a token
grows : (mode next : Mode) (l e b : Bool) (o : List ℕ) (c : ℕ) (m : Scan) → Copies mode l e b o m → step_in mode c m ≡ joins next c m →
    Copies next l e b (o ++ c ∷ []) (joins next c m)
grows mode next l e b o c m at steps = record {
  wrote = written_one l o c m (joins next c m) at.wrote (ap (λ mode. step_in mode c m) at.is ∙ steps);
  is = refl;
  first = refl;
  lined = at.lined;
  empty = at.empty;
  blank = at.blank;
}

-- a token begins
start_written : (l e b : Bool) (o : List ℕ) (c : ℕ) (m : Scan) → Stands l e b o m →
    ((b && not e) ≡ false → step c (written l o) ≡ in_code c m) → written l (cond (b && not e) (o ++ 32 ∷ []) o ++ c ∷ []) ≡ in_code c m
start_written l e b o c m at own =
    elim (b && not e) as (λ t. (b && not e) ≡ t → written l (cond t (o ++ 32 ∷ []) o ++ c ∷ []) ≡ in_code c m) [
      | true ↦ λ both.
          written_one l (o ++ 32 ∷ []) c (gap m) (in_code c m) (written_one l o 32 (written l o) (gap m) refl at.blank)
          (ap (λ mode. step_in mode c (gap m)) (gap_mode m) ∙ ap (in_code c) (at.pend both))
      | false ↦ λ neither. scan_append (piece.start l) o (c ∷ []) ∙ own neither
    ] refl

started : (next : Mode) (l e b : Bool) (o : List ℕ) (c : ℕ) (m : Scan) → Stands l e b o m →
    ((b && not e) ≡ false → step c (written l o) ≡ in_code c m) → in_code c m ≡ joins next c m →
    Copies next l false false (cond (b && not e) (o ++ 32 ∷ []) o ++ c ∷ []) (joins next c m)
started next l e b o c m at own is = record {
  wrote = start_written l e b o c m at own ∙ is;
  is = refl;
  first = refl;
  lined = at.lined;
  empty = refl;
  blank = refl;
}

-- what has been read behind a blank
blank_follows : (l e b : Bool) (o : List ℕ) (m : Scan) → Stands l e b o m → Rests l e true o (gap m)
blank_follows l e b o m at =
    let same : e ≡ true → gap m ≡ m = λ is. gap_at_first m (at.first ∙ is) (at.code is) in
    record {
      stands = record {
        first = gap_first m ∙ at.first;
        lined = gap_lined m ∙ at.lined;
        blank = at.blank ∙ sym (gap_again m);
        line = at.line ∙ sym (line_gap m);
        tick = at.tick ∙ ap next_line (sym (gap_again m));
        mark = at.mark ∙ sym (gap_again m);
        pend = λ any. gap_again m;
        drop = λ is. at.drop is ∙ sym (same is);
        code = λ is. gap_mode m;
        word = λ is. gap_word m (λ first. at.word (sym at.first ∙ first));
      };
      mode = gap_mode m;
      none = gap_word m (λ first. at.word (sym at.first ∙ first));
      own = λ empty. at.drop (empties e empty) ∙ sym (same (empties e empty));
    }
  where
    empties : (e : Bool) → (true && not e) ≡ false → e ≡ true
    empties true is = refl
    empties false is = absurd (false≢true (sym is))

-- what has been read behind a line's end
pub line_follows : (l e b : Bool) (o : List ℕ) (m : Scan) → Stands l e b o m → Rests l true false (cond (l || not e) (o ++ 10 ∷ []) o) (ends_line false m)
line_follows l e b o m at =
    elim (l || not e) as (λ t. (l || not e) ≡ t → Rests l true false (cond t (o ++ 10 ∷ []) o) (ends_line false m)) [
      | true ↦ λ counts. rests_at l true false (o ++ 10 ∷ []) (ends_line false m) (written_one l o 10 (written l o) (ends_line false m) refl at.line) refl refl (line_lined false m ∙ at.lined) refl refl
      | false ↦ λ none.
          let parts = or_none l (not e) none in
          let empty = isnt e parts.1 in
          rests_at l true false o (ends_line false m)
          (at.drop empty ∙ sym (line_at_first m (at.first ∙ empty) (at.lined ∙ parts.0) (at.code empty) (at.word empty)))
          refl refl (line_lined false m ∙ at.lined) refl refl
    ] refl
  where
    isnt : (e : Bool) → not e ≡ false → e ≡ true
    isnt true is = refl
    isnt false is = absurd (false≢true (sym is))

copies_rest : (l e b : Bool) (o : List ℕ) (m : Scan) → Copies Code l e b o m → m.word ≡ [] → Rests l e b o m
copies_rest l e b o m at none = rests_at l e b o m at.wrote at.is (at.first ∙ sym at.empty) at.lined none at.blank

-- ---- bytes that go on with a piece

-- what a byte of code does that isn't plain
abbrev pub special : ℕ → Scan → Scan
special c s =
    cond ((c == 32) || (c == 9) || (c == 12)) (gap s) (
    cond (c == 10) (ends_line false s) (
    cond (c == 11) (next_line (gap s)) (
    cond (c == 34) (cond (is_raw_prefix s.word) (turns Odd s) (joins Text c s)) (
    cond (c == 39) (cond (is_number s.word) (turns Odd s) (joins Character c s)) (
    cond (c == 35) (cond s.is_first (joins Line c s) (joins Code c s)) (
    cond (c == 37) (cond s.is_first (joins Percent c s) (joins Code c s)) (
    cond (c == 47) (turns Slash s) (turns Odd s))))))))

pub if_true : (b : Bool) (x y : Scan) → b ≡ true → cond b x y ≡ x
if_true b x y is = ap (λ b. cond b x y) is

pub if_false : (b : Bool) (x y : Scan) → b ≡ false → cond b x y ≡ y
if_false b x y isnt = ap (λ b. cond b x y) isnt

plain_joins : (c : ℕ) (m : Scan) → is_plain c ≡ true → in_code c m ≡ joins Code c m
plain_joins c m plain = if_true (is_plain c) (joins Code c m) (special c m) plain

more : (c k : ℕ) (rest : Bool) → (c == k) ≡ false → rest ≡ true → (not (c == k) && rest) ≡ true
more c k rest other is = ap (λ b. not b && rest) other ∙ is

-- a byte is plain if a test says so that none of the others passes
plain_of : (f : ℕ → Bool) (c : ℕ) → f c ≡ true → f 32 ≡ false → f 9 ≡ false → f 10 ≡ false → f 11 ≡ false → f 12 ≡ false → f 34 ≡ false → f 35 ≡ false →
    f 37 ≡ false → f 39 ≡ false → f 47 ≡ false → f 92 ≡ false → is_plain c ≡ true
plain_of f c is a b d e g h i j k l n =
    more c 32 _ (apart f c 32 true is a) (more c 9 _ (apart f c 9 true is b) (more c 10 _ (apart f c 10 true is d) (more c 11 _ (apart f c 11 true is e) (
    more c 12 _ (apart f c 12 true is g) (more c 34 _ (apart f c 34 true is h) (more c 35 _ (apart f c 35 true is i) (more c 37 _ (apart f c 37 true is j) (
    more c 39 _ (apart f c 39 true is k) (more c 47 _ (apart f c 47 true is l) (more c 92 _ (apart f c 92 true is n) refl))))))))))

letter_plain : (c : ℕ) → (is_word c || may_be_letter c) ≡ true → is_plain c ≡ true
letter_plain c is = plain_of (λ c. is_word c || may_be_letter c) c is refl refl refl refl refl refl refl refl refl refl refl

number_plain : (c : ℕ) → (is_word c || may_be_letter c || (c == 46)) ≡ true → is_plain c ≡ true
number_plain c is = plain_of (λ c. is_word c || may_be_letter c || (c == 46)) c is refl refl refl refl refl refl refl refl refl refl refl

-- the first of some tests fails if none passes
pub first_fails : (a rest : Bool) → ((a ≡ true) → rest ≡ true) → rest ≡ false → a ≡ false
first_fails true rest would none = sym (would refl) ∙ none
first_fails false rest would none = refl

not_word : (c : ℕ) → begins_word c ≡ false → is_ascii_digit c ≡ false → is_word c ≡ false
not_word c no_letter no_digit = ap (λ a. a || is_ascii_digit c) no_letter ∙ no_digit

leaves_no_word : (mode : Mode) (c : ℕ) (m : Scan) → is_word c ≡ false → (joins mode c m).word ≡ []
leaves_no_word mode c m no_word = ap (λ b. cond b (m.word ++ c ∷ []) []) no_word

-- ---- what begins

pub record Sure (c : ℕ) (l e b : Bool) (o : List ℕ) (m : Scan) : Type 0 where
  pub own : (b && not e) ≡ false → step c (written l o) ≡ in_code c m
  pub raw : (c == 34) ≡ true → is_raw_prefix m.word ≡ false
  pub number : (c == 39) ≡ true → is_number m.word ≡ false
  pub fresh : begins_word c ≡ true → m.word ≡ []

abbrev pub StandsAt : Reading → Scan → Type 0
StandsAt s m = Stands s.is_lined s.is_empty s.has_blank s.out m

abbrev pub SureAt : ℕ → Reading → Scan → Type 0
SureAt c s m = Sure c s.is_lined s.is_empty s.has_blank s.out m

abbrev pub behind : ℕ → Reading → List ℕ
behind c s = cond (s.has_blank && not s.is_empty) (s.out ++ 32 ∷ []) s.out ++ c ∷ []

-- a token begins that has this mode
starts : (next : Mode) (c : ℕ) (s : Reading) (m : Scan) → StandsAt s m → SureAt c s m → in_code c m ≡ joins next c m →
    Copies next s.is_lined false false (behind c s) (joins next c m)
starts next c s m at sure is = started next s.is_lined s.is_empty s.has_blank s.out c m at sure.own is

-- a lone byte
lone_follows : (c : ℕ) (s : Reading) (m : Scan) → StandsAt s m → SureAt c s m → in_code c m ≡ joins Code c m → is_word c ≡ false →
    Rests s.is_lined false false (behind c s) (joins Code c m)
lone_follows c s m at sure is no_word =
    copies_rest s.is_lined false false (behind c s) (joins Code c m) (starts Code c s m at sure is) (leaves_no_word Code c m no_word)

dot_follows : (mode : Mode) (c : ℕ) (s : Reading) (m : Scan) → StandsAt s m → SureAt c s m → in_code c m ≡ joins mode c m → is_word c ≡ false →
    Lone mode s.is_lined false false (behind c s) (joins mode c m)
dot_follows mode c s m at sure is no_word = record { copies = starts mode c s m at sure is; none = leaves_no_word mode c m no_word }

word_follows : (c : ℕ) (s : Reading) (m : Scan) → StandsAt s m → SureAt c s m → in_code c m ≡ joins Code c m → s.token ≡ [] → begins_word c ≡ true →
    Spells (s.token ++ c ∷ []) s.is_lined false false (behind c s) (joins Code c m)
word_follows c s m at sure is none letter = record {
  copies = starts Code c s m at sure is;
  word =
      ap (λ b. cond b (m.word ++ c ∷ []) []) (ap (λ a. a || is_ascii_digit c) letter)
      ∙ ap (λ (word : List ℕ). word ++ c ∷ []) (sure.fresh letter ∙ sym none);
  begins = ap (λ (token : List ℕ). begins_so (token ++ c ∷ [])) none ∙ letter;
}

-- what a byte beside words does, by the tests that fail before it
abbrev from_bracket : ℕ → Reading → Reading
from_bracket c s =
    cond (c == 40) (open_bracket c s) (cond (c == 41) (close_bracket c s) (cond (is_odd c) (goes state.Refused s) (start state.Between c s)))

abbrev from_percent : ℕ → Reading → Reading
from_percent c s = cond ((c == 37) && s.is_empty) (start state.Percent c s) (from_bracket c s)

abbrev from_hash : ℕ → Reading → Reading
from_hash c s = cond ((c == 35) && s.is_empty) (start_directive state.Hash c s) (from_percent c s)

abbrev from_character : ℕ → Reading → Reading
from_character c s = cond (c == 39) (start state.Character c s) (from_hash c s)

abbrev from_text : ℕ → Reading → Reading
from_text c s = cond (c == 34) (start state.Text c s) (from_character c s)

abbrev from_dot : ℕ → Reading → Reading
from_dot c s = cond (c == 46) (start state.Dot c s) (from_text c s)

abbrev from_slash : ℕ → Reading → Reading
from_slash c s = cond (c == 47) (goes state.Slash s) (from_dot c s)

skips : (b : Bool) (one other : Reading) (m : Scan) → b ≡ false → Follows other m → Follows (cond b one other) m
skips b one other m isnt is = subst (λ b. Follows (cond b one other) m) (sym isnt) is

bracket_follows : (c : ℕ) (s : Reading) (m : Scan) → Rests s.is_lined false false (behind c s) m → Follows (from_bracket c s) m
bracket_follows c s m lone =
    either (c == 40) (open_bracket c s) (cond (c == 41) (close_bracket c s) (cond (is_odd c) (goes state.Refused s) (start state.Between c s))) m
    (λ is. either s.is_lined (start state.Between c s)
    (cond (nat_lt s.depth most_brackets) (record (start state.Between c s) { depth = s.depth + 1 }) (goes state.Refused s)) m (λ is. lone)
    (λ is. either (nat_lt s.depth most_brackets) (record (start state.Between c s) { depth = s.depth + 1 }) (goes state.Refused s) m (λ is. lone) (λ is. refl)))
    (λ is. either (c == 41) (close_bracket c s) (cond (is_odd c) (goes state.Refused s) (start state.Between c s)) m
    (λ is. either s.is_lined (start state.Between c s)
    (cond (s.depth == 0) (goes state.Refused s) (record (start state.Between c s) { depth = s.depth - 1 })) m (λ is. lone)
    (λ is. either (s.depth == 0) (goes state.Refused s) (record (start state.Between c s) { depth = s.depth - 1 }) m (λ is. refl) (λ is. lone)))
    (λ is. either (is_odd c) (goes state.Refused s) (start state.Between c s) m (λ is. refl) (λ is. lone)))

not_and : (a b : Bool) → a ≡ false → (a && b) ≡ false
not_and a b isnt = ap (λ a. a && b) isnt

plain_beside : (c : ℕ) (s : Reading) (m : Scan) → StandsAt s m → SureAt c s m → is_plain c ≡ true → is_word c ≡ false →
    Follows (begins_beside_words c s) (joins Code c m)
plain_beside c s m at sure plain no_word =
    skips (c == 10) (end_line s) (from_slash c s) (joins Code c m) (apart is_plain c 10 true plain refl)
    (skips (c == 47) (goes state.Slash s) (from_dot c s) (joins Code c m) (apart is_plain c 47 true plain refl)
    (either (c == 46) (start state.Dot c s) (from_text c s) (joins Code c m) (λ is. dot_follows Code c s m at sure (plain_joins c m plain) no_word) (λ is.
    skips (c == 34) (start state.Text c s) (from_character c s) (joins Code c m) (apart is_plain c 34 true plain refl)
    (skips (c == 39) (start state.Character c s) (from_hash c s) (joins Code c m) (apart is_plain c 39 true plain refl)
    (skips ((c == 35) && s.is_empty) (start_directive state.Hash c s) (from_percent c s) (joins Code c m) (not_and (c == 35) s.is_empty (apart is_plain c 35 true plain refl))
    (skips ((c == 37) && s.is_empty) (start state.Percent c s) (from_bracket c s) (joins Code c m) (not_and (c == 37) s.is_empty (apart is_plain c 37 true plain refl))
    (bracket_follows c s (joins Code c m) (lone_follows c s m at sure (plain_joins c m plain) no_word))))))))

abbrev from_digit : ℕ → Reading → Reading
from_digit c s = cond (is_ascii_digit c) (start state.Number c s) (begins_beside_words c s)

abbrev from_letter : ℕ → Reading → Reading
from_letter c s = cond (may_be_letter c) (start state.OtherWord c s) (from_digit c s)

abbrev from_word : ℕ → Reading → Reading
from_word c s = cond (begins_word c) (start_word c s) (from_letter c s)

plain_begins : (c : ℕ) (s : Reading) (m : Scan) → StandsAt s m → SureAt c s m → s.token ≡ [] → is_plain c ≡ true →
    Follows (begins c s) (joins Code c m)
plain_begins c s m at sure none plain =
    skips (is_blank c) (record s { state = state.Between; has_blank = true }) (from_word c s) (joins Code c m)
    (ap (λ a. a || (c == 9)) (apart is_plain c 32 true plain refl) ∙ apart is_plain c 9 true plain refl)
    (either (begins_word c) (start_word c s) (from_letter c s) (joins Code c m) (λ letter. word_follows c s m at sure (plain_joins c m plain) none letter) (λ no_letter.
    either (may_be_letter c) (start state.OtherWord c s) (from_digit c s) (joins Code c m) (λ is. starts Code c s m at sure (plain_joins c m plain)) (λ isnt.
    either (is_ascii_digit c) (start state.Number c s) (begins_beside_words c s) (joins Code c m) (λ is. starts Code c s m at sure (plain_joins c m plain)) (λ no_digit.
    plain_beside c s m at sure plain (not_word c no_letter no_digit)))))

begins_directive : (s : Reading) (m : Scan) → StandsAt s m → SureAt 35 s m → m.is_first ≡ true → Follows (start_directive state.Hash 35 s) (joins Line 35 m)
begins_directive s m at sure first =
    either (s.is_lined || (s.depth == 0)) (record (start state.Hash 35 s) { last = 0; is_open = false }) (goes state.Refused s) (joins Line 35 m)
    (λ is. starts Line 35 s m at sure (if_true m.is_first (joins Line 35 m) (joins Code 35 m) first)) (λ isnt. refl)

hash_follows : (s : Reading) (m : Scan) → StandsAt s m → SureAt 35 s m → Follows (begins 35 s) (in_code 35 m)
hash_follows s m at sure =
    subst (λ b. Follows (cond s.is_empty (start_directive state.Hash 35 s) (start state.Between 35 s)) (cond b (joins Line 35 m) (joins Code 35 m))) (sym at.first)
    (both s.is_empty (start_directive state.Hash 35 s) (start state.Between 35 s) (joins Line 35 m) (joins Code 35 m)
    (λ is. begins_directive s m at sure (at.first ∙ is))
    (λ isnt. lone_follows 35 s m at sure (if_false m.is_first (joins Line 35 m) (joins Code 35 m) (at.first ∙ isnt)) refl))

percent_follows : (s : Reading) (m : Scan) → StandsAt s m → SureAt 37 s m → Follows (begins 37 s) (in_code 37 m)
percent_follows s m at sure =
    subst (λ b. Follows (cond s.is_empty (start state.Percent 37 s) (start state.Between 37 s)) (cond b (joins Percent 37 m) (joins Code 37 m))) (sym at.first)
    (both s.is_empty (start state.Percent 37 s) (start state.Between 37 s) (joins Percent 37 m) (joins Code 37 m)
    (λ is. dot_follows Percent 37 s m at sure (if_true m.is_first (joins Percent 37 m) (joins Code 37 m) (at.first ∙ is)) refl)
    (λ isnt. lone_follows 37 s m at sure (if_false m.is_first (joins Percent 37 m) (joins Code 37 m) (at.first ∙ isnt)) refl))

text_follows : (s : Reading) (m : Scan) → StandsAt s m → SureAt 34 s m → Follows (begins 34 s) (in_code 34 m)
text_follows s m at sure =
    subst (λ b. Follows (start state.Text 34 s) (cond b (turns Odd m) (joins Text 34 m))) (sym (sure.raw refl))
    (starts Text 34 s m at sure (if_false (is_raw_prefix m.word) (turns Odd m) (joins Text 34 m) (sure.raw refl)))

character_follows : (s : Reading) (m : Scan) → StandsAt s m → SureAt 39 s m → Follows (begins 39 s) (in_code 39 m)
character_follows s m at sure =
    subst (λ b. Follows (start state.Character 39 s) (cond b (turns Odd m) (joins Character 39 m))) (sym (sure.number refl))
    (starts Character 39 s m at sure (if_false (is_number m.word) (turns Odd m) (joins Character 39 m) (sure.number refl)))

slash_follows : (s : Reading) (m : Scan) → StandsAt s m → SureAt 47 s m → Follows (begins 47 s) (in_code 47 m)
slash_follows s m at sure = record { front = m; stands = at; now = refl; own = sure.own }

gap_follows : (s : Reading) (m : Scan) → StandsAt s m → Rests s.is_lined s.is_empty true s.out (gap m)
gap_follows s m at = blank_follows s.is_lined s.is_empty s.has_blank s.out m at

-- what a byte does that is in no token
pub begins_follows : (c : ℕ) (s : Reading) (m : Scan) → StandsAt s m → SureAt c s m → s.token ≡ [] → Follows (begins c s) (in_code c m)
begins_follows c s m at sure none =
    by_byte (λ c. SureAt c s m → Follows (begins c s) (in_code c m)) c
    (λ sure. gap_follows s m at) (λ sure. gap_follows s m at) (λ sure. line_follows s.is_lined s.is_empty s.has_blank s.out m at)
    (λ sure. refl) (λ sure. refl) (text_follows s m at) (hash_follows s m at) (percent_follows s m at) (character_follows s m at) (slash_follows s m at)
    (λ sure. refl)
    (λ plain sure. subst (λ k. Follows (begins c s) k) (sym (plain_joins c m plain)) (plain_begins c s m at sure none plain))
    sure

-- ---- in a token

-- from the text's side, a byte does what it does in the mode that is known
pub in_mode : (mode : Mode) (r : Reading) (c : ℕ) (m : Scan) → m.mode ≡ mode → Follows r (step_in mode c m) → Follows r (step c m)
in_mode mode r c m is follows = subst (λ mode. Follows r (step_in mode c m)) (sym is) follows

-- a byte goes on with what the layout has byte for byte
pub grows_so : (mode next : Mode) (c : ℕ) (s : Reading) (m : Scan) → Copies mode s.is_lined s.is_empty s.has_blank s.out m → step_in mode c m ≡ joins next c m →
    Copies next s.is_lined s.is_empty s.has_blank (s.out ++ c ∷ []) (joins next c m)
grows_so mode next c s m at steps = grows mode next s.is_lined s.is_empty s.has_blank s.out c m at steps

-- in code, a plain byte goes on
grows_plain : (c : ℕ) (s : Reading) (m : Scan) (r : Reading) → Copies Code s.is_lined s.is_empty s.has_blank s.out m → is_plain c ≡ true →
    (Copies Code s.is_lined s.is_empty s.has_blank (s.out ++ c ∷ []) (joins Code c m) → Follows r (joins Code c m)) → Follows r (in_code c m)
grows_plain c s m r at plain follows =
    subst (λ k. Follows r k) (sym (plain_joins c m plain)) (follows (grows_so Code Code c s m at (plain_joins c m plain)))

stands_in_code : (s : Reading) (m : Scan) → Copies Code s.is_lined s.is_empty s.has_blank s.out m → StandsAt s m
stands_in_code s m at = stands_behind Code s.is_lined s.is_empty s.has_blank s.out m at refl refl refl refl

own_in_code : (c : ℕ) (s : Reading) (m : Scan) → Copies Code s.is_lined s.is_empty s.has_blank s.out m → step c (written s.is_lined s.out) ≡ in_code c m
own_in_code c s m at = ap (step c) at.wrote ∙ ap (λ mode. step_in mode c m) at.is

begins_on : (token : List ℕ) (c : ℕ) → begins_so token ≡ true → begins_so (token ++ c ∷ []) ≡ true
begins_on [] c is = absurd (false≢true is)
begins_on (d ∷ ds) c is = is

no_number : (token : List ℕ) → begins_so token ≡ true → is_number token ≡ false
no_number [] is = refl
no_number (d ∷ ds) is = ap (λ b. not b) is

second_fails : (a b : Bool) → (a && b) ≡ false → a ≡ true → b ≡ false
second_fails true b none is = none
second_fails false b none is = absurd (false≢true is)

no_letter : (c : ℕ) {A : Type 0} → begins_word c ≡ true → is_word c ≡ false → A
no_letter c is isnt = never (is_word c) (ap (λ a. a || is_ascii_digit c) is) isnt

word_sure : (c : ℕ) (s : Reading) (m : Scan) → FollowsIn state.Word s m → is_word c ≡ false → ((c == 34) && is_raw_prefix s.token) ≡ false → SureAt c s m
word_sure c s m at no_word none = record {
  own = λ any. own_in_code c s m at.copies;
  raw = λ is. ap is_raw_prefix at.word ∙ second_fails (c == 34) (is_raw_prefix s.token) none is;
  number = λ is. ap is_number at.word ∙ no_number s.token at.begins;
  fresh = λ is. no_letter c is no_word;
}

-- no quote, and no letter
quiet_sure : (c : ℕ) (s : Reading) (m : Scan) → FollowsIn state.Number s m → is_word c ≡ false → ((c == 34) || (c == 39)) ≡ false → SureAt c s m
quiet_sure c s m at no_word none =
    let parts = or_none (c == 34) (c == 39) none in
    record {
      own = λ any. own_in_code c s m at;
      raw = λ is. never (c == 34) is parts.0;
      number = λ is. never (c == 39) is parts.1;
      fresh = λ is. no_letter c is no_word;
    }

pub bare_sure : (c : ℕ) (s : Reading) (m : Scan) → ((s.has_blank && not s.is_empty) ≡ false → step c (written s.is_lined s.out) ≡ in_code c m) → m.word ≡ [] → SureAt c s m
bare_sure c s m own none = record {
  own = own;
  raw = λ is. ap is_raw_prefix none;
  number = λ is. ap is_number none;
  fresh = λ is. none;
}

pub between : (c : ℕ) (s : Reading) (m : Scan) → FollowsIn state.Between s m → s.token ≡ [] → Follows (begins c s) (step c m)
between c s m at none =
    in_mode Code (begins c s) c m at.mode
    (begins_follows c s m at.stands
    (bare_sure c s m (λ no_gap. ap (step c) (at.own no_gap) ∙ ap (λ mode. step_in mode c m) at.mode) at.none) none)

spells_on : (c : ℕ) (s : Reading) (m : Scan) → FollowsIn state.Word s m → is_word c ≡ true →
    Copies Code s.is_lined s.is_empty s.has_blank (s.out ++ c ∷ []) (joins Code c m) →
    Spells (s.token ++ c ∷ []) s.is_lined s.is_empty s.has_blank (s.out ++ c ∷ []) (joins Code c m)
spells_on c s m at is copies = record {
  copies = copies;
  word = ap (λ b. cond b (m.word ++ c ∷ []) []) is ∙ ap (λ (word : List ℕ). word ++ c ∷ []) at.word;
  begins = begins_on s.token c at.begins;
}

abbrev unnamed : Reading → Reading
unnamed s = record s { token = [] }

pub in_word : (c : ℕ) (s : Reading) (m : Scan) → FollowsIn state.Word s m → Follows (spec.in_word c s) (step c m)
in_word c s m at =
    in_mode Code (spec.in_word c s) c m at.copies.is
    (either (is_word c) (grow_word c s)
    (cond ((c == 34) && is_raw_prefix s.token) (goes state.Refused s) (cond (may_be_letter c) (grow state.OtherWord c (unnamed s)) (begins c (unnamed s)))) (in_code c m)
    (λ is. grows_plain c s m (grow_word c s) at.copies (letter_plain c (ap (λ a. a || may_be_letter c) is)) (spells_on c s m at is))
    (λ no_word. either ((c == 34) && is_raw_prefix s.token) (goes state.Refused s)
    (cond (may_be_letter c) (grow state.OtherWord c (unnamed s)) (begins c (unnamed s))) (in_code c m)
    (λ is. refl)
    (λ none. either (may_be_letter c) (grow state.OtherWord c (unnamed s)) (begins c (unnamed s)) (in_code c m)
    (λ is. grows_plain c s m (grow state.OtherWord c (unnamed s)) at.copies (letter_plain c (ap (λ a. a || may_be_letter c) no_word ∙ is)) (λ copies. copies))
    (λ isnt. begins_follows c (unnamed s) m (stands_in_code s m at.copies) (own_of (word_sure c s m at no_word none)) refl))))
  where
    own_of : SureAt c s m → SureAt c (unnamed s) m
    own_of sure = sure

pub in_other_word : (c : ℕ) (s : Reading) (m : Scan) → FollowsIn state.OtherWord s m → s.token ≡ [] → Follows (spec.in_other_word c s) (step c m)
in_other_word c s m at none =
    in_mode Code (spec.in_other_word c s) c m at.is
    (either ((c == 34) || (c == 39)) (goes state.Refused s) (cond (is_word c || may_be_letter c) (grow state.OtherWord c s) (begins c s)) (in_code c m)
    (λ is. refl)
    (λ quiet. either (is_word c || may_be_letter c) (grow state.OtherWord c s) (begins c s) (in_code c m)
    (λ is. grows_plain c s m (grow state.OtherWord c s) at (letter_plain c is) (λ copies. copies))
    (λ other. begins_follows c s m (stands_in_code s m at) (quiet_sure c s m at (or_none (is_word c) (may_be_letter c) other).0 quiet) none)))

pub in_number : (c : ℕ) (s : Reading) (m : Scan) → FollowsIn state.Number s m → s.token ≡ [] → Follows (spec.in_number c s) (in_code c m)
in_number c s m at none =
    either (is_exponent c) (grow state.Exponent c s)
    (cond (is_word c || may_be_letter c || (c == 46)) (grow state.Number c s) (cond ((c == 34) || (c == 39)) (goes state.Refused s) (begins c s))) (in_code c m)
    (λ is. grows_plain c s m (grow state.Exponent c s) at (plain_of is_exponent c is refl refl refl refl refl refl refl refl refl refl refl) (λ copies. copies))
    (λ isnt. either (is_word c || may_be_letter c || (c == 46)) (grow state.Number c s) (cond ((c == 34) || (c == 39)) (goes state.Refused s) (begins c s)) (in_code c m)
    (λ is. grows_plain c s m (grow state.Number c s) at (number_plain c is) (λ copies. copies))
    (λ other. either ((c == 34) || (c == 39)) (goes state.Refused s) (begins c s) (in_code c m)
    (λ is. refl)
    (λ quiet. begins_follows c s m (stands_in_code s m at)
    (quiet_sure c s m at (first_fails (is_word c) (is_word c || may_be_letter c || (c == 46)) (λ is. ap (λ a. a || may_be_letter c || (c == 46)) is) other) quiet) none)))

pub in_exponent : (c : ℕ) (s : Reading) (m : Scan) → FollowsIn state.Number s m → s.token ≡ [] → Follows (spec.in_exponent c s) (in_code c m)
in_exponent c s m at none =
    either ((c == 43) || (c == 45)) (grow state.Number c s) (spec.in_number c s) (in_code c m)
    (λ is. grows_plain c s m (grow state.Number c s) at
    (plain_of (λ c. (c == 43) || (c == 45)) c is refl refl refl refl refl refl refl refl refl refl refl) (λ copies. copies))
    (λ isnt. in_number c s m at none)

pub behind_dot : (c : ℕ) (s : Reading) (m : Scan) → FollowsIn state.Dot s m → s.token ≡ [] → Follows (spec.behind_dot c s) (step c m)
behind_dot c s m at none =
    in_mode Code (spec.behind_dot c s) c m at.copies.is
    (either (is_ascii_digit c) (grow state.Number c s) (begins c s) (in_code c m)
    (λ is. grows_plain c s m (grow state.Number c s) at.copies (plain_of is_ascii_digit c is refl refl refl refl refl refl refl refl refl refl refl) (λ copies. copies))
    (λ isnt. begins_follows c s m (stands_in_code s m at.copies) (bare_sure c s m (λ any. own_in_code c s m at.copies) at.none) none))

pub behind_percent : (c : ℕ) (s : Reading) (m : Scan) → FollowsIn state.Percent s m → s.token ≡ [] → Follows (spec.behind_percent c s) (step c m)
behind_percent c s m at none =
    in_mode Percent (spec.behind_percent c s) c m at.copies.is
    (both (c == 58)
    (cond (s.is_lined || (s.depth == 0)) (record s { state = state.Hash; last = 0; is_open = false; out = s.out ++ c ∷ [] }) (goes state.Refused s))
    (begins c s) (joins Line c m) (in_code c m)
    (λ is. either (s.is_lined || (s.depth == 0)) (record s { state = state.Hash; last = 0; is_open = false; out = s.out ++ c ∷ [] }) (goes state.Refused s) (joins Line c m)
    (λ counts. grows_so Percent Line c s m at.copies (if_true (c == 58) (joins Line c m) (in_code c m) is)) (λ isnt. refl))
    (λ isnt. begins_follows c s m
    (stands_behind Percent s.is_lined s.is_empty s.has_blank s.out m at.copies refl refl refl refl)
    (bare_sure c s m
    (λ any. ap (step c) at.copies.wrote ∙ ap (λ mode. step_in mode c m) at.copies.is ∙ if_false (c == 58) (joins Line c m) (in_code c m) isnt) at.none)
    none))

-- ---- in a literal

closes_literal : (quote c : ℕ) (inside : Mode) (s : Reading) (m : Scan) → Copies inside s.is_lined s.is_empty s.has_blank s.out m →
    step_in inside c m ≡ joins Code c m → (c == quote) ≡ true → is_word quote ≡ false →
    Rests s.is_lined s.is_empty s.has_blank (s.out ++ c ∷ []) (joins Code c m)
closes_literal quote c inside s m at steps is no_word =
    copies_rest s.is_lined s.is_empty s.has_blank (s.out ++ c ∷ []) (joins Code c m) (grows_so inside Code c s m at steps)
    (leaves_no_word Code c m (ap is_word (eqb-true c quote is) ∙ no_word))

no_line : (c : ℕ) (other : Bool) → ((c == 10) ≡ true → other ≡ true) → other ≡ false → (c == 10) ≡ false
no_line c other would none = first_fails (c == 10) other would none

pub in_string : (c : ℕ) (s : Reading) (m : Scan) → s.state ≡ state.Text → FollowsIn state.Text s m → Follows (spec.quoted 34 state.TextEscape c s) (step c m)
in_string c s m is_text at =
    in_mode Text (spec.quoted 34 state.TextEscape c s) c m at.is
    (both (c == 34) (grow state.Between c s)
    (cond (c == 92) (grow state.TextEscape c s) (cond ((c == 10) || (c == 13) || (c == 0)) (goes state.Refused s) (grow s.state c s)))
    (joins Code c m) (cond (c == 92) (joins TextEscape c m) (cond (c == 10) (turns Odd m) (joins Text c m)))
    (λ is. closes_literal 34 c Text s m at (if_true (c == 34) (joins Code c m) (cond (c == 92) (joins TextEscape c m) (cond (c == 10) (turns Odd m) (joins Text c m))) is) is refl)
    (λ isnt. both (c == 92) (grow state.TextEscape c s) (cond ((c == 10) || (c == 13) || (c == 0)) (goes state.Refused s) (grow s.state c s))
    (joins TextEscape c m) (cond (c == 10) (turns Odd m) (joins Text c m))
    (λ is. grows_so Text TextEscape c s m at (
    if_false (c == 34) (joins Code c m) (cond (c == 92) (joins TextEscape c m) (cond (c == 10) (turns Odd m) (joins Text c m))) isnt
    ∙ if_true (c == 92) (joins TextEscape c m) (cond (c == 10) (turns Odd m) (joins Text c m)) is))
    (λ no_slash. either ((c == 10) || (c == 13) || (c == 0)) (goes state.Refused s) (grow s.state c s) (cond (c == 10) (turns Odd m) (joins Text c m))
    (λ is. refl)
    (λ none.
    let no = no_line c ((c == 10) || (c == 13) || (c == 0)) (λ is. ap (λ a. a || (c == 13) || (c == 0)) is) none in
    goes_so (c == 10) (grow s.state c s) (turns Odd m) (joins Text c m) no
    (subst (λ state. Follows (grow state c s) (joins Text c m)) (sym is_text) (grows_so Text Text c s m at (
    if_false (c == 34) (joins Code c m) (cond (c == 92) (joins TextEscape c m) (cond (c == 10) (turns Odd m) (joins Text c m))) isnt
    ∙ if_false (c == 92) (joins TextEscape c m) (cond (c == 10) (turns Odd m) (joins Text c m)) no_slash
    ∙ if_false (c == 10) (turns Odd m) (joins Text c m) no)))))))

pub in_character : (c : ℕ) (s : Reading) (m : Scan) → s.state ≡ state.Character → FollowsIn state.Character s m → Follows (spec.quoted 39 state.CharacterEscape c s) (step c m)
in_character c s m is_character at =
    in_mode Character (spec.quoted 39 state.CharacterEscape c s) c m at.is
    (both (c == 39) (grow state.Between c s)
    (cond (c == 92) (grow state.CharacterEscape c s) (cond ((c == 10) || (c == 13) || (c == 0)) (goes state.Refused s) (grow s.state c s)))
    (joins Code c m) (cond (c == 92) (joins CharacterEscape c m) (cond (c == 10) (turns Odd m) (joins Character c m)))
    (λ is. closes_literal 39 c Character s m at
    (if_true (c == 39) (joins Code c m) (cond (c == 92) (joins CharacterEscape c m) (cond (c == 10) (turns Odd m) (joins Character c m))) is) is refl)
    (λ isnt. both (c == 92) (grow state.CharacterEscape c s) (cond ((c == 10) || (c == 13) || (c == 0)) (goes state.Refused s) (grow s.state c s))
    (joins CharacterEscape c m) (cond (c == 10) (turns Odd m) (joins Character c m))
    (λ is. grows_so Character CharacterEscape c s m at (
    if_false (c == 39) (joins Code c m) (cond (c == 92) (joins CharacterEscape c m) (cond (c == 10) (turns Odd m) (joins Character c m))) isnt
    ∙ if_true (c == 92) (joins CharacterEscape c m) (cond (c == 10) (turns Odd m) (joins Character c m)) is))
    (λ no_slash. either ((c == 10) || (c == 13) || (c == 0)) (goes state.Refused s) (grow s.state c s) (cond (c == 10) (turns Odd m) (joins Character c m))
    (λ is. refl)
    (λ none.
    let no = no_line c ((c == 10) || (c == 13) || (c == 0)) (λ is. ap (λ a. a || (c == 13) || (c == 0)) is) none in
    goes_so (c == 10) (grow s.state c s) (turns Odd m) (joins Character c m) no
    (subst (λ state. Follows (grow state c s) (joins Character c m)) (sym is_character) (grows_so Character Character c s m at (
    if_false (c == 39) (joins Code c m) (cond (c == 92) (joins CharacterEscape c m) (cond (c == 10) (turns Odd m) (joins Character c m))) isnt
    ∙ if_false (c == 92) (joins CharacterEscape c m) (cond (c == 10) (turns Odd m) (joins Character c m)) no_slash
    ∙ if_false (c == 10) (turns Odd m) (joins Character c m) no)))))))

-- behind a backslash in a literal
is_escaped : (c : ℕ) → ((c == 10) || (c == 13) || is_blank c) ≡ false → (c == 10) ≡ false
is_escaped c none = no_line c ((c == 10) || (c == 13) || is_blank c) (λ is. ap (λ a. a || (c == 13) || is_blank c) is) none

pub behind_escape : (c : ℕ) (s : Reading) (m : Scan) → FollowsIn state.TextEscape s m → Follows (spec.escaped state.Text c s) (step c m)
behind_escape c s m at =
    in_mode TextEscape (spec.escaped state.Text c s) c m at.is
    (either ((c == 10) || (c == 13) || is_blank c) (goes state.Refused s) (grow state.Text c s) (cond (c == 10) (turns Odd m) (joins Text c m))
    (λ is. refl)
    (λ none. goes_so (c == 10) (grow state.Text c s) (turns Odd m) (joins Text c m) (is_escaped c none)
    (grows_so TextEscape Text c s m at (if_false (c == 10) (turns Odd m) (joins Text c m) (is_escaped c none)))))

pub behind_character_escape : (c : ℕ) (s : Reading) (m : Scan) → FollowsIn state.CharacterEscape s m → Follows (spec.escaped state.Character c s) (step c m)
behind_character_escape c s m at =
    in_mode CharacterEscape (spec.escaped state.Character c s) c m at.is
    (either ((c == 10) || (c == 13) || is_blank c) (goes state.Refused s) (grow state.Character c s) (cond (c == 10) (turns Odd m) (joins Character c m))
    (λ is. refl)
    (λ none. goes_so (c == 10) (grow state.Character c s) (turns Odd m) (joins Character c m) (is_escaped c none)
    (grows_so CharacterEscape Character c s m at (if_false (c == 10) (turns Odd m) (joins Character c m) (is_escaped c none)))))

-- ---- in a directive

ends_directive : (mode : Mode) (s : Reading) (m : Scan) → Copies mode s.is_lined s.is_empty s.has_blank s.out m → step_in mode 10 m ≡ ends_line true m →
    Follows (end_line s) (ends_line true m)
ends_directive mode s m at steps =
    rests_at s.is_lined true false (cond (s.is_lined || not s.is_empty) (s.out ++ 10 ∷ []) s.out) (ends_line true m)
    (ap (λ e. written s.is_lined (cond (s.is_lined || not e) (s.out ++ 10 ∷ []) s.out)) at.empty
    ∙ ap (λ b. written s.is_lined (cond b (s.out ++ 10 ∷ []) s.out)) (or-true s.is_lined)
    ∙ written_one s.is_lined s.out 10 m (ends_line true m) at.wrote (ap (λ mode. step_in mode 10 m) at.is ∙ steps))
    refl refl (line_lined true m ∙ at.lined) refl refl

pub in_directive : (mode : Mode) (c : ℕ) (s : Reading) (m : Scan) → Copies mode s.is_lined s.is_empty s.has_blank s.out m → step_in mode c m ≡ piece.in_line c m →
    Follows (spec.in_directive c s) (piece.in_line c m)
in_directive mode c s m at steps =
    both (c == 10) (cond s.is_open (goes state.Refused s) (end_line s))
    (cond (c == 92) (grow state.DirectiveEscape c s) (cond (is_odd c || ((c == 34) && (s.last == 82))) (goes state.Refused s) (spec.grow_directive c s)))
    (ends_line true m) (cond (c == 92) (joins LineEscape c m) (joins Line c m))
    (λ is. either s.is_open (goes state.Refused s) (end_line s) (ends_line true m) (λ is. refl)
    (λ isnt. ends_directive mode s m at (subst (λ d. step_in mode d m ≡ piece.in_line d m) (eqb-true c 10 is) steps)))
    (λ isnt. both (c == 92) (grow state.DirectiveEscape c s)
    (cond (is_odd c || ((c == 34) && (s.last == 82))) (goes state.Refused s) (spec.grow_directive c s)) (joins LineEscape c m) (joins Line c m)
    (λ is. grows_so mode LineEscape c s m at (steps
    ∙ if_false (c == 10) (ends_line true m) (cond (c == 92) (joins LineEscape c m) (joins Line c m)) isnt ∙ if_true (c == 92) (joins LineEscape c m) (joins Line c m) is))
    (λ no_slash. either (is_odd c || ((c == 34) && (s.last == 82))) (goes state.Refused s) (spec.grow_directive c s) (joins Line c m) (λ odd. refl)
    (λ even. grows_so mode Line c s m at (steps
    ∙ if_false (c == 10) (ends_line true m) (cond (c == 92) (joins LineEscape c m) (joins Line c m)) isnt
    ∙ if_false (c == 92) (joins LineEscape c m) (joins Line c m) no_slash))))
