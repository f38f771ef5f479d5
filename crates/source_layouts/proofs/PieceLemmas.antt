-- How a text and its layout are read: alike, byte by byte.
use Rattle.std.proofs.Common.{◌≡◌, ℕ, ◌+◌, Bool, true, false, cond, not, ◌==◌, ◌&&◌, List, [], ◌∷◌, ◌++◌, refl, ap, sym, subst, ◌∙◌}
use Rattle.std.proofs.lemmas.Bool.{eqb-true}
use Rattle.source_layouts.specs.Pieces.{Mode, Scan, turns, ends_in, ends_line, next_line, gap, is_plain, step, scan}
use Rattle.source_layouts.specs.Pieces.Mode.{Code}

pub scan_append : (s : Scan) (front rest : List ℕ) → scan s (front ++ rest) ≡ scan (scan s front) rest
scan_append s [] rest = refl
scan_append s (c ∷ cs) rest = scan_append (step c s) cs rest

-- ---- what a gap does, and the end of a line

pub by_gap : (P : Scan → Type 0) (s : Scan) → ((t : Scan) → P (record t { is_first = true })) →
    ((t : Scan) → P (record t { is_first = false; piece = [] })) →
    ((t : Scan) (c : ℕ) (cs : List ℕ) → P (record t { is_first = false; piece = c ∷ cs })) → P s
by_gap P s first none some =
    elim s.is_first as (λ b. P (record s { is_first = b })) [
      | true ↦ first s
      | false ↦ elim s.piece as (λ p. P (record s { is_first = false; piece = p })) [ [] ↦ none s | c ∷ cs ↦ some s c cs ]
    ]

pub gap_mode : (s : Scan) → (gap s).mode ≡ Code
gap_mode s = by_gap (λ s. (gap s).mode ≡ Code) s (λ t. refl) (λ t. refl) (λ t c cs. refl)

pub gap_first : (s : Scan) → (gap s).is_first ≡ s.is_first
gap_first s = by_gap (λ s. (gap s).is_first ≡ s.is_first) s (λ t. refl) (λ t. refl) (λ t c cs. refl)

pub gap_lined : (s : Scan) → (gap s).is_lined ≡ s.is_lined
gap_lined s = by_gap (λ s. (gap s).is_lined ≡ s.is_lined) s (λ t. refl) (λ t. refl) (λ t c cs. refl)

pub gap_again : (s : Scan) → gap (gap s) ≡ gap s
gap_again s = by_gap (λ s. gap (gap s) ≡ gap s) s (λ t. refl) (λ t. refl) (λ t c cs. refl)

pub gap_turns : (mode : Mode) (s : Scan) → gap (turns mode s) ≡ gap s
gap_turns mode s = by_gap (λ s. gap (turns mode s) ≡ gap s) s (λ t. refl) (λ t. refl) (λ t c cs. refl)

pub gap_next : (s : Scan) → gap (next_line (gap s)) ≡ next_line (gap s)
gap_next s = by_gap (λ s. gap (next_line (gap s)) ≡ next_line (gap s)) s (λ t. refl) (λ t. refl) (λ t c cs. refl)

pub line_gap : (s : Scan) → ends_line false (gap s) ≡ ends_line false s
line_gap s = by_gap (λ s. ends_line false (gap s) ≡ ends_line false s) s (λ t. refl) (λ t. refl) (λ t c cs. refl)

pub line_turns : (mode : Mode) (s : Scan) → ends_line false (turns mode s) ≡ ends_line false s
line_turns mode s = by_gap (λ s. ends_line false (turns mode s) ≡ ends_line false s) s (λ t. refl) (λ t. refl) (λ t c cs. refl)

pub line_lined : (is_directive : Bool) (s : Scan) → (ends_line is_directive s).is_lined ≡ s.is_lined
line_lined is_directive s = by_gap (λ s. (ends_line is_directive s).is_lined ≡ s.is_lined) s (λ t. refl) (λ t. refl) (λ t c cs. refl)

-- where no piece has begun on the line, a gap changes nothing
pub gap_at_first : (s : Scan) → s.is_first ≡ true → s.mode ≡ Code → gap s ≡ s
gap_at_first s first code =
    ap (λ b. cond b (turns Code s) (record (ends_in false s.piece s) { mode = Code; word = [] })) first ∙ ap (λ mode. turns mode s) (sym code)

-- behind a piece, a gap leaves no word
pub gap_word : (s : Scan) → (s.is_first ≡ true → s.word ≡ []) → (gap s).word ≡ []
gap_word s = by_gap (λ s. (s.is_first ≡ true → s.word ≡ []) → (gap s).word ≡ []) s (λ t is. is refl) (λ t is. refl) (λ t c cs is. refl)

-- nor does the end of a line without a piece, if lines don't count
pub line_at_first : (s : Scan) → s.is_first ≡ true → s.is_lined ≡ false → s.mode ≡ Code → s.word ≡ [] → ends_line false s ≡ s
line_at_first s first unlined code word =
    ap (λ b. record (next_line (cond b s (ends_in false s.piece s))) { mode = Code; is_first = true; word = [] }) first
    ∙ ap (λ b. record s { line = cond b (s.line + 1) s.line; mode = Code; is_first = true; word = [] }) unlined
    ∙ ap (λ mode. record s { mode = mode; is_first = true; word = [] }) (sym code)
    ∙ ap (λ b. record s { is_first = b; word = [] }) (sym first)
    ∙ ap (λ word. record s { word = word }) (sym word)

-- ---- which byte one is

-- a byte of which a test says something isn't one of which it says something else
pub apart : (f : ℕ → Bool) (c k : ℕ) (b : Bool) → f c ≡ b → f k ≡ not b → (c == k) ≡ false
apart f c k b is isnt = elim (c == k) as (λ t. (c == k) ≡ t → t ≡ false) [
  | true ↦ λ same. both b (sym is ∙ ap f (eqb-true c k same) ∙ isnt)
  | false ↦ λ other. refl
] refl
  where
    both : (b : Bool) → b ≡ not b → true ≡ false
    both true never = never
    both false never = sym never

pub one_of : (P : ℕ → Type 0) (c k : ℕ) → P k → ((c == k) ≡ false → P c) → P c
one_of P c k is isnt = elim (c == k) as (λ b. (c == k) ≡ b → P c) [
  | true ↦ λ same. subst P (sym (eqb-true c k same)) is
  | false ↦ isnt
] refl

more : (c k : ℕ) (rest : Bool) → (c == k) ≡ false → rest ≡ true → (not (c == k) && rest) ≡ true
more c k rest other is = ap (λ b. not b && rest) other ∙ is

-- a byte of code is a special one, or goes on with a piece
pub by_byte : (P : ℕ → Type 0) (c : ℕ) → P 32 → P 9 → P 10 → P 11 → P 12 → P 34 → P 35 → P 37 → P 39 → P 47 → P 92 → (is_plain c ≡ true → P c) → P c
by_byte P c blank tab line tick mark text hash percent character slash odd plain =
    one_of P c 32 blank (λ no_blank. one_of P c 9 tab (λ no_tab. one_of P c 10 line (λ no_line. one_of P c 11 tick (λ no_tick.
    one_of P c 12 mark (λ no_mark. one_of P c 34 text (λ no_text. one_of P c 35 hash (λ no_hash. one_of P c 37 percent (λ no_percent.
    one_of P c 39 character (λ no_character. one_of P c 47 slash (λ no_slash. one_of P c 92 odd (λ no_odd. plain (
    more c 32 _ no_blank (more c 9 _ no_tab (more c 10 _ no_line (more c 11 _ no_tick (more c 12 _ no_mark (more c 34 _ no_text (
    more c 35 _ no_hash (more c 37 _ no_percent (more c 39 _ no_character (more c 47 _ no_slash (more c 92 _ no_odd refl)))))))))))
    )))))))))))
