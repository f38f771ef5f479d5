-- The words that a text is split into are those that the grammar gives it, and a text has no other ones.
use Rattle.std.proofs.Common.{ℕ, List, [], ◌∷◌, ◌++◌, ◌≡◌, ◌≢◌, refl, sym, ap, ◌∙◌, subst, append-nil, append_assoc, map, Option, Some, None, MatchOption, option_map, true, false, ◌==◌, arith, encode_utf8_all, chars}
use Rattle.std.proofs.lemmas.Bool.{cond_both, eqb-true, eqb-false}
use Rattle.texts.specs.declared.shell.splitting.State.{State}
use Rattle.texts.specs.declared.shell.splitting.State.TheVariants.{Between, Comment, Word, Escaped, SingleQuoted, DoubleQuoted, EscapedInQuotes}
use Rattle.texts.specs.Shell.{newline, hash, backslash, single_quote, double_quote, is_blank, is_escapable, HasNone, blank, comment, IsInnerPiece, inner_bare, inner_escaped, inner_joined, inner_kept, IsInside, inside_end, inside_more, IsPiece, bare, escaped, joined, single_quoted, double_quoted, IsPieces, pieces_end, pieces_more, IsWord, word, IsText, HasWords, HasNoWords, text_end, text_gap, text_comment, text_word, text_words}
use Rattle.texts.specs.Shell.Splitting.{Effect, begins_piece, reads, prepend, with_effect, words_at_end, words_from, split_chars}
use Rattle.texts.proofs.ShellSplittingLemmas.{prepend-nil}
use Rattle.texts.proofs.ShellSoundLemmas.{words_of_text}

-- ---- what the rest of a text is, in each state

-- the rest of a text after a word
data Follows : List ℕ → List (List ℕ) → Type 0 where
  follows_end : Follows [] []
  follows_text : (c : ℕ) (rest : List ℕ) (words : List (List ℕ)) → is_blank c ≡ true → IsText rest words → Follows (c ∷ rest) words

-- a text that is cut in two: what its first part and what the rest of it gives, and how its words are put together of both
record Cut (First : List ℕ → List ℕ → Type 0) (Later : List ℕ → List (List ℕ) → Type 0) (put : List ℕ → List (List ℕ) → List (List ℕ)) (cs : List ℕ) (words : List (List ℕ)) : Type 0 where
  first : List ℕ
  rest : List ℕ
  given : List ℕ
  later : List (List ℕ)
  is_first : First first given
  is_rest : Later rest later
  is_text : first ++ rest ≡ cs
  are_words : put given later ≡ words

-- the rest of a text from inside a word, and its words, the first of which is the rest of that word
abbrev Tail : List ℕ → List (List ℕ) → Type 0
Tail = Cut IsPieces Follows (λ given later. given ∷ later)

-- a piece of a word, and then the rest of the text
abbrev Begins : List ℕ → List (List ℕ) → Type 0
Begins = Cut IsPiece Tail prepend

-- the rest of a text from between single quotes
record InSingle (cs : List ℕ) (words : List (List ℕ)) : Type 0 where
  inside : List ℕ
  rest : List ℕ
  later : List (List ℕ)
  none : HasNone single_quote inside
  tail : Tail rest later
  is_text : inside ++ single_quote ∷ rest ≡ cs
  are_words : prepend inside later ≡ words

-- the rest of a text from between double quotes
record InDouble (cs : List ℕ) (words : List (List ℕ)) : Type 0 where
  inside : List ℕ
  rest : List ℕ
  given : List ℕ
  later : List (List ℕ)
  is_inside : IsInside inside given
  tail : Tail rest later
  is_text : inside ++ double_quote ∷ rest ≡ cs
  are_words : prepend given later ≡ words

-- the rest of a text from inside a comment
data InComment : List ℕ → List (List ℕ) → Type 0 where
  comment_ends : (cs : List ℕ) → HasNone newline cs → InComment cs []
  comment_stops : (cs rest : List ℕ) (words : List (List ℕ)) → HasNone newline cs → IsText rest words → InComment (cs ++ newline ∷ rest) words

abbrev Rest : State → List ℕ → List (List ℕ) → Type 0
Rest Between cs words = IsText cs words
Rest Comment cs words = InComment cs words
Rest Word cs words = Tail cs words
Rest Escaped cs words = Begins (backslash ∷ cs) words
Rest SingleQuoted cs words = InSingle cs words
Rest DoubleQuoted cs words = InDouble cs words
Rest EscapedInQuotes cs words = InDouble (backslash ∷ cs) words

-- ---- how a piece goes on

prepend-prepend : (first second : List ℕ) (words : List (List ℕ)) → prepend (first ++ second) words ≡ prepend first (prepend second words)
prepend-prepend first second words = grind (arith, append_assoc)

tail_of_begins : (cs : List ℕ) (words : List (List ℕ)) → Begins cs words → Tail cs words
tail_of_begins cs words b = grind (arith, append_assoc, pieces_more)

text_of_word : (written given rest : List ℕ) (later : List (List ℕ)) → IsWord written given → Follows rest later → IsText (written ++ rest) (given ∷ later)
text_of_word written given rest later is follows_end = subst (λ t. IsText t (given ∷ [])) (sym (append-nil written)) (text_word written given is)
text_of_word written given rest later is (follows_text c after words blank_is text) = text_words written given c after words is blank_is text

text_of_begins : (cs : List ℕ) (words : List (List ℕ)) (b : Begins cs words) → b.first ≢ hash ∷ [] → IsText cs words
text_of_begins cs words b no_hash =
    let is : IsWord (b.first ++ b.is_rest.first) (b.given ++ b.is_rest.given) = word b.first b.is_rest.first b.given b.is_rest.given b.is_first no_hash b.is_rest.is_first in
    let is_text : (b.first ++ b.is_rest.first) ++ b.is_rest.rest ≡ cs = append_assoc b.first b.is_rest.first b.is_rest.rest ∙ ap (λ t. b.first ++ t) b.is_rest.is_text ∙ b.is_text in
    let are_words : (b.given ++ b.is_rest.given) ∷ b.is_rest.later ≡ words = ap (prepend b.given) b.is_rest.are_words ∙ b.are_words in
    subst (λ t. IsText t words) is_text (subst (IsText ((b.first ++ b.is_rest.first) ++ b.is_rest.rest)) are_words (text_of_word _ _ _ _ is b.is_rest.is_rest))

-- one more inner piece
more_inside : (piece given cs : List ℕ) (words : List (List ℕ)) → IsInnerPiece piece given → InDouble cs words → InDouble (piece ++ cs) (prepend given words)
more_inside piece given cs words is d = record {
  inside = piece ++ d.inside;
  rest = d.rest;
  given = given ++ d.given;
  later = d.later;
  is_inside = inside_more piece d.inside given d.given is d.is_inside;
  tail = d.tail;
  is_text = append_assoc piece d.inside (double_quote ∷ d.rest) ∙ ap (λ t. piece ++ t) d.is_text;
  are_words = prepend-prepend given d.given d.later ∙ ap (prepend given) d.are_words;
}

begins_with : (piece given cs : List ℕ) (words : List (List ℕ)) → IsPiece piece given → Tail cs words → Begins (piece ++ cs) (prepend given words)
begins_with piece given cs words is tail = grind arith

begins_single : (cs : List ℕ) (words : List (List ℕ)) → InSingle cs words → Begins (single_quote ∷ cs) words
begins_single cs words s =
    subst (λ t. Begins (single_quote ∷ t) words) (append_assoc s.inside (single_quote ∷ []) s.rest ∙ s.is_text)
    (subst (Begins (single_quote ∷ (s.inside ++ single_quote ∷ []) ++ s.rest)) s.are_words
    (begins_with (single_quote ∷ s.inside ++ single_quote ∷ []) s.inside s.rest s.later (single_quoted s.inside s.none) s.tail))

begins_double : (cs : List ℕ) (words : List (List ℕ)) → InDouble cs words → Begins (double_quote ∷ cs) words
begins_double cs words d =
    subst (λ t. Begins (double_quote ∷ t) words) (append_assoc d.inside (double_quote ∷ []) d.rest ∙ d.is_text)
    (subst (Begins (double_quote ∷ (d.inside ++ double_quote ∷ []) ++ d.rest)) d.are_words
    (begins_with (double_quote ∷ d.inside ++ double_quote ∷ []) d.given d.rest d.later (double_quoted d.inside d.given d.is_inside) d.tail))

more_comment : (c : ℕ) (cs : List ℕ) (words : List (List ℕ)) → c ≢ newline → InComment cs words → InComment (c ∷ cs) words
more_comment c cs words differs (comment_ends inside none) = comment_ends (c ∷ inside) (differs, none)
more_comment c cs words differs (comment_stops inside rest later none text) = comment_stops (c ∷ inside) rest later (differs, none) text

text_of_comment : (cs : List ℕ) (words : List (List ℕ)) → InComment cs words → IsText (hash ∷ cs) words
text_of_comment cs words (comment_ends inside none) = text_comment inside none
text_of_comment cs words (comment_stops inside rest later none text) =
    subst (λ t. IsText (hash ∷ t) later) (append_assoc inside (newline ∷ []) rest)
    (text_gap (hash ∷ inside ++ newline ∷ []) rest later (comment inside none) text)

-- ---- one character in front, in each state

-- the piece that this character begins
abbrev BeginsBy : ℕ → List ℕ → List (List ℕ) → State × Effect → Type 0
BeginsBy c cs later read = is_blank c ≡ false → Rest read.0 cs later → Begins (c ∷ cs) (with_effect read.1 later)

same_head : (c d : ℕ) (cs : List ℕ) (words : List (List ℕ)) → (c == d) ≡ true → Begins (d ∷ cs) words → Begins (c ∷ cs) (prepend [] words)
same_head c d cs words is b = grind (arith, eqb-true, prepend-nil)

piece_step : (c : ℕ) (cs : List ℕ) (later : List (List ℕ)) → BeginsBy c cs later (begins_piece c)
piece_step c cs later =
    cond_both (c == backslash) _ _ (BeginsBy c cs later) (λ is _ b. same_head c backslash cs later is b)
    (λ not_backslash. cond_both (c == single_quote) _ _ (BeginsBy c cs later) (λ is _ s. same_head c single_quote cs later is (begins_single cs later s))
    (λ not_single. cond_both (c == double_quote) _ _ (BeginsBy c cs later) (λ is _ d. same_head c double_quote cs later is (begins_double cs later d))
    (λ not_double not_blank tail.
    begins_with (c ∷ []) (c ∷ []) cs later
    (bare c not_blank (eqb-false c single_quote not_single) (eqb-false c double_quote not_double) (eqb-false c backslash not_backslash)) tail)))

-- a piece that begins with no `#` is no bare `#`
no_bare_hash : (c : ℕ) (cs : List ℕ) (words : List (List ℕ)) (b : Begins (c ∷ cs) words) → c ≢ hash → b.first ≢ hash ∷ []
no_bare_hash c cs words b differs is = grind arith

-- what a character in front of the rest makes of it
abbrev Reads : (state : State) → ℕ → List ℕ → List (List ℕ) → State × Effect → Type 0
Reads state c cs later read = Rest read.0 cs later → Rest state (c ∷ cs) (with_effect read.1 later)

between_step : (c : ℕ) (cs : List ℕ) (later : List (List ℕ)) → Reads Between c cs later (reads Between c)
between_step c cs later =
    cond_both (is_blank c) _ _ (Reads Between c cs later) (λ is text. text_gap (c ∷ []) cs later (blank c is) text)
    (λ not_blank. cond_both (c == hash) _ _ (Reads Between c cs later)
    (λ is h. subst (λ x. IsText (x ∷ cs) later) (sym (eqb-true c hash is)) (text_of_comment cs later h))
    (λ not_hash h.
    let b : Begins (c ∷ cs) (with_effect (begins_piece c).1 later) = piece_step c cs later not_blank h in
    text_of_begins (c ∷ cs) (with_effect (begins_piece c).1 later) b (no_bare_hash c cs _ b (eqb-false c hash not_hash))))

comment_step : (c : ℕ) (cs : List ℕ) (later : List (List ℕ)) → Reads Comment c cs later (reads Comment c)
comment_step c cs later =
    cond_both (c == newline) _ _ (Reads Comment c cs later)
    (λ is text. subst (λ x. InComment (x ∷ cs) later) (sym (eqb-true c newline is)) (comment_stops [] cs later tt text))
    (λ is_not h. more_comment c cs later (eqb-false c newline is_not) h)

word_step : (c : ℕ) (cs : List ℕ) (later : List (List ℕ)) → Reads Word c cs later (reads Word c)
word_step c cs later =
    cond_both (is_blank c) _ _ (Reads Word c cs later)
    (λ is text. grind (arith, pieces_end, follows_text))
    (λ not_blank h. tail_of_begins (c ∷ cs) (with_effect (begins_piece c).1 later) (piece_step c cs later not_blank h))

escaped_step : (c : ℕ) (cs : List ℕ) (later : List (List ℕ)) → Reads Escaped c cs later (reads Escaped c)
escaped_step c cs later =
    cond_both (c == newline) _ _ (Reads Escaped c cs later)
    (λ is tail. subst (λ x. Begins (backslash ∷ x ∷ cs) (prepend [] later)) (sym (eqb-true c newline is))
    (begins_with (backslash ∷ newline ∷ []) [] cs later joined tail))
    (λ is_not tail. begins_with (backslash ∷ c ∷ []) (c ∷ []) cs later (escaped c (eqb-false c newline is_not)) tail)

single_step : (c : ℕ) (cs : List ℕ) (later : List (List ℕ)) → Reads SingleQuoted c cs later (reads SingleQuoted c)
single_step c cs later =
    cond_both (c == single_quote) _ _ (Reads SingleQuoted c cs later)
    (λ is tail. grind (arith, eqb-true))
    (λ is_not s. record {
      inside = c ∷ s.inside;
      rest = s.rest;
      later = s.later;
      none = (eqb-false c single_quote is_not, s.none);
      tail = s.tail;
      is_text = ap (λ t. c ∷ t) s.is_text;
      are_words = prepend-prepend (c ∷ []) s.inside s.later ∙ ap (prepend (c ∷ [])) s.are_words;
    })

double_step : (c : ℕ) (cs : List ℕ) (later : List (List ℕ)) → Reads DoubleQuoted c cs later (reads DoubleQuoted c)
double_step c cs later =
    cond_both (c == double_quote) _ _ (Reads DoubleQuoted c cs later)
    (λ is tail. grind (arith, eqb-true, inside_end))
    (λ not_quote. cond_both (c == backslash) _ _ (Reads DoubleQuoted c cs later)
    (λ is d. subst (λ x. InDouble (x ∷ cs) (prepend [] later)) (sym (eqb-true c backslash is)) (subst (InDouble (backslash ∷ cs)) (sym (prepend-nil later)) d))
    (λ not_backslash d. more_inside (c ∷ []) (c ∷ []) cs later (inner_bare c (eqb-false c double_quote not_quote) (eqb-false c backslash not_backslash)) d))

escaped_in_quotes_step : (c : ℕ) (cs : List ℕ) (later : List (List ℕ)) → Reads EscapedInQuotes c cs later (reads EscapedInQuotes c)
escaped_in_quotes_step c cs later =
    cond_both (is_escapable c) _ _ (Reads EscapedInQuotes c cs later)
    (λ is d. more_inside (backslash ∷ c ∷ []) (c ∷ []) cs later (inner_escaped c is) d)
    (λ is_not. cond_both (c == newline) _ _ (Reads EscapedInQuotes c cs later)
    (λ is d. subst (λ x. InDouble (backslash ∷ x ∷ cs) (prepend [] later)) (sym (eqb-true c newline is))
    (more_inside (backslash ∷ newline ∷ []) [] cs later inner_joined d))
    (λ not_newline d. more_inside (backslash ∷ c ∷ []) (backslash ∷ c ∷ []) cs later (inner_kept c is_not (eqb-false c newline not_newline)) d))

step : (state : State) (c : ℕ) (cs : List ℕ) (later : List (List ℕ)) → Reads state c cs later (reads state c)
step state = grind (arith, between_step, comment_step, word_step, escaped_step, single_step, double_step, escaped_in_quotes_step)

-- ---- the whole text

at_end : (state : State) (words : List (List ℕ)) → words_at_end state ≡ Some words → Rest state [] words
at_end Between words is = let e : [] ≡ words = cc in subst (IsText []) e text_end
at_end Comment words is = let e : [] ≡ words = cc in subst (InComment []) e (comment_ends [] tt)
at_end Word words is = grind (arith, pieces_end, follows_end)
at_end Escaped words is = absurd cc
at_end SingleQuoted words is = absurd cc
at_end DoubleQuoted words is = absurd cc
at_end EscapedInQuotes words is = absurd cc

rest_is : (cs : List ℕ) (state : State) (words : List (List ℕ)) → words_from state cs ≡ Some words → Rest state cs words
rest_is [] state words is = at_end state words is
rest_is (c ∷ cs) state words is = grind (arith, step, (rest_is cs (reads state c).0))

pub text_of_words : (cs : List ℕ) (words : List (List ℕ)) → split_chars cs ≡ Some words → IsText cs words
text_of_words cs words is = rest_is cs Between words is

-- ---- the laws

pub one_list_lem : (cs : List ℕ) (first second : List (List ℕ)) → IsText cs first → IsText cs second → first ≡ second
one_list_lem cs first second is also = grind (arith, words_of_text)

no_text : (cs : List ℕ) (words : List (List ℕ)) → split_chars cs ≡ None → ¬ IsText cs words
no_text cs words none is = let both : None ≡ Some words = sym none ∙ words_of_text cs words is in absurd cc

pub computed_words_lem : (cs : List ℕ) → MatchOption (split_chars cs) ((words : List (List ℕ)) → ¬ IsText cs words) (IsText cs)
computed_words_lem cs = grind (arith, no_text, text_of_words)

-- what was found is what the grammar says
pub words_from_value : {V : Type 0} (bytes : V → List (List ℕ)) (text : List ℕ) (found : Option V) → option_map bytes found ≡ option_map (map encode_utf8_all) (split_chars (chars text)) → MatchOption found (HasNoWords text) (λ v. HasWords text (bytes v))
words_from_value bytes text found same = grind (arith, no_text, text_of_words)
