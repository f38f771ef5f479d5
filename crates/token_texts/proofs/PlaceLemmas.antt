-- How the tokens of a text depend on the file of the line marker before it.
use Rattle.std.proofs.Common.{◌≡◌, ℕ, Bool, true, false, cond, not, ◌==◌, ◌&&◌, ◌||◌, List, [], ◌∷◌, ◌++◌, Option, Some, None, option_map, refl, ap, sym, subst, ◌∙◌, append-nil, arith, map, is_some, bytes_eq, length, nat_eq, nat_lt, codes}
use Rattle.std.specs.List.{starts_with, ends_with, list_all, concat}
use Rattle.std.proofs.lemmas.Bool.{and_parts, eqb-true, not-true, false≢true}
use Rattle.std.proofs.lemmas.Bool.Decides.{nat_tests}
use Rattle.std.proofs.lemmas.Slice.Eq.{bytes_eq-Decides}
use Rattle.token_texts.specs.declared.class.Class.{Class}
use Rattle.token_texts.specs.declared.class.Class.TheVariants as class
use Rattle.token_texts.specs.declared.lexer.State.{State}
use Rattle.token_texts.specs.declared.lexer.State.TheVariants.{LineStart, Between, Word, Number, Exponent, Separator, Operator, Dot, Slash, Text, TextEscape, Character, CharacterEscape, Closed, Suffix, RawDelimiter, Raw, LineComment, Comment, CommentStar, Hash, Directive, Marker, MarkerNumber, MarkerGap, MarkerName, MarkerEscape, Flags, Enters, Returns, Refused}
use Rattle.token_texts.specs.Classes.{class_of}
use Rattle.token_texts.specs.Lexing.{Step, beginning, begins, ends_and_begins, is_encoding, is_raw_prefix, is_exponent, in_word, in_number, in_operator, in_suffix, behind_literal, in_raw_delimiter, behind_separator, behind_dot, behind_hash, in_comment, begins_comment, quoted, in_flags, is_doubtful, step, step_in, state_after, ending, tokens_from, tokens, in_move}
use Rattle.token_texts.specs.TokenLaws.{is_whole_lines, are_parts, PartsDetermine}
use Rattle.token_texts.proofs.RunLemmas.{lex, lexer, from, run, run_on, run_tokens, start_again, for_all_texts, keeps_delimiter, held}

-- ---- tokens of line markers

-- `"` is the first byte
abbrev begins_quote : List ℕ → Bool
begins_quote [] = false
begins_quote (c ∷ cs) = c == 34

-- another byte is
abbrev begins_other : List ℕ → Bool
begins_other [] = false
begins_other (c ∷ cs) = not (c == 34)

-- the last byte, or 0
abbrev last_of : List ℕ → ℕ
last_of [] = 0
last_of (c ∷ []) = c
last_of (c ∷ d ∷ cs) = last_of (d ∷ cs)

-- all bytes but the last
abbrev without_last : List ℕ → List ℕ
without_last [] = []
without_last (c ∷ []) = []
without_last (c ∷ d ∷ cs) = c ∷ without_last (d ∷ cs)

-- 1 or 2
abbrev is_flag : ℕ → Bool
is_flag c = (c == 49) || (c == 50)

-- a line marker's token, and no other, begins with `"` and ends with a line end
abbrev is_marker : List ℕ → Bool
is_marker token = (last_of token == 10) && begins_quote token

-- no token is a line marker's
abbrev all_plain : List (List ℕ) → Bool
all_plain [] = true
all_plain (t ∷ ts) = cond (is_marker t) false (all_plain ts)

last_add : (t : List ℕ) (c : ℕ) → last_of (t ++ c ∷ []) ≡ c
last_add [] c = refl
last_add (x ∷ []) c = refl
last_add (x ∷ y ∷ ys) c = last_add (y ∷ ys) c

without_add : (t : List ℕ) (c : ℕ) → without_last (t ++ c ∷ []) ≡ t
without_add [] c = refl
without_add (x ∷ []) c = refl
without_add (x ∷ y ∷ ys) c = ap (λ l. x ∷ l) (without_add (y ∷ ys) c)

other_add : (t : List ℕ) (c : ℕ) → begins_other t ≡ true → begins_other (t ++ c ∷ []) ≡ true
other_add [] c is = absurd (false≢true is)
other_add (x ∷ xs) c is = is

quote_add : (t : List ℕ) (c : ℕ) → begins_quote t ≡ true → begins_quote (t ++ c ∷ []) ≡ true
quote_add [] c is = absurd (false≢true is)
quote_add (x ∷ xs) c is = is

-- ---- what a token begins and ends with

abbrev is_empty : List ℕ → Bool
is_empty [] = true
is_empty (c ∷ cs) = false

-- what the token of each state begins and ends with: only a line marker's has a `"` first and can end with a line end
abbrev fits : State → List ℕ → Bool
fits LineStart t = is_empty t
fits Between t = is_empty t
fits LineComment t = is_empty t
fits Comment t = is_empty t
fits CommentStar t = is_empty t
fits Hash t = is_empty t
fits Marker t = is_empty t
fits MarkerNumber t = is_empty t
fits MarkerGap t = is_empty t
fits RawDelimiter t = begins_other t
fits Raw t = begins_other t
fits Directive t = begins_other t
fits MarkerName t = begins_quote t
fits MarkerEscape t = begins_quote t
fits Flags t = begins_quote t && not (is_flag (last_of t))
fits Enters t = begins_quote t && not (is_flag (last_of t))
fits Returns t = begins_quote t && not (is_flag (last_of t))
fits Refused t = true
fits _ t = not (last_of t == 10)

-- a step in which the file of the last line marker doesn't count, and stays; no line marker's token ends, and the next token fits its state
record Kept (f : List ℕ → Step) : Type 0 where
  state : State
  token : List ℕ
  delimiter : List ℕ
  ended : List (List ℕ)
  is : (p : List ℕ) → f p ≡ (held state token delimiter p, ended)
  plain : all_plain ended ≡ true
  fit : fits state token ≡ true

holds : (state : State) (t d : List ℕ) (ended : List (List ℕ)) → all_plain ended ≡ true → fits state t ≡ true → Kept (λ p. (held state t d p, ended))
holds state t d ended plain fit = record { state = state; token = t; delimiter = d; ended = ended; is = λ p. refl; plain = plain; fit = fit }

-- the same without a delimiter
kept : (state : State) (t : List ℕ) (ended : List (List ℕ)) → all_plain ended ≡ true → fits state t ≡ true → Kept (λ p. (lex state t [] p, ended))
kept state t ended plain fit =
    let none : cond {A = List ℕ} (keeps_delimiter state) [] [] ≡ [] = elim (keeps_delimiter state) as (λ b. cond {A = List ℕ} b [] [] ≡ []) [ true ↦ refl | false ↦ refl ] in
    record { state = state; token = t; delimiter = []; ended = ended; is = λ p. ap (λ d. (lex state t d p, ended)) (sym none); plain = plain; fit = fit }

kept_on : (b : Bool) (f g : List ℕ → Step) → (b ≡ true → Kept f) → (b ≡ false → Kept g) → Kept (λ p. cond b (f p) (g p))
kept_on true f g one two = one refl
kept_on false f g one two = two refl

kept_if : (b : Bool) (f g : List ℕ → Step) → Kept f → Kept g → Kept (λ p. cond b (f p) (g p))
kept_if true f g one two = one
kept_if false f g one two = two

kept_else : (b : Bool) (f g : List ℕ → Step) → b ≡ false → Kept g → Kept (λ p. cond b (f p) (g p))
kept_else true f g is two = absurd (false≢true (sym is))
kept_else false f g is two = two

fits_if : (b : Bool) (x y : State) (t : List ℕ) → fits x t ≡ true → fits y t ≡ true → fits (cond b x y) t ≡ true
fits_if true x y t one two = one
fits_if false x y t one two = two

grown : (t : List ℕ) (c : ℕ) → (c == 10) ≡ false → not (last_of (t ++ c ∷ []) == 10) ≡ true
grown t c end = ap (λ x. not (x == 10)) (last_add t c) ∙ ap not end

plain_one : (t : List ℕ) → not (last_of t == 10) ≡ true → is_marker t ≡ false
plain_one t fit = ap (λ b. b && begins_quote t) (not-true _ fit)

plain_ends : (t : List ℕ) → not (last_of t == 10) ≡ true → all_plain (t ∷ []) ≡ true
plain_ends t fit = ap (λ b. cond b false true) (plain_one t fit)

kept_begins : (k : Class) (c : ℕ) (state : State) → (c == 10) ≡ false → Kept (λ p. begins k c (lex state [] [] p))
kept_begins class.Blank c state end = kept Between [] [] refl refl
kept_begins class.LineEnd c state end = kept LineStart [] [] refl refl
kept_begins class.Slash c state end = kept Slash [] [] refl refl
kept_begins class.Other c state end = kept Refused [] [] refl refl
kept_begins class.Lone c state end = kept Between [] ((c ∷ []) ∷ []) (plain_ends (c ∷ []) (ap not end)) refl
kept_begins class.Word c state end = kept Word (c ∷ []) [] refl (ap not end)
kept_begins class.Digit c state end = kept Number (c ∷ []) [] refl (ap not end)
kept_begins class.Operator c state end = kept Operator (c ∷ []) [] refl (ap not end)
kept_begins class.Dot c state end = kept Dot (c ∷ []) [] refl (ap not end)
kept_begins class.DoubleQuote c state end = kept Text (c ∷ []) [] refl (ap not end)
kept_begins class.SingleQuote c state end = kept Character (c ∷ []) [] refl (ap not end)

kept_ends : (k : Class) (c : ℕ) (state : State) (t : List ℕ) → (c == 10) ≡ false → not (last_of t == 10) ≡ true → Kept (λ p. ends_and_begins k c (lex state t [] p))
kept_ends k c state t end fit =
    let next = kept_begins k c Between end in
    record {
      state = next.state;
      token = next.token;
      delimiter = next.delimiter;
      ended = t ∷ next.ended;
      is = λ p. ap (λ (after : Step). (after.0, t ∷ after.1)) (next.is p);
      plain = ap (λ b. cond b false (all_plain next.ended)) (plain_one t fit) ∙ next.plain;
      fit = next.fit;
    }

-- a raw string's prefix
raw_begins : (t : List ℕ) → is_raw_prefix t ≡ true → begins_other t ≡ true
raw_begins [] raw = absurd (false≢true raw)
raw_begins (c ∷ cs) raw =
    elim (c == 34) as (λ b. (c == 34) ≡ b → not b ≡ true) [
      | true ↦ λ is. absurd (false≢true (subst (λ c. is_raw_prefix (c ∷ cs) ≡ true) (eqb-true c 34 is) raw))
      | false ↦ λ _. refl
    ] refl

kept_word : (k : Class) (c : ℕ) (t : List ℕ) → (c == 10) ≡ false → fits Word t ≡ true → Kept (λ p. in_word k c (lex Word t [] p))
kept_word class.Word c t end fit = kept Word (t ++ c ∷ []) [] refl (grown t c end)
kept_word class.Digit c t end fit = kept Word (t ++ c ∷ []) [] refl (grown t c end)
kept_word class.DoubleQuote c t end fit =
    kept_if (is_encoding t) _ _ (kept Text (t ++ c ∷ []) [] refl (grown t c end))
    (kept_on (is_raw_prefix t) _ _ (λ raw. holds RawDelimiter (t ++ c ∷ []) (41 ∷ []) [] refl (other_add t c (raw_begins t raw))) (λ _. kept_ends class.DoubleQuote c Word t end fit))
kept_word class.SingleQuote c t end fit =
    kept_if (is_encoding t) _ _ (kept Character (t ++ c ∷ []) [] refl (grown t c end)) (kept_ends class.SingleQuote c Word t end fit)
kept_word k c t end fit = kept_ends k c Word t end fit

kept_number : (k : Class) (c : ℕ) (state : State) (t : List ℕ) → (c == 10) ≡ false → fits Number t ≡ true → Kept (λ p. in_number k c (lex state t [] p))
kept_number class.Word c state t end fit =
    kept_if (is_exponent c) _ _ (kept Exponent (t ++ c ∷ []) [] refl (grown t c end)) (kept Number (t ++ c ∷ []) [] refl (grown t c end))
kept_number class.Digit c state t end fit = kept Number (t ++ c ∷ []) [] refl (grown t c end)
kept_number class.Dot c state t end fit = kept Number (t ++ c ∷ []) [] refl (grown t c end)
kept_number class.SingleQuote c state t end fit = kept Separator (t ++ c ∷ []) [] refl (grown t c end)
kept_number k c state t end fit = kept_ends k c state t end fit

kept_separator : (k : Class) (c : ℕ) (t : List ℕ) → (c == 10) ≡ false → fits Separator t ≡ true → Kept (λ p. behind_separator k c (lex Separator t [] p))
kept_separator class.Word c t end fit = kept_number class.Word c Separator t end fit
kept_separator class.Digit c t end fit = kept_number class.Digit c Separator t end fit
kept_separator k c t end fit = kept Refused t [] refl refl

kept_operator : (k : Class) (c : ℕ) (state : State) (t : List ℕ) → (c == 10) ≡ false → fits Operator t ≡ true → Kept (λ p. in_operator k c (lex state t [] p))
kept_operator class.Operator c state t end fit =
    kept_if ((c == 58) && ends_with nat_eq t (codes "%")) _ _ (kept Refused t [] refl refl) (kept Operator (t ++ c ∷ []) [] refl (grown t c end))
kept_operator class.Dot c state t end fit = kept Dot (t ++ c ∷ []) [] refl (grown t c end)
kept_operator class.Slash c state t end fit = kept Slash t [] refl fit
kept_operator k c state t end fit = kept_ends k c state t end fit

kept_dot : (k : Class) (c : ℕ) (t : List ℕ) → (c == 10) ≡ false → fits Dot t ≡ true → Kept (λ p. behind_dot k c (lex Dot t [] p))
kept_dot class.Digit c t end fit = kept Number (t ++ c ∷ []) [] refl (grown t c end)
kept_dot k c t end fit = kept_operator k c Dot t end fit

kept_remark : (state : State) (t : List ℕ) → fits state [] ≡ true → fits Slash t ≡ true → Kept (λ p. begins_comment state (lex Slash t [] p))
kept_remark state [] idle fit = kept state [] [] refl idle
kept_remark state (x ∷ xs) idle fit =
    let more : (length (x ∷ xs) == 0) ≡ false = grind (arith, nat_tests) in
    kept_else (length (x ∷ xs) == 0) _ _ more (kept state [] ((x ∷ xs) ∷ []) (plain_ends (x ∷ xs) fit) idle)

kept_literal : (k : Class) (c : ℕ) (t : List ℕ) → (c == 10) ≡ false → fits Closed t ≡ true → Kept (λ p. behind_literal k c (lex Closed t [] p))
kept_literal class.Word c t end fit = kept Suffix (t ++ c ∷ []) [] refl (grown t c end)
kept_literal class.Digit c t end fit = kept Refused t [] refl refl
kept_literal k c t end fit = kept_ends k c Closed t end fit

kept_suffix : (k : Class) (c : ℕ) (t : List ℕ) → (c == 10) ≡ false → fits Suffix t ≡ true → Kept (λ p. in_suffix k c (lex Suffix t [] p))
kept_suffix class.Word c t end fit = kept Suffix (t ++ c ∷ []) [] refl (grown t c end)
kept_suffix class.Digit c t end fit = kept Suffix (t ++ c ∷ []) [] refl (grown t c end)
kept_suffix class.DoubleQuote c t end fit = kept Refused t [] refl refl
kept_suffix class.SingleQuote c t end fit = kept Refused t [] refl refl
kept_suffix k c t end fit = kept_ends k c Suffix t end fit

kept_delimiter : (k : Class) (c : ℕ) (t d : List ℕ) → fits RawDelimiter t ≡ true → Kept (λ p. in_raw_delimiter k c (held RawDelimiter t d p))
kept_delimiter class.Word c t d fit = holds RawDelimiter (t ++ c ∷ []) (d ++ c ∷ []) [] refl (other_add t c fit)
kept_delimiter class.Digit c t d fit = holds RawDelimiter (t ++ c ∷ []) (d ++ c ∷ []) [] refl (other_add t c fit)
kept_delimiter k c t d fit =
    kept_if ((c == 40) && nat_lt (length d) 18) _ _ (holds Raw (t ++ c ∷ []) d [] refl (other_add t c fit)) (holds Refused t d [] refl refl)

kept_hash : (k : Class) (c : ℕ) → Kept (λ p. behind_hash k c (lex Hash [] [] p))
kept_hash class.Word c = kept Directive (35 ∷ c ∷ []) [] refl refl
kept_hash k c = kept_if (c == 32) _ _ (kept Marker [] [] refl refl) (kept Refused [] [] refl refl)

kept_quoted : (quote : ℕ) (c : ℕ) (state escape after : State) (t : List ℕ) → fits after (t ++ c ∷ []) ≡ true → fits escape (t ++ c ∷ []) ≡ true → fits state (t ++ c ∷ []) ≡ true →
    Kept (λ p. quoted quote escape after c (lex state t [] p))
kept_quoted quote c state escape after t one two three =
    kept_if (c == quote) _ _ (kept after (t ++ c ∷ []) [] refl one)
    (kept_if (c == 92) _ _ (kept escape (t ++ c ∷ []) [] refl two) (kept_if (c == 10) _ _ (kept Refused t [] refl refl) (kept state (t ++ c ∷ []) [] refl three)))

fits_number : (k : Class) (c : ℕ) → fits (state_after Marker k c) [] ≡ true
fits_number k c = elim k as (λ k. fits (state_after Marker k c) [] ≡ true) [ class.Digit ↦ refl | _ ↦ refl ]

fits_more : (k : Class) (c : ℕ) → fits (state_after MarkerNumber k c) [] ≡ true
fits_more class.Digit c = refl
fits_more class.LineEnd c = refl
fits_more class.Blank c = fits_if (c == 32) _ _ [] refl refl
fits_more k c = refl

fits_flags : (t : List ℕ) (c : ℕ) → begins_quote t ≡ true → not (is_flag c) ≡ true → fits Flags (t ++ c ∷ []) ≡ true
fits_flags t c quote other = λ i. quote_add t c quote i && (ap (λ x. not (is_flag x)) (last_add t c) ∙ other) i

-- 3 or 4
other_flag : (c : ℕ) → ((c == 51) || (c == 52)) ≡ true → not (is_flag c) ≡ true
other_flag c is = grind (arith, nat_tests)

kept_name : (c : ℕ) (t : List ℕ) → fits MarkerName t ≡ true → Kept (λ p. quoted 34 MarkerEscape Flags c (lex MarkerName t [] p))
kept_name c t fit =
    kept_on (c == 34) _ _ (λ is. kept Flags (t ++ c ∷ []) [] refl (fits_flags t c fit (ap (λ x. not (is_flag x)) (eqb-true c 34 is))))
    (λ _. kept_if (c == 92) _ _ (kept MarkerEscape (t ++ c ∷ []) [] refl (quote_add t c fit))
    (kept_if (c == 10) _ _ (kept Refused t [] refl refl) (kept MarkerName (t ++ c ∷ []) [] refl (quote_add t c fit))))

kept_flags : (c : ℕ) (t : List ℕ) → (c == 10) ≡ false → fits Flags t ≡ true → Kept (λ p. in_flags c (lex Flags t [] p))
kept_flags c t end fit =
    kept_else (c == 10) _ _ end
    (kept_if (c == 32) _ _ (kept Flags t [] refl fit)
    (kept_if (c == 49) _ _ (kept Enters t [] refl fit)
    (kept_if (c == 50) _ _ (kept Returns t [] refl fit)
    (kept_on ((c == 51) || (c == 52)) _ _
    (λ is. kept Flags (t ++ c ∷ []) [] refl (fits_flags t c (and_parts _ _ fit).0 (other_flag c is))) (λ _. kept Refused t [] refl refl)))))

kept_move : (state : State) (flag c : ℕ) (t : List ℕ) → ((t : List ℕ) → fits state t ≡ fits Flags t) → (c == 10) ≡ false → fits Flags t ≡ true → Kept (λ p. in_move flag c (lex state t [] p))
kept_move state flag c t same end fit =
    kept_else (c == 10) _ _ end
    (kept_if (c == 32) _ _ (kept state t [] refl (same t ∙ fit))
    (kept_on ((c == 51) || (c == 52)) _ _
    (λ is. kept state (t ++ c ∷ []) [] refl (same (t ++ c ∷ []) ∙ fits_flags t c (and_parts _ _ fit).0 (other_flag c is))) (λ _. kept Refused t [] refl refl)))

-- a byte that ends no line
kept_byte : (state : State) (k : Class) (c : ℕ) (t d : List ℕ) → (c == 10) ≡ false → fits state t ≡ true → Kept (λ p. step_in state k c (held state t d p))
kept_byte LineStart k c [] d end fit = kept_if (c == 35) _ _ (kept Hash [] [] refl refl) (kept_begins k c LineStart end)
kept_byte Between k c [] d end fit = kept_begins k c Between end
kept_byte Word k c t d end fit = kept_word k c t end fit
kept_byte Number k c t d end fit = kept_number k c Number t end fit
kept_byte Exponent k c t d end fit =
    kept_if ((c == 43) || (c == 45)) _ _ (kept Number (t ++ c ∷ []) [] refl (grown t c end)) (kept_number k c Exponent t end fit)
kept_byte Separator k c t d end fit = kept_separator k c t end fit
kept_byte Operator k c t d end fit = kept_operator k c Operator t end fit
kept_byte Dot k c t d end fit = kept_dot k c t end fit
kept_byte Slash k c t d end fit =
    kept_if (c == 47) _ _ (kept_remark LineComment t refl fit)
    (kept_if (c == 42) _ _ (kept_remark Comment t refl fit) (kept_operator k c Slash (t ++ 47 ∷ []) end (grown t 47 refl)))
kept_byte Text k c t d end fit = kept_quoted 34 c Text TextEscape Closed t (grown t c end) (grown t c end) (grown t c end)
kept_byte TextEscape k c t d end fit = kept_if (c == 10) _ _ (kept Refused t [] refl refl) (kept Text (t ++ c ∷ []) [] refl (grown t c end))
kept_byte Character k c t d end fit = kept_quoted 39 c Character CharacterEscape Closed t (grown t c end) (grown t c end) (grown t c end)
kept_byte CharacterEscape k c t d end fit = kept_if (c == 10) _ _ (kept Refused t [] refl refl) (kept Character (t ++ c ∷ []) [] refl (grown t c end))
kept_byte Closed k c t d end fit = kept_literal k c t end fit
kept_byte Suffix k c t d end fit = kept_suffix k c t end fit
kept_byte RawDelimiter k c t d end fit = kept_delimiter k c t d fit
kept_byte Raw k c t d end fit =
    kept_if ((c == 34) && ends_with nat_eq t d) _ _ (kept Closed (t ++ c ∷ []) [] refl (grown t c end)) (holds Raw (t ++ c ∷ []) d [] refl (other_add t c fit))
kept_byte LineComment k c [] d end fit = kept (state_after LineComment k c) [] [] refl (fits_if (c == 92) _ _ [] refl (fits_if (c == 10) _ _ [] refl refl))
kept_byte Comment k c [] d end fit = kept (in_comment c) [] [] refl (fits_if (c == 92) _ _ [] refl (fits_if (c == 42) _ _ [] refl refl))
kept_byte CommentStar k c [] d end fit =
    kept (state_after CommentStar k c) [] [] refl (fits_if (c == 47) _ _ [] refl (fits_if (c == 92) _ _ [] refl (fits_if (c == 42) _ _ [] refl refl)))
kept_byte Hash k c [] d end fit = kept_hash k c
kept_byte Directive k c t d end fit =
    kept_else (c == 10) _ _ end (kept_if (is_doubtful t c) _ _ (kept Refused t [] refl refl) (kept Directive (t ++ c ∷ []) [] refl (other_add t c fit)))
kept_byte Marker k c [] d end fit = kept (state_after Marker k c) [] [] refl (fits_number k c)
kept_byte MarkerNumber k c [] d end fit = kept (state_after MarkerNumber k c) [] [] refl (fits_more k c)
kept_byte MarkerGap k c [] d end fit = kept_on (c == 34) _ _ (λ is. kept MarkerName (c ∷ []) [] refl is) (λ _. kept Refused [] [] refl refl)
kept_byte MarkerName k c t d end fit = kept_name c t fit
kept_byte MarkerEscape k c t d end fit = kept_if (c == 10) _ _ (kept Refused t [] refl refl) (kept MarkerName (t ++ c ∷ []) [] refl (quote_add t c fit))
kept_byte Flags k c t d end fit = kept_flags c t end fit
kept_byte Enters k c t d end fit = kept_move Enters 49 c t (λ t. refl) end fit
kept_byte Returns k c t d end fit = kept_move Returns 50 c t (λ t. refl) end fit
kept_byte Refused k c t d end fit = holds Refused t d [] refl refl
kept_byte state k c (x ∷ xs) d end fit = absurd (false≢true fit)

other_plain : (t : List ℕ) → begins_other t ≡ true → is_marker (t ++ 10 ∷ []) ≡ false
other_plain [] other = absurd (false≢true other)
other_plain (c ∷ cs) other =
    ap (λ b. (last_of ((c ∷ cs) ++ 10 ∷ []) == 10) && b) (not-true _ other)
    ∙ elim (last_of ((c ∷ cs) ++ 10 ∷ []) == 10) as (λ b. (b && false) ≡ false) [ true ↦ refl | false ↦ refl ]

-- behind a line marker's name
abbrev is_named : State → Bool
is_named Flags = true
is_named Enters = true
is_named Returns = true
is_named _ = false

kept_end : (state : State) (t d : List ℕ) → is_named state ≡ false → fits state t ≡ true → Kept (λ p. step_in state class.LineEnd 10 (held state t d p))
kept_end LineStart t d name fit = kept LineStart t [] refl fit
kept_end Between t d name fit = kept LineStart t [] refl fit
kept_end LineComment t d name fit = kept LineStart t [] refl fit
kept_end MarkerNumber t d name fit = kept LineStart t [] refl fit
kept_end Comment t d name fit = kept Comment t [] refl fit
kept_end CommentStar t d name fit = kept Comment t [] refl fit
kept_end Word t d name fit = kept LineStart [] (t ∷ []) (plain_ends t fit) refl
kept_end Number t d name fit = kept LineStart [] (t ∷ []) (plain_ends t fit) refl
kept_end Exponent t d name fit = kept LineStart [] (t ∷ []) (plain_ends t fit) refl
kept_end Operator t d name fit = kept LineStart [] (t ∷ []) (plain_ends t fit) refl
kept_end Dot t d name fit = kept LineStart [] (t ∷ []) (plain_ends t fit) refl
kept_end Slash t d name fit = kept LineStart [] ((t ++ 47 ∷ []) ∷ []) (plain_ends (t ++ 47 ∷ []) (grown t 47 refl)) refl
kept_end Closed t d name fit = kept LineStart [] (t ∷ []) (plain_ends t fit) refl
kept_end Suffix t d name fit = kept LineStart [] (t ∷ []) (plain_ends t fit) refl
kept_end RawDelimiter t d name fit = holds Refused t d [] refl refl
kept_end Raw t d name fit = holds Raw (t ++ 10 ∷ []) d [] refl (other_add t 10 fit)
kept_end Directive t d name fit =
    kept_if (starts_with nat_eq t (codes "#line")) _ _ (kept Refused t [] refl refl)
    (kept LineStart [] ((t ++ 10 ∷ []) ∷ []) (ap (λ b. cond b false true) (other_plain t fit)) refl)
kept_end Flags t d name fit = absurd (false≢true (sym name))
kept_end Enters t d name fit = absurd (false≢true (sym name))
kept_end Returns t d name fit = absurd (false≢true (sym name))
kept_end Refused t d name fit = holds Refused t d [] refl refl
kept_end state t d name fit = kept Refused t [] refl refl

-- each step but the end of a line marker
kept_step : (state : State) (c : ℕ) (t d : List ℕ) → ((c == 10) && is_named state) ≡ false → fits state t ≡ true → Kept (λ p. step c (held state t d p))
kept_step state c t d other fit =
    elim (c == 10) as (λ b. (c == 10) ≡ b → (b && is_named state) ≡ false → Kept (λ p. step c (held state t d p))) [
      | true ↦ λ is name. subst (λ c. Kept (λ p. step c (held state t d p))) (sym (eqb-true c 10 is)) (kept_end state t d name fit)
      | false ↦ λ end _. kept_byte state (class_of c) c t d end fit
    ] refl other

-- ---- the file of the last line marker

-- the file of a line marker's token
abbrev place_of : List ℕ → List ℕ
place_of token = cond (is_flag (last_of (without_last token))) (without_last (without_last token)) (without_last token)

-- the file after some tokens
abbrev place_after : List ℕ → List (List ℕ) → List ℕ
place_after place [] = place
place_after place (t ∷ ts) = place_after (cond (is_marker t) (place_of t) place) ts

-- the tokens that are left of these behind a file: the first line marker is none if it names that file
abbrev left : List ℕ → List (List ℕ) → List (List ℕ)
left place [] = []
left place (t ∷ ts) =
    cond (is_marker t) (cond (not (is_flag (last_of (without_last t))) && bytes_eq (without_last t) place) ts (t ∷ ts)) (t ∷ left place ts)

no_flag : (t : List ℕ) → fits Flags t ≡ true → is_flag (last_of t) ≡ false
no_flag t fit = not-true _ (and_parts _ _ fit).1

marker_here : (t : List ℕ) → begins_quote t ≡ true → is_marker (t ++ 10 ∷ []) ≡ true
marker_here t quote = ap (λ x. (x == 10) && begins_quote (t ++ 10 ∷ [])) (last_add t 10) ∙ quote_add t 10 quote

place_stays : (t : List ℕ) → fits Flags t ≡ true → place_of (t ++ 10 ∷ []) ≡ t
place_stays t fit =
    ap (λ w. cond (is_flag (last_of w)) (without_last w) w) (without_add t 10) ∙ ap (λ b. cond b (without_last t) t) (no_flag t fit)

place_moves : (t : List ℕ) (flag : ℕ) → is_flag flag ≡ true → place_of ((t ++ flag ∷ []) ++ 10 ∷ []) ≡ t
place_moves t flag is =
    ap (λ w. cond (is_flag (last_of w)) (without_last w) w) (without_add (t ++ flag ∷ []) 10)
    ∙ ap (λ b. cond b (without_last (t ++ flag ∷ [])) (t ++ flag ∷ [])) (ap is_flag (last_add t flag) ∙ is) ∙ without_add t flag

plain_place : (p : List ℕ) (ended more : List (List ℕ)) → all_plain ended ≡ true → place_after p (ended ++ more) ≡ place_after p more
plain_place p [] more plain = refl
plain_place p (t ∷ ts) more plain =
    elim (is_marker t) as (λ b. cond b false (all_plain ts) ≡ true → place_after (cond b (place_of t) p) (ts ++ more) ≡ place_after p more) [
      | true ↦ λ never. absurd (false≢true never)
      | false ↦ λ plain. plain_place p ts more plain
    ] plain

plain_left : (p : List ℕ) (ended more : List (List ℕ)) → all_plain ended ≡ true → ended ++ left p more ≡ left p (ended ++ more)
plain_left p [] more plain = refl
plain_left p (t ∷ ts) more plain =
    elim (is_marker t) as (λ b. cond b false (all_plain ts) ≡ true →
    t ∷ (ts ++ left p more) ≡ cond b (cond (not (is_flag (last_of (without_last t))) && bytes_eq (without_last t) p) (ts ++ more) (t ∷ (ts ++ more))) (t ∷ left p (ts ++ more))) [
      | true ↦ λ never. absurd (false≢true never)
      | false ↦ λ plain. ap (λ l. t ∷ l) (plain_left p ts more plain)
    ] plain

plain_map : (p : List ℕ) (ended : List (List ℕ)) (found : Option (List (List ℕ))) → all_plain ended ≡ true →
    option_map (λ ts. ended ++ ts) (option_map (left p) found) ≡ option_map (left p) (option_map (λ ts. ended ++ ts) found)
plain_map p ended None plain = refl
plain_map p ended (Some ts) plain = ap Some (plain_left p ended ts plain)

-- a step that nothing of this changes
step_left : (p : List ℕ) (f : List ℕ → Step) (next : Kept f) (cs : List ℕ) →
    tokens_from (held next.state next.token next.delimiter p) cs ≡ option_map (left p) (tokens_from (held next.state next.token next.delimiter []) cs) →
    from (f p) cs ≡ option_map (left p) (from (f []) cs)
step_left p f next cs on =
    ap (λ after. from after cs) (next.is p) ∙ ap (option_map (λ ts. next.ended ++ ts)) on
    ∙ plain_map p next.ended _ next.plain ∙ ap (λ after. option_map (left p) (from after cs)) (sym (next.is []))

one_left : (p t : List ℕ) → is_marker t ≡ false → Some (t ∷ []) ≡ Some (left p (t ∷ []))
one_left p t is = sym (ap (λ b. Some (cond b (cond (not (is_flag (last_of (without_last t))) && bytes_eq (without_last t) p) [] (t ∷ [])) (t ∷ []))) is)

ending_left : (p : List ℕ) (state : State) (t : List ℕ) → fits state t ≡ true → ending state t ≡ option_map (left p) (ending state t)
ending_left p LineStart t fit = refl
ending_left p Slash t fit = one_left p (t ++ 47 ∷ []) (plain_one (t ++ 47 ∷ []) (grown t 47 refl))
ending_left p Word t fit = one_left p t (plain_one t fit)
ending_left p Number t fit = one_left p t (plain_one t fit)
ending_left p Exponent t fit = one_left p t (plain_one t fit)
ending_left p Operator t fit = one_left p t (plain_one t fit)
ending_left p Dot t fit = one_left p t (plain_one t fit)
ending_left p Closed t fit = one_left p t (plain_one t fit)
ending_left p Suffix t fit = one_left p t (plain_one t fit)
ending_left p state t fit = refl

stay_one : (t p : List ℕ) (ts : List (List ℕ)) → fits Flags t ≡ true → left p ((t ++ 10 ∷ []) ∷ ts) ≡ cond (bytes_eq t p) ts ((t ++ 10 ∷ []) ∷ ts)
stay_one t p ts fit =
    let marker = t ++ 10 ∷ [] in
    ap (λ b. cond b (cond (not (is_flag (last_of (without_last marker))) && bytes_eq (without_last marker) p) ts (marker ∷ ts)) (marker ∷ left p ts))
    (marker_here t (and_parts _ _ fit).0)
    ∙ ap (λ w. cond (not (is_flag (last_of w)) && bytes_eq w p) ts (marker ∷ ts)) (without_add t 10)
    ∙ ap (λ b. cond (not b && bytes_eq t p) ts (marker ∷ ts)) (no_flag t fit)

stay_map : (t p : List ℕ) (b : Bool) (found : Option (List (List ℕ))) → fits Flags t ≡ true → bytes_eq t p ≡ b →
    option_map (λ ts. cond b [] ((t ++ 10 ∷ []) ∷ []) ++ ts) found ≡ option_map (left p) (option_map (λ ts. ((t ++ 10 ∷ []) ∷ []) ++ ts) found)
stay_map t p b None fit is = refl
stay_map t p b (Some ts) fit is =
    ap Some (elim b as (λ b. cond b [] ((t ++ 10 ∷ []) ∷ []) ++ ts ≡ cond b ts ((t ++ 10 ∷ []) ∷ ts)) [ true ↦ refl | false ↦ refl ]
    ∙ sym (stay_one t p ts fit ∙ ap (λ b. cond b ts ((t ++ 10 ∷ []) ∷ ts)) is))

stay_left : (t p cs : List ℕ) → fits Flags t ≡ true → tokens_from (lex Flags t [] p) (10 ∷ cs) ≡ option_map (left p) (tokens_from (lex Flags t [] []) (10 ∷ cs))
stay_left [] p cs fit = absurd (false≢true fit)
stay_left (x ∷ xs) p cs fit =
    let t = x ∷ xs in
    let marker = t ++ 10 ∷ [] in
    elim (bytes_eq t p) as (λ b. bytes_eq t p ≡ b →
    from (cond b (lex LineStart [] [] p, []) (lex LineStart [] [] t, marker ∷ [])) cs ≡ option_map (left p) (option_map (λ ts. (marker ∷ []) ++ ts) (tokens_from (lex LineStart [] [] t) cs))) [
      | true ↦ λ is.
          ap (λ q. option_map (λ ts. [] ++ ts) (tokens_from (lex LineStart [] [] q) cs)) (sym ((bytes_eq-Decides t p).0 is))
          ∙ stay_map t p true (tokens_from (lex LineStart [] [] t) cs) fit is
      | false ↦ λ is. stay_map t p false (tokens_from (lex LineStart [] [] t) cs) fit is
    ] refl

move_one : (t p : List ℕ) (flag : ℕ) (ts : List (List ℕ)) → is_flag flag ≡ true → begins_quote t ≡ true →
    left p (((t ++ flag ∷ []) ++ 10 ∷ []) ∷ ts) ≡ ((t ++ flag ∷ []) ++ 10 ∷ []) ∷ ts
move_one t p flag ts is quote =
    let name = t ++ flag ∷ [] in
    let marker = name ++ 10 ∷ [] in
    ap (λ b. cond b (cond (not (is_flag (last_of (without_last marker))) && bytes_eq (without_last marker) p) ts (marker ∷ ts)) (marker ∷ left p ts))
    (marker_here name (quote_add t flag quote))
    ∙ ap (λ w. cond (not (is_flag (last_of w)) && bytes_eq w p) ts (marker ∷ ts)) (without_add name 10)
    ∙ ap (λ b. cond (not b && bytes_eq name p) ts (marker ∷ ts)) (ap is_flag (last_add t flag) ∙ is)

move_map : (t p : List ℕ) (flag : ℕ) (found : Option (List (List ℕ))) → is_flag flag ≡ true → begins_quote t ≡ true →
    option_map (λ ts. (((t ++ flag ∷ []) ++ 10 ∷ []) ∷ []) ++ ts) found ≡ option_map (left p) (option_map (λ ts. (((t ++ flag ∷ []) ++ 10 ∷ []) ∷ []) ++ ts) found)
move_map t p flag None is quote = refl
move_map t p flag (Some ts) is quote = ap Some (sym (move_one t p flag ts is quote))

move_left : (state : State) (flag : ℕ) → is_flag flag ≡ true → ((t p : List ℕ) → step 10 (lex state t [] p) ≡ in_move flag 10 (lex state t [] p)) →
    (t p cs : List ℕ) → fits Flags t ≡ true → tokens_from (lex state t [] p) (10 ∷ cs) ≡ option_map (left p) (tokens_from (lex state t [] []) (10 ∷ cs))
move_left state flag is steps t p cs fit =
    ap (λ next. from next cs) (steps t p)
    ∙ move_map t p flag (tokens_from (lex LineStart [] [] t) cs) is (and_parts _ _ fit).0
    ∙ sym (ap (λ next. option_map (left p) (from next cs)) (steps t []))

named_left : (state : State) (t d p cs : List ℕ) → is_named state ≡ true → fits state t ≡ true →
    tokens_from (held state t d p) (10 ∷ cs) ≡ option_map (left p) (tokens_from (held state t d []) (10 ∷ cs))
named_left Flags t d p cs name fit = stay_left t p cs fit
named_left Enters t d p cs name fit = move_left Enters 49 refl (λ t p. refl) t p cs fit
named_left Returns t d p cs name fit = move_left Returns 50 refl (λ t p. refl) t p cs fit
named_left state t d p cs name fit = absurd (false≢true name)

-- the tokens of a text behind a file
text_left : (state : State) (t d p text : List ℕ) → fits state t ≡ true → tokens_from (held state t d p) text ≡ option_map (left p) (tokens_from (held state t d []) text)
text_left state t d p [] fit = ending_left p state t fit
text_left state t d p (c ∷ cs) fit =
    elim ((c == 10) && is_named state) as (λ b. ((c == 10) && is_named state) ≡ b → tokens_from (held state t d p) (c ∷ cs) ≡ option_map (left p) (tokens_from (held state t d []) (c ∷ cs))) [
      | true ↦ λ both.
          let parts = and_parts (c == 10) (is_named state) both in
          subst (λ c. tokens_from (held state t d p) (c ∷ cs) ≡ option_map (left p) (tokens_from (held state t d []) (c ∷ cs))) (sym (eqb-true c 10 parts.0))
          (named_left state t d p cs parts.1 fit)
      | false ↦ λ other.
          let next : Kept (λ p. step c (held state t d p)) = kept_step state c t d other fit in
          step_left p (λ p. step c (held state t d p)) next cs (text_left next.state next.token next.delimiter p cs next.fit)
    ] refl

-- the file that a lexer ends at is that of its tokens, and it holds only what its state needs
record Placed (p : List ℕ) (after : Step) : Type 0 where
  place : place_after p after.1 ≡ after.0.place
  fit : fits after.0.state after.0.token ≡ true
  is : after.0 ≡ held after.0.state after.0.token after.0.delimiter after.0.place

marker_placed : (t p token cs : List ℕ) → is_marker token ≡ true → place_of token ≡ t → Placed t (run (lex LineStart [] [] t) cs) →
    Placed p ((run (lex LineStart [] [] t) cs).0, (token ∷ []) ++ (run (lex LineStart [] [] t) cs).1)
marker_placed t p token cs marker place on =
    let more = (run (lex LineStart [] [] t) cs).1 in
    record {
      place = ap (λ b. place_after (cond b (place_of token) p) more) marker ∙ ap (λ q. place_after q more) place ∙ on.place;
      fit = on.fit;
      is = on.is;
    }

move_placed : (state : State) (flag : ℕ) → is_flag flag ≡ true → ((t p : List ℕ) → step 10 (lex state t [] p) ≡ in_move flag 10 (lex state t [] p)) →
    (t p cs : List ℕ) → fits Flags t ≡ true → Placed t (run (lex LineStart [] [] t) cs) → Placed p (run (lex state t [] p) (10 ∷ cs))
move_placed state flag is steps t p cs fit on =
    subst (λ (after : Step). Placed p ((run after.0 cs).0, after.1 ++ (run after.0 cs).1)) (sym (steps t p))
    (marker_placed t p ((t ++ flag ∷ []) ++ 10 ∷ []) cs (marker_here (t ++ flag ∷ []) (quote_add t flag (and_parts _ _ fit).0)) (place_moves t flag is) on)

named_placed : (state : State) (t d p cs : List ℕ) → is_named state ≡ true → fits state t ≡ true → ((q : List ℕ) → Placed q (run (lex LineStart [] [] q) cs)) →
    Placed p (run (held state t d p) (10 ∷ cs))
named_placed Flags t d p cs name fit on =
    elim (bytes_eq t p) as (λ b.
    let after : Step = cond b (lex LineStart [] [] p, []) (lex LineStart [] [] t, (t ++ 10 ∷ []) ∷ []) in
    Placed p ((run after.0 cs).0, after.1 ++ (run after.0 cs).1)) [
      | true ↦ on p
      | false ↦ marker_placed t p (t ++ 10 ∷ []) cs (marker_here t (and_parts _ _ fit).0) (place_stays t fit) (on t)
    ]
named_placed Enters t d p cs name fit on = move_placed Enters 49 refl (λ t p. refl) t p cs fit (on t)
named_placed Returns t d p cs name fit on = move_placed Returns 50 refl (λ t p. refl) t p cs fit (on t)
named_placed state t d p cs name fit on = absurd (false≢true name)

placed : (state : State) (t d p text : List ℕ) → fits state t ≡ true → Placed p (run (held state t d p) text)
placed state t d p [] fit = record {
  place = refl;
  fit = fit;
  is = ap (λ d. lex state t d p) (elim (keeps_delimiter state) as (λ b. cond b d [] ≡ cond b (cond b d []) []) [ true ↦ refl | false ↦ refl ]);
}
placed state t d p (c ∷ cs) fit =
    elim ((c == 10) && is_named state) as (λ b. ((c == 10) && is_named state) ≡ b → Placed p (run (held state t d p) (c ∷ cs))) [
      | true ↦ λ both.
          let parts = and_parts (c == 10) (is_named state) both in
          subst (λ c. Placed p (run (held state t d p) (c ∷ cs))) (sym (eqb-true c 10 parts.0))
          (named_placed state t d p cs parts.1 fit (λ q. placed LineStart [] d q cs refl))
      | false ↦ λ other.
          let next : Kept (λ p. step c (held state t d p)) = kept_step state c t d other fit in
          let more : Placed p (run (held next.state next.token next.delimiter p) cs) = placed next.state next.token next.delimiter p cs next.fit in
          subst (λ (after : Step). Placed p ((run after.0 cs).0, after.1 ++ (run after.0 cs).1)) (sym (next.is p))
          (record { place = plain_place p next.ended _ next.plain ∙ more.place; fit = more.fit; is = more.is })
    ] refl

-- ---- a text and its parts

empty : (t : List ℕ) → is_empty t ≡ true → t ≡ []
empty [] none = refl
empty (c ∷ cs) none = absurd (false≢true none)

-- behind whole lines a lexer is where it began, but for the file of the last line marker
pub behind_lines : (part rest : List ℕ) (ended : List (List ℕ)) → is_whole_lines part ≡ true → tokens_from beginning part ≡ Some ended →
    tokens_from beginning (part ++ rest) ≡ option_map (λ ts. ended ++ ts) (tokens_from (lexer LineStart [] (run beginning part).0.place) rest)
behind_lines part rest ended whole reads =
    let after = run beginning part in
    let there : Placed [] after = placed LineStart [] [] [] part refl in
    let starts : after.0.state ≡ LineStart = start_again beginning part ended refl whole reads in
    let is : after.0 ≡ lexer LineStart [] after.0.place =
    there.is ∙ ap (λ state. held state after.0.token after.0.delimiter after.0.place) starts
    ∙ ap (λ token. lexer LineStart token after.0.place) (empty after.0.token (ap (λ state. fits state after.0.token) (sym starts) ∙ there.fit)) in
    run_on beginning part rest
    ∙ ap (λ (first : List (List ℕ)). option_map (λ ts. first ++ ts) (tokens_from after.0 rest)) (run_tokens part ended whole reads)
    ∙ ap (λ v. option_map (λ ts. ended ++ ts) (tokens_from v rest)) is

-- the tokens of a text from those of its first part and of the rest
abbrev joined : List (List ℕ) → List (List ℕ) → List (List ℕ)
joined ended more = ended ++ left (place_after [] ended) more

join_maps : (ended : List (List ℕ)) (p : List ℕ) (found : Option (List (List ℕ))) →
    option_map (λ ts. ended ++ ts) (option_map (left p) found) ≡ option_map (λ ts. ended ++ left p ts) found
join_maps ended p None = refl
join_maps ended p (Some ts) = refl

lines_join : (part rest : List ℕ) (ended : List (List ℕ)) → is_whole_lines part ≡ true → tokens_from beginning part ≡ Some ended →
    tokens_from beginning (part ++ rest) ≡ option_map (joined ended) (tokens_from beginning rest)
lines_join part rest ended whole reads =
    let place : (run beginning part).0.place ≡ place_after [] ended = sym (placed LineStart [] [] [] part refl).place ∙ ap (place_after []) (run_tokens part ended whole reads) in
    behind_lines part rest ended whole reads
    ∙ ap (λ p. option_map (λ ts. ended ++ ts) (tokens_from (lex LineStart [] [] p) rest)) place
    ∙ ap (option_map (λ ts. ended ++ ts)) (text_left LineStart [] [] (place_after [] ended) rest refl)
    ∙ join_maps ended (place_after [] ended) (tokens_from beginning rest)

-- the tokens of two texts, one behind the other
abbrev join_two : Option (List (List ℕ)) → Option (List (List ℕ)) → Option (List (List ℕ))
join_two None rest = None
join_two (Some ended) rest = option_map (joined ended) rest

-- the tokens of all parts
abbrev join_all : List (Option (List (List ℕ))) → Option (List (List ℕ))
join_all [] = Some []
join_all (part ∷ []) = part
join_all (part ∷ next ∷ rest) = join_two part (join_all (next ∷ rest))

parts_join : (parts : List (List ℕ)) → are_parts parts ≡ true → list_all is_some (map tokens parts) ≡ true → tokens (concat parts) ≡ join_all (map tokens parts)
parts_join [] are read = refl
parts_join (part ∷ []) are read = ap tokens (append-nil part)
parts_join (part ∷ next ∷ rest) are read =
    let whole = and_parts (is_whole_lines part) (are_parts (next ∷ rest)) are in
    let each = and_parts (is_some (tokens part)) (list_all is_some (map tokens (next ∷ rest))) read in
    elim (tokens part) as (λ found. tokens part ≡ found → is_some found ≡ true → tokens (part ++ concat (next ∷ rest)) ≡ join_two found (join_all (map tokens (next ∷ rest)))) [
      | None ↦ λ _ never. absurd (false≢true never)
      | Some ended ↦ λ reads _.
          for_all_texts part (concat (next ∷ rest)) ended (joined ended) whole.0 reads (lines_join part (concat (next ∷ rest)) ended whole.0)
          ∙ ap (option_map (joined ended)) (parts_join (next ∷ rest) whole.1 each.1)
    ] refl each.0

pub parts_determine : PartsDetermine
parts_determine first second one two read same =
    parts_join first one read ∙ ap join_all same ∙ sym (parts_join second two (subst (λ found. list_all is_some found ≡ true) same read))
