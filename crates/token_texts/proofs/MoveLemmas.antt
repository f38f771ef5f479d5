-- Texts that are cut in front of a line marker that enters a file or returns to one.
use Rattle.std.proofs.Common.{◌≡◌, ℕ, Bool, true, false, cond, ◌==◌, ◌&&◌, ◌||◌, List, [], ◌∷◌, ◌++◌, Option, Some, None, option_map, refl, ap, sym, subst, ◌∙◌, arith}
use Rattle.std.proofs.lemmas.Bool.{and_parts, eqb-true, false≢true}
use Rattle.std.proofs.lemmas.Bool.Decides.{nat_tests}
use Rattle.token_texts.specs.declared.class.Class.{Class}
use Rattle.token_texts.specs.declared.class.Class.TheVariants as class
use Rattle.token_texts.specs.declared.lexer.State.{State}
use Rattle.token_texts.specs.declared.lexer.State.TheVariants.{Marker, MarkerNumber, MarkerGap, MarkerName, MarkerEscape, Flags, Enters, Returns, Refused}
use Rattle.token_texts.specs.Classes.{class_of}
use Rattle.token_texts.specs.Lexing.{Step, beginning, step, state_after, tokens_from, tokens, in_move}
use Rattle.token_texts.proofs.PlaceLemmas.{behind_lines}
use Rattle.token_texts.proofs.RunLemmas.{lexer, from, run, for_all_texts}
use Rattle.token_texts.specs.TokenLaws.{is_whole_lines, has_no_quote, has_flag, begins_with_flag, PartsHaveTheTokens}

-- ---- a line marker that moves to another file

-- where nothing is read any more
refused : (t p text : List ℕ) → tokens_from (lexer Refused t p) text ≡ None
refused t p [] = refl
refused t p (c ∷ cs) = ap (option_map (λ ts. [] ++ ts)) (refused t p cs)

same_if : (b : Bool) (x y v w : Step) (cs : List ℕ) → from x cs ≡ from v cs → from y cs ≡ from w cs → from (cond b x y) cs ≡ from (cond b v w) cs
same_if true x y v w cs one two = one
same_if false x y v w cs one two = two

none_if : (b : Bool) (x y : Step) (cs : List ℕ) → from x cs ≡ None → from y cs ≡ None → from (cond b x y) cs ≡ None
none_if true x y cs one two = one
none_if false x y cs one two = two

both_refused : (t p q cs : List ℕ) → tokens_from (lexer Refused t p) cs ≡ tokens_from (lexer Refused t q) cs
both_refused t p q cs = refused t p cs ∙ sym (refused t q cs)

-- behind the flag, the file of the last line marker doesn't count
moved : (state : State) (flag : ℕ) → ((c : ℕ) (t p : List ℕ) → step c (lexer state t p) ≡ in_move flag c (lexer state t p)) →
    (t p q text : List ℕ) → tokens_from (lexer state t p) text ≡ tokens_from (lexer state t q) text
moved state flag is t p q [] = refl
moved state flag is t p q (c ∷ cs) =
    ap (λ next. from next cs) (is c t p)
    ∙ same_if (c == 10) _ _ _ _ cs refl
    (same_if (c == 32) _ _ _ _ cs (ap (option_map (λ ts. [] ++ ts)) (moved state flag is t p q cs))
    (same_if ((c == 51) || (c == 52)) _ _ _ _ cs (ap (option_map (λ ts. [] ++ ts)) (moved state flag is (t ++ c ∷ []) p q cs))
    (ap (option_map (λ ts. [] ++ ts)) (both_refused t p q cs))))
    ∙ sym (ap (λ next. from next cs) (is c t q))

none_else : (b : Bool) (x y : Step) (cs : List ℕ) → b ≡ false → from y cs ≡ None → from (cond b x y) cs ≡ None
none_else true x y cs is none = absurd (false≢true (sym is))
none_else false x y cs is none = none

-- in a line marker's name, or there behind a backslash
abbrev in_name : Bool → State
in_name true = MarkerName
in_name false = MarkerEscape

same_on : (ended : List (List ℕ)) (one two : Option (List (List ℕ))) → one ≡ two → option_map (λ ts. ended ++ ts) one ≡ option_map (λ ts. ended ++ ts) two
same_on ended one two same = ap (option_map (λ ts. ended ++ ts)) same

-- a name that has no end has no reading
unnamed : (b : Bool) (t p text : List ℕ) → has_no_quote text ≡ true → tokens_from (lexer (in_name b) t p) text ≡ None
unnamed true t p [] none = refl
unnamed false t p [] none = refl
unnamed true t p (c ∷ cs) none =
    elim (c == 10) as (λ b. (c == 10) ≡ b → cond b true (cond (c == 34) false (has_no_quote cs)) ≡ true → tokens_from (lexer MarkerName t p) (c ∷ cs) ≡ None) [
      | true ↦ λ is none. subst (λ c. tokens_from (lexer MarkerName t p) (c ∷ cs) ≡ None) (sym (eqb-true c 10 is)) (same_on [] _ None (refused t p cs))
      | false ↦ λ no_end none.
          elim (c == 34) as (λ b. (c == 34) ≡ b → cond b false (has_no_quote cs) ≡ true → tokens_from (lexer MarkerName t p) (c ∷ cs) ≡ None) [
            | true ↦ λ is never. absurd (false≢true never)
            | false ↦ λ no_quote none.
                none_else (c == 34) _ _ cs no_quote
                (none_if (c == 92) _ _ cs (same_on [] _ None (unnamed false (t ++ c ∷ []) p cs none))
                (none_if (c == 10) _ _ cs (same_on [] _ None (refused t p cs)) (same_on [] _ None (unnamed true (t ++ c ∷ []) p cs none))))
          ] refl none
    ] refl none
unnamed false t p (c ∷ cs) none =
    elim (c == 10) as (λ b. (c == 10) ≡ b → cond b true (cond (c == 34) false (has_no_quote cs)) ≡ true → tokens_from (lexer MarkerEscape t p) (c ∷ cs) ≡ None) [
      | true ↦ λ is none. subst (λ c. tokens_from (lexer MarkerEscape t p) (c ∷ cs) ≡ None) (sym (eqb-true c 10 is)) (same_on [] _ None (refused t p cs))
      | false ↦ λ no_end none.
          elim (c == 34) as (λ b. cond b false (has_no_quote cs) ≡ true → tokens_from (lexer MarkerEscape t p) (c ∷ cs) ≡ None) [
            | true ↦ λ never. absurd (false≢true never)
            | false ↦ λ none. none_else (c == 10) _ _ cs no_end (same_on [] _ None (unnamed true (t ++ c ∷ []) p cs none))
          ] none
    ] refl none

-- behind `# `, until the line ends
abbrev is_in_marker : State → Bool
is_in_marker Marker = true
is_in_marker MarkerNumber = true
is_in_marker MarkerGap = true
is_in_marker MarkerName = true
is_in_marker MarkerEscape = true
is_in_marker Flags = true
is_in_marker Enters = true
is_in_marker Returns = true
is_in_marker Refused = true
is_in_marker _ = false

marker_state_if : (b : Bool) (x y : State) → is_in_marker x ≡ true → is_in_marker y ≡ true → is_in_marker (cond b x y) ≡ true
marker_state_if true x y one two = one
marker_state_if false x y one two = two

line_end : (c : ℕ) → class_of c ≡ class.LineEnd → (c == 10) ≡ true
line_end c is = grind (arith, nat_tests)

number_goes_on : (c : ℕ) → (c == 10) ≡ false → is_in_marker (state_after MarkerNumber (class_of c) c) ≡ true
number_goes_on c no_end =
    elim (class_of c) as (λ k. class_of c ≡ k → is_in_marker (state_after MarkerNumber k c) ≡ true) [
      | class.LineEnd ↦ λ is. absurd (false≢true (sym no_end ∙ line_end c is))
      | class.Blank ↦ λ _. marker_state_if (c == 32) MarkerGap Refused refl refl
      | _ ↦ λ _. refl
    ] refl

number_begins : (k : Class) (c : ℕ) → is_in_marker (state_after Marker k c) ≡ true
number_begins class.Digit c = refl
number_begins k c = refl

same_else : (b : Bool) (x y v w : Step) (cs : List ℕ) → b ≡ false → from y cs ≡ from w cs → from (cond b x y) cs ≡ from (cond b v w) cs
same_else true x y v w cs is same = absurd (false≢true (sym is))
same_else false x y v w cs is same = same

-- a byte of a line marker
marker_step : (state : State) (c : ℕ) (t p q cs : List ℕ) → is_in_marker state ≡ true → (c == 10) ≡ false →
    ((state : State) (t : List ℕ) → is_in_marker state ≡ true → tokens_from (lexer state t p) cs ≡ tokens_from (lexer state t q) cs) →
    tokens_from (lexer state t p) (c ∷ cs) ≡ tokens_from (lexer state t q) (c ∷ cs)
marker_step Marker c t p q cs is no_end on = same_on [] _ _ (on (state_after Marker (class_of c) c) t (number_begins (class_of c) c))
marker_step MarkerNumber c t p q cs is no_end on = same_on [] _ _ (on (state_after MarkerNumber (class_of c) c) t (number_goes_on c no_end))
marker_step MarkerGap c t p q cs is no_end on =
    same_if (c == 34) _ _ _ _ cs (same_on [] _ _ (on MarkerName (t ++ c ∷ []) refl)) (same_on [] _ _ (on Refused t refl))
marker_step MarkerName c t p q cs is no_end on =
    same_if (c == 34) _ _ _ _ cs (same_on [] _ _ (on Flags (t ++ c ∷ []) refl))
    (same_if (c == 92) _ _ _ _ cs (same_on [] _ _ (on MarkerEscape (t ++ c ∷ []) refl))
    (same_if (c == 10) _ _ _ _ cs (same_on [] _ _ (on Refused t refl)) (same_on [] _ _ (on MarkerName (t ++ c ∷ []) refl))))
marker_step MarkerEscape c t p q cs is no_end on =
    same_if (c == 10) _ _ _ _ cs (same_on [] _ _ (on Refused t refl)) (same_on [] _ _ (on MarkerName (t ++ c ∷ []) refl))
marker_step Flags c t p q cs is no_end on =
    same_else (c == 10) _ _ _ _ cs no_end
    (same_if (c == 32) _ _ _ _ cs (same_on [] _ _ (on Flags t refl))
    (same_if (c == 49) _ _ _ _ cs (same_on [] _ _ (on Enters t refl))
    (same_if (c == 50) _ _ _ _ cs (same_on [] _ _ (on Returns t refl))
    (same_if ((c == 51) || (c == 52)) _ _ _ _ cs (same_on [] _ _ (on Flags (t ++ c ∷ []) refl)) (same_on [] _ _ (on Refused t refl))))))
marker_step Enters c t p q cs is no_end on = moved Enters 49 (λ c t p. refl) t p q (c ∷ cs)
marker_step Returns c t p q cs is no_end on = moved Returns 50 (λ c t p. refl) t p q (c ∷ cs)
marker_step Refused c t p q cs is no_end on = both_refused t p q (c ∷ cs)
marker_step state c t p q cs is no_end on = absurd (false≢true is)

-- the line's last `"`
last_quote : (state : State) (t p q more : List ℕ) → is_in_marker state ≡ true → has_no_quote more ≡ true →
    ((t : List ℕ) → tokens_from (lexer Flags t p) more ≡ tokens_from (lexer Flags t q) more) →
    tokens_from (lexer state t p) (34 ∷ more) ≡ tokens_from (lexer state t q) (34 ∷ more)
last_quote MarkerName t p q more is none flags = same_on [] _ _ (flags (t ++ 34 ∷ []))
last_quote MarkerGap t p q more is none flags = same_on [] _ _ (unnamed true (t ++ 34 ∷ []) p more none ∙ sym (unnamed true (t ++ 34 ∷ []) q more none))
last_quote MarkerEscape t p q more is none flags = same_on [] _ _ (unnamed true (t ++ 34 ∷ []) p more none ∙ sym (unnamed true (t ++ 34 ∷ []) q more none))
last_quote Marker t p q more is none flags = same_on [] _ _ (both_refused t p q more)
last_quote MarkerNumber t p q more is none flags = same_on [] _ _ (both_refused t p q more)
last_quote Flags t p q more is none flags = same_on [] _ _ (both_refused t p q more)
last_quote Enters t p q more is none flags = same_on [] _ _ (both_refused t p q more)
last_quote Returns t p q more is none flags = same_on [] _ _ (both_refused t p q more)
last_quote Refused t p q more is none flags = same_on [] _ _ (both_refused t p q more)
last_quote state t p q more is none flags = absurd (false≢true is)

-- ` 1` or ` 2` behind the name
same_flags : (more t p q : List ℕ) → begins_with_flag more ≡ true → tokens_from (lexer Flags t p) more ≡ tokens_from (lexer Flags t q) more
same_flags [] t p q is = absurd (false≢true is)
same_flags (c ∷ []) t p q is = absurd (false≢true is)
same_flags (c ∷ d ∷ cs) t p q is =
    let parts = and_parts (c == 32) ((d == 49) || (d == 50)) is in
    subst (λ c. tokens_from (lexer Flags t p) (c ∷ d ∷ cs) ≡ tokens_from (lexer Flags t q) (c ∷ d ∷ cs)) (sym (eqb-true c 32 parts.0))
    (same_on [] _ _ (elim (d == 49) as (λ b. (d == 49) ≡ b → (b || (d == 50)) ≡ true → tokens_from (lexer Flags t p) (d ∷ cs) ≡ tokens_from (lexer Flags t q) (d ∷ cs)) [
      | true ↦ λ one _.
          subst (λ d. tokens_from (lexer Flags t p) (d ∷ cs) ≡ tokens_from (lexer Flags t q) (d ∷ cs)) (sym (eqb-true d 49 one))
          (same_on [] _ _ (moved Enters 49 (λ c t p. refl) t p q cs))
      | false ↦ λ _ two.
          subst (λ d. tokens_from (lexer Flags t p) (d ∷ cs) ≡ tokens_from (lexer Flags t q) (d ∷ cs)) (sym (eqb-true d 50 two))
          (same_on [] _ _ (moved Returns 50 (λ c t p. refl) t p q cs))
    ] refl parts.1))

-- two lexers that differ in the last line marker's file read the same tokens
abbrev Same : State → List ℕ → List ℕ → List ℕ → List ℕ → Type 0
Same state t p q text = tokens_from (lexer state t p) text ≡ tokens_from (lexer state t q) text

-- in a line marker that moves to another file, the file of the last one doesn't count
same_marker : (state : State) (t p q text : List ℕ) → is_in_marker state ≡ true → has_flag text ≡ true → Same state t p q text
same_marker state t p q [] is moves = absurd (false≢true moves)
same_marker state t p q (c ∷ cs) is moves =
    let here = (c == 34) && (begins_with_flag cs && has_no_quote cs) in
    elim (c == 10) as (λ b. (c == 10) ≡ b → cond b false (here || has_flag cs) ≡ true → Same state t p q (c ∷ cs)) [
      | true ↦ λ _ never. absurd (false≢true never)
      | false ↦ λ no_end moves.
          elim here as (λ b. here ≡ b → (b || has_flag cs) ≡ true → Same state t p q (c ∷ cs)) [
            | true ↦ λ last _.
                let parts = and_parts (c == 34) (begins_with_flag cs && has_no_quote cs) last in
                let both = and_parts (begins_with_flag cs) (has_no_quote cs) parts.1 in
                subst (λ c. Same state t p q (c ∷ cs)) (sym (eqb-true c 34 parts.0)) (last_quote state t p q cs is both.1 (λ t. same_flags cs t p q both.0))
            | false ↦ λ _ more. marker_step state c t p q cs is no_end (λ state t is. same_marker state t p q cs is more)
          ] refl moves
    ] refl moves

-- ---- a text and its parts

lines_add : (part text : List ℕ) (ended : List (List ℕ)) → is_whole_lines part ≡ true → has_flag text ≡ true → tokens_from beginning part ≡ Some ended →
    tokens_from beginning (part ++ 35 ∷ 32 ∷ text) ≡ option_map (λ more. ended ++ more) (tokens_from beginning (35 ∷ 32 ∷ text))
lines_add part text ended whole flag reads =
    behind_lines part (35 ∷ 32 ∷ text) ended whole reads
    ∙ same_on ended _ _ (same_on [] _ _ (same_on [] _ _ (same_marker Marker [] (run beginning part).0.place [] text refl flag)))

pub parts_have_the_tokens : PartsHaveTheTokens
parts_have_the_tokens part [] ended whole moves reads = absurd (false≢true moves)
parts_have_the_tokens part (c ∷ []) ended whole moves reads = absurd (false≢true moves)
parts_have_the_tokens part (c ∷ d ∷ text) ended whole moves reads =
    let tests = and_parts ((c == 35) && (d == 32)) (has_flag text) moves in
    let marks = and_parts (c == 35) (d == 32) tests.0 in
    subst (λ c. tokens (part ++ c ∷ d ∷ text) ≡ option_map (λ more. ended ++ more) (tokens (c ∷ d ∷ text))) (sym (eqb-true c 35 marks.0))
    (subst (λ d. tokens (part ++ 35 ∷ d ∷ text) ≡ option_map (λ more. ended ++ more) (tokens (35 ∷ d ∷ text))) (sym (eqb-true d 32 marks.1))
    (for_all_texts part (35 ∷ 32 ∷ text) ended (λ more. ended ++ more) whole reads (lines_add part text ended whole tests.1)))
