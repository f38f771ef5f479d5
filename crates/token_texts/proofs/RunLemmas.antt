-- A lexer reads one text after another. Behind whole lines it is where it began, but for the file of the last line marker.
use Rattle.std.proofs.Common.{◌≡◌, ◌⊎◌, inl, inr, ⊎_elim, ℕ, Bool, true, false, cond, ◌==◌, ◌&&◌, ◌||◌, List, [], ◌∷◌, ◌++◌, Option, Some, None, option_map, refl, ap, sym, subst, ◌∙◌, append_assoc, append-nil, bytes_eq, nat_eq, codes}
use Rattle.std.specs.List.{starts_with}
use Rattle.std.proofs.lemmas.Bool.{eqb-true}
use Rattle.std.proofs.lemmas.Option.{none-some}
use Rattle.token_texts.specs.declared.class.Class.TheVariants as class
use Rattle.token_texts.specs.declared.lexer.State.{State}
use Rattle.token_texts.specs.declared.lexer.State.TheVariants.{LineStart, Between, Word, Number, Exponent, Operator, Dot, Slash, Closed, Suffix, RawDelimiter, Raw, LineComment, Directive, MarkerNumber, Flags, Enters, Returns, Refused}
use Rattle.token_texts.specs.Lexing.{Lexing, Step, beginning, step, step_in, ending, tokens_from, has_trigraph, tokens}
use Rattle.token_texts.specs.TokenLaws.{is_whole_lines}

-- ---- a lexer reads one text after another

-- a lexer by its parts
abbrev pub lex : State → List ℕ → List ℕ → List ℕ → Lexing
lex state token delimiter place = record { state = state; token = token; delimiter = delimiter; place = place }

-- a lexer that isn't in a raw string
abbrev pub lexer : State → List ℕ → List ℕ → Lexing
lexer state token place = lex state token [] place

-- what comes of a step
abbrev pub from : Step → List ℕ → Option (List (List ℕ))
from next text = option_map (λ ts. next.1 ++ ts) (tokens_from next.0 text)

-- where a lexer is after a text, and the tokens that end in it
abbrev pub run : Lexing → List ℕ → Step
run s [] = (s, [])
run s (c ∷ cs) =
    let more = run (step c s).0 cs in
    (more.0, (step c s).1 ++ more.1)

pub none_more : (found : Option (List (List ℕ))) → found ≡ option_map (λ ts. [] ++ ts) found
none_more None = refl
none_more (Some ts) = refl

both_more : (first second : List (List ℕ)) (found : Option (List (List ℕ))) →
    option_map (λ ts. first ++ ts) (option_map (λ ts. second ++ ts) found) ≡ option_map (λ ts. (first ++ second) ++ ts) found
both_more first second None = refl
both_more first second (Some ts) = ap Some (sym (append_assoc first second ts))

pub run_on : (s : Lexing) (text rest : List ℕ) → tokens_from s (text ++ rest) ≡ option_map (λ ts. (run s text).1 ++ ts) (tokens_from (run s text).0 rest)
run_on s [] rest = none_more (tokens_from s rest)
run_on s (c ∷ cs) rest =
    ap (option_map (λ ts. (step c s).1 ++ ts)) (run_on (step c s).0 cs rest)
    ∙ both_more (step c s).1 (run (step c s).0 cs).1 (tokens_from (run (step c s).0 cs).0 rest)

-- ---- what a lexer holds

-- the delimiter is kept in raw strings, and where nothing is read any more
abbrev pub keeps_delimiter : State → Bool
keeps_delimiter RawDelimiter = true
keeps_delimiter Raw = true
keeps_delimiter Refused = true
keeps_delimiter _ = false

-- a lexer that holds a delimiter only in these
abbrev pub held : State → List ℕ → List ℕ → List ℕ → Lexing
held state token delimiter place = lex state token (cond (keeps_delimiter state) delimiter []) place

-- ---- a line end

-- after a line end, a line starts, or the text has no reading if it ends there
abbrev Landed : State → Type 0
Landed state = (state ≡ LineStart) ⊎ ((token : List ℕ) → ending state token ≡ None)

landed_if : (b : Bool) (x y : Step) → Landed x.0.state → Landed y.0.state → Landed (cond b x y).0.state
landed_if true x y one two = one
landed_if false x y one two = two

land_in : (state : State) (s : Lexing) → Landed (step_in state class.LineEnd 10 s).0.state
land_in LineStart s = inl refl
land_in Between s = inl refl
land_in Word s = inl refl
land_in Number s = inl refl
land_in Exponent s = inl refl
land_in Operator s = inl refl
land_in Dot s = inl refl
land_in Slash s = inl refl
land_in Closed s = inl refl
land_in Suffix s = inl refl
land_in LineComment s = inl refl
land_in MarkerNumber s = inl refl
land_in Enters s = inl refl
land_in Returns s = inl refl
land_in Directive s = landed_if (starts_with nat_eq s.token (codes "#line")) _ _ (inr (λ t. refl)) (inl refl)
land_in Flags s = landed_if (bytes_eq s.token s.place) _ _ (inl refl) (inl refl)
land_in state s = inr (λ t. refl)

land : (s : Lexing) (c : ℕ) (cs : List ℕ) → is_whole_lines (c ∷ cs) ≡ true → Landed (run s (c ∷ cs)).0.state
land s c [] whole = subst (λ c. Landed (step c s).0.state) (sym (eqb-true c 10 whole)) (land_in s.state s)
land s c (d ∷ cs) whole = land (step c s).0 d cs whole

-- whole lines end where a line starts
pub start_again : (s : Lexing) (text : List ℕ) (ended : List (List ℕ)) → s.state ≡ LineStart → is_whole_lines text ≡ true → tokens_from s text ≡ Some ended →
    (run s text).0.state ≡ LineStart
start_again s [] ended starts whole reads = starts
start_again s (c ∷ cs) ended starts whole reads =
    let after = run s (c ∷ cs) in
    let none_here : ((token : List ℕ) → ending after.0.state token ≡ None) → after.0.state ≡ LineStart =
    λ none. absurd (none-some _ (sym (ap (option_map (λ ts. after.1 ++ ts)) (none after.0.token)) ∙ sym (run_on s (c ∷ cs) []) ∙ ap (tokens_from s) (append-nil (c ∷ cs)) ∙ reads)) in
    ⊎_elim (λ is. is) none_here (land s c cs whole)

-- ---- a text behind whole lines

-- two question marks can't stand on both sides of a line end
pub trigraphs_add : (text rest : List ℕ) → is_whole_lines text ≡ true → has_trigraph (text ++ rest) ≡ (has_trigraph text || has_trigraph rest)
trigraphs_add [] rest whole = refl
trigraphs_add (x ∷ []) rest whole =
    subst (λ x. has_trigraph (x ∷ rest) ≡ (has_trigraph (x ∷ []) || has_trigraph rest)) (sym (eqb-true x 10 whole)) refl
trigraphs_add (x ∷ y ∷ ys) rest whole =
    elim ((x == 63) && starts_with nat_eq (y ∷ ys) (codes "?")) as (λ b. (b || has_trigraph (y ∷ (ys ++ rest))) ≡ ((b || has_trigraph (y ∷ ys)) || has_trigraph rest)) [
      | true ↦ refl
      | false ↦ trigraphs_add (y ∷ ys) rest whole
    ]

-- the tokens of whole lines are those of the run
pub run_tokens : (part : List ℕ) (ended : List (List ℕ)) → is_whole_lines part ≡ true → tokens_from beginning part ≡ Some ended → (run beginning part).1 ≡ ended
run_tokens part ended whole reads =
    let after = run beginning part in
    let all : Some (after.1 ++ []) ≡ Some ended =
    sym (ap (λ state. option_map (λ ts. after.1 ++ ts) (ending state after.0.token)) (start_again beginning part ended refl whole reads))
    ∙ sym (run_on beginning part []) ∙ ap (tokens_from beginning) (append-nil part) ∙ reads in
    sym (append-nil after.1) ∙ cc

unless : (b : Bool) (f : List (List ℕ) → List (List ℕ)) (whole rest : Option (List (List ℕ))) → whole ≡ option_map f rest →
    cond b None whole ≡ option_map f (cond b None rest)
unless true f whole rest same = refl
unless false f whole rest same = same

-- what holds of texts without trigraphs
pub for_all_texts : (part rest : List ℕ) (ended : List (List ℕ)) (f : List (List ℕ) → List (List ℕ)) → is_whole_lines part ≡ true → tokens part ≡ Some ended →
    (tokens_from beginning part ≡ Some ended → tokens_from beginning (part ++ rest) ≡ option_map f (tokens_from beginning rest)) →
    tokens (part ++ rest) ≡ option_map f (tokens rest)
for_all_texts part rest ended f whole reads without =
    elim (has_trigraph part) as (λ b. has_trigraph part ≡ b → cond b None (tokens_from beginning part) ≡ Some ended → tokens (part ++ rest) ≡ option_map f (tokens rest)) [
      | true ↦ λ _ never. absurd (none-some _ never)
      | false ↦ λ none reads.
          ap (λ b. cond b None (tokens_from beginning (part ++ rest))) (trigraphs_add part rest whole ∙ ap (λ b. b || has_trigraph rest) none)
          ∙ unless (has_trigraph rest) f _ _ (without reads)
    ] refl reads
