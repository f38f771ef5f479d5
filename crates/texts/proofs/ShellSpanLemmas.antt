-- A span, whose characters are given as they stand, is read at once.
use Rattle.std.proofs.Common.{ℕ, List, [], ◌∷◌, ◌++◌, ◌≡◌, sym, ap, ◌∙◌, subst, Bool, true, false, ◌==◌, ◌<◌, ◌+◌, arith, length, take, drop, get_or, suc, length-append, append-nil, append_assoc, encode_utf8, encode_utf8_all, inl, inr, chars, IsUtf8, IsCharBoundary, take-append-drop}
use Rattle.std.specs.List.{fold, position_or_len, AllByRecursion}
use Rattle.std.proofs.lemmas.Bool.{ltb-true, ltb-false, eqb-true, cases_eq, false≢true}
use Rattle.std.proofs.lemmas.Bool.Decides.{nat_tests}
use Rattle.std.proofs.lemmas.List.Sums.{fold-append, prefix_len-le-length, passes_at_first}
use Rattle.std.proofs.lemmas.Str.{encode_ascii, length-encode, len_utf8_bounds, chars_past_char, chars-nil, encodes-append, encodes-chars, chars-append, IsUtf8-take, IsCharBoundary-end, IsCharBoundary-before_ascii, char_from_byte}
use Rattle.texts.specs.declared.shell.splitting.State.{State}
use Rattle.texts.specs.Shell.Splitting.{Splitting, after, with_bytes, ends_span}

-- ---- characters

span_given : (s : Splitting) (cs : List ℕ) → AllByRecursion (λ c. ends_span s.state c ≡ false) cs → fold after s cs ≡ with_bytes s (encode_utf8_all cs)
span_given s [] go = ap (λ w. record s { word = w }) (sym (append-nil s.word))
span_given s (c ∷ cs) go =
    grind (arith, append_assoc, encodes-append, (span_given (with_bytes s (encode_utf8_all (c ∷ []))) cs go.1))

-- ---- bytes

-- a byte that passes is a character of its own
abbrev IsAsciiTest : (ℕ → Bool) → Type 0
IsAsciiTest test = (b : ℕ) → test b ≡ true → b < 128

latter_part : {A : Type 0} (P : A → Type 0) (xs ys : List A) → AllByRecursion P (xs ++ ys) → AllByRecursion P ys
latter_part P [] ys all = all
latter_part P (x ∷ xs) ys all = latter_part P xs ys all.1

none_before : (test : ℕ → Bool) (bs : List ℕ) → AllByRecursion (λ b. test b ≡ false) (take (position_or_len test bs) bs)
none_before test [] = tt
none_before test (b ∷ bs) =
    let one : suc (position_or_len test bs) ≡ 1 + position_or_len test bs = omega arith in
    grind (arith, (none_before test bs))

chars_go : (test : ℕ → Bool) → IsAsciiTest test → (cs : List ℕ) → AllByRecursion (λ b. test b ≡ false) (encode_utf8_all cs) → AllByRecursion (λ c. test c ≡ false) cs
chars_go test ascii [] go = tt
chars_go test ascii (c ∷ cs) go =
    ((grind (arith, encode_ascii)), chars_go test ascii cs (latter_part _ (encode_utf8 c) (encode_utf8_all cs) go))

-- the place where a span ends
boundary : (test : ℕ → Bool) → IsAsciiTest test → (bs : List ℕ) → IsCharBoundary bs (position_or_len test bs)
boundary test ascii bs = grind (arith, ltb-true, IsCharBoundary-before_ascii, passes_at_first, ltb-false, prefix_len-le-length, IsCharBoundary-end)

-- only in these states is there a span
ascii_test : (state : State) (c : ℕ) → ends_span state c ≡ false → IsAsciiTest (ends_span state)
ascii_test state c goes = grind (arith, nat_tests)

pub span_boundary : (state : State) (c : ℕ) → ends_span state c ≡ false → (bs : List ℕ) (n : ℕ) → n ≡ position_or_len (ends_span state) bs → IsCharBoundary bs n
span_boundary state c goes bs n is = subst (IsCharBoundary bs) (sym is) (boundary (ends_span state) (ascii_test state c goes) bs)

-- a span is read at once
pub span_read : (s : Splitting) (c : ℕ) → ends_span s.state c ≡ false → (text front rest : List ℕ) (n : ℕ) → IsUtf8 text → n ≡ position_or_len (ends_span s.state) text → front ≡ take n text → rest ≡ drop n text → fold after (with_bytes s front) (chars rest) ≡ fold after s (chars text)
span_read s c goes text front rest n utf8 is is_front is_rest =
    let test : ℕ → Bool = ends_span s.state in
    let is_text : IsUtf8 (take n text) = IsUtf8-take text n utf8 (span_boundary s.state c goes text n is) in
    let bytes : AllByRecursion (λ b. test b ≡ false) (take n text) = subst (λ k. AllByRecursion (λ b. test b ≡ false) (take k text)) (sym is) (none_before test text) in
    let go = chars_go test (ascii_test s.state c goes) (chars (take n text)) (subst (AllByRecursion (λ b. test b ≡ false)) (sym (encodes-chars (take n text) is_text)) bytes) in
    sym (
    ap (λ bs. fold after s (chars bs)) (sym (take-append-drop n text))
    ∙ ap (fold after s) (chars-append (take n text) (drop n text) is_text)
    ∙ fold-append after s (chars (take n text)) (chars (drop n text))
    ∙ ap (λ t. fold after t (chars (drop n text))) (span_given s (chars (take n text)) go ∙ ap (with_bytes s) (encodes-chars (take n text) is_text))
    ∙ ap (λ bs. fold after (with_bytes s bs) (chars (drop n text))) (sym is_front)
    ∙ ap (λ bs. fold after (with_bytes s front) (chars bs)) (sym is_rest)
    )

-- a span has the first character, if that ends none
pub span_some : (state : State) (c : ℕ) → ends_span state c ≡ false → (text cs : List ℕ) (n : ℕ) → IsUtf8 text → chars text ≡ c ∷ cs → n ≡ position_or_len (ends_span state) text → 0 < n
span_some state c goes text cs n utf8 begins is =
    let test : ℕ → Bool = ends_span state in
    let whole : text ≡ encode_utf8 c ++ encode_utf8_all cs = sym (encodes-chars text utf8) ∙ ap encode_utf8_all begins in
    let some : 0 < length text = subst (λ t. 0 < length t) (sym whole) (omega (arith, length-append (encode_utf8 c) (encode_utf8_all cs), len_utf8_bounds c, length-encode c)) in
    elim (cases_eq n 0) [
      | inr more ↦ omega arith
      | inl none ↦
          let at : position_or_len test text ≡ 0 = sym is ∙ none in
          let ends : test (get_or text 0 0) ≡ true = subst (λ k. test (get_or text k 0) ≡ true) at (passes_at_first test text 0 (omega arith)) in
          let first : c ≡ get_or text 0 0 = char_from_byte text (encode_utf8_all cs) c whole (ascii_test state c goes (get_or text 0 0) ends) some in
          absurd (false≢true (sym goes ∙ ap test first ∙ ends))
    ]

-- the first character may begin the word of the span, and a span is read at once
pub some_read : (began old : Splitting) (c : ℕ) (text behind front rest : List ℕ) (n : ℕ) → after began c ≡ after old c → ends_span began.state c ≡ false →
    IsUtf8 text → chars text ≡ c ∷ chars behind → n ≡ position_or_len (ends_span began.state) text → front ≡ take n text → rest ≡ drop n text →
    fold after (with_bytes began front) (chars rest) ≡ fold after old (chars text)
some_read began old c text behind front rest n same goes utf8 begins len is_front is_rest =
    span_read began c goes text front rest n utf8 len is_front is_rest ∙ ap (fold after began) begins
    ∙ ap (λ (s : Splitting). fold after s (chars behind)) same ∙ ap (fold after old) (sym begins)

-- ---- one character and the rest

pub past_char : (text rest : List ℕ) (c : ℕ) → IsUtf8 text → text ≡ encode_utf8 c ++ rest → (chars text ≡ c ∷ chars rest) × (length rest < length text)
past_char text rest c utf8 is = grind (arith, chars_past_char, length-append, len_utf8_bounds, length-encode)

pub no_char : (text : List ℕ) → IsUtf8 text → chars text ≡ [] → length text ≡ 0
no_char text utf8 none = ap length (sym (encodes-chars text utf8) ∙ ap encode_utf8_all none)

pub empty_chars : (text : List ℕ) → (length text == 0) ≡ true → chars text ≡ []
empty_chars [] empty = chars-nil
empty_chars (b ∷ bs) empty = absurd (omega (arith, eqb-true (length (b ∷ bs)) 0 empty))
