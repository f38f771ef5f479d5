-- Where variables stand by the beginnings of their names, and which of them a text refers to first.
use Rattle.std.proofs.Common.{◌≡◌, ℕ, zero, suc, ◌+◌, ◌<◌, ◌≤◌, Bool, true, false, cond, eqb, eqb-true, not, ◌&&◌, ◌||◌, nat_le, List, [], ◌∷◌, ◌++◌, Some, None, refl, ap, sym, ◌∙◌, subst, fold, map, length, drop, get_or, string_bytes, String, add-one, arith, option_map, zero-add, add-zero, one-add, Global}
use Rattle.std.specs.List.{prefix_len, list_all, slice_get}
use Rattle.std.specs.Str.{chars, bytes_eq, IsUtf8, IsCharBoundary}
use Rattle.std.proofs.lemmas.Bool.{false≢true, lt-ltb, and_parts}
use Rattle.std.proofs.lemmas.List.{map-append, length-map}
use Rattle.std.proofs.lemmas.List.Sums.{prefix_len-le-length}
use Rattle.std.proofs.lemmas.Option.{slice_get-get_or, slice_get-map, slice_get_past, slice_get_within}
use Rattle.std.proofs.lemmas.Str.{IsCharBoundary-start, IsCharBoundary-after_ascii}
use Rattle.std.proofs.lemmas.Slice.Eq.{bytes_eq-Decides}
use Rattle.std.proofs.Math.Bool.{and-false, and-true}
use Rattle.ucd_perl.specs.Perl.{is_word_char, is_word_byte}
use Rattle.ucd_perl.proofs.PerlLemmas.{is_word_char-ascii}
use Rattle.texts.specs.Lists.{is_some_and, rest_after}
use Rattle.texts.specs.Path.{lacks}
use Rattle.texts.specs.Variables.{pair_of}
use Rattle.dry_runs.specs.Environment.{Variable, is_name_byte, begins_otherwise, is_followed}
use Rattle.dry_runs.specs.Limit.{made, expanded_fitting}
use Rattle.dry_runs.specs.Places.{behind_dollars, refers, first_below, follows_at, follows_from, refers_at, IsFirstReferred, beginning, behind_beginning, are_plain, Places, with_place, places_from}
use Rattle.compilers.specs.Replacing.{replaced}
use Rattle.dry_runs.proofs.ExpansionLemmas.{behind-cut, behind-nothing, fitting-unreferred, fitting-referred}

-- A name and a text that refers to it begin with the same bytes.

name-word : (c : ℕ) → is_name_byte c ≡ true → is_word_byte c ≡ true
name-word c h = grind (arith, h)

name-small : (c : ℕ) → is_name_byte c ≡ true → c < 128
name-small c h = grind (arith, h)

first-char : (c : ℕ) (cs : List ℕ) → c < 128 → begins_otherwise (chars (c ∷ cs)) ≡ not (is_word_char c)
unfolding chars
first-char c cs small = grind (arith, lt-ltb)

name-first : (c : ℕ) (cs : List ℕ) → is_name_byte c ≡ true → begins_otherwise (chars (c ∷ cs)) ≡ false
name-first c cs h = first-char c cs (name-small c h) ∙ ap not (is_word_char-ascii c (name-small c h) ∙ name-word c h)

beginning-byte : (c : ℕ) (cs : List ℕ) → is_name_byte c ≡ true → beginning (c ∷ cs) ≡ c ∷ beginning cs
beginning-byte c cs h = rw (h, one-add (prefix_len is_name_byte cs)) refl

beginning-other : (c : ℕ) (cs : List ℕ) → is_name_byte c ≡ false → beginning (c ∷ cs) ≡ []
beginning-other c cs h = rw h refl

nothing-begun : (after : List ℕ) → begins_otherwise (chars after) ≡ true → beginning after ≡ []
nothing-begun after h = grind (arith, false≢true, name-first, beginning-other)

one-byte-more : (c : ℕ) (xs ys : List ℕ) → beginning xs ≡ beginning ys → beginning (c ∷ xs) ≡ beginning (c ∷ ys)
one-byte-more c xs ys h = grind (arith, beginning-byte, beginning-other)

same-beginning : (name after : List ℕ) → is_followed (rest_after name after) ≡ true → beginning after ≡ beginning name
same-beginning [] after h = nothing-begun after h
same-beginning (c ∷ cs) [] h = absurd (false≢true h)
same-beginning (c ∷ cs) (d ∷ ds) h =
    elim (eqb c d) as (λ b. eqb c d ≡ b → is_followed (cond b (rest_after cs ds) None) ≡ true → beginning (d ∷ ds) ≡ beginning (c ∷ cs)) [
      | true ↦ λ e k. subst (λ x. beginning (d ∷ ds) ≡ beginning (x ∷ cs)) (sym (eqb-true c d e)) (one-byte-more d ds cs (same-beginning cs ds k))
      | false ↦ λ e k. absurd (false≢true k)
    ]
    refl h

pub same-bytes : (name after : List ℕ) → is_followed (rest_after name after) ≡ true → bytes_eq (beginning after) (beginning name) ≡ true
same-bytes name after h = (bytes_eq-Decides (beginning after) (beginning name)).1 (same-beginning name after h)

-- a text may be cut behind the bytes of a name
byte-inside : (c : ℕ) (cs : List ℕ) (n : ℕ) → is_name_byte c ≡ true → ((k : ℕ) → suc k ≤ prefix_len is_name_byte cs → get_or cs k 0 < 128) → suc n ≤ 1 + prefix_len is_name_byte cs → get_or (c ∷ cs) n 0 < 128
byte-inside c cs n e rest le = grind (arith, name-small)

byte-small : (text : List ℕ) (n : ℕ) → suc n ≤ prefix_len is_name_byte text → get_or text n 0 < 128
byte-small [] n le = absurd (omega (arith, le))
byte-small (c ∷ cs) n le =
    elim (is_name_byte c) as (λ b. is_name_byte c ≡ b → suc n ≤ cond b (1 + prefix_len is_name_byte cs) 0 → get_or (c ∷ cs) n 0 < 128)
    [ true ↦ λ e k. byte-inside c cs n e (λ m more. byte-small cs m more) k | false ↦ λ e k. absurd (omega (arith, k)) ] refl le

pub name-boundary : (text : List ℕ) (n : ℕ) → IsUtf8 text → n ≡ prefix_len is_name_byte text → IsCharBoundary text n
name-boundary text zero utf8 is = IsCharBoundary-start text utf8
name-boundary text (suc n) utf8 is =
    subst (λ k. IsCharBoundary text k) (add-one n) (IsCharBoundary-after_ascii text n utf8 (omega (arith, (prefix_len-le-length is_name_byte text), is)) (byte-small text n (omega (arith, is))))

-- One more variable has one more place.

moved-on : (n k : ℕ) → (n + 1) + k ≡ n + suc k
moved-on n k = omega arith

pub places-pushed : (place : ℕ) (env : List Variable) (v : Variable) (start : List ℕ) → places_from place (env ++ v ∷ []) start ≡ with_place (places_from place env) (beginning v.0) (place + length env) start
places-pushed place [] v start = grind (arith, add-zero)
places-pushed place (w ∷ ws) v start = grind (arith, moved-on, (places-pushed (place + 1) ws v start))

-- the places of a list with one more pair
pub places-more : (pairs more : List (String Global × String Global)) (pair : String Global × String Global) (places placed : Places) (n : ℕ) (name : List ℕ) → more ≡ pairs ++ pair ∷ [] → places ≡ places_from 0 (map pair_of pairs) → n ≡ length pairs → name ≡ string_bytes pair.0 → placed ≡ with_place places (beginning name) n → placed ≡ places_from 0 (map pair_of more)
places-more pairs more pair places placed n name grown known count same noted = grind (arith, length-map, zero-add, places-pushed, map-append)

-- whether the names are plain, with one more
plain-pushed : (env : List Variable) (v : Variable) → are_plain (env ++ v ∷ []) ≡ (are_plain env && list_all is_name_byte v.0)
plain-pushed [] v = and-true (list_all is_name_byte v.0)
plain-pushed (w ∷ ws) v = grind (arith, (plain-pushed ws v))

pub plain-more : (pairs more : List (String Global × String Global)) (pair : String Global × String Global) (was is : Bool) → more ≡ pairs ++ pair ∷ [] → was ≡ are_plain (map pair_of pairs) → is ≡ (was && list_all is_name_byte (string_bytes pair.0)) → is ≡ are_plain (map pair_of more)
plain-more pairs more pair was is grown known noted = grind (arith, plain-pushed, map-append)

-- Where a text doesn't end a name, no plain name is one that it refers to.

behind-byte : (c : ℕ) (cs : List ℕ) → is_name_byte c ≡ true → behind_beginning (c ∷ cs) ≡ behind_beginning cs
behind-byte c cs h = rw (h, one-add (prefix_len is_name_byte cs)) refl

unended : (after : List ℕ) → begins_otherwise (chars (behind_beginning after)) ≡ false → begins_otherwise (chars after) ≡ false
unended after h = grind (arith, name-first)

plain-fails : (name after : List ℕ) → list_all is_name_byte name ≡ true → begins_otherwise (chars (behind_beginning after)) ≡ false → is_followed (rest_after name after) ≡ false
plain-fails [] after plain h = unended after h
plain-fails (c ∷ cs) [] plain h = refl
plain-fails (c ∷ cs) (d ∷ ds) plain h = grind (arith, behind-byte, (plain-fails cs ds))

plain-at : (env : List Variable) (place : ℕ) (after : List ℕ) → are_plain env ≡ true → begins_otherwise (chars (behind_beginning after)) ≡ false → follows_at env after place ≡ false
plain-at [] zero after plain h = refl
plain-at [] (suc place) after plain h = refl
plain-at (v ∷ vs) zero after plain h = plain-fails v.0 after (and_parts (list_all is_name_byte v.0) (are_plain vs) plain).0 h
plain-at (v ∷ vs) (suc place) after plain h = plain-at vs place after (and_parts (list_all is_name_byte v.0) (are_plain vs) plain).1 h

-- The first place below a bound.

none-passes : (test : ℕ → Bool) (bound : ℕ) (places : List ℕ) → ((p : ℕ) → test p ≡ false) → first_below test bound places ≡ bound
none-passes test bound [] h = refl
none-passes test bound (p ∷ ps) h = grind (arith, (none-passes test bound ps h))

-- a text that doesn't end a name refers to no variable of a plain name
pub first-unended : (env : List Variable) (from bound : ℕ) (after : List ℕ) (places : List ℕ) → are_plain env ≡ true → begins_otherwise (chars (behind_beginning after)) ≡ false → bound ≡ first_below (follows_from from env after) bound places
first-unended env from bound after places plain h = simp (none-passes, plain-at, and-false)

pub first-within : (test : ℕ → Bool) (bound : ℕ) (places : List ℕ) → first_below test bound places ≤ bound
first-within test bound [] = omega arith
first-within test bound (p ∷ ps) = grind (arith, (first-within test bound ps))

pub first-passes : (test : ℕ → Bool) (bound : ℕ) (places : List ℕ) → first_below test bound places < bound → test (first_below test bound places) ≡ true
first-passes test bound [] less = absurd (omega (arith, less))
first-passes test bound (p ∷ ps) less =
    elim (nat_le bound p) as (λ b. cond b bound (cond (test p) p (first_below test bound ps)) < bound → test (cond b bound (cond (test p) p (first_below test bound ps))) ≡ true) [
      | true ↦ λ k. absurd (omega (arith, k))
      | false ↦ elim (test p) as (λ b. test p ≡ b → cond b p (first_below test bound ps) < bound → test (cond b p (first_below test bound ps)) ≡ true)
          [ true ↦ λ e k. e | false ↦ λ e k. first-passes test bound ps k ] refl
    ]
    less

-- none before the first place passes, of variables that are numbered from a place on
module _ (env : List Variable) (from bound : ℕ) (after : List ℕ) where
  abbrev test : ℕ → Bool
  test place = follows_from from env after place

  -- a variable of another beginning doesn't pass
  fails-other : (place : ℕ) (v : Variable) → slice_get env place ≡ Some v → bytes_eq (beginning after) (beginning v.0) ≡ false → test place ≡ false
  fails-other place v at other = grind (arith, false≢true, same-bytes, and-false)

  -- this place doesn't pass and neither does any behind it, so none of both does
  or-later : (place i : ℕ) → place ≤ i → test place ≡ false → (place + 1 ≤ i → test i ≡ false) → test i ≡ false
  or-later place i le here later = grind (arith, eqb-true)

  pub none-before : (place : ℕ) (vs : List Variable) → ((j : ℕ) → slice_get env (place + j) ≡ slice_get vs j) → bound ≤ place + length vs → (i : ℕ) → place ≤ i → i < first_below test bound (places_from place vs (beginning after)) → test i ≡ false
  none-before place [] at all i le less = absurd (omega (arith, all, le, less))
  none-before place (v ∷ vs) at all i le less =
      let here : slice_get env place ≡ Some v = ap (slice_get env) (sym (add-zero place)) ∙ at 0 in
      let next : (j : ℕ) → slice_get env ((place + 1) + j) ≡ slice_get vs j = λ j. ap (slice_get env) (moved-on place j) ∙ at (suc j) in
      let rest : List ℕ = places_from (place + 1) vs (beginning after) in
      let further : bound ≤ (place + 1) + length vs = omega (arith, all) in
      elim (bytes_eq (beginning after) (beginning v.0))
      as (λ b. bytes_eq (beginning after) (beginning v.0) ≡ b → i < first_below test bound (cond {A = List ℕ} b (place ∷ []) [] ++ rest) → test i ≡ false) [
        | true ↦ λ e k.
            elim (nat_le bound place) as (λ b. nat_le bound place ≡ b → i < cond b bound (cond (test place) place (first_below test bound rest)) → test i ≡ false) [
              | true ↦ λ over m. absurd (grind (arith, over, m, le))
              | false ↦ λ below m.
                  elim (test place) as (λ b. test place ≡ b → i < cond b place (first_below test bound rest) → test i ≡ false) [
                    | true ↦ λ passes n. absurd (omega (arith, n, le))
                    | false ↦ λ fails n. or-later place i le fails (λ later. none-before (place + 1) vs next further i later n)
                  ]
                  refl m
            ]
            refl k
        | false ↦ λ e k. or-later place i le (fails-other place v here e) (λ later. none-before (place + 1) vs next further i later k)
      ]
      refl less

  -- the same, of all variables
  pub none-follows : bound ≤ length env → (i : ℕ) → from ≤ i → i < first_below test bound (places_from 0 env (beginning after)) → follows_at env after i ≡ false
  none-follows all i le less =
      passed (nat_le from i) (follows_at env after i) (grind (arith, le)) (none-before 0 env (λ j. ap (slice_get env) (zero-add j)) (omega (arith, all)) i (omega arith) less) where
        passed : (a b : Bool) → a ≡ true → (a && b) ≡ false → b ≡ false
        passed true b e h = h
        passed false b e h = absurd (false≢true e)

-- A text refers to a variable if what follows its first `$` does, or the text behind that.

pub refers-none : (env : List Variable) (text : List ℕ) (place : ℕ) → lacks 36 text ≡ true → refers_at env text place ≡ false
refers-none env text place h = grind (arith, behind-nothing)

-- What is expanded first.

module _ (left : ℕ) (text : List ℕ) where
  -- no variable from a place on
  pub none-referred : (env : List Variable) (from : ℕ) → ((i : ℕ) → from ≤ i → refers_at env text i ≡ false) → fold expanded_fitting (Some (left, text)) (drop from env) ≡ Some (left, text)
  none-referred [] zero h = refl
  none-referred [] (suc from) h = refl
  none-referred (v ∷ env) zero h = fitting-unreferred left env v.0 v.1 text (h 0 (omega arith)) ∙ none-referred env 0 (λ i le. h (suc i) (omega arith))
  none-referred (v ∷ env) (suc from) h = none-referred env from (λ i le. h (suc i) (omega (arith, le)))

  -- this variable, and none before it
  pub first-referred : (env : List Variable) (from place : ℕ) (v : Variable) → from ≤ place → slice_get env place ≡ Some v → refers v.0 (behind_dollars text) ≡ true → ((i : ℕ) → from ≤ i → i < place → refers_at env text i ≡ false)
      → fold expanded_fitting (Some (left, text)) (drop from env) ≡ fold expanded_fitting (made left (replaced (36 ∷ v.0) v.1 text)) (drop (suc place) env)
  first-referred [] from place v le at told h = cc
  first-referred (w ∷ env) zero zero v le at told h = grind (arith, fitting-referred)
  first-referred (w ∷ env) zero (suc place) v le at told h =
      fitting-unreferred left env w.0 w.1 text (h 0 (omega arith) (omega arith))
      ∙ first-referred env 0 place v (omega arith) at told (λ i low high. h (suc i) (omega arith) (omega (arith, high)))
  first-referred (w ∷ env) (suc from) zero v le at told h = absurd (omega (arith, le))
  first-referred (w ∷ env) (suc from) (suc place) v le at told h = first-referred env from place v (omega (arith, le)) at told (λ i low high. h (suc i) (omega (arith, low)) (omega (arith, high)))

-- The search through a text, once a part of it is read.
pub record FirstSoFar (env : List Variable) (from : ℕ) (text rest : List ℕ) (place : ℕ) : Type 0 where
  pub within : place ≤ length env
  pub before : (i : ℕ) → from ≤ i → i < place → refers_at env text i ≡ refers_at env rest i
  pub is_one : place < length env → (from ≤ place) × (refers_at env text place ≡ true)

module _ (env : List Variable) (from : ℕ) (text rest front after : List ℕ) (place next : ℕ) (so : FirstSoFar env from text rest place) (is : rest ≡ front ++ 36 ∷ after) (clear : lacks 36 front ≡ true) (found : next ≡ first_below (follows_from from env after) place (places_from 0 env (beginning after))) where
  lower : next ≤ place
  lower = subst (λ n. n ≤ place) (sym found) (first-within (follows_from from env after) place (places_from 0 env (beginning after)))

  cut : (i : ℕ) → from ≤ i → i < place → refers_at env text i ≡ (follows_at env after i || refers_at env after i)
  cut i low high = so.before i low high ∙ (grind (arith, behind-cut))

  one : next < place → (from ≤ next) × (refers_at env text next ≡ true)
  one less = grind (arith, first-passes, and_parts, cut)

  pub first-goes-on : FirstSoFar env from text after next
  first-goes-on = record {
    within = (let w = so.within in omega (arith, lower, w));
    before = λ i low high.
        cut i low (omega (arith, high, lower)) ∙ ap (λ b. b || refers_at env after i) (none-follows env from place after so.within i low (subst (λ n. i < n) found high));
    is_one = λ less.
        elim (nat_le place next) as (λ b. nat_le place next ≡ b → (from ≤ next) × (refers_at env text next ≡ true)) [
          | true ↦ λ e.
              let same : place ≡ next = grind (arith, e, lower) in
              subst (λ n. (from ≤ n) × (refers_at env text n ≡ true)) same (so.is_one (omega (arith, less, same)))
          | false ↦ λ e. one (grind (arith, e))
        ]
        refl;
  }

-- the search is over at the place that it began with
pub first-at-start : (env : List Variable) (from : ℕ) (text rest : List ℕ) (place : ℕ) → FirstSoFar env from text rest place → place ≤ from → IsFirstReferred env from text place
first-at-start env from text rest place so low = record { within = so.within; none_before = λ i le less. absurd (omega (arith, le, less, low)); is_one = so.is_one }

-- or where no `$` is left
pub first-at-end : (env : List Variable) (from : ℕ) (text rest : List ℕ) (place : ℕ) → FirstSoFar env from text rest place → lacks 36 rest ≡ true → IsFirstReferred env from text place
first-at-end env from text rest place so h = record { within = so.within; none_before = λ i le less. so.before i le less ∙ refers-none env rest i h; is_one = so.is_one }

-- what the place says about expanding
module _ (left : ℕ) (env : List Variable) (from : ℕ) (text : List ℕ) (place : ℕ) (first : IsFirstReferred env from text place) where
  past : (i : ℕ) → length env ≤ i → refers_at env text i ≡ false
  past i le = ap (λ o. is_some_and (λ (v : Variable). refers v.0 (behind_dollars text)) o) (slice_get_past env i le)

  pub first-none-there : slice_get env place ≡ None → fold expanded_fitting (Some (left, text)) (drop from env) ≡ Some (left, text)
  first-none-there none = grind (arith, none-referred, past, slice_get-get_or)

  pub first-there : (v : Variable) → slice_get env place ≡ Some v → fold expanded_fitting (Some (left, text)) (drop from env) ≡ fold expanded_fitting (made left (replaced (36 ∷ v.0) v.1 text)) (drop (suc place) env)
  first-there v at = grind (arith, slice_get_within, first-referred)

-- the pair at a place, as texts
pub no-pair : (pairs : List (String Global × String Global)) (env : List Variable) (place : ℕ) → map pair_of pairs ≡ env → length pairs ≤ place → slice_get env place ≡ None
no-pair pairs env place is le = grind (arith, length-map, slice_get_past)

pub pair-there : (pairs : List (String Global × String Global)) (env : List Variable) (place : ℕ) (pair : String Global × String Global) → map pair_of pairs ≡ env → slice_get pairs place ≡ Some pair → slice_get env place ≡ Some (pair_of pair)
pair-there pairs env place pair is at = ap (λ (e : List Variable). slice_get e place) (sym is) ∙ slice_get-map pair_of pairs place ∙ ap (option_map pair_of) at
