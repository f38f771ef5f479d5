-- What std's search and replacement in texts make, by the definitions that compute.
use Rattle.std.proofs.Common.{◌≡◌, ℕ, suc, zero, ◌+◌, ◌-◌, ◌<◌, ◌≤◌, ◌++◌, ◌||◌, Bool, true, false, cond, List, [], ◌∷◌, inl, inr, refl, ap, sym, ◌∙◌, subst, nat_eq, length, take, drop, arith, bytes_eq, MatchBool, None, Bor, length-append, take-append-drop, take_at}
use Rattle.std.specs.List.{starts_with}
use Rattle.std.specs.Str.Iter.{HasSubslice}
use Rattle.std.specs.Str.Pattern.{LacksTextAt, FindsText, HasMatch}
use Rattle.std.specs.Str.Replace.{ReplacesMatches}
use Rattle.std.proofs.lemmas.Bool.{false≢true, false_from_ne_true, or_right}
use Rattle.std.proofs.lemmas.Slice.Eq.{bytes_eq-Decides}
use Rattle.std.proofs.lemmas.Str.Pattern.{contains_text}
use Rattle.std.proofs.Math.Seq.{drop-append_seam}
use Rattle.compilers.specs.Replacing.{replaced, replaced_past}
use Rattle.canonical_names.specs.Alike.{holds}
use Rattle.canonical_names.proofs.CanonicalLemmas.{bytes_eq-itself}
use Rattle.canonical_names.proofs.RewriteLemmas.{replaced-none}

-- a text begins with what it was put together from
pub starts-append : (n b : List ℕ) → starts_with nat_eq (n ++ b) n ≡ true
starts-append n b = subst (λ t. bytes_eq n t ≡ true) (sym (take_at n b (length n) refl)) (bytes_eq-itself n)

pub starts-split : (text n : List ℕ) → starts_with nat_eq text n ≡ true → text ≡ n ++ drop (length n) text
starts-split text n h = grind (arith, bytes_eq-Decides, take-append-drop)

-- a text holds another where it is put together round it
pub holds-within : (n a b : List ℕ) → holds n (a ++ (n ++ b)) ≡ true
holds-within n [] b = at n (n ++ b) (starts-append n b) where
  at : (n s : List ℕ) → starts_with nat_eq s n ≡ true → holds n s ≡ true
  at n [] h = nothing n h where
    nothing : (n : List ℕ) → starts_with nat_eq [] n ≡ true → bytes_eq n [] ≡ true
    nothing [] h = refl
    nothing (x ∷ n) h = absurd (false≢true h)
  at n (c ∷ cs) h = ap (λ t. t || holds n cs) h
holds-within n (c ∷ a) b = or_right (starts_with nat_eq (c ∷ (a ++ (n ++ b))) n) (holds n (a ++ (n ++ b))) (holds-within n a b)

pub holds-split : (n s : List ℕ) → holds n s ≡ true → HasSubslice s n
holds-split n [] h = let none : n ≡ [] = (bytes_eq-Decides n []).0 h in ([], [], ap (λ t. t ++ []) (sym none))
holds-split n (c ∷ cs) h =
    elim (starts_with nat_eq (c ∷ cs) n) as (λ t. starts_with nat_eq (c ∷ cs) n ≡ t → (t || holds n cs) ≡ true → HasSubslice (c ∷ cs) n) [
      | true ↦ λ e _. ([], drop (length n) (c ∷ cs), starts-split (c ∷ cs) n e)
      | false ↦ λ _ k. let more = holds-split n cs k in (c ∷ more.0, more.1, ap (λ t. c ∷ t) more.2)
    ] refl h

-- what `contains` answers
pub contains-holds : (r : Bool) (n s : List ℕ) → MatchBool r (HasMatch (FindsText n) s) (FindsText n s None) → r ≡ holds n s
contains-holds r n s cases = grind (arith, contains_text, holds-within, false≢true, holds-split)

-- one place replaced
module _ (old new : List ℕ) (some : 0 < length old) where
  skip : (os t : List ℕ) → replaced_past (length os) old new (os ++ t) ≡ replaced_past 0 old new t
  skip [] t = refl
  skip (o ∷ os) t = skip os t

  begun : (l : List ℕ) → old ≡ l → (t : List ℕ) → replaced old new (old ++ t) ≡ new ++ replaced old new t
  begun [] is t = absurd (let none : length old ≡ 0 = ap length is in omega (arith, none))
  begun (o ∷ os) is t = grind (arith, starts-append, skip)

  first-place : (front t : List ℕ) → ((i : ℕ) → i < length front → LacksTextAt old (front ++ (old ++ t)) i) → replaced old new (front ++ (old ++ t)) ≡ front ++ (new ++ replaced old new t)
  first-place [] t lacks = begun old refl t
  first-place (c ∷ front) t lacks =
      let text = c ∷ (front ++ (old ++ t)) in
      let not_here = false_from_ne_true (starts_with nat_eq text old) (λ e. lacks 0 (omega arith) (drop (length old) text) (starts-split text old e)) in
      ap (λ b. cond b new (c ∷ []) ++ replaced_past (cond b (length old - 1) 0) old new (front ++ (old ++ t))) not_here
      ∙ ap (λ r. c ∷ r) (first-place front t (λ i lt. lacks (suc i) (omega (arith, lt))))

  nowhere : (s : List ℕ) → ((i : ℕ) → i ≤ length s → LacksTextAt old s i) → replaced old new s ≡ s
  nowhere s lacks =
      replaced-none old new s (false_from_ne_true (holds old s) (λ e.
      let parts = holds-split old s e in
      let all : length s ≡ length parts.0 + length (old ++ parts.1) = ap length parts.2 ∙ length-append parts.0 (old ++ parts.1) in
      lacks (length parts.0) (omega (arith, all)) parts.1 (ap (drop (length parts.0)) parts.2 ∙ drop-append_seam parts.0 (old ++ parts.1))))

  pub all-replaced : (n : ℕ) (p : Bor (List ℕ)) → p.now ≡ old → (s out : List ℕ) → ReplacesMatches (λ (q : Bor (List ℕ)). FindsText q.now) (λ (q r : Bor (List ℕ)). r.now ≡ q.now) new n p s out → out ≡ replaced old new s
  all-replaced zero p is s out h = h.1 ∙ sym (nowhere s (λ i le. subst (λ z. LacksTextAt z s i) is (h.0 i le)))
  all-replaced (suc n) p is s out (a, b, q, rest, finds, keeps, continues, whole) =
      let place = finds.1 in
      let later : b ≡ a + length old = place.ends ∙ ap (λ z. a + length z) is in
      let at : drop a s ≡ old ++ drop b s = place.split ∙ ap (λ z. z ++ drop b s) is in
      let parts : s ≡ take a s ++ (old ++ drop b s) = sym (take-append-drop a s) ∙ ap (λ t. take a s ++ t) at in
      let lacks : (i : ℕ) → i < length (take a s) → LacksTextAt old (take a s ++ (old ++ drop b s)) i =
      λ i lt. subst (λ z. LacksTextAt old z i) parts (subst (λ z. LacksTextAt z s i) is (finds.0 i (let least : length (take a s) ≤ a = take-short a s in omega (arith, lt, least)))) in
      let more : rest ≡ replaced old new (drop b s) = elim continues as (λ _. rest ≡ replaced old new (drop b s))
      [ inl on ↦ all-replaced n q (keeps ∙ is) (drop b s) rest on.1 | inr none ↦ absurd (let same : a ≡ b = none.0 in omega (arith, same, later)) ] in
      whole ∙ ap (λ r. take a s ++ (new ++ r)) more ∙ sym (ap (replaced old new) parts ∙ first-place (take a s) (drop b s) lacks) where
        take-short : (a : ℕ) (s : List ℕ) → length (take a s) ≤ a
        take-short zero s = omega arith
        take-short (suc a) [] = omega arith
        take-short (suc a) (c ∷ s) = let rest : length (take a s) ≤ a = take-short a s in omega (arith, rest)
