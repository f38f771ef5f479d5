-- What is asked of suffixes follows from the rule by which a list is accepted.
use Rattle.std.proofs.Common.{◌≡◌, ℕ, ◌&&◌, ◌||◌, Bool, true, false, suc, zero, List, [], ◌∷◌, Some, ◌-◌, drop, inl, inr, refl, ap, sym, ◌∙◌, nat_eq, codes, arith, map, bytes_eq}
use Rattle.std.specs.List.{Contains, ends_with, list_all, list_any, slice_get}
use Rattle.std.proofs.lemmas.Bool.{false≢true, false_from_ne_true, and_parts, or_parts, cases_lt, not-true}
use Rattle.std.proofs.lemmas.List.Elements.{All-contains}
use Rattle.std.proofs.lemmas.List.Sums.{AllPass-from_list_all}
use Rattle.texts.specs.Path.{is_bare}
use Rattle.canonical_names.specs.SuffixRule.{is_suffix, is_apart, are_apart, are_suffixes, AcceptedAreSuffixes}
pub use Rattle.canonical_names.proofs.AlikeLemmas.{any-member}
use Rattle.canonical_names.proofs.CanonicalLemmas.{no-member, member-cases, ends-split, shorter-end}

-- a test of mapped elements is a test of the elements
pub list_any-map : {X Y : Type 0} (p : X → Bool) (h : Y → X) (ys : List Y) → list_any p (map h ys) ≡ list_any (λ y. p (h y)) ys
list_any-map p h [] = refl
list_any-map p h (y ∷ ys) = ap (λ b. p (h y) || b) (list_any-map p h ys)

-- what holds of each holds of a member
pub each-member : {A : Type 0} (test : A → Bool) (xs : List A) (x : A) → list_all test xs ≡ true → Contains xs x → test x ≡ true
each-member test xs x all among = All-contains (λ y. test y ≡ true) xs x (AllPass-from_list_all test xs all) among

-- the parts of the rule
pub each-suffix : (suffixes : List (List ℕ)) → are_suffixes suffixes ≡ true → list_all is_suffix suffixes ≡ true
each-suffix suffixes h = (and_parts (list_all is_suffix suffixes) (are_apart suffixes && list_any (bytes_eq (codes ".cpp1.ii")) suffixes) h).0

pub all-apart : (suffixes : List (List ℕ)) → are_suffixes suffixes ≡ true → are_apart suffixes ≡ true
all-apart suffixes h = grind (arith, and_parts)

input-member : (suffixes : List (List ℕ)) → are_suffixes suffixes ≡ true → Contains suffixes (codes ".cpp1.ii")
input-member suffixes h = grind (arith, any-member, and_parts)

pub apart-parts : (s t : List ℕ) → is_apart s t ≡ true → (ends_with nat_eq s t ≡ false) × (ends_with nat_eq t s ≡ false)
apart-parts s t h = grind (arith, and_parts, not-true)

apart-members : (suffixes : List (List ℕ)) → are_apart suffixes ≡ true → (s t : List ℕ) → Contains suffixes s → Contains suffixes t → ends_with nat_eq s t ≡ true → s ≡ t
apart-members [] h s t hs ht e = absurd (no-member s hs)
apart-members (x ∷ xs) h s t hs ht e =
    let parts = and_parts (list_all (is_apart x) xs) (are_apart xs) h in
    elim (member-cases x xs s hs) as (λ _. s ≡ t) [
      | inl xs_is ↦ elim (member-cases x xs t ht) as (λ _. s ≡ t) [
        | inl xt_is ↦ sym xs_is ∙ xt_is
        | inr more ↦ absurd (false≢true (sym (apart-parts x t (each-member (is_apart x) xs t parts.0 more)).0 ∙ ap (λ z. ends_with nat_eq z t) xs_is ∙ e))
      ]
      | inr later ↦ elim (member-cases x xs t ht) as (λ _. s ≡ t) [
        | inl xt_is ↦ absurd (false≢true (sym (apart-parts x s (each-member (is_apart x) xs s parts.0 later)).1 ∙ ap (λ z. ends_with nat_eq s z) xt_is ∙ e))
        | inr more ↦ apart-members xs parts.1 s t later more e
      ]
    ]

suffix-bare : (s : List ℕ) → is_suffix s ≡ true → is_bare s ≡ true
suffix-bare s h = (and_parts _ (is_bare s) (and_parts _ _ h).1).1

pub accepted-are_suffixes : AcceptedAreSuffixes
accepted-are_suffixes suffixes h = record {
  apart = apart-members suffixes (all-apart suffixes h);
  bare = λ s hs. suffix-bare s (each-member is_suffix suffixes s (each-suffix suffixes h) hs);
  input = input-member suffixes h;
}

-- a text ends in at most one of two suffixes of which none is an end of the other
pub one-end : (text s t : List ℕ) → is_apart s t ≡ true → ends_with nat_eq text s ≡ true → ends_with nat_eq text t ≡ false
one-end text s t apart ends =
    false_from_ne_true (ends_with nat_eq text t) (λ e.
    let both = sym (ends-split text s ends) ∙ ends-split text t e in
    grind (arith, apart-parts, shorter-end, cases_lt, false≢true, (sym both)))

-- what is left from a place on
pub drop-got : {A : Type 0} (xs : List A) (i : ℕ) (x : A) → slice_get xs i ≡ Some x → drop i xs ≡ x ∷ drop (suc i) xs
drop-got [] i x h = cc
drop-got (y ∷ ys) zero x h = let is : y ≡ x = cc in ap (λ z. z ∷ ys) is
drop-got (y ∷ ys) (suc i) x h = drop-got ys i x h

pub none-member : {A : Type 0} (test : A → Bool) (xs : List A) (x : A) → list_any test xs ≡ false → Contains xs x → test x ≡ false
none-member test [] x h among = absurd (no-member x among)
none-member test (y ∷ ys) x h among = grind (arith, or_parts, member-cases, (none-member test ys x))
