-- Suffixes begin with a dot, so they are looked for behind dots alone.
use Rattle.std.proofs.Common.{◌≡◌, ℕ, ◌+◌, ◌<◌, ◌≤◌, ◌||◌, Bool, true, false, not, cond, List, [], ◌∷◌, ◌++◌, Option, Some, None, Bor, refl, ap, sym, ◌∙◌, subst, nat_eq, nat_le, eqb, eqb-true, length, take, drop, get_or, arith, one-add, length-append}
use Rattle.std.specs.List.{position_or_len, prefix_len, list_any, list_all, before_first, after_first, starts_with}
use Rattle.std.proofs.lemmas.Bool.{false≢true, and_parts, and_from}
use Rattle.std.proofs.lemmas.List.Sums.{split_at_first, passes_at_first}
use Rattle.std.proofs.lemmas.Str.Pattern.{IsSplitOnceResult, split_once_first}
use Rattle.std.proofs.Math.Seq.{take-length}
use Rattle.texts.specs.Path.{lacks}
use Rattle.canonical_names.specs.Alike.{holds}
use Rattle.canonical_names.specs.SuffixRule.{is_suffix}
use Rattle.canonical_names.proofs.CanonicalLemmas.{eqb-turned}
use Rattle.canonical_names.proofs.ReplaceLemmas.{holds-split}

-- a suffix is a dot, and something behind it
pub dot-first : (s : List ℕ) → is_suffix s ≡ true → s ≡ 46 ∷ drop 1 s
dot-first s h = grind (arith, false≢true, eqb-true, and_parts)

-- no text is as short as that of which a longer one is a part
pub held-short : (s text : List ℕ) → holds s text ≡ true → length s ≤ length text
held-short s text h = grind (arith, holds-split, length-append)

pub short-none : (text : List ℕ) (n : ℕ) → length text < n → (suffixes : List (List ℕ)) → list_all (λ s. nat_le n (length s)) suffixes ≡ true → list_any (λ s. holds s text) suffixes ≡ false
short-none text n short [] all = refl
short-none text n short (s ∷ suffixes) all = grind (arith, held-short, (short-none text n short suffixes))

-- where a text that begins with a dot stands in one that lacks dots, or has one
lacks-none : (r text : List ℕ) → lacks 46 text ≡ true → holds (46 ∷ r) text ≡ false
lacks-none r [] h = refl
lacks-none r (c ∷ cs) h = grind (arith, eqb-turned, (lacks-none r cs))

behind-dot : (r front back : List ℕ) → lacks 46 front ≡ true → holds (46 ∷ r) (front ++ 46 ∷ back) ≡ (starts_with nat_eq back r || holds (46 ∷ r) back)
behind-dot r [] back h = refl
behind-dot r (c ∷ front) back h = grind (arith, eqb-turned, (behind-dot r front back))

-- what std's cut at the first dot leaves
lacks-before : (bs : List ℕ) → lacks 46 (before_first (λ b. eqb b 46) bs) ≡ true
lacks-before [] = refl
lacks-before (b ∷ bs) =
    elim (eqb b 46)
    as (λ t. eqb b 46 ≡ t → lacks 46 (take (cond (not t) (1 + prefix_len (λ x. not (eqb x 46)) bs) 0) (b ∷ bs)) ≡ true)
    [ true ↦ λ _. refl | false ↦ λ e. subst (λ n. lacks 46 (take n (b ∷ bs)) ≡ true) (sym (one-add (prefix_len (λ x. not (eqb x 46)) bs))) (rw e (lacks-before bs)) ] refl

pub dot-none : (bs : List ℕ) (r : Option (Bor (List ℕ) × Bor (List ℕ))) → IsSplitOnceResult 46 bs r → r ≡ None → lacks 46 bs ≡ true
dot-none bs None h is =
    subst (λ t. lacks 46 t ≡ true) (ap (λ n. take n bs) (split_once_first 46 bs None h (omega arith)) ∙ take-length bs) (lacks-before bs)
dot-none bs (Some x) h is = cc

pub dot-split : (bs : List ℕ) (x : Bor (List ℕ) × Bor (List ℕ)) → IsSplitOnceResult 46 bs (Some x) → (front : List ℕ) × (bs ≡ front ++ 46 ∷ x.1.now) × (lacks 46 front ≡ true)
dot-split bs x h =
    let at = split_once_first 46 bs (Some x) h (omega arith) in
    let front = before_first (λ b. eqb b 46) bs in
    let whole : bs ≡ front ++ (get_or bs (position_or_len (λ b. eqb b 46) bs) 0 ∷ after_first (λ b. eqb b 46) bs) = split_at_first (λ b. eqb b 46) bs 0 at.0 in
    grind (arith, lacks-before, eqb-true, passes_at_first)

-- of all suffixes
each-or : {A : Type 0} (f g h : A → Bool) (xs : List A) (all : A → Bool) → list_all all xs ≡ true → ((x : A) → all x ≡ true → f x ≡ (g x || h x)) → list_any f xs ≡ (list_any g xs || list_any h xs)
each-or f g h [] all every step = refl
each-or f g h (x ∷ xs) all every step = grind (arith, (each-or f g h xs all))

pub dots-none : (text : List ℕ) (suffixes : List (List ℕ)) → list_all is_suffix suffixes ≡ true → lacks 46 text ≡ true → list_any (λ s. holds s text) suffixes ≡ false
dots-none text [] all none = refl
dots-none text (s ∷ suffixes) all none =
    let parts = and_parts (is_suffix s) (list_all is_suffix suffixes) all in
    ap (λ b. b || list_any (λ s. holds s text) suffixes) (ap (λ z. holds z text) (dot-first s parts.0) ∙ lacks-none (drop 1 s) text none) ∙ dots-none text suffixes parts.1 none

pub dots-behind : (text front back : List ℕ) (suffixes : List (List ℕ)) → list_all is_suffix suffixes ≡ true → text ≡ front ++ 46 ∷ back → lacks 46 front ≡ true →
    list_any (λ s. holds s text) suffixes ≡ (list_any (λ s. starts_with nat_eq back (drop 1 s)) suffixes || list_any (λ s. holds s back) suffixes)
dots-behind text front back suffixes all is none = grind (arith, each-or, dot-first, behind-dot)

-- no suffix is empty
pub least-one : (suffixes : List (List ℕ)) → list_all is_suffix suffixes ≡ true → list_all (λ s. nat_le 1 (length s)) suffixes ≡ true
least-one [] all = refl
least-one (s ∷ suffixes) all = grind (arith, dot-first, and_from, (least-one suffixes))
