-- A rooted path in what a tool says becomes the path.
use Rattle.std.proofs.Common.{◌≡◌, ℕ, ◌-◌, ◌==◌, true, false, cond, nat_eq, length, List, [], ◌∷◌, ◌++◌, ap, ◌∙◌, subst, refl, codes, arith}
use Rattle.std.specs.List.{list_all, starts_with}
use Rattle.std.proofs.lemmas.Bool.{and_parts}
use Rattle.texts.specs.Lists.{first_word, is_some_and}
use Rattle.texts.proofs.RestLemmas.{rest_after-append}
use Rattle.rooted_commands.specs.Laws.{OwnPathsComeBack}
use Rattle.rooted_commands.specs.OwnTexts.{begins_with_root, is_in_name, own_by, own_from}
use Rattle.rooted_commands.specs.declared.paths.Root.{Root}

-- nothing changes inside a name
inside : (r : Root) (folder rest : List ℕ) → list_all is_in_name rest ≡ true → own_from r folder 0 true rest ≡ rest
inside r folder [] h = refl
inside r folder (c ∷ cs) h =
    let parts = and_parts (is_in_name c) (list_all is_in_name cs) h in
    ap (λ b. c ∷ own_from r folder 0 b cs) parts.0 ∙ ap (λ t. c ∷ t) (inside r folder cs parts.1)

not-empty : (c : ℕ) (cs : List ℕ) → (length (c ∷ cs) == 0) ≡ false
not-empty c cs = grind arith

one-less : (c : ℕ) (cs : List ℕ) → length (c ∷ cs) - 1 ≡ length cs
one-less c cs = grind arith

-- so many bytes are left out
left-out : (r : Root) (folder front rest : List ℕ) → own_from r folder (length front) true (front ++ rest) ≡ own_from r folder 0 true rest
left-out r folder [] rest = refl
left-out r folder (c ∷ cs) rest =
    ap (λ b. cond b (c ∷ own_from r folder 0 (is_in_name c) (cs ++ rest)) (own_from r folder (length (c ∷ cs) - 1) true (cs ++ rest))) (not-empty c cs)
    ∙ ap (λ n. own_from r folder n true (cs ++ rest)) (one-less c cs)
    ∙ left-out r folder cs rest

begins : (r : Root) (rest : List ℕ) → begins_with_root r (r.root ++ 47 ∷ rest) ≡ true
begins r rest = ap (is_some_and (λ t. starts_with nat_eq t (codes "/"))) (rest_after-append r.root (47 ∷ rest))

pub own-paths-come-back : OwnPathsComeBack
own-paths-come-back r folder rest tail folders c is root named =
    let whole : r.root ++ 47 ∷ rest ≡ c ∷ (tail ++ 47 ∷ rest) = ap (λ t. t ++ 47 ∷ rest) root in
    let found : begins_with_root r (c ∷ (tail ++ 47 ∷ rest)) ≡ true = subst (λ t. begins_with_root r t ≡ true) whole (begins r rest) in
    ap (λ fs. own_by r (r.root ++ 47 ∷ rest) (first_word fs)) is
    ∙ ap (own_from r folder 0 false) whole
    ∙ ap (λ b. cond b (folder ++ own_from r folder (length r.root - 1) true (tail ++ 47 ∷ rest)) (c ∷ own_from r folder 0 (is_in_name c) (tail ++ 47 ∷ rest))) found
    ∙ ap (λ n. folder ++ own_from r folder n true (tail ++ 47 ∷ rest)) (ap (λ t. length t - 1) root ∙ one-less c tail)
    ∙ ap (λ t. folder ++ t) (left-out r folder tail (47 ∷ rest) ∙ inside r folder (47 ∷ rest) named)
