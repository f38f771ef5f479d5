-- Names, and what stands in front of them.
use Rattle.std.proofs.Common.{◌≡◌, ℕ, zero, suc, ◌+◌, ◌-◌, ◌<◌, Bool, false, eqb, cond, List, [], ◌∷◌, Option, Some, None, Bor, length, take, drop, get_or, option_copied, ◌≤◌, IfSome, subst, ap, refl, sym, ◌∙◌, arith}
use Rattle.std.specs.Option.{option_or}
use Rattle.std.proofs.lemmas.List.{drop_more, length-drop, take_rest}
use Rattle.std.proofs.lemmas.Grind.{common_steps}
use Rattle.dry_run_pairs.specs.Names.{after_beginning, after_last, bare_from, count_at, opens_name}

-- bytes that are still to go are dropped
bare-skips : (front : List ℕ → ℕ) (n : ℕ) (xs : List ℕ) → bare_from front n false xs ≡ bare_from front 0 false (drop n xs)
bare-skips front zero xs = refl
bare-skips front (suc n) [] = refl
bare-skips front (suc n) (x ∷ xs) = bare-skips front n xs

skips-first : (front : List ℕ → ℕ) (n c : ℕ) (cs : List ℕ) → eqb n 0 ≡ false → bare_from front (n - 1) false cs ≡ bare_from front 0 false (drop n (c ∷ cs))
skips-first front zero c cs e = absurd (cc)
skips-first front (suc n) c cs e =
    let one_less : suc n - 1 ≡ n = omega arith in
    ap (λ m. bare_from front m false cs) one_less ∙ bare-skips front n cs

-- where bytes stand in front of a name, these are dropped
pub bare-drops : (front : List ℕ → ℕ) (opens : Bool) (n : ℕ) (text : List ℕ) → n ≡ count_at front opens text → eqb n 0 ≡ false
    → bare_from front 0 opens text ≡ bare_from front 0 false (drop n text)
bare-drops front opens zero [] is e = refl
bare-drops front opens (suc n) [] is e = refl
bare-drops front opens n (c ∷ cs) is e =
    let some : eqb (count_at front opens (c ∷ cs)) 0 ≡ false = ap (λ m. eqb m 0) (sym is) ∙ e in
    ap (λ b. cond b (c ∷ bare_from front 0 (opens_name c) cs) (bare_from front (count_at front opens (c ∷ cs) - 1) false cs)) some
    ∙ ap (λ m. bare_from front (m - 1) false cs) (sym is) ∙ skips-first front n c cs e

-- the last of three beginnings
or-assoc : (a b d : Option (List ℕ)) → option_or (option_or a b) d ≡ option_or a (option_or b d)
or-assoc None b d = refl
or-assoc (Some x) b d = refl

copied-or : (o p : Option (Bor (List ℕ))) → option_copied (option_or o p) ≡ option_or (option_copied o) (option_copied p)
copied-or None p = refl
copied-or (Some x) p = refl

last-of : (c : ℕ) (cs : List ℕ) → opens_name c ≡ false → after_last (c ∷ cs) ≡ option_or (after_last cs) (after_beginning (c ∷ cs))
last-of c cs e = ap (λ b. cond b None (option_or (after_last cs) (after_beginning (c ∷ cs)))) e

-- a step in the search of the last beginning
pub last-next : (name : List ℕ) (i : ℕ) (o found r : Option (Bor (List ℕ))) → i < length name → opens_name (get_or name i 0) ≡ false
    → option_copied o ≡ after_beginning (drop i name) → r ≡ option_or o found → option_or (after_last (drop i name)) (option_copied found) ≡ after_last name
    → option_or (after_last (drop (i + 1) name)) (option_copied r) ≡ after_last name
last-next name i o found r less closed is joined h =
    let here : drop i name ≡ get_or name i 0 ∷ drop (i + 1) name = drop_more name i 0 less in
    let last : after_last (drop i name) ≡ option_or (after_last (drop (i + 1) name)) (after_beginning (drop i name)) =
    ap after_last here ∙ last-of (get_or name i 0) (drop (i + 1) name) closed ∙ ap (λ t. option_or (after_last (drop (i + 1) name)) (after_beginning t)) (sym here) in
    ap (λ t. option_or (after_last (drop (i + 1) name)) t) (ap option_copied joined ∙ copied-or o found ∙ ap (λ t. option_or t (option_copied found)) is)
    ∙ sym (or-assoc (after_last (drop (i + 1) name)) (after_beginning (drop i name)) (option_copied found))
    ∙ ap (λ t. option_or t (option_copied found)) (sym last) ∙ h

-- what is found isn't longer than the name
pub within-next : (name : List ℕ) (i : ℕ) (o found r : Option (Bor (List ℕ))) → r ≡ option_or o found
    → IfSome o (λ x. length x.now ≤ length (take (length name - i) (drop i name))) → IfSome found (λ x. length x.now ≤ length name) → IfSome r (λ x. length x.now ≤ length name)
within-next name i None found r joined new old = subst (λ t. IfSome t (λ x. length x.now ≤ length name)) (sym joined) old
within-next name i (Some x) found r joined new old =
    subst (λ t. IfSome t (λ x. length x.now ≤ length name)) (sym joined) (grind (arith, common_steps, take_rest, length-drop))
