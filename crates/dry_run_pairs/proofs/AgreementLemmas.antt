-- Lists of lines that are the same in another order.
use Rattle.std.proofs.Common.{◌≡◌, ℕ, Bool, true, false, ◌&&◌, cond, List, [], ◌∷◌, ◌++◌, Option, Some, None, option_map, ap, refl, sym, ◌∙◌, subst, ◌<◌, ◌+◌, suc, length, take, drop, get_or, arith}
use Rattle.std.specs.List.Sorted.{IsPermutation}
use Rattle.std.specs.Str.{bytes_eq}
use Rattle.std.proofs.lemmas.Slice.Eq.{bytes_eq-Decides}
use Rattle.std.proofs.lemmas.Bool.{and_parts}
use Rattle.std.proofs.lemmas.List.Sorted.{IsPermutation-refl, IsPermutation-cons, IsPermutation-trans, IsPermutation-sym, IsPermutation-middle}
use Rattle.std.specs.List.{remove}
use Rattle.std.proofs.lemmas.List.{drop_more}
use Rattle.texts.specs.Lists.{is_some_and}
use Rattle.dry_run_pairs.specs.Agreement.{AgreementOrders, are_same, without_one}
use Rattle.dry_run_pairs.specs.Forms.{forms_of}

-- the first of two lines comes second
two-swap : (first second : List ℕ) (rest : List (List ℕ)) → IsPermutation (first ∷ second ∷ rest) (second ∷ first ∷ rest)
two-swap first second rest = IsPermutation-middle (first ∷ []) second rest

-- lines without one of them have it in front, in another order
from-later : (line other : List ℕ) (others : List (List ℕ)) (o : Option (List (List ℕ))) (rest : List (List ℕ)) → option_map (λ r. other ∷ r) o ≡ Some rest
    → ((r : List (List ℕ)) → o ≡ Some r → IsPermutation others (line ∷ r)) → IsPermutation (other ∷ others) (line ∷ rest)
from-later line other others None rest e h = absurd (cc)
from-later line other others (Some r) rest e h =
    subst (λ t. IsPermutation (other ∷ others) (line ∷ t)) (cc)
    (IsPermutation-trans (other ∷ others) (other ∷ line ∷ r) (line ∷ other ∷ r) (IsPermutation-cons other others (line ∷ r) (h r refl)) (two-swap other line r))

one-first : (line : List ℕ) (others rest : List (List ℕ)) → without_one line others ≡ Some rest → IsPermutation others (line ∷ rest)
one-first line [] rest e = absurd (cc)
one-first line (other ∷ others) rest e =
    elim (bytes_eq line other) as (λ b. bytes_eq line other ≡ b → cond b (Some others) (option_map (λ r. other ∷ r) (without_one line others)) ≡ Some rest → IsPermutation (other ∷ others) (line ∷ rest)) [
      | true ↦ λ same is.
          let first : other ≡ line = sym ((bytes_eq-Decides line other).0 same) in
          let left : others ≡ rest = cc in
          subst (λ t. IsPermutation (other ∷ others) (t ∷ rest)) first (subst (λ t. IsPermutation (other ∷ others) (other ∷ t)) left (IsPermutation-refl (other ∷ others)))
      | false ↦ λ _ is. from-later line other others (without_one line others) rest is (λ r q. one-first line others r q)
    ] refl e

same-next : (line : List ℕ) (lines others : List (List ℕ)) (o : Option (List (List ℕ))) → without_one line others ≡ o → is_some_and (λ rest. are_same lines rest) o ≡ true
    → ((rest : List (List ℕ)) → are_same lines rest ≡ true → IsPermutation lines rest) → IsPermutation (line ∷ lines) others
same-next line lines others None is e h = absurd (cc)
same-next line lines others (Some rest) is e h =
    IsPermutation-trans (line ∷ lines) (line ∷ rest) others (IsPermutation-cons line lines rest (h rest e)) (IsPermutation-sym others (line ∷ rest) (one-first line others rest is))

same-order : (lines others : List (List ℕ)) → are_same lines others ≡ true → IsPermutation lines others
same-order [] [] e = IsPermutation-refl []
same-order [] (other ∷ others) e = absurd (cc)
same-order (line ∷ lines) others e = same-next line lines others (without_one line others) refl e (λ rest q. same-order lines rest q)

pub agreement-orders : AgreementOrders
agreement-orders call of_line of_plan h = same-order (forms_of call of_line) (forms_of call of_plan) (and_parts _ _ h).1

-- a search that comes to the line
pub one-here : (line : List ℕ) (lines : List (List ℕ)) (i : ℕ) (d : List ℕ) → i < length lines → without_one line lines ≡ option_map (λ rest. take i lines ++ rest) (without_one line (drop i lines))
    → bytes_eq line (get_or lines i d) ≡ true → without_one line lines ≡ Some (remove lines i)
one-here line lines i d less h e =
    let next : i + 1 ≡ suc i = omega arith in
    h ∙ ap (option_map (λ rest. take i lines ++ rest)) (ap (without_one line) (drop_more lines i d less)
    ∙ ap (λ b. cond b (Some (drop (i + 1) lines)) (option_map (λ rest. get_or lines i d ∷ rest) (without_one line (drop (i + 1) lines)))) e)
    ∙ ap (λ n. Some (take i lines ++ drop n lines)) next
