-- Names that are noted once each.
use Rattle.std.proofs.Common.{◌≡◌, ℕ, Bool, true, false, ◌||◌, cond, nat_eq, List, [], ◌∷◌, ◌++◌, Some, map, Vec, vec_items, Global, ap, refl, ◌∙◌}
use Rattle.std.specs.Cmp.Lexicographic.{pointwise}
use Rattle.std.specs.List.{list_any}
use Rattle.std.specs.Str.{bytes_eq}
use Rattle.std.proofs.lemmas.List.{map-append}
use Rattle.texts.specs.Lists.{with_name}

among : (name : List ℕ) (ks : List (Vec ℕ Global)) → list_any (λ x. pointwise nat_eq name (vec_items x)) ks ≡ list_any (bytes_eq name) (map vec_items ks)
among name [] = refl
among name (k ∷ ks) = ap (λ b. bytes_eq name (vec_items k) || b) (among name ks)

put-last : (b : Bool) (ks : List (Vec ℕ Global)) (k : Vec ℕ Global) → map vec_items (cond b ks (ks ++ k ∷ [])) ≡ cond b (map vec_items ks) (map vec_items ks ++ vec_items k ∷ [])
put-last true ks k = refl
put-last false ks k = map-append vec_items ks (k ∷ [])

-- a set of names with one more
pub names-noted : (ks : List (Vec ℕ Global)) (k : Vec ℕ Global)
    → map vec_items (cond (list_any (λ x. pointwise nat_eq (vec_items k) (vec_items x)) ks) ks (ks ++ k ∷ [])) ≡ with_name (map vec_items ks) (Some (vec_items k))
names-noted ks k =
    put-last (list_any (λ x. pointwise nat_eq (vec_items k) (vec_items x)) ks) ks k
    ∙ ap (λ b. cond b (map vec_items ks) (map vec_items ks ++ vec_items k ∷ [])) (among (vec_items k) ks)
