-- Facts about lists that the records rest on.
use Rattle.std.proofs.Common.{Result, OnErr, ◌⊎◌, ⊎_elim, Vec, vec_len, ◌≡◌, ℕ, Bool, ◌&&◌, List, [], ◌∷◌, ◌++◌, map, refl, ap, ◌∙◌, String, string_bytes, Global, nat_eq, Ordering, arith}
use Rattle.std.specs.Cmp.Lexicographic.{pointwise}
use Rattle.std.specs.List.{AllZip, AppendsClones}
use Rattle.std.specs.Ordering.{on, eq_of_both}
use Rattle.std.specs.BTreeMap.{insert_entry}
use Rattle.std.specs.Map.{lookup}
use Rattle.std.proofs.lemmas.List.{map-append}
use Rattle.texts.specs.Variables.{pair_of}

-- two mapped lists compare as the lists do by the mapped test
pub pointwise-map : {A B : Type 0} (E : B → B → Bool) (f : A → B) (xs ys : List A) → pointwise (λ x y. E (f x) (f y)) xs ys ≡ pointwise E (map f xs) (map f ys)
pointwise-map E f [] [] = refl
pointwise-map E f [] (y ∷ ys) = refl
pointwise-map E f (x ∷ xs) [] = refl
pointwise-map E f (x ∷ xs) (y ∷ ys) = ap (λ t. E (f x) (f y) && t) (pointwise-map E f xs ys)

-- lists of words compare as the lists of their texts
pub pointwise-texts : (xs ys : List (String Global)) → pointwise (λ x y. pointwise nat_eq (string_bytes x) (string_bytes y)) xs ys ≡ pointwise (pointwise nat_eq) (map string_bytes xs) (map string_bytes ys)
pointwise-texts xs ys = pointwise-map (pointwise nat_eq) string_bytes xs ys

-- lists of pairs of texts compare by both texts of each pair
pub pointwise-pairs : (xs ys : List (String Global × String Global)) → pointwise (λ x y. pointwise nat_eq (string_bytes x.0) (string_bytes y.0) && pointwise nat_eq (string_bytes x.1) (string_bytes y.1)) xs ys ≡ pointwise (eq_of_both (on (λ (p : List ℕ × List ℕ). p.0) (pointwise nat_eq)) (on (λ (p : List ℕ × List ℕ). p.1) (pointwise nat_eq))) (map pair_of xs) (map pair_of ys)
pointwise-pairs xs ys = pointwise-map (eq_of_both (on (λ (p : List ℕ × List ℕ). p.0) (pointwise nat_eq)) (on (λ (p : List ℕ × List ℕ). p.1) (pointwise nat_eq))) pair_of xs ys

-- an entry put into a map whose keys are seen through a function
pub map-insert_entry : {K J X : Type 0} (f : K → J) (R : J → J → Ordering) (es : List (K × X)) (k : K) (v : X) → map (λ e. (f e.0, e.1)) (insert_entry (λ a b. R (f a) (f b)) es k v) ≡ insert_entry R (map (λ e. (f e.0, e.1)) es) (f k) v
map-insert_entry f R [] k v = refl
map-insert_entry f R (e ∷ es) k v = grind (arith, (map-insert_entry f R es k v))

-- a look-up in a map whose keys are seen through a function
pub lookup-map : {K J X : Type 0} (f : K → J) (p : K → Bool) (q : J → Bool) → ((k : K) → p k ≡ q (f k)) → (es : List (K × X)) → lookup p es ≡ lookup q (map (λ e. (f e.0, e.1)) es)
lookup-map f p q h [] = refl
lookup-map f p q h (e ∷ es) = rw (h e.0, lookup-map f p q h es) refl

-- copies of words, put after words, as texts
clones-texts : (xs ys : List (String Global)) → AllZip (λ s t. string_bytes t ≡ string_bytes s) xs ys → map string_bytes ys ≡ map string_bytes xs
clones-texts [] [] h = refl
clones-texts [] (y ∷ ys) h = absurd h
clones-texts (x ∷ xs) [] h = absurd h
clones-texts (x ∷ xs) (y ∷ ys) h = λ i. h.0 i ∷ clones-texts xs ys h.1 i

pub appended-clones : (old new more : List (String Global)) → AppendsClones (λ s t. string_bytes t ≡ string_bytes s) old new more → map string_bytes new ≡ map string_bytes old ++ map string_bytes more
appended-clones old new more h = ap (map string_bytes) h.1 ∙ map-append string_bytes old h.0 ∙ ap (λ t. map string_bytes old ++ t) (clones-texts more h.0 h.2)

-- copies of pairs of words, as texts
pub cloned-pairs : (xs ys : List (String Global × String Global)) → AllZip (λ s t. (string_bytes t.0 ≡ string_bytes s.0) × (string_bytes t.1 ≡ string_bytes s.1)) xs ys → map pair_of ys ≡ map pair_of xs
cloned-pairs [] [] h = refl
cloned-pairs [] (y ∷ ys) h = absurd h
cloned-pairs (x ∷ xs) [] h = absurd h
cloned-pairs (x ∷ xs) (y ∷ ys) h = λ i. (h.0.0 i, h.0.1 i) ∷ cloned-pairs xs ys h.1 i

-- pairs of words that are the same, or copies, as texts
pub same-or-cloned-pairs : (old new : Vec (String Global × String Global) Global) → (new ≡ old) ⊎ (AllZip (λ s t. (string_bytes t.0 ≡ string_bytes s.0) × (string_bytes t.1 ≡ string_bytes s.1)) old.items new.items × (vec_len new ≡ vec_len old)) → map pair_of new.items ≡ map pair_of old.items
same-or-cloned-pairs old new h = ⊎_elim (λ e. ap (λ v. map pair_of v.items) e) (λ c. cloned-pairs old.items new.items c.0) h

-- what holds anyway holds on an error
pub on-error : {T E P : Type 0} (r : Result T E) → P → OnErr r P
on-error r p = grind arith
