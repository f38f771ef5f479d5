-- How deep lists of values nest, and that values of texts have no float.
use Rattle.std.proofs.Common.{◌≡◌, ℕ, ◌≤◌, List, [], ◌∷◌, ◌++◌, ◌∙◌, map, false, Some, refl, ap, subst, arith}
use Rattle.std.proofs.lemmas.Bool.{or_from}
use Rattle.std.proofs.lemmas.List.{map-append}
use Rattle.serde_json.specs.Data.{Data, string, depth, items_depth}
use Rattle.serde_json.specs.View.{items_of}
use Rattle.serde_json.specs.Read.{read, max_depth}
use Rattle.serde_json.specs.Written.{has_float, items_have_float, compact_text}
use Rattle.plan_json.specs.Values.{texts_data}

-- what holds of each item's depth holds of a list's
pub items_within : {A : Type 0} (n : ℕ) (f : A → Data) → ((x : A) → depth (f x) ≤ n) → (xs : List A) → items_depth (items_of (map f xs)) ≤ n
items_within n f h [] = omega arith
items_within n f h (x ∷ xs) = omega (arith, h x, items_within n f h xs)

-- where no item has a float, the list has none
pub items_float_free : {A : Type 0} (f : A → Data) → ((x : A) → has_float (f x) ≡ false) → (xs : List A) → items_have_float (items_of (map f xs)) ≡ false
items_float_free f h [] = refl
items_float_free f h (x ∷ xs) = or_from _ _ (h x) (items_float_free f h xs)

pub texts_float_free : (texts : List (List ℕ)) → has_float (texts_data texts) ≡ false
texts_float_free texts = items_float_free string (λ x. refl) texts

-- data that is pushed is that of the last item
pub pushed-data : {X D : Type 0} (f : X → D) (before after : List X) (x : X) (d : D) → f x ≡ d → after ≡ before ++ x ∷ [] → map f after ≡ map f before ++ d ∷ []
pushed-data f before after x d e is = ap (map f) is ∙ map-append f before (x ∷ []) ∙ ap (λ y. map f before ++ y ∷ []) e

-- what is written of a value with this data
pub exact_text : (wanted d : Data) (text : List ℕ) → has_float wanted ≡ false → d ≡ wanted → (has_float d ≡ false → text ≡ compact_text d) → text ≡ compact_text wanted
exact_text wanted d text free same written = (subst (λ d. has_float d ≡ false → text ≡ compact_text d) same written) free

pub text_reads_back : (wanted d : Data) (text : List ℕ) → depth wanted ≤ max_depth → d ≡ wanted → (depth d ≤ max_depth → read text ≡ Some d) → read text ≡ Some wanted
text_reads_back wanted d text within same written = (subst (λ d. depth d ≤ max_depth → read text ≡ Some d) same written) within
