-- What a set has once a word is added.
use denote.Ref.{Bor}
use Rattle.std.proofs.Common.{◌≡◌, ℕ, Bool, true, false, cond, ◌||◌, List, Option, Some, refl, ap, ◌∙◌, bytes_eq}
use Rattle.std.specs.Prelude.{is_some}
use Rattle.std.specs.HashMap as hash
use Rattle.std.specs.HashMap.{HashMap}
use Rattle.std.proofs.lemmas.Map.Text.{hash_map_updates_str}

pub set_updates : {S : Type 0} (m n : HashMap (Bor (List ℕ)) Bool S) (k : Bor (List ℕ)) (v : Bool) → hash.UpdatesBy (λ x y. bytes_eq x.now y.now) (λ x. bytes_eq k.now x.now) m n (Some v) →
    (word : List ℕ) → is_some (hash.get_by (λ k. bytes_eq word k.now) n) ≡ (bytes_eq k.now word || is_some (hash.get_by (λ k. bytes_eq word k.now) m))
set_updates m n k v is word = ap is_some (hash_map_updates_str k.now m n (Some v) is word) ∙ by_cases (bytes_eq k.now word) (hash.get_by (λ k. bytes_eq word k.now) m)
  where
    by_cases : (b : Bool) (old : Option Bool) → is_some (cond b (Some v) old) ≡ (b || is_some old)
    by_cases true old = refl
    by_cases false old = refl
