-- Environments in which a variable is set, at its place or at the end.
use Rattle.std.proofs.Common.{◌≡◌, ℕ, suc, Bool, List, [], ◌∷◌, ◌++◌, map, refl, arith, String, string_bytes, Global, slice_index_or, slice_set, Option, Some, None, option_map, if◌then◌else◌, bytes_eq}
use Rattle.std.proofs.lemmas.Option.{none-some}
use Rattle.std.proofs.lemmas.List.{map-append}
use Rattle.texts.specs.Variables.{pair_of}
use Rattle.dry_runs.specs.Environment.{Variable, with_variable}
use Rattle.command_groups.specs.Views.{variable_place}
use Rattle.command_groups.proofs.environment.set.Goals as goal

unknown-step : (b : Bool) (e : Variable) (es : List Variable) (v : Variable) (p : Option ℕ) → (p ≡ None → with_variable es v ≡ es ++ v ∷ []) → (if b then Some 0 else option_map suc p) ≡ None →
    (if b then (e.0, v.1) ∷ es else e ∷ with_variable es v) ≡ e ∷ (es ++ v ∷ [])
unknown-step b e es v p rest h = grind arith

-- a variable of a new name comes last
set-unknown : (es : List Variable) (v : Variable) → variable_place v.0 es ≡ None → with_variable es v ≡ es ++ v ∷ []
set-unknown [] v h = refl
set-unknown (e ∷ es) v h = unknown-step (bytes_eq e.0 v.0) e es v (variable_place v.0 es) (set-unknown es v) h

abbrev Pair : Type 0
Pair = String Global × String Global

known-step : (b : Bool) (e : Pair) (es : List Pair) (name : List ℕ) (value : String Global) (place : ℕ) (x d : Pair) (p : Option ℕ) → ((n : ℕ) → x ≡ slice_index_or es n d → p ≡ Some n → map pair_of (slice_set es n (x.0, value)) ≡ with_variable (map pair_of es) (name, string_bytes value)) →
    x ≡ slice_index_or (e ∷ es) place d → (if b then Some 0 else option_map suc p) ≡ Some place →
    map pair_of (slice_set (e ∷ es) place (x.0, value)) ≡ (if b then (string_bytes e.0, string_bytes value) ∷ map pair_of es else pair_of e ∷ with_variable (map pair_of es) (name, string_bytes value))
known-step b e es name value place x d p rest is h = grind arith

-- the first variable of a known name gets the new value, and keeps its name
set-known : (es : List Pair) (name : List ℕ) (value : String Global) (place : ℕ) (x d : Pair) → x ≡ slice_index_or es place d → variable_place name (map pair_of es) ≡ Some place →
    map pair_of (slice_set es place (x.0, value)) ≡ with_variable (map pair_of es) (name, string_bytes value)
set-known [] name value place x d is h = absurd (none-some place h)
set-known (e ∷ es) name value place x d is h =
    known-step (bytes_eq (string_bytes e.0) name) e es name value place x d (variable_place name (map pair_of es)) (λ n is' h'. set-known es name value n x d is' h') is h

pub returns-in_ok-push-in-None : goal.returns-in_ok-push-in-None
returns-in_ok-push-in-None c = grind (arith, map-append, set-unknown)

pub returns-in-Some : goal.returns-in-Some
returns-in-Some c = grind (arith, set-known)
