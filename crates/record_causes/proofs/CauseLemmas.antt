-- What a cause means.
use Rattle.std.proofs.Common.{◌≡◌, ◌≢◌, ◌↔◌, ℕ, suc, ◌+◌, Bool, true, false, ◌&&◌, cond, List, [], ◌∷◌, Option, Some, None, map, take, drop, refl, ap, sym, ◌∙◌, subst, bytes_eq, arith}
use Rattle.std.proofs.lemmas.Bool.{and_parts}
use Rattle.std.proofs.lemmas.Slice.Eq.{bytes_eq-Decides}
use Rattle.texts.specs.Equality.{TellsEqual}
use Rattle.record_causes.specs.Places.{at, first_other}
use Rattle.record_causes.specs.Causes.{is_same, is_none, are_same, part_at, part_of, part_of_surroundings, first_change, cause_of}
use Rattle.record_causes.specs.Laws.{NamesDifferences, FirstIsNamed, CauseIsTrue, made, DifferAt, PartDiffers, CommandsDiffer}
use Rattle.record_causes.specs.declared.causes.Cause.{Cause}
use Rattle.record_causes.specs.declared.causes.Part.{Part}
use Rattle.record_causes.specs.declared.causes.Part.TheVariants as parts
use Rattle.record_causes.specs.declared.ran.Ran.{Ran}
use Rattle.record_causes.specs.declared.ran.Record.{Record}
use Rattle.record_causes.proofs.PlaceLemmas.{same-if-none, none-of-same, differ-at}

pub pairs-told : TellsEqual is_same
pairs-told p q = grind (arith, bytes_eq-Decides, and_parts)

words-equal : (ws vs : List (List ℕ)) → first_other bytes_eq 0 ws vs ≡ None → ws ≡ vs
words-equal ws vs e = same-if-none bytes_eq bytes_eq-Decides 0 ws vs e

words-differ : (n : ℕ) (ws vs : List (List ℕ)) → first_other bytes_eq 0 ws vs ≡ Some n → DifferAt n ws vs
words-differ n ws vs e = differ-at bytes_eq bytes_eq-Decides n ws vs e

pairs-equal : (ps qs : List (List ℕ × List ℕ)) → first_other is_same 0 ps qs ≡ None → ps ≡ qs
pairs-equal ps qs e = same-if-none is_same pairs-told 0 ps qs e

pairs-differ : (n : ℕ) (ps qs : List (List ℕ × List ℕ)) → first_other is_same 0 ps qs ≡ Some n → DifferAt n ps qs
pairs-differ n ps qs e = differ-at is_same pairs-told n ps qs e

none-is : (o : Option ℕ) → is_none o ≡ true → o ≡ None
none-is None e = refl
none-is (Some n) e = absurd (cc)

pub same-told : TellsEqual are_same
same-told ps qs = (
  (λ e. pairs-equal ps qs (none-is (first_other is_same 0 ps qs) e)),
  (λ e. subst (λ t. are_same ps t ≡ true) e (ap is_none (none-of-same is_same pairs-told 0 ps))),
)

-- the cause is there if the products differ
pub names-differences : NamesDifferences
names-differences r s =
    elim (are_same r.products s.products)
    as (λ b. are_same r.products s.products ≡ b → (cond b None (Some (first_change 0 r.commands.items s.commands.items)) ≡ None) ↔ (r.products ≡ s.products)) [
      | true ↦ λ e. ((λ _. (same-told r.products s.products).0 e), (λ _. refl))
      | false ↦ λ e. ((λ k. absurd (cc)), (λ k. absurd (let q : are_same r.products s.products ≡ true = (same-told r.products s.products).1 k in cc)))
    ] refl

-- what a command has otherwise
surroundings-differ : (c d : Ran) → c.words ≡ d.words → PartDiffers (part_of_surroundings c d) c d
surroundings-differ c d words =
    elim (first_other is_same 0 c.variables d.variables)
    as (λ o. first_other is_same 0 c.variables d.variables ≡ o → PartDiffers (part_at parts.Variable
    (part_at parts.Tool (part_at parts.Input (part_at parts.Folder parts.Nothing (first_other bytes_eq 0 c.folders d.folders)) (first_other is_same 0 c.inputs d.inputs)) (first_other is_same 0 c.tools d.tools)) o) c d) [
      | Some n ↦ λ e. (words, pairs-differ n c.variables d.variables e)
      | None ↦ λ v.
          elim (first_other is_same 0 c.tools d.tools)
          as (λ o. first_other is_same 0 c.tools d.tools ≡ o → PartDiffers (part_at parts.Tool (part_at parts.Input (part_at parts.Folder parts.Nothing (first_other bytes_eq 0 c.folders d.folders)) (first_other is_same 0 c.inputs d.inputs)) o) c d) [
            | Some n ↦ λ e. (words, pairs-equal c.variables d.variables v, pairs-differ n c.tools d.tools e)
            | None ↦ λ t.
                elim (first_other is_same 0 c.inputs d.inputs)
                as (λ o. first_other is_same 0 c.inputs d.inputs ≡ o → PartDiffers (part_at parts.Input (part_at parts.Folder parts.Nothing (first_other bytes_eq 0 c.folders d.folders)) o) c d) [
                  | Some n ↦ λ e. (words, pairs-equal c.variables d.variables v, pairs-equal c.tools d.tools t, pairs-differ n c.inputs d.inputs e)
                  | None ↦ λ i.
                      elim (first_other bytes_eq 0 c.folders d.folders)
                      as (λ o. first_other bytes_eq 0 c.folders d.folders ≡ o → PartDiffers (part_at parts.Folder parts.Nothing o) c d) [
                        | Some n ↦ λ e. (words, pairs-equal c.variables d.variables v, pairs-equal c.tools d.tools t, pairs-equal c.inputs d.inputs i, words-differ n c.folders d.folders e)
                        | None ↦ λ f. (words, pairs-equal c.variables d.variables v, pairs-equal c.tools d.tools t, pairs-equal c.inputs d.inputs i, words-equal c.folders d.folders f)
                      ] refl
                ] refl
          ] refl
    ] refl

part-differs : (c d : Ran) → PartDiffers (part_of c d) c d
part-differs c d =
    elim (first_other bytes_eq 0 c.words d.words)
    as (λ o. first_other bytes_eq 0 c.words d.words ≡ o → PartDiffers (part_at parts.Word (part_of_surroundings c d) o) c d) [
      | Some n ↦ λ e. words-differ n c.words d.words e
      | None ↦ λ w. surroundings-differ c d (words-equal c.words d.words w)
    ] refl

-- where the first command is whose result differs
abbrev Found : ℕ → List Ran → List Ran → Cause → Type 0
Found n cs ds c = (i : ℕ) × (c.command ≡ n + i) × (map made (take i cs) ≡ map made (take i ds)) × CommandsDiffer c.part (drop i cs) (drop i ds)

change-found : (n : ℕ) (cs ds : List Ran) → Found n cs ds (first_change n cs ds)
change-found n [] [] = (0, grind arith, refl, refl)
change-found n [] (d ∷ ds) = (0, grind arith, refl, refl)
change-found n (c ∷ cs) [] = (0, grind arith, refl, refl)
change-found n (c ∷ cs) (d ∷ ds) =
    elim (are_same c.outputs d.outputs)
    as (λ b. are_same c.outputs d.outputs ≡ b → Found n (c ∷ cs) (d ∷ ds) (cond b (first_change (suc n) cs ds) (record { command = n; part = part_of c d }))) [
      | true ↦ λ e.
          let (i, here, before, there) = change-found (suc n) cs ds in
          (suc i, grind arith, (λ j. (same-told c.outputs d.outputs).0 e j ∷ before j), there)
      | false ↦ λ e. (0, grind arith, refl, ((λ k. let q : are_same c.outputs d.outputs ≡ true = (same-told c.outputs d.outputs).1 k in cc), part-differs c d))
    ] refl

cause-is : (r s : Record) (c : Cause) → cause_of r s ≡ Some c → first_change 0 r.commands.items s.commands.items ≡ c
cause-is r s c h =
    elim (are_same r.products s.products)
    as (λ b. cond b None (Some (first_change 0 r.commands.items s.commands.items)) ≡ Some c → first_change 0 r.commands.items s.commands.items ≡ c)
    [ true ↦ λ k. absurd (cc) | false ↦ λ k. cc ] h

found : (r s : Record) (c : Cause) → cause_of r s ≡ Some c
    → (map made (take c.command r.commands.items) ≡ map made (take c.command s.commands.items)) × CommandsDiffer c.part (drop c.command r.commands.items) (drop c.command s.commands.items)
found r s c h =
    let (i, here, before, there) = subst (λ t. Found 0 r.commands.items s.commands.items t) (cause-is r s c h) (change-found 0 r.commands.items s.commands.items) in
    let at : i ≡ c.command = grind arith in
    (subst (λ t. map made (take t r.commands.items) ≡ map made (take t s.commands.items)) at before, subst (λ t. CommandsDiffer c.part (drop t r.commands.items) (drop t s.commands.items)) at there)

pub first-is-named : FirstIsNamed
first-is-named r s c h = (found r s c h).0

pub cause-is-true : CauseIsTrue
cause-is-true r s c h = (found r s c h).1
