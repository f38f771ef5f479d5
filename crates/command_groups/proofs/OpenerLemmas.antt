-- The fate of a command whose group one step opens, and that doesn't stand before that step.
use Rattle.std.proofs.Common.{◌≡◌, ℕ, List, [], ◌∷◌, ◌++◌, ◌||◌, Bool, true, false, cond, Option, Some, None, map, filter, refl, ap, subst, ◌∙◌, bytes_eq, arith}
use Rattle.std.specs.List.{Contains, AllByRecursion, list_any, list_all}
use Rattle.std.proofs.lemmas.Bool.{false≢true, or_parts}
use Rattle.std.proofs.lemmas.List.Elements.{All-from_recursion, All-contains}
use Rattle.texts.specs.Lists.{is_some_and, with_name}
use Rattle.canonical_names.proofs.CanonicalLemmas.{head-member, tail-member}
use Rattle.compilers.specs.declared.plans.plan.Reason.TheVariants.{Superseded}
use Rattle.command_groups.specs.Merge.{is_in_order}
use Rattle.command_groups.specs.MergeLaws.{InOrder}
use Rattle.command_groups.specs.Stage.{Stage, linking, splitting, device_compiling, assembling, preprocessing, host_compiling, foreign, StagedCommand, opens}
use Rattle.command_groups.specs.Fate.{Fate, device, ungrouped, PlacedCommand, opens_name, place_of, placed_after, fate_of, with_fates, fates}
use Rattle.command_groups.proofs.FateLemmas.{same_text, all_push, known_with, new_name_known, placed_staged}

-- lists of which one element passes a test
module _ {X : Type 0} (test : X → Bool) where
  pub filter_holds : (xs : List X) (x : X) → filter test xs ≡ x ∷ [] → test x ≡ true
  filter_holds [] x h = cc
  filter_holds (y ∷ ys) x h = grind (arith, (filter_holds ys x))

  pub filter_member : (xs : List X) (x : X) → filter test xs ≡ x ∷ [] → Contains xs x
  filter_member [] x h = cc
  filter_member (y ∷ ys) x h =
      elim (test y) as (λ b. cond b (y ∷ filter test ys) (filter test ys) ≡ x ∷ [] → Contains (y ∷ ys) x)
      [ true ↦ λ k. let is : y ≡ x = cc in subst (λ z. Contains (y ∷ ys) z) is (head-member y ys) | false ↦ λ k. tail-member y ys x (filter_member ys x k) ] h

  pub filter_none : (xs : List X) → filter test xs ≡ [] → list_any test xs ≡ false
  filter_none [] h = refl
  filter_none (y ∷ ys) h = grind (arith, (filter_none ys))

-- whether a command opens the group of a name
abbrev pub opener : List ℕ → StagedCommand → Bool
opener n c = is_some_and (λ opened. bytes_eq opened n) (opens c.stage)

-- a stage that opens a group goes there
pub opener_place : (n : List ℕ) (stage : Stage) → is_some_and (λ opened. bytes_eq opened n) (opens stage) ≡ true → (names : List (List ℕ)) (before : List PlacedCommand) → place_of names before stage ≡ device n
opener_place n linking h names before = absurd (false≢true h)
opener_place n splitting h names before = absurd (false≢true h)
opener_place n (device_compiling name) h names before = absurd (false≢true h)
opener_place n (assembling path) h names before = absurd (false≢true h)
opener_place n (preprocessing None) h names before = absurd (false≢true h)
opener_place n (preprocessing (Some m)) h names before = ap device (same_text m n h)
opener_place n host_compiling h names before = absurd (false≢true h)
opener_place n foreign h names before = absurd (false≢true h)

-- a name that is opened is known from there on
opened_known : (n : List ℕ) (names : List (List ℕ)) (o : Option (List ℕ)) → is_some_and (λ opened. bytes_eq opened n) o ≡ true → list_any (bytes_eq n) (with_name names o) ≡ true
opened_known n names None h = absurd (false≢true h)
opened_known n names (Some m) h = subst (λ z. list_any (bytes_eq z) (with_name names (Some m)) ≡ true) (same_text m n h) (new_name_known names m)

-- Below, one step opens the group of a name, and a command goes there wherever that name is known; a command that stands
-- before the step is another one.
module _ (n : List ℕ) (step target : StagedCommand)
    (placed : (names : List (List ℕ)) (before : List PlacedCommand) → list_any (bytes_eq n) names ≡ true → place_of names before target.stage ≡ device n)
    (behind : (c : StagedCommand) → opener n c ≡ false → is_in_order c.command step.command ≡ true → c ≡ target → ⊥) where
  abbrev Good : PlacedCommand → Type 0
  Good p = p.staged ≡ target → p.fate ≡ device n

  abbrev at : List (List ℕ) → List PlacedCommand → StagedCommand → PlacedCommand
  at names before c = record { staged = c; fate = place_of names before c.stage }

  step_behind : (c : StagedCommand) (cs : List StagedCommand) → list_all (is_in_order c.command) (map (λ t. t.command) cs) ≡ true → filter (opener n) cs ≡ step ∷ [] → is_in_order c.command step.command ≡ true
  step_behind c [] h f = cc
  step_behind c (d ∷ ds) h f = grind (arith, (step_behind c ds))

  good_after : (names : List (List ℕ)) (before : List PlacedCommand) (cs : List StagedCommand) → AllByRecursion Good before → list_any (bytes_eq n) names ≡ true → AllByRecursion Good (placed_after names before cs)
  good_after names before [] h k = h
  good_after names before (c ∷ cs) h k =
      good_after (with_name names (opens c.stage)) (before ++ at names before c ∷ []) cs
      (all_push Good before (at names before c) h (λ e. ap (λ (t : StagedCommand). place_of names before t.stage) e ∙ placed names before k))
      (known_with names (opens c.stage) n k)

  good_before : (names : List (List ℕ)) (before : List PlacedCommand) (cs : List StagedCommand) → AllByRecursion Good before → InOrder (map (λ t. t.command) cs) → filter (opener n) cs ≡ step ∷ [] →
      AllByRecursion Good (placed_after names before cs)
  good_before names before [] h o f = cc
  good_before names before (c ∷ cs) h o f =
      elim (opener n c) as (λ b. opener n c ≡ b → cond b (c ∷ filter (opener n) cs) (filter (opener n) cs) ≡ step ∷ [] → AllByRecursion Good (placed_after (with_name names (opens c.stage)) (before ++ at names before c ∷ []) cs)) [
        | true ↦ λ e _.
            good_after (with_name names (opens c.stage)) (before ++ at names before c ∷ []) cs
            (all_push Good before (at names before c) h (λ _. opener_place n c.stage e names before))
            (opened_known n names (opens c.stage) e)
        | false ↦ λ e k.
            good_before (with_name names (opens c.stage)) (before ++ at names before c ∷ []) cs
            (all_push Good before (at names before c) h (λ is. absurd (behind c e (step_behind c cs o.0 k) is)))
            o.1 k
      ] refl f

  opened_later : (ps : List PlacedCommand) → list_any (opens_name n) ps ≡ list_any (opener n) (map (λ p. p.staged) ps)
  opened_later [] = refl
  opened_later (p ∷ ps) = ap (λ b. opener n p.staged || b) (opened_later ps)

  stays : (ps : List PlacedCommand) (place : Fate) → place ≡ device n → list_any (opener n) (map (λ p. p.staged) ps) ≡ false → fate_of ps place ≡ device n
  stays ps place e k = ap (fate_of ps) e ∙ ap (λ b. cond b (ungrouped Superseded) (device n)) (opened_later ps ∙ k)

  late : (ps : List PlacedCommand) → AllByRecursion Good ps → list_any (opener n) (map (λ p. p.staged) ps) ≡ false → AllByRecursion Good (with_fates ps)
  late [] h k = tt
  late (p ∷ ps) h k = grind (arith, or_parts, stays, (late ps h.1))

  early : (ps : List PlacedCommand) → AllByRecursion Good ps → InOrder (map (λ t. t.command) (map (λ p. p.staged) ps)) → filter (opener n) (map (λ p. p.staged) ps) ≡ step ∷ [] → AllByRecursion Good (with_fates ps)
  early [] h o f = tt
  early (p ∷ ps) h o f =
      let later = map (λ (p : PlacedCommand). p.staged) ps in
      elim (opener n p.staged) as (λ b. opener n p.staged ≡ b → cond b (p.staged ∷ filter (opener n) later) (filter (opener n) later) ≡ step ∷ [] → AllByRecursion Good (record { staged = p.staged; fate = fate_of ps p.fate } ∷ with_fates ps)) [
        | true ↦ λ e k.
            let none : filter (opener n) later ≡ [] = cc in
            let rest = filter_none (opener n) later none in
            (λ is. stays ps p.fate (h.0 is) rest, late ps h.1 rest)
        | false ↦ λ e k. (λ is. absurd (behind p.staged e (step_behind p.staged later o.0 k) is), early ps h.1 o.1 k)
      ] refl f

  pub fate_settled : (cs : List StagedCommand) → InOrder (map (λ t. t.command) cs) → filter (opener n) cs ≡ step ∷ [] → (p : PlacedCommand) → Contains (fates cs) p → p.staged ≡ target → p.fate ≡ device n
  fate_settled cs o f p among = grind (arith, placed_staged, early, good_before, All-contains, All-from_recursion)
