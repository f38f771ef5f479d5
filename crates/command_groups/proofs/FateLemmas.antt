-- Fates: each command has one, and device groups begin with their steps.
use Rattle.std.proofs.Common.{◌≡◌, ℕ, ◌+◌, List, [], ◌∷◌, ◌++◌, Bool, true, false, cond, ◌||◌, Option, Some, map, length, refl, sym, ap, subst, ◌∙◌, ◌⊎◌, arith, IsPermutation, bytes_eq, append-nil}
use Rattle.std.specs.List.{AllByRecursion, list_any, fold, find, flat_map}
use Rattle.std.proofs.lemmas.Bool.{false≢true, or_from, or_left, or_right, or_parts}
use Rattle.std.proofs.lemmas.List.{length-append, length-map}
use Rattle.std.proofs.lemmas.Slice.Eq.{bytes_eq-Decides}
use Rattle.std.proofs.lemmas.List.Sorted.{IsPermutation-refl, IsPermutation-sym, IsPermutation-trans, IsPermutation-cons, IsPermutation-map, IsPermutation-middle, IsPermutation-append_left, IsPermutation-append_right}
use Rattle.std.proofs.lemmas.List.Folds.{list_any-append}
use Rattle.compilers.specs.declared.plans.plan.Reason.{Reason}
use Rattle.texts.specs.Lists.{is_some_and, with_name}
use Rattle.command_groups.specs.Stage.{Stage, StagedCommand, opens}
use Rattle.command_groups.specs.Fate.{Fate, front, device, final, ungrouped, PlacedCommand, is_device, opens_name, opened_names, device_or, place_of, placed_after, places, fate_of, with_fates, fates}
use Rattle.command_groups.specs.Plan.{PlanSetting, is_front, is_final, of_fate, plan_of_staged}
use Rattle.command_groups.specs.FateLaws.{is_ungrouped, regrouped, EachHasOneFate, BeginsWithLastStep, DeviceGroupsBeginWithTheirStep}

-- Tests.

pub true_before_false : (a b : Bool) → (a || b) ≡ true → b ≡ false → a ≡ true
true_before_false a b e f = grind (arith, false≢true)

pub one_of : {P : Type 0} (a b : Bool) → (a ≡ true → P) → (b ≡ true → P) → (a || b) ≡ true → P
one_of a b f g e = grind arith

pub same_text : (a b : List ℕ) → bytes_eq a b ≡ true → a ≡ b
same_text a b e = (bytes_eq-Decides a b).0 e

pub equal_texts : (a b : List ℕ) → a ≡ b → bytes_eq a b ≡ true
equal_texts a b e = (bytes_eq-Decides a b).1 e

pub flipped : (a b : List ℕ) → bytes_eq a b ≡ bytes_eq b a
flipped a b = grind (arith, equal_texts, same_text, false≢true)

-- Lists all of whose elements have something.

pub weaker : {X : Type 0} (P Q : X → Type 0) → ((x : X) → P x → Q x) → (xs : List X) → AllByRecursion P xs → AllByRecursion Q xs
weaker P Q f [] h = tt
weaker P Q f (x ∷ xs) h = (f x h.0, weaker P Q f xs h.1)

pub all_push : {X : Type 0} (P : X → Type 0) (xs : List X) (y : X) → AllByRecursion P xs → P y → AllByRecursion P (xs ++ y ∷ [])
all_push P [] y h k = (k, tt)
all_push P (x ∷ xs) y h k = (h.0, all_push P xs y h.1 k)

abbrev pub Among : {X : Type 0} → X → List X → Type 0
Among x [] = ⊥
Among x (y ∷ ys) = (x ≡ y) ⊎ Among x ys

-- Different names.

abbrev pub Distinct : List (List ℕ) → Type 0
Distinct [] = Unit {0}
Distinct (n ∷ ns) = (list_any (bytes_eq n) ns ≡ false) × Distinct ns

distinct_push : (names : List (List ℕ)) (x : List ℕ) → Distinct names → list_any (bytes_eq x) names ≡ false → Distinct (names ++ x ∷ [])
distinct_push [] x d e = (refl, tt)
distinct_push (n ∷ ns) x d e = grind (arith, list_any-append, or_from, flipped, or_parts, (distinct_push ns x d.1 (or_parts (bytes_eq x n) (list_any (bytes_eq x) ns) e).1))

pub distinct_with : (names : List (List ℕ)) (name : Option (List ℕ)) → Distinct names → Distinct (with_name names name)
distinct_with names name d = grind (arith, distinct_push)

-- the names after these, once some commands opened theirs
abbrev pub names_after : List (List ℕ) → List StagedCommand → List (List ℕ)
names_after names commands = fold (λ ns c. with_name ns (opens c.stage)) names commands

pub distinct_after : (names : List (List ℕ)) (commands : List StagedCommand) → Distinct names → Distinct (names_after names commands)
distinct_after names [] d = d
distinct_after names (c ∷ cs) d = distinct_after (with_name names (opens c.stage)) cs (distinct_with names (opens c.stage) d)

-- Names of places.

-- a place that is a device group has one of these names
abbrev Named : List (List ℕ) → Fate → Type 0
Named names (device name) = list_any (bytes_eq name) names ≡ true
Named names _ = Unit {0}

abbrev AllNamed : List (List ℕ) → List PlacedCommand → Type 0
AllNamed names ps = AllByRecursion (λ p. Named names p.fate) ps

pub known_with : (names : List (List ℕ)) (name : Option (List ℕ)) (m : List ℕ) → list_any (bytes_eq m) names ≡ true → list_any (bytes_eq m) (with_name names name) ≡ true
known_with names name m e = grind (arith, list_any-append, or_left)

named_with : (names : List (List ℕ)) (name : Option (List ℕ)) (place : Fate) → Named names place → Named (with_name names name) place
named_with names name (device m) h = known_with names name m h
named_with names name _ h = tt

pub new_name_known : (names : List (List ℕ)) (x : List ℕ) → list_any (bytes_eq x) (with_name names (Some x)) ≡ true
new_name_known names x = grind (arith, list_any-append, or_right, or_left, equal_texts)

found_named : (reason : Reason) (test : List ℕ → Bool) (names : List (List ℕ)) → Named names (device_or reason (find test names))
found_named reason test [] = tt
found_named reason test (n ∷ ns) = grind (arith, or_left, equal_texts, (found_named reason test ns))

place_named : (names : List (List ℕ)) (before : List PlacedCommand) (stage : Stage) → Named (with_name names (opens stage)) (place_of names before stage)
place_named names before stage = grind (arith, found_named, new_name_known)

placed_named : (names : List (List ℕ)) (before : List PlacedCommand) (commands : List StagedCommand) → AllNamed names before → AllNamed (names_after names commands) (placed_after names before commands)
placed_named names before [] h = h
placed_named names before (c ∷ cs) h =
    let later : List (List ℕ) = with_name names (opens c.stage) in
    let p : PlacedCommand = record { staged = c; fate = place_of names before c.stage } in
    placed_named later (before ++ p ∷ []) cs
    (all_push (λ q. Named later q.fate) before p (weaker (λ q. Named names q.fate) (λ q. Named later q.fate) (λ q k. named_with names (opens c.stage) q.fate k) before h) (place_named names before c.stage))

fates_named : (names : List (List ℕ)) (ps : List PlacedCommand) → AllNamed names ps → AllNamed names (with_fates ps)
fates_named names [] h = tt
fates_named names (p ∷ ps) h = ((grind arith), fates_named names ps h.1)

-- The commands themselves stay as they are.

push_staged : (before : List PlacedCommand) (p : PlacedCommand) (cs : List StagedCommand) → (map (λ q. q.staged) (before ++ p ∷ []) ++ cs) ≡ (map (λ q. q.staged) before ++ p.staged ∷ cs)
push_staged [] p cs = refl
push_staged (q ∷ qs) p cs = λ i. q.staged ∷ push_staged qs p cs i

pub placed_staged : (names : List (List ℕ)) (before : List PlacedCommand) (commands : List StagedCommand) → map (λ q. q.staged) (placed_after names before commands) ≡ (map (λ q. q.staged) before ++ commands)
placed_staged names before [] = sym (append-nil (map (λ q. q.staged) before))
placed_staged names before (c ∷ cs) =
    simp (push_staged, (placed_staged (with_name names (opens c.stage)) (before ++ (record { staged = c; fate = place_of names before c.stage }) ∷ []) cs))

pub fates_staged : (ps : List PlacedCommand) → map (λ q. q.staged) (with_fates ps) ≡ map (λ q. q.staged) ps
fates_staged [] = refl
fates_staged (p ∷ ps) = λ i. p.staged ∷ fates_staged ps i

-- Each command is regrouped once.

no_groups : (names : List (List ℕ)) → flat_map (λ name. of_fate (is_device name) []) names ≡ []
no_groups [] = refl
no_groups (n ∷ ns) = no_groups ns

-- an element that is put behind a front of a list
behind : {X : Type 0} (front_part back : List X) (x : X) → IsPermutation (x ∷ (front_part ++ back)) (front_part ++ x ∷ back)
behind front_part back x = IsPermutation-sym (front_part ++ x ∷ back) (x ∷ (front_part ++ back)) (IsPermutation-middle front_part x back)

module _ (F : List ℕ → List PlacedCommand) (p : PlacedCommand) (m : List ℕ) where
  -- the groups, once a command joins the one of its name
  abbrev joined_by : List ℕ → List PlacedCommand
  joined_by n = cond (bytes_eq m n) (p ∷ F n) (F n)

  not_joined : (names : List (List ℕ)) → list_any (bytes_eq m) names ≡ false → flat_map joined_by names ≡ flat_map F names
  not_joined [] e = refl
  not_joined (n ∷ ns) e = λ i. cond ((or_parts (bytes_eq m n) (list_any (bytes_eq m) ns) e).0 i) (p ∷ F n) (F n) ++ not_joined ns (or_parts (bytes_eq m n) (list_any (bytes_eq m) ns) e).1 i

  joins_one : (names : List (List ℕ)) → Distinct names → list_any (bytes_eq m) names ≡ true → IsPermutation (p ∷ flat_map F names) (flat_map joined_by names)
  joins_one [] d e = absurd (false≢true e)
  joins_one (n ∷ ns) d e =
      let ih : (list_any (bytes_eq m) ns ≡ true → IsPermutation (p ∷ flat_map F ns) (flat_map joined_by ns)) = joins_one ns d.1 in
      (elim (bytes_eq m n) as (λ b. bytes_eq m n ≡ b → (b || list_any (bytes_eq m) ns) ≡ true → IsPermutation (p ∷ (F n ++ flat_map F ns)) (cond b (p ∷ F n) (F n) ++ flat_map joined_by ns)) [
        | true ↦ λ f g.
            subst (λ rest. IsPermutation (p ∷ (F n ++ flat_map F ns)) (p ∷ (F n ++ rest)))
            (sym (not_joined ns (ap (λ k. list_any (bytes_eq k) ns) (same_text m n f) ∙ d.0)))
            (IsPermutation-refl (p ∷ (F n ++ flat_map F ns)))
        | false ↦ λ f g.
            IsPermutation-trans (p ∷ (F n ++ flat_map F ns)) (F n ++ p ∷ flat_map F ns) (F n ++ flat_map joined_by ns) (behind (F n) (flat_map F ns) p)
            (IsPermutation-append_right (F n) (p ∷ flat_map F ns) (flat_map joined_by ns) (ih g))
      ]) refl e

module _ (names : List (List ℕ)) (d : Distinct names) where
  -- one more command in front: it joins the list of its fate
  regroup_one : (s : StagedCommand) (place : Fate) (ps : List PlacedCommand) → Named names place → IsPermutation ps (regrouped names ps) → IsPermutation (record { staged = s; fate = place } ∷ ps) (regrouped names (record { staged = s; fate = place } ∷ ps))
  regroup_one s front ps n h = IsPermutation-cons (record { staged = s; fate = front }) ps (regrouped names ps) h
  regroup_one s (device m) ps n h =
      let p : PlacedCommand = record { staged = s; fate = device m } in
      let A : List PlacedCommand = of_fate is_front ps in
      let B : List PlacedCommand = flat_map (λ name. of_fate (is_device name) ps) names in
      let C : List PlacedCommand = of_fate is_final ps ++ of_fate is_ungrouped ps in
      let B' : List PlacedCommand = flat_map (joined_by (λ name. of_fate (is_device name) ps) p m) names in
      IsPermutation-trans (p ∷ ps) (p ∷ (A ++ (B ++ C))) (A ++ (B' ++ C)) (IsPermutation-cons p ps (A ++ (B ++ C)) h)
      (IsPermutation-trans (p ∷ (A ++ (B ++ C))) (A ++ p ∷ (B ++ C)) (A ++ (B' ++ C)) (behind A (B ++ C) p)
      (IsPermutation-append_right A (p ∷ (B ++ C)) (B' ++ C)
      (IsPermutation-append_left C (p ∷ B) B' (joins_one (λ name. of_fate (is_device name) ps) p m names d n))))
  regroup_one s final ps n h =
      let p : PlacedCommand = record { staged = s; fate = final } in
      let A : List PlacedCommand = of_fate is_front ps in
      let B : List PlacedCommand = flat_map (λ name. of_fate (is_device name) ps) names in
      let C : List PlacedCommand = of_fate is_final ps ++ of_fate is_ungrouped ps in
      IsPermutation-trans (p ∷ ps) (p ∷ (A ++ (B ++ C))) (A ++ (B ++ p ∷ C)) (IsPermutation-cons p ps (A ++ (B ++ C)) h)
      (IsPermutation-trans (p ∷ (A ++ (B ++ C))) (A ++ p ∷ (B ++ C)) (A ++ (B ++ p ∷ C)) (behind A (B ++ C) p)
      (IsPermutation-append_right A (p ∷ (B ++ C)) (B ++ p ∷ C) (behind B C p)))
  regroup_one s (ungrouped reason) ps n h =
      let p : PlacedCommand = record { staged = s; fate = ungrouped reason } in
      let A : List PlacedCommand = of_fate is_front ps in
      let B : List PlacedCommand = flat_map (λ name. of_fate (is_device name) ps) names in
      let C : List PlacedCommand = of_fate is_final ps in
      let D : List PlacedCommand = of_fate is_ungrouped ps in
      IsPermutation-trans (p ∷ ps) (p ∷ (A ++ (B ++ (C ++ D)))) (A ++ (B ++ (C ++ p ∷ D))) (IsPermutation-cons p ps (A ++ (B ++ (C ++ D))) h)
      (IsPermutation-trans (p ∷ (A ++ (B ++ (C ++ D)))) (A ++ p ∷ (B ++ (C ++ D))) (A ++ (B ++ (C ++ p ∷ D))) (behind A (B ++ (C ++ D)) p)
      (IsPermutation-append_right A (p ∷ (B ++ (C ++ D))) (B ++ (C ++ p ∷ D))
      (IsPermutation-trans (p ∷ (B ++ (C ++ D))) (B ++ p ∷ (C ++ D)) (B ++ (C ++ p ∷ D)) (behind B (C ++ D) p)
      (IsPermutation-append_right B (p ∷ (C ++ D)) (C ++ p ∷ D) (behind C D p)))))

  regroup : (ps : List PlacedCommand) → AllNamed names ps → IsPermutation ps (regrouped names ps)
  regroup [] h = subst (λ (rest : List PlacedCommand). IsPermutation [] (rest ++ [])) (sym (no_groups names)) (IsPermutation-refl [])
  regroup (p ∷ ps) h = regroup_one p.staged p.fate ps h.0 (regroup ps h.1)

pub each_has_one_fate : EachHasOneFate
each_has_one_fate commands =
    let names : List (List ℕ) = opened_names commands in
    let ps : List PlacedCommand = fates commands in
    subst (λ cs. IsPermutation cs (map (λ q. q.staged) (regrouped names ps))) (fates_staged (places commands) ∙ placed_staged [] [] commands)
    (IsPermutation-map (λ q. q.staged) ps (regrouped names ps) (regroup names (distinct_after [] commands tt) ps (fates_named names (places commands) (placed_named [] [] commands tt))))

-- Device groups begin with their steps.

-- a step that opens a name is placed in the group of that name
abbrev AtHome : List ℕ → PlacedCommand → Type 0
AtHome name p = opens_name name p ≡ true → is_device name p.fate ≡ true

abbrev AllAtHome : List ℕ → List PlacedCommand → Type 0
AllAtHome name ps = AllByRecursion (AtHome name) ps

home : (name : List ℕ) (names : List (List ℕ)) (before : List PlacedCommand) (stage : Stage) → is_some_and (λ opened. bytes_eq opened name) (opens stage) ≡ true → is_device name (place_of names before stage) ≡ true
home name names before stage e = grind (arith, false≢true)

all_home : (name : List ℕ) (names : List (List ℕ)) (before : List PlacedCommand) (commands : List StagedCommand) → AllAtHome name before → AllAtHome name (placed_after names before commands)
all_home name names before [] h = h
all_home name names before (c ∷ cs) h =
    let p : PlacedCommand = record { staged = c; fate = place_of names before c.stage } in
    all_home name (with_name names (opens c.stage)) (before ++ p ∷ []) cs (all_push (AtHome name) before p h (home name names before c.stage))

-- a name that is known after a step was known before it, or the step opens it
known_or_opened : (names : List (List ℕ)) (opened : Option (List ℕ)) (name : List ℕ) (b : Bool) → (list_any (bytes_eq name) names ≡ true → b ≡ true) → list_any (bytes_eq name) (with_name names opened) ≡ true → (b || (is_some_and (λ o. bytes_eq o name) opened || false)) ≡ true
known_or_opened names opened name b f e = grind (arith, or_left, one_of, or_right, flipped, list_any-append)

names_are_opened : (name : List ℕ) (names : List (List ℕ)) (before : List PlacedCommand) (commands : List StagedCommand) → (list_any (bytes_eq name) names ≡ true → list_any (opens_name name) before ≡ true) → list_any (bytes_eq name) (names_after names commands) ≡ true → list_any (opens_name name) (placed_after names before commands) ≡ true
names_are_opened name names before [] f e = f e
names_are_opened name names before (c ∷ cs) f e =
    let p : PlacedCommand = record { staged = c; fate = place_of names before c.stage } in
    names_are_opened name (with_name names (opens c.stage)) (before ++ p ∷ []) cs
    (λ k. list_any-append (opens_name name) before (p ∷ []) ∙ known_or_opened names (opens c.stage) name (list_any (opens_name name) before) f k) e

opened_by_fates : (name : List ℕ) (ps : List PlacedCommand) → list_any (opens_name name) (with_fates ps) ≡ list_any (opens_name name) ps
opened_by_fates name [] = refl
opened_by_fates name (p ∷ ps) = λ i. opens_name name p || opened_by_fates name ps i

-- where a later step opens a name, no earlier command is left in its group
lost : (name : List ℕ) (after : List PlacedCommand) (place : Fate) → list_any (opens_name name) after ≡ true → is_device name (fate_of after place) ≡ false
lost name after front e = refl
lost name after (device m) e = grind (arith, false≢true, same_text)
lost name after final e = refl
lost name after (ungrouped reason) e = refl

-- where none does, a command of its group stays there
stays : (name : List ℕ) (after : List PlacedCommand) (place : Fate) → is_device name place ≡ true → list_any (opens_name name) after ≡ false → is_device name (fate_of after place) ≡ true
stays name after front e f = absurd (false≢true e)
stays name after (device m) e f = grind (arith, same_text)
stays name after final e f = absurd (false≢true e)
stays name after (ungrouped reason) e f = absurd (false≢true e)

begins : (name : List ℕ) (ps : List PlacedCommand) → AllAtHome name ps → list_any (opens_name name) ps ≡ true → BeginsWithLastStep name (with_fates ps)
begins name [] h e = absurd (false≢true e)
begins name (p ∷ ps) h e =
    let fp : PlacedCommand = record { staged = p.staged; fate = fate_of ps p.fate } in
    let rest : List PlacedCommand = of_fate (is_device name) (with_fates ps) in
    let ih : (list_any (opens_name name) ps ≡ true → BeginsWithLastStep name (with_fates ps)) = begins name ps h.1 in
    (elim (list_any (opens_name name) ps) as (λ b. list_any (opens_name name) ps ≡ b → BeginsWithLastStep name (fp ∷ with_fates ps)) [
      | true ↦ λ f.
          let t : BeginsWithLastStep name (with_fates ps) = ih f in
          (fp ∷ t.0, t.1, t.2, ap (λ xs. fp ∷ xs) t.3, t.4, t.5, ap (λ b. cond b (fp ∷ rest) rest) (lost name ps p.fate f) ∙ t.6)
      | false ↦ λ f.
          let opening : opens_name name p ≡ true = true_before_false (opens_name name p) (list_any (opens_name name) ps) e f in
          ([], fp, with_fates ps, refl, opening, opened_by_fates name ps ∙ f, ap (λ b. cond b (fp ∷ rest) rest) (stays name ps p.fate (h.0 opening) f))
    ]) refl

pub device_groups_begin_with_their_step : DeviceGroupsBeginWithTheirStep
device_groups_begin_with_their_step commands name e =
    begins name (places commands) (all_home name [] [] commands tt) (names_are_opened name [] [] commands (λ k. k) e)

-- The outer groups.

pub outer_groups_are_there : (s : PlanSetting) (commands : List StagedCommand) → length (plan_of_staged s commands).groups ≡ length (opened_names commands) + 2
outer_groups_are_there s commands = grind (arith, length-append, length-map)
