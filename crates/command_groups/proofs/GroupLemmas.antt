-- The plan that labels are cut into is the plan of the fates, and so are its origins.
use Rattle.std.proofs.Common.{◌≡◌, ℕ, suc, zero, List, [], ◌∷◌, ◌++◌, true, false, cond, map, length, refl, sym, ap, ◌∙◌, arith, append_assoc, append-nil, Option, Some, None, Result, Ok, Err, ◌==◌, slice_get, fold, replicate, filter_map, if◌then◌else◌, bytes_eq}
use Rattle.std.specs.List.{list_any}
use Rattle.std.proofs.lemmas.Bool.{false≢true, or_parts}
use Rattle.std.proofs.lemmas.List.{length-append, length-map, length-replicate}
use Rattle.texts.specs.Lists.{is_some_and}
use Rattle.command_groups.specs.declared.openings.Opening.{Opening}
use Rattle.command_groups.specs.declared.labels.Label.{Label}
use Rattle.compilers.specs.declared.plans.plan.Dropped.{Dropped}
use Rattle.compilers.specs.declared.plans.plan.Reason.{Reason}
use Rattle.compilers.specs.declared.plans.plan.Reason.TheVariants.{Superseded}
use Rattle.command_groups.specs.Stage.{StagedCommand}
use Rattle.command_groups.specs.Fate.{Fate, device, ungrouped, PlacedCommand, is_device}
use Rattle.command_groups.specs.Plan.{PlanSetting, subcommand_of, is_front, is_final, of_fate, dropped_for, dropped_by, elements, groups_by}
use Rattle.command_groups.specs.Openings.{Opened, names_of}
use Rattle.command_groups.specs.Groups.{Labelled, grouped, fate_at, fate_by, settled, group_of_label, put_at, with_grouped, with_dropped, no_groups, CutState, with_labelled, plan_by_labels}
use Rattle.command_groups.specs.Origins.{origin_of, planned_of_staged}
use Rattle.command_groups.proofs.FateLemmas.{Distinct, same_text, equal_texts}
use Rattle.command_groups.proofs.LabelLemmas.{labels_are_fates, names_are_opened, names_are_distinct, stands}

-- Lists of lists.

-- two lists of lists, joined place by place
abbrev zipped : {X : Type 0} → List (List X) → List (List X) → List (List X)
zipped [] hs = []
zipped (g ∷ gs) [] = []
zipped (g ∷ gs) (h ∷ hs) = (g ++ h) ∷ zipped gs hs

-- lists, of which the one at a place has one more element in front
abbrev cons_at : {X : Type 0} → ℕ → X → List (List X) → List (List X)
cons_at place x [] = []
cons_at zero x (g ∷ gs) = (x ∷ g) ∷ gs
cons_at (suc place) x (g ∷ gs) = g ∷ cons_at place x gs

put_before : {X : Type 0} (place : ℕ) (x : X) (gs hs : List (List X)) → zipped (put_at place x gs) hs ≡ zipped gs (cons_at place x hs)
put_before place x [] hs = refl
put_before zero x (g ∷ gs) [] = refl
put_before zero x (g ∷ gs) (h ∷ hs) = ap (λ t. t ∷ zipped gs hs) (append_assoc g (x ∷ []) h)
put_before (suc place) x (g ∷ gs) [] = refl
put_before (suc place) x (g ∷ gs) (h ∷ hs) = ap (λ ts. (g ++ h) ∷ ts) (put_before place x gs hs)

zipped_nothing : {X : Type 0} (n : ℕ) (hs : List (List X)) → length hs ≡ n → zipped (replicate n []) hs ≡ hs
zipped_nothing zero [] e = refl
zipped_nothing zero (h ∷ hs) e = absurd (omega arith)
zipped_nothing (suc n) [] e = absurd (omega arith)
zipped_nothing (suc n) (h ∷ hs) e = ap (λ ts. h ∷ ts) (zipped_nothing n hs (omega arith))

zipped_with_nothing : {X : Type 0} (names : List (List ℕ)) (gs : List (List X)) → length gs ≡ suc (suc (length names)) → zipped gs ([] ∷ (map (λ name. []) names ++ [] ∷ [])) ≡ gs
zipped_with_nothing {X = X} names = past_first
  where
    rest : (names : List (List ℕ)) (gs : List (List X)) → length gs ≡ suc (length names) → zipped gs (map (λ name. []) names ++ [] ∷ []) ≡ gs
    rest names [] e = absurd (omega arith)
    rest [] (g ∷ []) e = ap (λ t. t ∷ []) (append-nil g)
    rest [] (g ∷ h ∷ gs) e = absurd (omega arith)
    rest (n ∷ ns) (g ∷ gs) e = λ i. append-nil g i ∷ rest ns gs (omega arith) i

    past_first : (gs : List (List X)) → length gs ≡ suc (suc (length names)) → zipped gs ([] ∷ (map (λ name. []) names ++ [] ∷ [])) ≡ gs
    past_first [] e = absurd (omega arith)
    past_first (g ∷ gs) e = λ i. append-nil g i ∷ rest names gs (omega arith) i

module _ {X : Type 0} (x : X) (g : List ℕ → List X) where
  -- the groups, once a command joins the one of a name
  abbrev joined_by : List ℕ → List ℕ → List X
  joined_by name n = cond (bytes_eq name n) (x ∷ g n) (g n)

  not_joined : (name : List ℕ) (names : List (List ℕ)) → list_any (bytes_eq name) names ≡ false → map (joined_by name) names ≡ map g names
  not_joined name [] e = refl
  not_joined name (n ∷ ns) e = λ i. cond ((or_parts (bytes_eq name n) (list_any (bytes_eq name) ns) e).0 i) (x ∷ g n) (g n) ∷ not_joined name ns (or_parts (bytes_eq name n) (list_any (bytes_eq name) ns) e).1 i

  joined_at : (opened : Opened) (k : ℕ) (e : List ℕ × ℕ) (rest : List (List X)) → Distinct (names_of opened) → slice_get opened k ≡ Some e → map (joined_by e.0) (names_of opened) ++ rest ≡ cons_at k x (map g (names_of opened) ++ rest)
  joined_at [] k e rest d h = cc
  joined_at (y ∷ ys) zero e rest d h = grind (arith, equal_texts, not_joined)
  joined_at (y ∷ ys) (suc k) e rest d h =
      λ i. cond (apart i) (x ∷ g y.0) (g y.0) ∷ joined_at ys k e rest d.1 h i
    where
      apart : bytes_eq e.0 y.0 ≡ false
      apart =
          elim (bytes_eq e.0 y.0) as (λ b. bytes_eq e.0 y.0 ≡ b → b ≡ false) [
            | true ↦ λ f. absurd (false≢true (sym d.0 ∙ ap (λ n. list_any (bytes_eq n) (names_of ys)) (sym (same_text e.0 y.0 f)) ∙ stands ys k e h))
            | false ↦ λ f. refl
          ] refl

  last_joined : (opened : Opened) (last : List X) → map g (names_of opened) ++ (x ∷ last) ∷ [] ≡ cons_at (length opened) x (map g (names_of opened) ++ last ∷ [])
  last_joined [] last = refl
  last_joined (y ∷ ys) last = ap (λ ts. g y.0 ∷ ts) (last_joined ys last)

put_length : {X : Type 0} (place : ℕ) (x : X) (gs : List (List X)) → length (put_at place x gs) ≡ length gs
put_length place x [] = refl
put_length zero x (g ∷ gs) = refl
put_length (suc place) x (g ∷ gs) = ap suc (put_length place x gs)

-- One labelled command in front, as an element of groups.

abbrev with_element : {X : Type 0} → (StagedCommand → X) → Opened → List (List X) → Labelled → List (List X)
with_element of opened gs l = with_grouped of gs l.staged (group_of_label opened l.label)

module _ {X : Type 0} (of : StagedCommand → X) (opened : Opened) (d : Distinct (names_of opened)) where
  abbrev all_groups : List PlacedCommand → List (List X)
  all_groups ps = groups_by of (names_of opened) ps

  abbrev groups_with : Result ℕ Reason → StagedCommand → List (List X) → List (List X)
  groups_with (Ok place) c gs = cons_at place (of c) gs
  groups_with (Err reason) c gs = gs

  abbrev Fits : StagedCommand → List PlacedCommand → Fate → Result ℕ Reason → Type 0
  Fits c ps place r = all_groups (record { staged = c; fate = place } ∷ ps) ≡ groups_with r c (all_groups ps)

  fits_device : (c : StagedCommand) (ps : List PlacedCommand) (o : Opening) (e : Option (List ℕ × ℕ)) → slice_get opened o.number ≡ e → Fits c ps (fate_at e o.step) (if is_some_and (λ q. q.1 == o.step) e then Ok (suc o.number) else Err Superseded)
  fits_device c ps o None h = refl
  fits_device c ps o (Some e) h =
      elim (e.1 == o.step) as (λ b. Fits c ps (cond b (device e.0) (ungrouped Superseded)) (cond b (Ok (suc o.number)) (Err Superseded)))
      [ true ↦ ap (λ gs. elements of is_front ps ∷ gs) (joined_by_name e h) | false ↦ refl ]
    where
      joined_by_name : (e : List ℕ × ℕ) → slice_get opened o.number ≡ Some e →
          map (λ name. elements of (is_device name) (record { staged = c; fate = device e.0 } ∷ ps)) (names_of opened) ++ elements of is_final ps ∷ [] ≡
          cons_at o.number (of c) (map (λ name. elements of (is_device name) ps) (names_of opened) ++ elements of is_final ps ∷ [])
      joined_by_name e h =
          ap (λ gs. gs ++ elements of is_final ps ∷ []) (λ i. map (λ name. one e name i) (names_of opened))
          ∙ joined_at (of c) (λ name. elements of (is_device name) ps) opened o.number e (elements of is_final ps ∷ []) d h
        where
          one : (e : List ℕ × ℕ) (name : List ℕ) → elements of (is_device name) (record { staged = c; fate = device e.0 } ∷ ps) ≡ joined_by (of c) (λ n. elements of (is_device n) ps) e.0 name
          one e name =
              elim (bytes_eq e.0 name)
              as (λ b. map (λ p. of p.staged) (cond b (record { staged = c; fate = device e.0 } ∷ of_fate (is_device name) ps) (of_fate (is_device name) ps)) ≡ cond b (of c ∷ elements of (is_device name) ps) (elements of (is_device name) ps))
              [ true ↦ refl | false ↦ refl ]

  fits : (c : StagedCommand) (ps : List PlacedCommand) (label : Label) → Fits c ps (fate_by opened label) (group_of_label opened label)
  fits c ps label = grind (arith, fits_device, last_joined)

  -- all labelled commands
  by_result : (gs : List (List X)) (c : StagedCommand) (ps : List PlacedCommand) (place : Fate) (r : Result ℕ Reason) → Fits c ps place r → zipped (with_grouped of gs c r) (all_groups ps) ≡ zipped gs (all_groups (record { staged = c; fate = place } ∷ ps))
  by_result gs c ps place r f = grind (arith, put_before)

  groups_after : (gs : List (List X)) (ls : List Labelled) → length gs ≡ suc (suc (length opened)) → fold (with_element of opened) gs ls ≡ zipped gs (all_groups (map (settled opened) ls))
  groups_after gs [] h = sym (zipped_with_nothing (names_of opened) gs (omega (arith, h, length-map opened (λ e. e.0))))
  groups_after gs (l ∷ ls) h =
      groups_after (with_element of opened gs l) ls (long (group_of_label opened l.label))
      ∙ by_result gs l.staged (map (settled opened) ls) (fate_by opened l.label) (group_of_label opened l.label) (fits l.staged (map (settled opened) ls) l.label)
    where
      long : (r : Result ℕ Reason) → length (with_grouped of gs l.staged r) ≡ suc (suc (length opened))
      long (Ok place) = put_length place (of l.staged) gs ∙ h
      long (Err reason) = h

  groups_long : (ps : List PlacedCommand) → length (all_groups ps) ≡ suc (suc (length opened))
  groups_long ps = grind (arith, length-append, length-map)

  groups_are : (ls : List Labelled) → fold (with_element of opened) (no_groups (length opened)) ls ≡ all_groups (map (settled opened) ls)
  groups_are ls = simp (groups_after, length-replicate, zipped_nothing, groups_long)

-- Dropped commands.

module _ (opened : Opened) where
  abbrev all_dropped : List PlacedCommand → List Dropped
  all_dropped ps = filter_map (λ p. dropped_by p.fate p.staged.command) ps

  abbrev drops : Result ℕ Reason → StagedCommand → List Dropped
  drops (Ok place) c = []
  drops (Err reason) c = dropped_for reason c.command ∷ []

  abbrev Falls : StagedCommand → List PlacedCommand → Fate → Result ℕ Reason → Type 0
  Falls c ps place r = all_dropped (record { staged = c; fate = place } ∷ ps) ≡ drops r c ++ all_dropped ps

  falls : (c : StagedCommand) (ps : List PlacedCommand) (label : Label) → Falls c ps (fate_by opened label) (group_of_label opened label)
  falls c ps label = grind arith

  one_dropped : (ds more : List Dropped) (c : StagedCommand) (r : Result ℕ Reason) → with_dropped ds c r ++ more ≡ ds ++ (drops r c ++ more)
  one_dropped ds more c r = grind (arith, append_assoc)

  dropped_after : (ds : List Dropped) (ls : List Labelled) → fold (λ ds l. with_dropped ds l.staged (group_of_label opened l.label)) ds ls ≡ ds ++ all_dropped (map (settled opened) ls)
  dropped_after ds [] = sym (append-nil ds)
  dropped_after ds (l ∷ ls) = simp (one_dropped, falls, (dropped_after (with_dropped ds l.staged (group_of_label opened l.label)) ls))

-- each part of what is cut is gathered by itself
parts_are : (s : PlanSetting) (opened : Opened) (cut : CutState) (ls : List Labelled) →
    fold (with_labelled s opened) cut ls ≡ record {
      groups = fold (with_element (subcommand_of s) opened) cut.groups ls;
      origins = fold (with_element origin_of opened) cut.origins ls;
      dropped = fold (λ ds l. with_dropped ds l.staged (group_of_label opened l.label)) cut.dropped ls;
    }
parts_are s opened cut [] = refl
parts_are s opened cut (l ∷ ls) = parts_are s opened (with_labelled s opened cut l) ls

-- the plan that labels are cut into is the plan of the commands
pub cut_is_plan : (s : PlanSetting) (commands : List StagedCommand) →
    plan_by_labels s (grouped commands) ≡ planned_of_staged s commands
cut_is_plan s commands = simp (names_are_distinct, parts_are, groups_are, dropped_after, names_are_opened, labels_are_fates)
