-- The labels of grouping, by the entries of a map by names and the openings of device groups.
use Rattle.std.proofs.Common.{◌≡◌, ℕ, List, [], ◌∷◌, map, refl, arith, Option, Some, None, IfSome, String, Global, string_bytes, position, bytes_eq, string_eq, suc, zero, ◌<◌, ◌≤◌, Bool, true, false, cond, length, sym, ap, ◌∙◌, ◌⊎◌, inl, inr, ◌==◌, ◌&&◌, slice_get, if◌then◌else◌, ◌++◌, not, subst, ◌||◌, nat_le, fold}
use Rattle.std.specs.List.{position_or_len, list_any, find, AllByRecursion}
use Rattle.std.specs.Map.{lookup, keys_of}
use Rattle.std.proofs.lemmas.Bool.{lt-ltb, false≢true, and_parts, eqb-true, eq-eqb, or_right, or_parts}
use Rattle.std.proofs.lemmas.List.Folds.{list_any-append}
use Rattle.std.proofs.Math.Bool.{and-false, or-false}
use Rattle.std.proofs.lemmas.List.{map_push, length_push}
use Rattle.indexmap.specs.IndexMap.{insert_entry}
use Rattle.texts.specs.Lists.{is_some_and, with_name, last_of}
use Rattle.compilers.specs.declared.plans.plan.Reason.{Reason}
use Rattle.compilers.specs.declared.plans.plan.Reason.TheVariants.{Superseded, NotCuda, NoCiccGroup, NoPtxasGroup}
use Rattle.command_groups.specs.declared.openings.Opening.{Opening}
use Rattle.command_groups.specs.Openings.{entry_seen, opening_at, opening_of, number_of, Opened, names_of, is_live, lower, first_live_after, first_live, Made, further}
use Rattle.command_groups.specs.declared.labels.Label.{Label}
use Rattle.command_groups.specs.declared.labels.Label.TheVariants.{Device, Front, Final, Ungrouped}
use Rattle.command_groups.specs.Fate.{Fate, front, device, final, ungrouped, device_or, PlacedCommand, is_device_compiling, opens_name, opened_names, makes, is_made, place_of, placed_after, places, fate_of, with_fates, fates}
use Rattle.command_groups.specs.Groups.{device_label, Labelled, GroupingState, no_commands, with_made, with_command, grouped, fate_at, fate_by, settled}
use Rattle.command_groups.proofs.FateLemmas.{Distinct, Among, weaker, all_push, same_text, distinct_with, equal_texts, names_after}
use Rattle.command_groups.specs.Merge.{MergedCommand}
use Rattle.command_groups.specs.Stage.{Stage, linking, splitting, device_compiling, assembling, preprocessing, host_compiling, foreign, StagedCommand, opens}

pub insert_seen : (es : List (String Global × ℕ)) (k : String Global) (v : ℕ) → map entry_seen (insert_entry string_eq es k v) ≡ insert_entry bytes_eq (map entry_seen es) (string_bytes k) v
insert_seen [] k v = refl
insert_seen (e ∷ es) k v = grind (arith, (insert_seen es k v))

pub number_seen : (es : List (String Global × ℕ)) (k : String Global) → position_or_len (string_eq k) (keys_of es) ≡ number_of (map entry_seen es) (string_bytes k)
number_seen [] k = refl
number_seen (e ∷ es) k = grind (arith, (number_seen es k))

-- an opening of a number and a step, where both are there
abbrev pub numbered : Option ℕ → Option ℕ → Option Opening
numbered None step = None
numbered (Some n) None = None
numbered (Some n) (Some s) = Some (opening_at n s)

pub opening_seen : (es : List (String Global × ℕ)) (name : List ℕ) →
    opening_of (map entry_seen es) name ≡ numbered (position (λ k. bytes_eq name (string_bytes k)) (keys_of es)) (lookup (λ k. bytes_eq name (string_bytes k)) es)
opening_seen [] name = refl
opening_seen (e ∷ es) name = grind (arith, lt-ltb, (opening_seen es name))

-- Openings of device groups.

-- The names.

pub names_opened : (opened : Opened) (name : List ℕ) (place : ℕ) → names_of (insert_entry bytes_eq opened name place) ≡ with_name (names_of opened) (Some name)
names_opened [] name place = refl
names_opened (e ∷ es) name place = grind (arith, (names_opened es name place))

-- A label at a list of openings.

-- the label of a found opening is that of the found name
pub opening_found : (opened : Opened) (name : List ℕ) (reason : Reason) → fate_by opened (device_label (opening_of opened name) reason) ≡ device_or reason (find (bytes_eq name) (names_of opened))
opening_found [] name reason = refl
opening_found (e ∷ es) name reason = grind (arith, eq-eqb, (opening_found es name reason))

-- the opening that a step makes is the last one of its name
pub opened_here : (opened : Opened) (name : List ℕ) (place : ℕ) → fate_by (insert_entry bytes_eq opened name place) (Device (opening_at (number_of opened name) place)) ≡ device name
opened_here [] name place = ap (λ b. cond b (device name) (ungrouped Superseded)) (eq-eqb place place refl)
opened_here (e ∷ es) name place =
    let ih : fate_by (insert_entry bytes_eq es name place) (Device (opening_at (number_of es name) place)) ≡ device name = opened_here es name place in
    elim (bytes_eq name e.0) as (λ b. bytes_eq name e.0 ≡ b →
    fate_by (cond b ((e.0, place) ∷ es) (e ∷ insert_entry bytes_eq es name place)) (Device (opening_at (cond b 0 (suc (number_of es name))) place)) ≡ device name) [
      | true ↦ λ f. ap (λ b. cond b (device e.0) (ungrouped Superseded)) (eq-eqb place place refl) ∙ ap (λ n. device n) (sym (same_text name e.0 f))
      | false ↦ λ f. ih
    ] refl

-- a fate, once a group is opened again
abbrev pub relabelled : List ℕ → Fate → Fate
relabelled name front = front
relabelled name (device m) = if bytes_eq name m then ungrouped Superseded else device m
relabelled name final = final
relabelled name (ungrouped reason) = ungrouped reason

-- a label whose opening stands in a list, below a place
abbrev pub Bounded : Opened → ℕ → Label → Type 0
Bounded opened place (Device o) = (o.number < length opened) × (o.step < place)
Bounded opened place _ = Unit {0}

apart : (m n : ℕ) → m < n → (n == m) ≡ false
apart m n h = grind (arith, eqb-true)

unmatched : (opened : Opened) (name : List ℕ) (k s : ℕ) → list_any (bytes_eq name) (names_of opened) ≡ false → fate_at (slice_get opened k) s ≡ relabelled name (fate_at (slice_get opened k) s)
unmatched [] name k s h = refl
unmatched (e ∷ es) name zero s h = grind (arith, or_parts)
unmatched (e ∷ es) name (suc k) s h = unmatched es name k s (or_parts (bytes_eq name e.0) (list_any (bytes_eq name) (names_of es)) h).1

reopened_at : (opened : Opened) (name : List ℕ) (place k s : ℕ) → Distinct (names_of opened) → k < length opened → s < place →
    fate_at (slice_get (insert_entry bytes_eq opened name place) k) s ≡ relabelled name (fate_at (slice_get opened k) s)
reopened_at [] name place k s d h t = absurd (omega arith)
reopened_at (e ∷ es) name place zero s d h t = grind (arith, apart)
reopened_at (e ∷ es) name place (suc k) s d h t =
    let ih : fate_at (slice_get (insert_entry bytes_eq es name place) k) s ≡ relabelled name (fate_at (slice_get es k) s) = reopened_at es name place k s d.1 (omega arith) t in
    elim (bytes_eq name e.0) as (λ b. bytes_eq name e.0 ≡ b →
    fate_at (slice_get (cond b ((e.0, place) ∷ es) (e ∷ insert_entry bytes_eq es name place)) (suc k)) s ≡ relabelled name (fate_at (slice_get es k) s))
    [ true ↦ λ f. unmatched es name k s (ap (λ n. list_any (bytes_eq n) (names_of es)) (same_text name e.0 f) ∙ d.0) | false ↦ λ f. ih ] refl

pub reopened : (opened : Opened) (name : List ℕ) (place : ℕ) (label : Label) → Distinct (names_of opened) → Bounded opened place label →
    fate_by (insert_entry bytes_eq opened name place) label ≡ relabelled name (fate_by opened label)
reopened opened name place label d b = grind (arith, reopened_at)

-- The first live opening.

-- whether one of some openings is that of an entry at a number
abbrev pub is_at : ℕ → List ℕ × ℕ → Opening → Bool
is_at k e o = (o.number == k) && (e.1 == o.step)

-- a test of names that says whether one of some openings is theirs
abbrev pub Tells : Opened → List Opening → (List ℕ → Bool) → Type 0
Tells opened os test = (k : ℕ) (e : List ℕ × ℕ) → slice_get opened k ≡ Some e → test e.0 ≡ list_any (is_at k e) os

-- what is first of an opening, if any, and of others: none where none of them is live, else a live one of the lowest number
abbrev Best : Opened → Option Opening → List Opening → Option Opening → Type 0
Best opened first os None = (first ≡ None) × AllByRecursion (λ o. is_live opened o ≡ false) os
Best opened first os (Some f) =
    (is_live opened f ≡ true) × ((first ≡ Some f) ⊎ Among f os) × IfSome first (λ g. f.number ≤ g.number) × AllByRecursion (λ o. is_live opened o ≡ true → f.number ≤ o.number) os

module _ (opened : Opened) where
  taken : (first : Option Opening) (o : Opening) (os : List Opening) (r : Option Opening) → is_live opened o ≡ true → Best opened (Some (lower first o)) os r → Best opened first (o ∷ os) r
  taken first o os r h b = grind arith

  passed : (first : Option Opening) (o : Opening) (os : List Opening) (r : Option Opening) → is_live opened o ≡ false → Best opened first os r → Best opened first (o ∷ os) r
  passed first o os r h b = grind (arith, false≢true)

  best : (first : Option Opening) (os : List Opening) → IfSome first (λ o. is_live opened o ≡ true) → Best opened first os (first_live_after opened first os)
  best None [] h = (refl, tt)
  best (Some f) [] h = (h, inl refl, omega arith, tt)
  best first (o ∷ os) h =
      let ih : (g : Option Opening) → IfSome g (λ o. is_live opened o ≡ true) → Best opened g os (first_live_after opened g os) = λ g k. best g os k in
      grind (arith, taken, passed)

  live_here : (o : Opening) (k : ℕ) (e : List ℕ × ℕ) → slice_get opened k ≡ Some e → is_at k e o ≡ true → (is_live opened o ≡ true) × (o.number ≡ k)
  live_here o k e g h = grind (arith, and_parts, eqb-true)

  none_here : (os : List Opening) (k : ℕ) (e : List ℕ × ℕ) → slice_get opened k ≡ Some e → AllByRecursion (λ o. is_live opened o ≡ true → o.number ≡ k → ⊥) os → list_any (is_at k e) os ≡ false
  none_here [] k e g h = refl
  none_here (o ∷ os) k e g h = grind (arith, live_here, (none_here os k e g h.1))

  any_here : (o : Opening) (os : List Opening) (e : List ℕ × ℕ) → Among o os → (e.1 == o.step) ≡ true → list_any (is_at o.number e) os ≡ true
  any_here o [] e a h = absurd a
  any_here o (p ∷ os) e (inl s) h = grind (arith, eq-eqb)
  any_here o (p ∷ os) e (inr a) h = or_right (is_at o.number e p) (list_any (is_at o.number e) os) (any_here o os e a h)

  live_entry : (o : Opening) (g : Option (List ℕ × ℕ)) → is_some_and (λ (d : List ℕ × ℕ). d.1 == o.step) g ≡ true → (e : List ℕ × ℕ) × (g ≡ Some e) × ((e.1 == o.step) ≡ true)
  live_entry o g h = grind (arith, false≢true)

weaker_with : {X : Type 0} (P Q : X → Type 0) → ((x : X) → P x → Q x) → (xs : List X) (y : X) → AllByRecursion P xs → Q y → AllByRecursion Q (xs ++ y ∷ [])
weaker_with P Q f xs y h q = all_push Q xs y (weaker P Q f xs h) q

find_none : (opened : Opened) (test : List ℕ → Bool) → ((k : ℕ) (e : List ℕ × ℕ) → slice_get opened k ≡ Some e → test e.0 ≡ false) → find test (names_of opened) ≡ None
find_none [] test h = refl
find_none (e ∷ es) test h = ap (λ b. cond b (Some e.0) (find test (names_of es))) (h 0 e refl) ∙ find_none es test (λ k d g. h (suc k) d g)

find_at : (opened : Opened) (test : List ℕ → Bool) (k : ℕ) (e : List ℕ × ℕ) → slice_get opened k ≡ Some e → test e.0 ≡ true →
    ((j : ℕ) (d : List ℕ × ℕ) → j < k → slice_get opened j ≡ Some d → test d.0 ≡ false) → find test (names_of opened) ≡ Some e.0
find_at [] test k e g t h = cc
find_at (d ∷ ds) test zero e g t h = grind arith
find_at (d ∷ ds) test (suc k) e g t h =
    ap (λ b. cond b (Some d.0) (find test (names_of ds))) (h 0 d (omega arith) refl) ∙ find_at ds test k e g t (λ j p l q. h (suc j) p (omega arith) q)

-- the first live opening that is told is that of the first name that is
pub first_told : (opened : Opened) (os : List Opening) (test : List ℕ → Bool) (reason : Reason) → Tells opened os test → fate_by opened (device_label (first_live opened os) reason) ≡ device_or reason (find test (names_of opened))
first_told opened os test reason tells = by_result (first_live opened os) (best opened None os tt)
  where
    by_result : (r : Option Opening) → Best opened None os r → fate_by opened (device_label r reason) ≡ device_or reason (find test (names_of opened))
    by_result None b =
        ap (device_or reason)
        (sym (find_none opened test (λ k e g. tells k e g ∙ none_here opened os k e g (weaker _ _ (λ o h k _. absurd (false≢true (sym h ∙ k))) os b.1))))
    by_result (Some f) b =
        let t = live_entry opened f (slice_get opened f.number) b.0 in
        let stands : Among f os = among b.1 in
        ap (λ g. fate_at g f.step) t.1 ∙ ap (λ c. cond c (device t.0.0) (ungrouped Superseded)) t.2 ∙ ap (device_or reason)
        (sym (find_at opened test f.number t.0 t.1 (tells f.number t.0 t.1 ∙ any_here opened f os t.0 stands t.2)
        (λ j d l g. tells j d g ∙ none_here opened os j d g (weaker _ _ (λ o h k s. not_below o (h k) s l) os b.3))))
      where
        among : (None ≡ Some f) ⊎ Among f os → Among f os
        among (inl e) = absurd (no e)
          where
            no : None ≡ Some f → ⊥
            no e = cc
        among (inr a) = a

        not_below : (o : Opening) → f.number ≤ o.number → {j : ℕ} → o.number ≡ j → j < f.number → ⊥
        not_below o h s l = omega arith

-- The labels of grouping stand for the fates.

-- Fates, with one more command.

abbrev relabelled_by : Option (List ℕ) → Fate → Fate
relabelled_by None place = place
relabelled_by (Some name) place = relabelled name place

abbrev with_place : Fate → PlacedCommand → PlacedCommand
with_place place p = record { staged = p.staged; fate = place }

last_fate : (place : Fate) → fate_of [] place ≡ place
last_fate place = grind arith

fate_pushed : (after : List PlacedCommand) (p : PlacedCommand) (opened : Option (List ℕ)) → opens p.staged.stage ≡ opened → (place : Fate) → fate_of (after ++ p ∷ []) place ≡ relabelled_by opened (fate_of after place)
fate_pushed after p opened e place = grind (arith, list_any-append, relabelled)

fates_pushed : (before : List PlacedCommand) (p : PlacedCommand) (opened : Option (List ℕ)) → opens p.staged.stage ≡ opened →
    with_fates (before ++ p ∷ []) ≡ map (λ q. with_place (relabelled_by opened q.fate) q) (with_fates before) ++ p ∷ []
fates_pushed [] p opened e = λ i. record { staged = p.staged; fate = last_fate p.fate i } ∷ []
fates_pushed (q ∷ qs) p opened e = λ i. record { staged = q.staged; fate = fate_pushed qs p opened e q.fate i } ∷ fates_pushed qs p opened e i

-- What is made, with one more command.

shuffled : (m a o i k : Bool) → ((m && not (a || (o || false))) || ((i && not o) || k)) ≡ ((((m && not a) || i) && not o) || k)
shuffled m a o i k = grind arith

made_pushed : (path : List ℕ) (before : List PlacedCommand) (p : PlacedCommand) (name : List ℕ) →
    is_made path (before ++ p ∷ []) name ≡ ((is_made path before name && not (opens_name name p)) || makes path name p)
made_pushed path [] p name = elim (makes path name p) as (λ b. ((b && true) || false) ≡ b) [ true ↦ refl | false ↦ refl ]
made_pushed path (q ∷ qs) p name = grind (arith, list_any-append, shuffled, (made_pushed path qs p name))

kept : (a : Bool) → ((a && not false) || false) ≡ a
kept a = grind arith

-- a command that opens nothing and isn't cicc's makes nothing, and what was made stays
quiet_made : (path : List ℕ) (before : List PlacedCommand) (p : PlacedCommand) (name : List ℕ) → opens p.staged.stage ≡ None → is_device_compiling p.staged.stage ≡ false → is_made path (before ++ p ∷ []) name ≡ is_made path before name
quiet_made path before p name e f = grind (arith, made_pushed, kept)

-- Entries.

entry_opened : (opened : Opened) (name : List ℕ) (place : ℕ) → Distinct (names_of opened) → (k : ℕ) (e : List ℕ × ℕ) → slice_get (insert_entry bytes_eq opened name place) k ≡ Some e →
    ((bytes_eq name e.0 ≡ true) × (e.1 ≡ place)) ⊎ ((bytes_eq name e.0 ≡ false) × (slice_get opened k ≡ Some e))
entry_opened [] name place d zero e g = grind (arith, equal_texts)
entry_opened [] name place d (suc k) e g = cc
entry_opened (x ∷ xs) name place d zero e g = grind arith
entry_opened (x ∷ xs) name place d (suc k) e g =
    let ih : (slice_get (insert_entry bytes_eq xs name place) k ≡ Some e → ((bytes_eq name e.0 ≡ true) × (e.1 ≡ place)) ⊎ ((bytes_eq name e.0 ≡ false) × (slice_get xs k ≡ Some e))) = entry_opened xs name place d.1 k e in
    (elim (bytes_eq name x.0) as (λ b. bytes_eq name x.0 ≡ b → slice_get (cond b ((x.0, place) ∷ xs) (x ∷ insert_entry bytes_eq xs name place)) (suc k) ≡ Some e →
    ((bytes_eq name e.0 ≡ true) × (e.1 ≡ place)) ⊎ ((bytes_eq name e.0 ≡ false) × (slice_get xs k ≡ Some e))) [
      | true ↦ λ f h. inr (unlike xs k (ap (λ n. list_any (bytes_eq n) (names_of xs)) (same_text name x.0 f) ∙ d.0) h, h)
      | false ↦ λ f h. ih h
    ]) refl g
  where
    unlike : (ys : Opened) (j : ℕ) → list_any (bytes_eq name) (names_of ys) ≡ false → slice_get ys j ≡ Some e → bytes_eq name e.0 ≡ false
    unlike [] j h q = cc
    unlike (y ∷ ys) zero h q =
        let same : y ≡ e = cc in
        ap (λ (p : List ℕ × ℕ). bytes_eq name p.0) (sym same) ∙ (or_parts (bytes_eq name y.0) (list_any (bytes_eq name) (names_of ys)) h).0
    unlike (y ∷ ys) (suc j) h q = unlike ys j (or_parts (bytes_eq name y.0) (list_any (bytes_eq name) (names_of ys)) h).1 q

pub stands : (opened : Opened) (k : ℕ) (e : List ℕ × ℕ) → slice_get opened k ≡ Some e → list_any (bytes_eq e.0) (names_of opened) ≡ true
stands [] k e g = cc
stands (x ∷ xs) zero e g = grind (arith, equal_texts)
stands (x ∷ xs) (suc k) e g = elim (bytes_eq e.0 x.0) as (λ b. (b || list_any (bytes_eq e.0) (names_of xs)) ≡ true) [ true ↦ refl | false ↦ stands xs k e g ]

-- entries of equal names stand at one number
one_number : (opened : Opened) (j k : ℕ) (d e : List ℕ × ℕ) → Distinct (names_of opened) → slice_get opened j ≡ Some d → slice_get opened k ≡ Some e → d.0 ≡ e.0 → j ≡ k
one_number [] j k d e u g h s = cc
one_number (x ∷ xs) zero zero d e u g h s = refl
one_number (x ∷ xs) zero (suc k) d e u g h s = grind (arith, false≢true, stands)
one_number (x ∷ xs) (suc j) zero d e u g h s = grind (arith, false≢true, stands)
one_number (x ∷ xs) (suc j) (suc k) d e u g h s = ap suc (one_number xs j k d e u.1 g h s)

-- an opening that stands, as a test of an entry
own_entry : (opened : Opened) (o : Opening) (d : List ℕ × ℕ) (k : ℕ) (e : List ℕ × ℕ) → Distinct (names_of opened) → slice_get opened o.number ≡ Some d → (d.1 == o.step) ≡ true → slice_get opened k ≡ Some e → bytes_eq d.0 e.0 ≡ is_at k e o
own_entry opened o d k e u g t h = grind (arith, is_at, one_number, same_text, eq-eqb, false≢true, equal_texts, eqb-true)

-- What holds of the commands so far.

abbrev Within : Opened → ℕ → Opening → Type 0
Within opened place o = (o.number < length opened) × (o.step < place)

record Holds (names : List (List ℕ)) (before : List PlacedCommand) (g : GroupingState) : Type 0 where
  names_are : names ≡ names_of g.opened
  distinct : Distinct (names_of g.opened)
  steps : AllByRecursion (λ e. e.1 < length g.labelled) g.opened
  fates_are : map (settled g.opened) g.labelled ≡ with_fates before
  labels : AllByRecursion (λ l. Bounded g.opened (length g.labelled) l.label) g.labelled
  told : (path : List ℕ) → Tells g.opened (g.made path) (is_made path before)
  made_within : (path : List ℕ) → AllByRecursion (Within g.opened (length g.labelled)) (g.made path)

bounded_later : (opened opened' : Opened) (n m : ℕ) → length opened ≤ length opened' → n ≤ m → (label : Label) → Bounded opened n label → Bounded opened' m label
bounded_later opened opened' n m h k label b = grind arith

unchanged : (ps : List PlacedCommand) → map (λ q. with_place (relabelled_by None q.fate) q) ps ≡ ps
unchanged [] = refl
unchanged (p ∷ ps) = ap (λ qs. p ∷ qs) (unchanged ps)

-- a command that opens nothing, by its label and by the files that are made after it
module _ (names : List (List ℕ)) (before : List PlacedCommand) (g : GroupingState) (h : Holds names before g) (c : StagedCommand) (label : Label) (place : Fate)
    (quiet : opens c.stage ≡ None) (settles : fate_by g.opened label ≡ place) (bounded : Bounded g.opened (length g.labelled) label) where
  abbrev new_place : PlacedCommand
  new_place = record { staged = c; fate = place }

  abbrev new_label : Labelled
  new_label = record { staged = c; label = label }

  later : length g.labelled ≤ length (g.labelled ++ new_label ∷ [])
  later = omega (arith, length_push g.labelled new_label)

  fates_follow : map (settled g.opened) (g.labelled ++ new_label ∷ []) ≡ with_fates (before ++ new_place ∷ [])
  fates_follow =
      map_push (settled g.opened) g.labelled new_label ∙ (λ i. h.fates_are i ++ record { staged = c; fate = settles i } ∷ [])
      ∙ ap (λ ps. ps ++ new_place ∷ []) (sym (unchanged (with_fates before))) ∙ sym (fates_pushed before new_place None quiet)

  labels_follow : AllByRecursion (λ l. Bounded g.opened (length (g.labelled ++ new_label ∷ [])) l.label) (g.labelled ++ new_label ∷ [])
  labels_follow =
      weaker_with (λ l. Bounded g.opened (length g.labelled) l.label) (λ l. Bounded g.opened (length (g.labelled ++ new_label ∷ [])) l.label) (λ l b. bounded_later g.opened g.opened (length g.labelled) (length (g.labelled ++ new_label ∷ [])) (omega arith) later l.label b) g.labelled new_label h.labels (bounded_later g.opened g.opened (length g.labelled) (length (g.labelled ++ new_label ∷ [])) (omega arith) later label bounded)

  follows : (made : Made) → ((path : List ℕ) → Tells g.opened (made path) (is_made path (before ++ new_place ∷ []))) → ((path : List ℕ) → AllByRecursion (Within g.opened (length g.labelled)) (made path)) →
      Holds names (before ++ new_place ∷ []) (record { opened = g.opened; made = made; labelled = g.labelled ++ new_label ∷ [] })
  follows made t w = grind (arith, weaker, later, fates_follow, labels_follow)

  -- where no file is made
  follows_quietly : is_device_compiling c.stage ≡ false → Holds names (before ++ new_place ∷ []) (record { opened = g.opened; made = g.made; labelled = g.labelled ++ new_label ∷ [] })
  follows_quietly f = follows g.made (λ path k e s. quiet_made path before new_place e.0 quiet f ∙ h.told path k e s) h.made_within

-- cicc.

-- an opening of a name stands as an entry of that number
abbrev StandsAs : Opened → ℕ → Option Opening → Type 0
StandsAs opened place r = IfSome r (λ o. (d : List ℕ × ℕ) × (slice_get opened o.number ≡ Some d) × ((d.1 == o.step) ≡ true) × Within opened place o)

opening_stands : (opened : Opened) (place : ℕ) (name : List ℕ) → AllByRecursion (λ e. e.1 < place) opened → StandsAs opened place (opening_of opened name)
opening_stands [] place name h = tt
opening_stands (e ∷ es) place name h =
    let ih : StandsAs es place (opening_of es name) = opening_stands es place name h.1 in
    elim (bytes_eq name e.0) as (λ b. StandsAs (e ∷ es) place (cond b (Some (opening_at 0 e.1)) (further (opening_of es name))))
    [ true ↦ (e, refl, eq-eqb e.1 e.1 refl, (omega arith, h.0)) | false ↦ shifted (opening_of es name) ih ]
  where
    shifted : (o : Option Opening) → StandsAs es place o → StandsAs (e ∷ es) place (further o)
    shifted None s = tt
    shifted (Some o) s = (s.0, s.1, s.2, (omega (arith, s.3.0), s.3.1))

module _ (opened : Opened) (made : Made) (o : Opening) (d : List ℕ × ℕ) (u : Distinct (names_of opened)) (g : slice_get opened o.number ≡ Some d) (t : (d.1 == o.step) ≡ true) where
  told_with : (path : List ℕ) (last : Option (List ℕ)) (test : List ℕ → Bool) → Tells opened (made path) test → (k : ℕ) (e : List ℕ × ℕ) → slice_get opened k ≡ Some e →
      ((test e.0 && not false) || (true && (bytes_eq d.0 e.0 && is_some_and (bytes_eq path) last))) ≡ list_any (is_at k e) (with_made made (Some o) last path)
  told_with path last test tells k e s = grind (arith, and-false, kept, is_at, own_entry, list_any-append)

  within_with : (place : ℕ) → Within opened place o → (path : List ℕ) (last : Option (List ℕ)) → AllByRecursion (Within opened place) (made path) → AllByRecursion (Within opened place) (with_made made (Some o) last path)
  within_with place w path None h = h
  within_with place w path (Some file) h =
      elim (bytes_eq path file) as (λ b. AllByRecursion (Within opened place) (cond b (made path ++ o ∷ []) (made path)))
      [ true ↦ all_push (Within opened place) (made path) o h w | false ↦ h ]

module _ (names : List (List ℕ)) (before : List PlacedCommand) (g : GroupingState) (h : Holds names before g) (command : MergedCommand) where
  abbrev staged_as : Stage → StagedCommand
  staged_as stage = record { command = command; stage = stage }

  abbrev After : Stage → Type 0
  After stage =
      Holds (with_name names (opens stage)) (before ++ record { staged = staged_as stage; fate = place_of names before stage } ∷ []) (with_command g (staged_as stage))

  after_cicc : (name : List ℕ) (r : Option Opening) → StandsAs g.opened (length g.labelled) r → fate_by g.opened (device_label r NoCiccGroup) ≡ device_or NoCiccGroup (find (bytes_eq name) names) →
      Holds names (before ++ record { staged = staged_as (device_compiling (Some name)); fate = device_or NoCiccGroup (find (bytes_eq name) names) } ∷ [])
      (record { opened = g.opened; made = with_made g.made r (last_of command.words); labelled = g.labelled ++ record { staged = staged_as (device_compiling (Some name)); label = device_label r NoCiccGroup } ∷ [] })
  after_cicc name None s e =
      subst (λ place. Holds names (before ++ record { staged = staged_as (device_compiling (Some name)); fate = place } ∷ []) (record { opened = g.opened; made = g.made; labelled = g.labelled ++ record { staged = staged_as (device_compiling (Some name)); label = Ungrouped NoCiccGroup } ∷ [] })) e
      (follows names before g h (staged_as (device_compiling (Some name))) (Ungrouped NoCiccGroup) (ungrouped NoCiccGroup) refl refl tt g.made
      (λ path k d q. made_pushed path before (record { staged = staged_as (device_compiling (Some name)); fate = ungrouped NoCiccGroup }) d.0 ∙ kept (is_made path before d.0) ∙ h.told path k d q) h.made_within)
  after_cicc name (Some o) s e =
      let found : fate_by g.opened (Device o) ≡ device s.0.0 = ap (λ q. fate_at q o.step) s.1 ∙ ap (λ b. cond b (device s.0.0) (ungrouped Superseded)) s.2 in
      subst (λ place. Holds names (before ++ record { staged = staged_as (device_compiling (Some name)); fate = place } ∷ []) (record { opened = g.opened; made = with_made g.made (Some o) (last_of command.words); labelled = g.labelled ++ record { staged = staged_as (device_compiling (Some name)); label = Device o } ∷ [] })) (sym found ∙ e)
      (follows names before g h (staged_as (device_compiling (Some name))) (Device o) (device s.0.0) refl found s.3 (with_made g.made (Some o) (last_of command.words))
      (λ path k d q. made_pushed path before (record { staged = staged_as (device_compiling (Some name)); fate = device s.0.0 }) d.0 ∙ told_with g.opened g.made o s.0 h.distinct s.1 s.2 path (last_of command.words) (is_made path before) (h.told path) k d q)
      (λ path. within_with g.opened g.made o s.0 h.distinct s.1 s.2 (length g.labelled) s.3 path (last_of command.words) (h.made_within path)))

  -- ptxas
  first_within : (P : Opening → Type 0) (first : Option Opening) (os : List Opening) → AllByRecursion P os → IfSome first P → IfSome (first_live_after g.opened first os) P
  first_within P first [] a b = b
  first_within P first (o ∷ os) a b =
      first_within P (cond (is_live g.opened o) (Some (lower first o)) first) os a.1
      (elim (is_live g.opened o) as (λ c. IfSome (cond c (Some (lower first o)) first) P) [ true ↦ lowest first b | false ↦ b ])
    where
      lowest : (f : Option Opening) → IfSome f P → P (lower f o)
      lowest None b = a.0
      lowest (Some f) b = elim (nat_le f.number o.number) as (λ c. P (cond c f o)) [ true ↦ b | false ↦ a.0 ]

  label_within : (r : Option Opening) → IfSome r (Within g.opened (length g.labelled)) → Bounded g.opened (length g.labelled) (device_label r NoPtxasGroup)
  label_within r b = grind arith

  after_ptxas : (path : List ℕ) → After (assembling (Some path))
  after_ptxas path =
      follows_quietly names before g h (staged_as (assembling (Some path))) (device_label (first_live g.opened (g.made path)) NoPtxasGroup) (device_or NoPtxasGroup (find (is_made path before) names)) refl
      (first_told g.opened (g.made path) (is_made path before) NoPtxasGroup (h.told path) ∙ ap (λ ns. device_or NoPtxasGroup (find (is_made path before) ns)) (sym h.names_are))
      (label_within (first_live g.opened (g.made path)) (first_within (Within g.opened (length g.labelled)) None (g.made path) (h.made_within path) tt))
      refl

  -- a step that opens a group
  abbrev entries_after : List ℕ → Opened
  entries_after name = insert_entry bytes_eq g.opened name (length g.labelled)

  relabels : (name : List ℕ) (ls : List Labelled) → AllByRecursion (λ l. Bounded g.opened (length g.labelled) l.label) ls →
      map (settled (entries_after name)) ls ≡ map (λ q. with_place (relabelled name q.fate) q) (map (settled g.opened) ls)
  relabels name [] b = refl
  relabels name (l ∷ ls) b = λ i. record { staged = l.staged; fate = reopened g.opened name (length g.labelled) l.label h.distinct b.0 i } ∷ relabels name ls b.1 i

  told_after : (name path : List ℕ) → Tells (entries_after name) (g.made path) (is_made path (before ++ record { staged = staged_as (preprocessing (Some name)); fate = device name } ∷ []))
  told_after name path k e s = made_pushed path before (record { staged = staged_as (preprocessing (Some name)); fate = device name }) e.0 ∙ by_entry (entry_opened g.opened name (length g.labelled) h.distinct k e s)
    where
      past : (os : List Opening) → e.1 ≡ length g.labelled → AllByRecursion (Within g.opened (length g.labelled)) os → list_any (is_at k e) os ≡ false
      past [] q w = refl
      past (o ∷ os) q w =
          elim (e.1 == o.step) as (λ b. (e.1 == o.step) ≡ b → (((o.number == k) && b) || list_any (is_at k e) os) ≡ false) [
            | true ↦ λ f. absurd (below (eqb-true e.1 o.step f) q w.0.1)
            | false ↦ λ f. ap (λ b. b || list_any (is_at k e) os) (and-false (o.number == k)) ∙ past os q w.1
          ] refl
        where
          below : e.1 ≡ o.step → e.1 ≡ length g.labelled → o.step < length g.labelled → ⊥
          below a b c = omega arith

      by_entry : ((bytes_eq name e.0 ≡ true) × (e.1 ≡ length g.labelled)) ⊎ ((bytes_eq name e.0 ≡ false) × (slice_get g.opened k ≡ Some e)) →
          ((is_made path before e.0 && not (bytes_eq name e.0)) || false) ≡ list_any (is_at k e) (g.made path)
      by_entry (inl p) =
          ap (λ b. (is_made path before e.0 && not b) || false) p.0 ∙ or-false (is_made path before e.0 && false) ∙ and-false (is_made path before e.0) ∙ sym (past (g.made path) p.1 (h.made_within path))
      by_entry (inr p) = ap (λ b. (is_made path before e.0 && not b) || false) p.0 ∙ kept (is_made path before e.0) ∙ h.told path k e p.1

  steps_after : (name : List ℕ) (place later : ℕ) (opened : Opened) → place < later → AllByRecursion (λ e. e.1 < place) opened → AllByRecursion (λ e. e.1 < later) (insert_entry bytes_eq opened name place)
  steps_after name place later [] l a = (l, tt)
  steps_after name place later (e ∷ es) l a = grind (arith, later, weaker, (steps_after name place later es l a.1))

  longer : (name : List ℕ) (place : ℕ) (opened : Opened) → (length opened ≤ length (insert_entry bytes_eq opened name place)) × (number_of opened name < length (insert_entry bytes_eq opened name place))
  longer name place [] = (omega arith, omega arith)
  longer name place (e ∷ es) = grind (arith, (longer name place es))

  after_step : (name : List ℕ) → After (preprocessing (Some name))
  after_step name =
      let l : Labelled = record { staged = staged_as (preprocessing (Some name)); label = Device (opening_at (number_of g.opened name) (length g.labelled)) } in
      let p : PlacedCommand = record { staged = staged_as (preprocessing (Some name)); fate = device name } in
      let more = length_push g.labelled l in
      let long = longer name (length g.labelled) g.opened in
      record {
        names_are = ap (λ ns. with_name ns (Some name)) h.names_are ∙ sym (names_opened g.opened name (length g.labelled));
        distinct = subst Distinct (sym (names_opened g.opened name (length g.labelled))) (distinct_with (names_of g.opened) (Some name) h.distinct);
        steps = steps_after name (length g.labelled) (length (g.labelled ++ l ∷ [])) g.opened (omega (arith, more)) h.steps;
        fates_are =
            map_push (settled (entries_after name)) g.labelled l
            ∙ (λ i. relabels name g.labelled h.labels i ++ record { staged = l.staged; fate = opened_here g.opened name (length g.labelled) i } ∷ [])
            ∙ ap (λ ps. map (λ q. with_place (relabelled name q.fate) q) ps ++ p ∷ []) h.fates_are
            ∙ sym (fates_pushed before p (Some name) refl);
        labels =
            weaker_with (λ q. Bounded g.opened (length g.labelled) q.label) (λ q. Bounded (entries_after name) (length (g.labelled ++ l ∷ [])) q.label) (λ q b. bounded_later g.opened (entries_after name) (length g.labelled) (length (g.labelled ++ l ∷ [])) long.0 (omega (arith, more)) q.label b) g.labelled l h.labels (long.1, omega (arith, more));
        told = told_after name;
        made_within = λ path. weaker (Within g.opened (length g.labelled)) (Within (entries_after name) (length (g.labelled ++ l ∷ []))) (λ o b. (omega (arith, b.0, long.0), omega (arith, b.1, more))) (g.made path) (h.made_within path);
      }

  after : (stage : Stage) → After stage
  after linking = follows_quietly names before g h (staged_as linking) Final final refl refl tt refl
  after splitting = follows_quietly names before g h (staged_as splitting) Front front refl refl tt refl
  after (device_compiling None) =
      follows names before g h (staged_as (device_compiling None)) (Ungrouped NoCiccGroup) (ungrouped NoCiccGroup) refl refl tt g.made
      (λ path k d q. made_pushed path before (record { staged = staged_as (device_compiling None); fate = ungrouped NoCiccGroup }) d.0 ∙ kept (is_made path before d.0) ∙ h.told path k d q) h.made_within
  after (device_compiling (Some name)) =
      after_cicc name (opening_of g.opened name) (opening_stands g.opened (length g.labelled) name h.steps)
      (opening_found g.opened name NoCiccGroup ∙ ap (λ ns. device_or NoCiccGroup (find (bytes_eq name) ns)) (sym h.names_are))
  after (assembling None) = follows_quietly names before g h (staged_as (assembling None)) (Ungrouped NoPtxasGroup) (ungrouped NoPtxasGroup) refl refl tt refl
  after (assembling (Some path)) = after_ptxas path
  after (preprocessing None) = follows_quietly names before g h (staged_as (preprocessing None)) Front front refl refl tt refl
  after (preprocessing (Some name)) = after_step name
  after host_compiling = follows_quietly names before g h (staged_as host_compiling) Final final refl refl tt refl
  after foreign = follows_quietly names before g h (staged_as foreign) (Ungrouped NotCuda) (ungrouped NotCuda) refl refl tt refl

holds_all : (names : List (List ℕ)) (before : List PlacedCommand) (g : GroupingState) (cs : List StagedCommand) → Holds names before g → Holds (names_after names cs) (placed_after names before cs) (fold with_command g cs)
holds_all names before g [] h = h
holds_all names before g (c ∷ cs) h = grind (arith, after, (holds_all (with_name names (opens c.stage)) (before ++ record { staged = c; fate = place_of names before c.stage } ∷ []) (with_command g c) cs (after names before g h c.command c.stage)))

all_held : (commands : List StagedCommand) → Holds (opened_names commands) (places commands) (grouped commands)
all_held commands =
    holds_all [] [] no_commands commands (record { names_are = refl; distinct = tt; steps = tt; fates_are = refl; labels = tt; told = λ path k e s. refl; made_within = λ path. tt })

-- the labels stand for the fates, the names are those opened, and each label has the number of a name
pub labels_are_fates : (commands : List StagedCommand) → map (settled (grouped commands).opened) (grouped commands).labelled ≡ fates commands
labels_are_fates commands = (all_held commands).fates_are

pub names_are_opened : (commands : List StagedCommand) → names_of (grouped commands).opened ≡ opened_names commands
names_are_opened commands = sym (all_held commands).names_are

pub names_are_distinct : (commands : List StagedCommand) → Distinct (names_of (grouped commands).opened)
names_are_distinct commands = (all_held commands).distinct
