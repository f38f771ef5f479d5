-- Which commands of a plan are due, group by group.
use Rattle.std.proofs.Common.{◌≡◌, ℕ, ◌+◌, ◌-◌, ◌/◌, ◌<◌, ◌≤◌, List, [], ◌∷◌, ◌++◌, Bool, true, false, not, ◌&&◌, ◌||◌, cond, eqb, ltb, leb, refl, ap, sym, ◌∙◌, map, filter, subst, append_assoc, MatchBool, Ok, Err, arith, div-le_self, div-mul-le_self}
use Rattle.std.specs.List.{list_any, fold}
use Rattle.std.proofs.lemmas.Nat.{le-div}
use Rattle.std.proofs.lemmas.Bool.{ltb-true, le-ltb, lt-ltb, eqb-true, eq-eqb, ne_eqb, leb-true, leb-false, eqb-false, ltb-false, and_right, or_parts}
use Rattle.std.proofs.lemmas.List.{append-nil, map-append}
use Rattle.std.proofs.lemmas.List.Elements.{filter-append}
use Rattle.std.proofs.lemmas.List.Folds.{list_any-append}
use Rattle.std.proofs.lemmas.List.Sums.{fold-append}
use Rattle.std.proofs.Math.Bool.{and-true, or-true, not-not, or-false}
use Rattle.compilers.specs.declared.plans.plan.NvccGeneratedSubcommand.{NvccGeneratedSubcommand}
use Rattle.cuda_plans.specs.declared.runner.Place.{Place}
use Rattle.texts.specs.declared.fault.Fault.TheVariants.{Process}
use Rattle.texts.specs.declared.status.Output.{Output}
use Rattle.texts.specs.Endings.{is_success}
use Rattle.cuda_plans.specs.Outcome.{aggregated, empty_success}
use Rattle.cuda_plans.proofs.RunningLemmas.{GroupEnds}
use Rattle.cuda_plans.specs.Schedule.{Step, AccountEntry, step_at, steps_of_group, steps_from, steps, output_of_entry, output_of_account, fails, step_of, depends_on, is_due, chunk_of, outcome_of, Gains, NoneLeft, OfGroup}

-- A fact of each item of a list.
abbrev pub Each : {X : Type 0} → (X → Type 0) → List X → Type 0
Each P [] = Unit {0}
Each P (x ∷ xs) = P x × Each P xs

each-append : {X : Type 0} (P : X → Type 0) (xs ys : List X) → Each P xs → Each P ys → Each P (xs ++ ys)
each-append P [] ys a b = b
each-append P (x ∷ xs) ys a b = (a.0, each-append P xs ys a.1 b)

each-map : {X : Type 0} (P Q : X → Type 0) (xs : List X) → ((x : X) → P x → Q x) → Each P xs → Each Q xs
each-map P Q [] f h = tt
each-map P Q (x ∷ xs) f h = (f x h.0, each-map P Q xs f h.1)

none-any : {X : Type 0} (p : X → Bool) (xs : List X) → Each (λ x. p x ≡ false) xs → list_any p xs ≡ false
none-any p [] h = refl
none-any p (x ∷ xs) h = rw h.0 (none-any p xs h.1)

filter-same : {X : Type 0} (p q : X → Bool) (xs : List X) → Each (λ x. p x ≡ q x) xs → filter p xs ≡ filter q xs
filter-same p q [] h = refl
filter-same p q (x ∷ xs) h = λ i. cond (h.0 i) (x ∷ filter-same p q xs h.1 i) (filter-same p q xs h.1 i)

filter-none : {X : Type 0} (p : X → Bool) (xs : List X) → Each (λ x. p x ≡ false) xs → filter p xs ≡ []
filter-none p [] h = refl
filter-none p (x ∷ xs) h = rw h.0 (filter-none p xs h.1)

-- Places.

abbrev pub at : ℕ → ℕ → Place
at group index = record { group = group; index = index }

-- an entry that fails a step: the step isn't due by it
abbrev pub stops : (ℕ → ℕ) → Place → AccountEntry → Bool
stops chunk p e = depends_on chunk p e.place && fails e

-- entries of a group from a number on
abbrev pub OfGroupFrom : ℕ → ℕ → List AccountEntry → Type 0
OfGroupFrom group index account = Each (λ e. (e.place.group ≡ group) × (index ≤ e.place.index)) account

-- a group's account is of the group
of_group : (to_end : Bool) (group index : ℕ) (account : List AccountEntry) (commands : List NvccGeneratedSubcommand) → OfGroup to_end group index account commands → OfGroupFrom group index account
of_group to_end group index [] commands h = tt
of_group to_end group index (e ∷ es) [] h = absurd h
of_group to_end group index (e ∷ es) (c ∷ cs) h = grind (arith, each-map, (of_group to_end group (index + 1) es cs))

-- Tests.

-- neither in its group and before it, nor in an earlier chunk
quiet : (a b c f : Bool) → (a && b) ≡ false → c ≡ false → (((a && b) || c) && f) ≡ false
quiet a b c f own other = (λ i. (own i || other i) && f)

loud : (a b c f : Bool) → a ≡ true → b ≡ true → f ≡ true → (((a && b) || c) && f) ≡ true
loud a b c f p q r = λ i. ((p i && q i) || c) && r i

loud_by_chunk : (x c f : Bool) → c ≡ true → f ≡ true → ((x || c) && f) ≡ true
loud_by_chunk x c f p q = (λ i. (x || p i) && q i) ∙ and-true (x || true) ∙ or-true x

-- a step isn't stopped by an entry at its own place or behind it, in its group
not-behind : (chunk : ℕ → ℕ) (group index : ℕ) (e : AccountEntry) → e.place.group ≡ group → index ≤ e.place.index → stops chunk (at group index) e ≡ false
not-behind chunk group index e same behind = grind (arith, quiet, and_right, le-ltb)

-- nor by one of a later group
not-later : (chunk : ℕ → ℕ) → ((a b : ℕ) → a ≤ b → chunk a ≤ chunk b) → (p : Place) (e : AccountEntry) → p.group < e.place.group → stops chunk p e ≡ false
not-later chunk rises p e later = grind (arith, quiet, ne_eqb, le-ltb)

-- nor by one of an earlier group whose chunk isn't earlier, if it fails
not-earlier : (chunk : ℕ → ℕ) (group index : ℕ) (e : AccountEntry) → e.place.group < group → (fails e ≡ true → chunk group ≤ chunk e.place.group) → stops chunk (at group index) e ≡ false
not-earlier chunk group index e earlier held = grind (arith, ne_eqb, le-ltb)

any-here : {X : Type 0} (p : X → Bool) (xs : List X) (x : X) (ys : List X) → p x ≡ true → list_any p (xs ++ x ∷ ys) ≡ true
any-here p [] x ys h = ap (λ b. b || list_any p ys) h
any-here p (z ∷ zs) x ys h = ap (λ b. p z || b) (any-here p zs x ys h) ∙ or-true (p z)

-- A group's due commands.

-- a list of entries that stops no command of a group from a number on
abbrev pub Harmless : (ℕ → ℕ) → ℕ → ℕ → List AccountEntry → Type 0
Harmless chunk group index account = (j : ℕ) → index ≤ j → Each (λ e. stops chunk (at group j) e ≡ false) account

no-step_left : (to_end : Bool) → NoneLeft {X = Step} to_end []
no-step_left to_end = grind arith

-- of the commands of a group from a number on those of an account are due, and behind them what is left
abbrev pub GroupDue : Bool → (ℕ → ℕ) → List AccountEntry → List AccountEntry → List Step → Type 0
GroupDue to_end chunk before account all = (rest : List Step) × (filter (is_due chunk (before ++ account)) all ≡ map step_of account ++ rest) × NoneLeft to_end rest

-- a failed entry stops the commands behind it
behind-failure : (chunk : ℕ → ℕ) (account : List AccountEntry) (group index : ℕ) (commands : List NvccGeneratedSubcommand) → ((j : ℕ) → index ≤ j → list_any (stops chunk (at group j)) account ≡ true) → Each (λ s. is_due chunk account s ≡ false) (steps_of_group group index commands)
behind-failure chunk account group index [] h = tt
behind-failure chunk account group index (c ∷ cs) h = (ap not (h index (omega arith)), behind-failure chunk account group (index + 1) cs (λ j le. h j (omega (arith, le))))

first-due : (p : Step → Bool) (s t : Step) (xs ys : List Step) → p s ≡ true → s ≡ t → filter p xs ≡ ys → filter p (s ∷ xs) ≡ t ∷ ys
first-due p s t xs ys due same rest = (λ i. cond (due i) (s ∷ filter p xs) (filter p xs)) ∙ (λ i. same i ∷ rest i)

pub group-due : (chunk : ℕ → ℕ) (to_end : Bool) (group index : ℕ) (before account : List AccountEntry) (commands : List NvccGeneratedSubcommand) → Harmless chunk group index before → OfGroup to_end group index account commands → GroupDue to_end chunk before account (steps_of_group group index commands)
group-due chunk true group index before [] commands harmless run = ([], ap (λ cs. filter (is_due chunk (before ++ [])) (steps_of_group group index cs)) run, refl)
group-due chunk false group index before [] commands harmless run = (filter (is_due chunk (before ++ [])) (steps_of_group group index commands), refl, tt)
group-due chunk to_end group index before (e ∷ es) [] harmless run = absurd run
group-due chunk to_end group index before (e ∷ es) (c ∷ cs) harmless run =
    by-failure (fails e) refl run.1 (group-due chunk to_end group (index + 1) (before ++ e ∷ []) es cs)
  where
    others : List Step
    others = steps_of_group group (index + 1) cs

    first : is_due chunk (before ++ e ∷ es) (step_at group index c) ≡ true
    first = ap not (none-any (stops chunk (at group index)) (before ++ e ∷ es)
        (each-append (λ x. stops chunk (at group index) x ≡ false) before (e ∷ es) (harmless index (omega arith))
        (each-map (λ x. (x.place.group ≡ group) × (index ≤ x.place.index)) (λ x. stops chunk (at group index) x ≡ false) (e ∷ es) (λ x p. not-behind chunk group index x p.0 p.1) (of_group to_end group index (e ∷ es) (c ∷ cs) run))))

    stopped : fails e ≡ true → (j : ℕ) → index + 1 ≤ j → list_any (stops chunk (at group j)) (before ++ e ∷ es) ≡ true
    stopped failed j le = any-here (stops chunk (at group j)) before e es
        (loud (eqb e.place.group group) (ltb e.place.index j) (ltb (chunk e.place.group) (chunk group)) (fails e)
        (eq-eqb e.place.group group (ap (λ s. s.place.group) run.0)) (lt-ltb e.place.index j (omega (arith, ap (λ s. s.place.index) run.0, le))) failed)

    by-failure : (failed : Bool) → fails e ≡ failed → MatchBool failed (es ≡ []) (OfGroup to_end group (index + 1) es cs) → (Harmless chunk group (index + 1) (before ++ e ∷ []) → OfGroup to_end group (index + 1) es cs → GroupDue to_end chunk (before ++ e ∷ []) es others) → GroupDue to_end chunk before (e ∷ es) (step_at group index c ∷ others)
    by-failure true failed none again = (
      [],
      first-due (is_due chunk (before ++ e ∷ es)) (step_at group index c) (step_of e) others (map step_of es ++ []) first (sym run.0)
          (filter-none (is_due chunk (before ++ e ∷ es)) others (behind-failure chunk (before ++ e ∷ es) group (index + 1) cs (stopped failed)) ∙ sym (ap (λ l. map step_of l ++ []) none)),
      no-step_left to_end,
    )
    by-failure false succeeds more again =
        let ih = again (λ j le. each-append (λ x. stops chunk (at group j) x ≡ false) before (e ∷ []) (harmless j (omega (arith, le))) (and_right (depends_on chunk (at group j) e.place) (fails e) succeeds, tt)) more in (
          ih.0,
          first-due (is_due chunk (before ++ e ∷ es)) (step_at group index c) (step_of e) others (map step_of es ++ ih.0) first (sym run.0)
              (ap (λ l. filter (is_due chunk l) others) (sym (append_assoc before (e ∷ []) es)) ∙ ih.1),
          ih.2,
        )

-- The status of joined outputs.

both-succeed : (first : Bool) (a b : Output) → is_success a.status ≡ first → is_success (cond first b.status a.status) ≡ (first && is_success b.status)
both-succeed first a b h = grind arith

no-failure : (first second rest : Bool) → ((first && second) && not rest) ≡ (first && not (not second || rest))
no-failure first second rest = grind arith

joined-status : (a : Output) (account : List AccountEntry) → is_success (fold aggregated a (map output_of_entry account)).status ≡ (is_success a.status && not (list_any fails account))
joined-status a [] = sym (and-true (is_success a.status))
joined-status a (e ∷ es) = simp (both-succeed, no-failure, (joined-status (aggregated a (output_of_entry e)) es))

pub account-status : (account : List AccountEntry) → is_success (output_of_account account).status ≡ not (list_any fails account)
account-status account = joined-status empty_success account

-- A plan, so far.

abbrev pub Rises : (ℕ → ℕ) → Type 0
Rises chunk = (a b : ℕ) → a ≤ b → chunk a ≤ chunk b

-- what the groups so far have gained: an account of the due ones of their steps. Its entries are of no later chunk than
-- the last, and if they failed of no earlier one.
pub record PlanSoFar (chunk : ℕ → ℕ) (before after : List AccountEntry) (all : List Step) (group : ℕ) (groups : List (List NvccGeneratedSubcommand)) (last : ℕ) (joined : Output) : Type 0 where
  pub account : List AccountEntry
  pub gained : after ≡ before ++ account
  pub passed : List Step
  pub parts : all ≡ passed ++ steps_from group groups
  pub due : filter (is_due chunk account) passed ≡ map step_of account
  pub steps_before : Each (λ s. s.place.group < group) passed
  pub entries_before : Each (λ e. e.place.group < group) account
  pub within : Each (λ e. chunk e.place.group ≤ last) account
  pub failed_last : Each (λ e. fails e ≡ true → last ≤ chunk e.place.group) account
  pub outputs : joined ≡ output_of_account account

-- the groups that are left, said otherwise
pub plan-left : {chunk : ℕ → ℕ} {before after : List AccountEntry} {all : List Step} {group : ℕ} {groups others : List (List NvccGeneratedSubcommand)} {last : ℕ} {joined : Output}
    → groups ≡ others → PlanSoFar chunk before after all group groups last joined → PlanSoFar chunk before after all group others last joined
plan-left {chunk} {before} {after} {all} {group} {groups} {others} {last} {joined} same far = subst (λ l. PlanSoFar chunk before after all group l last joined) same far

pub plan-begins : (chunk : ℕ → ℕ) (before : List AccountEntry) (groups : List (List NvccGeneratedSubcommand)) → PlanSoFar chunk before before (steps groups) 0 groups 0 empty_success
plan-begins chunk before groups = record {
  account = [];
  passed = [];
  gained = sym (append-nil before);
  parts = refl;
  due = refl;
  steps_before = tt;
  entries_before = tt;
  within = tt;
  failed_last = tt;
  outputs = refl;
}

-- entries of a group leave what is due of earlier groups
still-due : (chunk : ℕ → ℕ) → Rises chunk → (account more : List AccountEntry) (group : ℕ) (passed : List Step) → OfGroupFrom group 0 more → Each (λ s. s.place.group < group) passed → filter (is_due chunk (account ++ more)) passed ≡ filter (is_due chunk account) passed
still-due chunk rises account more group passed own earlier =
    filter-same (is_due chunk (account ++ more)) (is_due chunk account) passed
    (each-map (λ s. s.place.group < group) (λ s. is_due chunk (account ++ more) s ≡ is_due chunk account s) passed (λ s lt. same s lt) earlier)
  where
    same : (s : Step) → s.place.group < group → is_due chunk (account ++ more) s ≡ is_due chunk account s
    same s lt =
        ap not (list_any-append (stops chunk s.place) account more
        ∙ ap (λ b. list_any (stops chunk s.place) account || b) (none-any (stops chunk s.place) more (each-map (λ e. (e.place.group ≡ group) × (0 ≤ e.place.index)) (λ e. stops chunk s.place e ≡ false) more (λ e p. not-later chunk rises s.place e (omega (arith, p.0, lt))) own))
        ∙ or-false (list_any (stops chunk s.place) account))

-- the steps of a group are of that group
own-steps : (group index : ℕ) (commands : List NvccGeneratedSubcommand) → Each (λ s. s.place.group ≡ group) (steps_of_group group index commands)
own-steps group index [] = tt
own-steps group index (c ∷ cs) = (refl, own-steps group (index + 1) cs)

steps-from : (group : ℕ) (groups : List (List NvccGeneratedSubcommand)) → Each (λ s. group ≤ s.place.group) (steps_from group groups)
steps-from group [] = tt
steps-from group (g ∷ gs) = grind (arith, each-append, each-map, own-steps, (steps-from (group + 1) gs))

-- whether the next group waits for the success of what ran
abbrev pub Free : ℕ → ℕ → Output → Type 0
Free last next joined = (ltb last next && not (is_success joined.status)) ≡ false

none-fail : (account : List AccountEntry) → list_any fails account ≡ false → Each (λ e. fails e ≡ true → ⊥) account
none-fail [] h = tt
none-fail (e ∷ es) h = grind (arith, or_parts, (none-fail es (or_parts (fails e) (list_any fails es) h).1))

-- if the next group runs, what failed is of no earlier chunk
held-back : (chunk : ℕ → ℕ) (account : List AccountEntry) (last next : ℕ) (joined : Output) → joined ≡ output_of_account account → Free last next joined → Each (λ e. fails e ≡ true → last ≤ chunk e.place.group) account → Each (λ e. fails e ≡ true → next ≤ chunk e.place.group) account
held-back chunk account last next joined is free failed_last = by-test (ltb last next) refl (list_any fails account) refl
  where
    success : not (is_success joined.status) ≡ list_any fails account
    success = ap (λ o. not (is_success o.status)) is ∙ ap not (account-status account) ∙ not-not (list_any fails account)

    by-test : (later : Bool) → ltb last next ≡ later → (failed : Bool) → list_any fails account ≡ failed → Each (λ e. fails e ≡ true → next ≤ chunk e.place.group) account
    by-test false e failed f = each-map (λ x. fails x ≡ true → last ≤ chunk x.place.group) (λ x. fails x ≡ true → next ≤ chunk x.place.group) account (λ x h bad. omega (arith, h bad, ltb-false last next e)) failed_last
    by-test true e false f = each-map (λ x. fails x ≡ true → ⊥) (λ x. fails x ≡ true → next ≤ chunk x.place.group) account (λ x h bad. absurd (h bad)) (none-fail account f)
    by-test true e true f =
        let bad : true ≡ false = sym ((λ i. e i && (success ∙ f) i)) ∙ free in
        cc

-- the account of the next group stands behind that of the earlier ones
harmless : (chunk : ℕ → ℕ) (group : ℕ) (account : List AccountEntry) → Each (λ e. e.place.group < group) account → Each (λ e. fails e ≡ true → chunk group ≤ chunk e.place.group) account → Harmless chunk group 0 account
harmless chunk group [] a b j le = tt
harmless chunk group (e ∷ es) a b j le = (not-earlier chunk group j e a.0 b.0, harmless chunk group es a.1 b.1 j le)

parts-next : (all passed own rest : List Step) → all ≡ passed ++ (own ++ rest) → all ≡ (passed ++ own) ++ rest
parts-next all passed own rest e = e ∙ sym (append_assoc passed own rest)

-- the due steps of the earlier groups and of the next one
due-next : (chunk : ℕ → ℕ) → Rises chunk → (account more : List AccountEntry) (group : ℕ) (passed own left : List Step) → OfGroupFrom group 0 more → Each (λ s. s.place.group < group) passed → filter (is_due chunk account) passed ≡ map step_of account → filter (is_due chunk (account ++ more)) own ≡ map step_of more ++ left → filter (is_due chunk (account ++ more)) (passed ++ own) ≡ map step_of (account ++ more) ++ left
due-next chunk rises account more group passed own left entries earlier due next = grind (arith, filter-append, still-due, append_assoc, map-append)

pub plan-goes_on : (chunk : ℕ → ℕ) → Rises chunk → (before middle after : List AccountEntry) (all : List Step) (group : ℕ) (commands : List NvccGeneratedSubcommand) (groups : List (List NvccGeneratedSubcommand)) (last next : ℕ) (joined output : Output)
    → PlanSoFar chunk before middle all group (commands ∷ groups) last joined → next ≡ chunk group → last ≤ next → Free last next joined → Gains middle after (GroupEnds true group commands joined output)
    → PlanSoFar chunk before after all (group + 1) groups next output
plan-goes_on chunk rises before middle after all group commands groups last next joined output s number ordered free more =
    let entries : OfGroupFrom group 0 more.0 = of_group true group 0 more.0 commands more.2.0 in
    let held : Each (λ e. fails e ≡ true → next ≤ chunk e.place.group) s.account = held-back chunk s.account last next joined s.outputs free s.failed_last in
    let own = group-due chunk true group 0 s.account more.0 commands (harmless chunk group s.account s.entries_before (subst (λ n. Each (λ e. fails e ≡ true → n ≤ chunk e.place.group) s.account) number held)) more.2.0 in
    record {
      account = s.account ++ more.0;
      gained = more.1 ∙ ap (λ l. l ++ more.0) s.gained ∙ append_assoc before s.account more.0;
      passed = s.passed ++ steps_of_group group 0 commands;
      parts = parts-next all s.passed (steps_of_group group 0 commands) (steps_from (group + 1) groups) s.parts;
      due = due-next chunk rises s.account more.0 group s.passed (steps_of_group group 0 commands) [] entries s.steps_before s.due (own.1 ∙ ap (λ l. map step_of more.0 ++ l) own.2) ∙ append-nil (map step_of (s.account ++ more.0));
      steps_before = each-append (λ x. x.place.group < group + 1) s.passed (steps_of_group group 0 commands) (each-map (λ x. x.place.group < group) (λ x. x.place.group < group + 1) s.passed (λ x lt. omega (arith, lt)) s.steps_before) (each-map (λ x. x.place.group ≡ group) (λ x. x.place.group < group + 1) (steps_of_group group 0 commands) (λ x e. omega (arith, e)) (own-steps group 0 commands));
      entries_before = each-append (λ x. x.place.group < group + 1) s.account more.0 (each-map (λ x. x.place.group < group) (λ x. x.place.group < group + 1) s.account (λ x lt. omega (arith, lt)) s.entries_before) (each-map (λ x. (x.place.group ≡ group) × (0 ≤ x.place.index)) (λ x. x.place.group < group + 1) more.0 (λ x p. omega (arith, p.0)) entries);
      within = each-append (λ x. chunk x.place.group ≤ next) s.account more.0 (each-map (λ x. chunk x.place.group ≤ last) (λ x. chunk x.place.group ≤ next) s.account (λ x le. omega (arith, le, ordered)) s.within) (each-map (λ x. (x.place.group ≡ group) × (0 ≤ x.place.index)) (λ x. chunk x.place.group ≤ next) more.0 (λ x p. omega (arith, ap chunk p.0, number)) entries);
      failed_last = each-append (λ x. fails x ≡ true → next ≤ chunk x.place.group) s.account more.0 held (each-map (λ x. (x.place.group ≡ group) × (0 ≤ x.place.index)) (λ x. fails x ≡ true → next ≤ chunk x.place.group) more.0 (λ x p bad. omega (arith, ap chunk p.0, number)) entries);
      outputs = more.2.1 ∙ ap (λ o. fold aggregated o (map output_of_entry more.0)) s.outputs ∙ sym (ap (fold aggregated empty_success) (map-append output_of_entry s.account more.0) ∙ fold-append aggregated empty_success (map output_of_entry s.account) (map output_of_entry more.0));
    }

-- What a whole run of a plan's groups says, and one that was cut short.
abbrev pub PlanEnds : (ℕ → ℕ) → List Step → Output → List AccountEntry → Type 0
PlanEnds chunk all joined account = (filter (is_due chunk account) all ≡ map step_of account) × (joined ≡ output_of_account account)

abbrev pub PlanCut : (ℕ → ℕ) → List Step → List AccountEntry → Type 0
PlanCut chunk all account = (rest : List Step) × (filter (is_due chunk account) all ≡ map step_of account ++ rest)

-- the last group ran
pub plan-ends : (chunk : ℕ → ℕ) (before after : List AccountEntry) (all : List Step) (group last : ℕ) (joined : Output) → PlanSoFar chunk before after all group [] last joined → Gains before after (PlanEnds chunk all joined)
plan-ends chunk before after all group last joined s = grind (arith, append-nil)

-- memory was refused in a group
pub plan-cut : (chunk : ℕ → ℕ) → Rises chunk → (before middle after : List AccountEntry) (all : List Step) (group : ℕ) (commands : List NvccGeneratedSubcommand) (groups : List (List NvccGeneratedSubcommand)) (last next : ℕ) (joined : Output)
    → PlanSoFar chunk before middle all group (commands ∷ groups) last joined → next ≡ chunk group → Free last next joined → Gains middle after (λ account. OfGroup false group 0 account commands)
    → Gains before after (PlanCut chunk all)
plan-cut chunk rises before middle after all group commands groups last next joined s number free more =
    let held : Each (λ e. fails e ≡ true → next ≤ chunk e.place.group) s.account = held-back chunk s.account last next joined s.outputs free s.failed_last in
    let own = group-due chunk false group 0 s.account more.0 commands (harmless chunk group s.account s.entries_before (subst (λ n. Each (λ e. fails e ≡ true → n ≤ chunk e.place.group) s.account) number held)) more.2 in
    let behind : List Step = filter (is_due chunk (s.account ++ more.0)) (steps_from (group + 1) groups) in (
      s.account ++ more.0,
      more.1 ∙ ap (λ l. l ++ more.0) s.gained ∙ append_assoc before s.account more.0,
      (
        own.0 ++ behind,
        ap (filter (is_due chunk (s.account ++ more.0))) (parts-next all s.passed (steps_of_group group 0 commands) (steps_from (group + 1) groups) s.parts)
            ∙ filter-append (is_due chunk (s.account ++ more.0)) (s.passed ++ steps_of_group group 0 commands) (steps_from (group + 1) groups)
            ∙ ap (λ l. l ++ behind) (due-next chunk rises s.account more.0 group s.passed (steps_of_group group 0 commands) own.0 (of_group false group 0 more.0 commands more.2) s.steps_before s.due own.1)
            ∙ append_assoc (map step_of (s.account ++ more.0)) own.0 behind,
      ),
    )

-- a failed entry of an earlier chunk stops a step
stopped-by_chunk : (chunk : ℕ → ℕ) (p : Place) (last : ℕ) (account : List AccountEntry) → last < chunk p.group → Each (λ e. chunk e.place.group ≤ last) account → list_any fails account ≡ true → list_any (stops chunk p) account ≡ true
stopped-by_chunk chunk p last [] later within failed = cc
stopped-by_chunk chunk p last (e ∷ es) later within failed = grind (arith, loud_by_chunk, lt-ltb, or-true, (stopped-by_chunk chunk p last es later within.1))

-- the groups from the next one on wait for a success that didn't come
pub plan-stops : (chunk : ℕ → ℕ) → Rises chunk → (before after : List AccountEntry) (all : List Step) (group : ℕ) (groups : List (List NvccGeneratedSubcommand)) (last next : ℕ) (joined : Output)
    → PlanSoFar chunk before after all group groups last joined → next ≡ chunk group → last < next → is_success joined.status ≡ false
    → Gains before after (PlanEnds chunk all joined)
plan-stops chunk rises before after all group groups last next joined s number later bad = (
  s.account,
  s.gained,
  (
    ap (filter (is_due chunk s.account)) s.parts
        ∙ filter-append (is_due chunk s.account) s.passed (steps_from group groups)
        ∙ (λ i. s.due i ++ filter-none (is_due chunk s.account) (steps_from group groups) (each-map (λ x. group ≤ x.place.group) (λ x. is_due chunk s.account x ≡ false) (steps_from group groups) (λ x le. not-due x le) (steps-from group groups)) i)
        ∙ append-nil (map step_of s.account),
    s.outputs,
  ),
)
  where
    failed : (b : Bool) → list_any fails s.account ≡ b → list_any fails s.account ≡ true
    failed true e = e
    failed false e =
        let contrary : false ≡ true = sym bad ∙ ap (λ o. is_success o.status) s.outputs ∙ account-status s.account ∙ ap not e in
        cc

    not-due : (x : Step) → group ≤ x.place.group → is_due chunk s.account x ≡ false
    not-due x le = ap not (stopped-by_chunk chunk x.place last s.account (omega (arith, later, number, rises group x.place.group le)) s.within (failed (list_any fails s.account) refl))

-- Chunks.

rise : (devices size a b : ℕ) → 0 < size → a ≤ b → (a_front a_device b_front b_device : Bool) → eqb a 0 ≡ a_front → leb a devices ≡ a_device → eqb b 0 ≡ b_front → leb b devices ≡ b_device → cond a_front 0 (cond a_device (1 + (a - 1) / size) (devices + 1)) ≤ cond b_front 0 (cond b_device (1 + (b - 1) / size) (devices + 1))
rise devices size a b some le true x y z p q r s = omega arith
rise devices size a b some le false x true z p q r s = absurd (eqb-false a 0 p (omega (arith, le, eqb-true b 0 r)))
rise devices size a b some le false true false true p q r s =
    omega (arith, le-div ((a - 1) / size) (b - 1) size some (omega (arith, le, div-mul-le_self (a - 1) size)))
rise devices size a b some le false true false false p q r s = omega (arith, div-le_self (a - 1) size, leb-true a devices q)
rise devices size a b some le false false false true p q r s = absurd (omega (arith, le, leb-false a devices q, leb-true b devices s))
rise devices size a b some le false false false false p q r s = omega arith

-- a later group is of no earlier chunk
pub chunks-rise : (devices parallel : ℕ) → Rises (chunk_of devices parallel)
chunks-rise devices parallel a b le = grind (arith, rise)

-- The outcome of an account.

failed-if : (account : List AccountEntry) (output : Output) (success : Bool) → output ≡ output_of_account account → is_success output.status ≡ success → list_any fails account ≡ not success
failed-if account output success is h = grind (arith, not-not, account-status)

pub outcome-is : (account : List AccountEntry) (output : Output) (success : Bool) → output ≡ output_of_account account → is_success output.status ≡ success → outcome_of account ≡ cond success (Ok output) (Err (Process output))
outcome-is account output true is h = λ i. cond (failed-if account output true is h i) (Err (Process (sym is i))) (Ok (sym is i))
outcome-is account output false is h = λ i. cond (failed-if account output false is h i) (Err (Process (sym is i))) (Ok (sym is i))

-- a group that is held back begins a later chunk, and something before it failed
pub held-true : (last next : ℕ) (success : Bool) → (ltb last next && not success) ≡ true → (last < next) × (success ≡ false)
held-true last next success h = grind (arith, ltb-true)
