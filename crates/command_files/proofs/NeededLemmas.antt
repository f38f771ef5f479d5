-- What the code gathers for a command is what the command needs.
use Rattle.std.proofs.Common.{◌≡◌, ℕ, suc, ◌+◌, ◌<◌, ◌≤◌, List, [], ◌∷◌, ◌++◌, true, false, ◌&&◌, ◌||◌, nat_lt, length, take, drop, drop-cons, add-one, get_or, refl, sym, ap, ◌∙◌, arith, append_assoc, take-suc, ltb-true, lt-ltb, length-take-le}
use Rattle.std.specs.List.{list_any}
use Rattle.std.specs.List.Sorted.{IsStrictlyIncreasing}
use Rattle.std.specs.Bool.{one_answer}
use Rattle.std.proofs.lemmas.List.Folds.{list_any-append}
use Rattle.command_files.specs.declared.steps.Role.{Role}
use Rattle.command_files.specs.declared.steps.Role.TheVariants as roles
use Rattle.command_files.specs.declared.steps.Step.{Step}
use Rattle.command_files.specs.Files.{is_among, share}
use Rattle.command_files.specs.Order.{numbers_where, needs_behind, is_in}
use Rattle.command_files.specs.PlanNeeds.{role_needs, step_needs}
use Rattle.command_files.specs.Touched.{Numbers, read_by, written_by, with_numbers, numbers_from, no_numbers, readers_before, writers_before, role_numbers, numbers_for, touching, touching_either, below, gathered, SameElements}
use Rattle.command_files.proofs.TouchedLemmas.{both_of_three, share_sym, in_numbers_from, numbers_from_both, in_below, in_touching, in_touching_either, in_numbers, in_earlier, rises, numbers_rise, same_numbers, contained, has_contained}

-- the numbers of a file with those of one command more
pub one_later : (files : Step → List (List ℕ)) (steps : List Step) (n : ℕ) (s : Step) → n ≤ length steps → take (n + 1) steps ≡ take n steps ++ s ∷ [] →
    numbers_from files no_numbers 0 (take (n + 1) steps) ≡ with_numbers (numbers_from files no_numbers 0 (take n steps)) (files s) n
one_later files steps n s h one_more = grind (arith, numbers_from_both, length-take-le)

-- the commands before one that touch one of some paths share one with them
in_shared : (files : Step → List (List ℕ)) (d : Step) (steps : List Step) (n : ℕ) (paths : List (List ℕ)) (m : ℕ) → n ≤ length steps → m < n →
    list_any (λ path. is_in (numbers_from files no_numbers 0 (take n steps) path) m) paths ≡ share (files (get_or steps m d)) paths
in_shared files d steps n paths m h before =
    (λ i. list_any (λ path. at path i) paths) ∙ share_sym paths (files (get_or steps m d))
  where
    at : (path : List ℕ) → is_in (numbers_from files no_numbers 0 (take n steps) path) m ≡ is_among (files (get_or steps m d)) path
    at path =
        in_numbers_from files no_numbers 0 (take n steps) path m
        ∙ in_earlier (λ s. is_among (files s) path) d steps n m h
        ∙ ap (λ b. b && is_among (files (get_or steps m d)) path) (lt-ltb m n before)

in_others : (d : Step) (steps : List Step) (role : Role) (m : ℕ) → m < length steps →
    is_in (numbers_for (role_numbers roles.DeviceStep steps) (role_numbers roles.Final steps) role) m ≡ role_needs role (get_or steps m d).role
in_others d steps role m h = grind (arith, in_numbers)

-- what is gathered for a command
abbrev pub all_gathered : List Step → ℕ → Step → List ℕ
all_gathered steps n s = gathered (readers_before n steps) (writers_before n steps) (numbers_for (role_numbers roles.DeviceStep steps) (role_numbers roles.Final steps) s.role) n s

in_parts : (readers writers : Numbers) (others : List ℕ) (n : ℕ) (s : Step) (m : ℕ) →
    is_in (touching n writers (read_by s) ++ (touching_either n readers writers (written_by s) ++ below n others)) m ≡
    (nat_lt m n &&
    ((list_any (λ path. is_in (writers path) m) (read_by s)
    || (list_any (λ path. is_in (readers path) m) (written_by s) || list_any (λ path. is_in (writers path) m) (written_by s)))
    || is_in others m))
in_parts readers writers others n s m = simp (list_any-append, in_touching, in_touching_either, in_below, both_of_three)

in_gathered : (d : Step) (steps : List Step) (n : ℕ) (s : Step) (m : ℕ) → n + 1 ≤ length steps → take (n + 1) steps ≡ take n steps ++ s ∷ [] →
    is_in (all_gathered steps n s) m ≡ (nat_lt m n && step_needs (get_or steps m d) s)
in_gathered d steps n s m h one_more =
    let own : with_numbers (readers_before n steps) (read_by s) n ≡ readers_before (n + 1) steps = sym (one_later read_by steps n s (omega arith) one_more) in
    let others : List ℕ = numbers_for (role_numbers roles.DeviceStep steps) (role_numbers roles.Final steps) s.role in
    ap (λ readers. is_in (touching n (writers_before n steps) (read_by s) ++ (touching_either n readers (writers_before n steps) (written_by s) ++ below n others)) m) own
    ∙ in_parts (readers_before (n + 1) steps) (writers_before n steps) others n s m
    ∙ (elim (nat_lt m n) as (λ t. nat_lt m n ≡ t →
    (t &&
    ((list_any (λ path. is_in (writers_before n steps path) m) (read_by s)
    || (list_any (λ path. is_in (readers_before (n + 1) steps path) m) (written_by s) || list_any (λ path. is_in (writers_before n steps path) m) (written_by s)))
    || is_in others m))
    ≡ (t && step_needs (get_or steps m d) s)) [
      | true ↦ λ e.
          let before : m < n = ltb-true m n e in
          let within : m < length steps = omega arith in
          λ i.
          (in_shared written_by d steps n (read_by s) m (omega arith) before i
          || (in_shared read_by d steps (n + 1) (written_by s) m h (omega arith) i || in_shared written_by d steps n (written_by s) m (omega arith) before i))
          || in_others d steps s.role m within i
      | false ↦ λ e. refl
    ]
    refl)

-- so numbers that rise and are the gathered ones are the needs
pub found : (d : Step) (steps : List Step) (n : ℕ) (s : Step) (numbers : List ℕ) → n + 1 ≤ length steps → take (n + 1) steps ≡ take n steps ++ s ∷ [] →
    IsStrictlyIncreasing numbers → SameElements (all_gathered steps n s) numbers →
    numbers ≡ numbers_where (λ e. step_needs e s) 0 (take n steps)
found d steps n s numbers h one_more up same =
    same_numbers 0 numbers (numbers_where (λ e. step_needs e s) 0 (take n steps)) (rises numbers up) (numbers_rise (λ e. step_needs e s) 0 (take n steps))
    (λ m.
    one_answer (is_in numbers m) (is_in (all_gathered steps n s) m)
    (λ e. has_contained (all_gathered steps n s) m (same.among m (contained numbers m e)), λ e. has_contained numbers m (same.kept m (contained (all_gathered steps n s) m e)))
    (λ e. e, λ e. e)
    ∙ in_gathered d steps n s m h one_more
    ∙ sym (in_earlier (λ e. step_needs e s) d steps n m (omega arith)))

-- one more list of needs
pub listed : (steps : List Step) (n : ℕ) (s : Step) (done new target : List (List ℕ)) (numbers : List ℕ) →
    drop n steps ≡ s ∷ drop (n + 1) steps → take (n + 1) steps ≡ take n steps ++ s ∷ [] →
    numbers ≡ numbers_where (λ e. step_needs e s) 0 (take n steps) → new ≡ done ++ numbers ∷ [] →
    done ++ needs_behind step_needs (take n steps) (drop n steps) ≡ target → new ++ needs_behind step_needs (take (n + 1) steps) (drop (n + 1) steps) ≡ target
listed steps n s done new target numbers front grown are put before = grind (arith, grown, append_assoc)

-- what is left at an item is that item and what is left behind it, and what is before the next one ends with it
pub next : {X : Type 0} (xs : List X) (i : ℕ) (item : X) → i < length xs → item ≡ get_or xs i item → drop i xs ≡ item ∷ drop (i + 1) xs
next xs i item within is = rw add-one (drop-cons xs i item within ∙ ap (λ w. w ∷ drop (suc i) xs) (sym is))

pub grown : {X : Type 0} (xs : List X) (i : ℕ) (item : X) → i < length xs → item ≡ get_or xs i item → take (i + 1) xs ≡ take i xs ++ item ∷ []
grown xs i item within is = rw add-one (take-suc xs i item within ∙ ap (λ w. take i xs ++ w ∷ []) (sym is))
