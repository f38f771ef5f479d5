-- A shadow is one by the inputs of cicc alone, and such an input and the same one in a folder have one rank, each among those
-- of its run.
use Rattle.std.proofs.Common.{◌≡◌, ℕ, ◌++◌, ◌&&◌, ◌||◌, Bool, true, false, cond, List, [], ◌∷◌, map, filter, refl, ap, sym, ◌∙◌, fold, codes, bytes_eq, zero-add, arith, nat_eq, length, take, ◌-◌, append_assoc}
use Rattle.std.specs.Cmp.Lexicographic.{pointwise}
use Rattle.std.specs.List.{list_any, list_all, ends_with}
use Rattle.std.proofs.lemmas.Bool.{false≢true, and_parts, and_from}
use Rattle.std.proofs.lemmas.Slice.Eq.{bytes_eq-Decides}
use Rattle.std.proofs.lemmas.List.{map-append}
use Rattle.texts.specs.DeviceFiles.{is_cicc_word}
use Rattle.texts.specs.Lists.{word_after}
use Rattle.texts.specs.Path.{joined, is_bare, is_absolute_path, separator_after}
use Rattle.texts.proofs.EqualityLemmas.{lists}
use Rattle.texts.proofs.PathLaw.{joined-cancels}
use Rattle.compilers.specs.CommandLines.{CommandLine, words_of_command}
use Rattle.canonical_names.specs.Renaming.{rank, names_of_run}
use Rattle.canonical_names.specs.Appearances.{appearances}
use Rattle.cuda_plans.specs.Shadow.{is_plain_output, are_shadows, step_names}
use Rattle.cuda_plans.specs.ShadowLaws.{StepNamesKeepRank, ShadowIsStepShadow}
use Rattle.canonical_names.proofs.AlikeLemmas.{same-tests}
use Rattle.canonical_names.proofs.AppearanceLemmas.{all-append, appearances-classes}
use Rattle.cuda_plans.proofs.FileLemmas.{cicc-front, bare-relative}
use Rattle.canonical_names.proofs.CanonicalLemmas.{add, bytes_eq-itself, run-names, ends-split, two-ends}
use Rattle.canonical_names.specs.CanonicalNames.{AreSuffixes}
use Rattle.canonical_names.specs.Counted.{has_class}
use Rattle.canonical_names.specs.Generated.{class_of_name}
use Rattle.canonical_names.proofs.ReferenceLemmas.{class-found}

-- a name in a folder ends in `.cpp1.ii` where the name does
pub joined-split : (folder n : List ℕ) → (front : List ℕ) × (joined folder n ≡ front ++ n)
joined-split folder n =
    elim (is_absolute_path n) as (λ b. (front : List ℕ) × (cond b n ((folder ++ separator_after folder) ++ n) ≡ front ++ n)) [ true ↦ ([], refl) | false ↦ (folder ++ separator_after folder, refl) ]

pub cicc-joined_name : (folder n : List ℕ) → is_cicc_word n ≡ true → is_cicc_word (joined folder n) ≡ true
cicc-joined_name folder n h = let split = joined-split folder n in ap is_cicc_word split.1 ∙ cicc-front split.0 n h

cicc-joined : (suffixes : List (List ℕ)) → AreSuffixes suffixes → (folder n : List ℕ) → has_class suffixes n ≡ true → is_cicc_word (joined folder n) ≡ is_cicc_word n
cicc-joined suffixes lawful folder n class =
    let found = class-found suffixes n (class_of_name suffixes n) refl class in
    same-tests (is_cicc_word (joined folder n)) (is_cicc_word n) (λ k.
    let split = joined-split folder n in
    let whole = joined folder n in
    let cicc = codes ".cpp1.ii" in
    let by_class : whole ≡ (split.0 ++ take (length n - length found.0) n) ++ found.0 = split.1 ∙ ap (λ z. split.0 ++ z) (ends-split n found.0 found.2) ∙ sym (append_assoc split.0 (take (length n - length found.0) n) found.0) in
    let same : cicc ≡ found.0 = two-ends suffixes lawful cicc found.0 (take (length whole - length cicc) whole) (split.0 ++ take (length n - length found.0) n) lawful.input found.1 (sym (ends-split whole cicc k) ∙ by_class) in
    ap (ends_with nat_eq n) same ∙ found.2)
    (cicc-joined_name folder n)

filter-joined : (suffixes : List (List ℕ)) → AreSuffixes suffixes → (folder : List ℕ) (names : List (List ℕ)) → list_all (has_class suffixes) names ≡ true → filter is_cicc_word (map (joined folder) names) ≡ map (joined folder) (filter is_cicc_word names)
filter-joined suffixes lawful folder [] h = refl
filter-joined suffixes lawful folder (n ∷ names) h = grind (arith, cicc-joined, (filter-joined suffixes lawful folder names))

all-kept : {A : Type 0} (test kept : A → Bool) (xs : List A) → list_all test xs ≡ true → list_all test (filter kept xs) ≡ true
all-kept test kept [] h = refl
all-kept test kept (x ∷ xs) h = grind (arith, and_from, (all-kept test kept xs))

-- what the test of a shadow says
pub shadow-parts : (first second : List (List ℕ)) (folder : List ℕ) (commands : List CommandLine) → are_shadows first second folder commands ≡ true →
    (list_all is_bare first ≡ true) × (second ≡ map (joined folder) first) × (list_all (λ c. is_plain_output (word_after (codes "-o") (words_of_command c))) commands ≡ true)
shadow-parts first second folder commands h =
    let one = and_parts (list_all is_bare first) _ h in
    let two = and_parts (pointwise bytes_eq second (map (joined folder) first)) _ one.1 in
    (one.0, (lists bytes_eq bytes_eq-Decides second (map (joined folder) first)).0 two.0, two.1)

pub shadow-is_step_shadow : ShadowIsStepShadow
shadow-is_step_shadow suffixes lawful first second folder h =
    let names = appearances suffixes first in
    let parts = shadow-parts names (appearances suffixes second) folder second h in
    let steps : step_names suffixes second ≡ map (joined folder) (step_names suffixes first) = ap (filter is_cicc_word) parts.1 ∙ filter-joined suffixes lawful folder names (appearances-classes suffixes first) in
    grind (arith, and_from, all-kept, lists, bytes_eq-Decides)

-- a name that is no input of cicc is another than one that is
other-name : (n name : List ℕ) → is_cicc_word n ≡ false → is_cicc_word name ≡ true → bytes_eq n name ≡ false
other-name n name e h = grind (arith, false≢true, bytes_eq-Decides)

name-other : (name n : List ℕ) → is_cicc_word n ≡ false → is_cicc_word name ≡ true → bytes_eq name n ≡ false
name-other name n e h = grind (arith, false≢true, bytes_eq-Decides)

-- ranks among the inputs of cicc alone
rank-filtered : (name : List ℕ) → is_cicc_word name ≡ true → (seen : List (List ℕ)) → rank (codes ".cpp1.ii") seen name ≡ rank (codes ".cpp1.ii") (filter is_cicc_word seen) name
rank-filtered name h [] = refl
rank-filtered name h (n ∷ seen) = grind (arith, other-name, zero-add, (rank-filtered name h seen))

-- the different ones among them
any-filtered : (x : List ℕ) → is_cicc_word x ≡ true → (seen : List (List ℕ)) → list_any (bytes_eq x) (filter is_cicc_word seen) ≡ list_any (bytes_eq x) seen
any-filtered x h [] = refl
any-filtered x h (n ∷ seen) =
    elim (is_cicc_word n) as (λ b. is_cicc_word n ≡ b → list_any (bytes_eq x) (cond b (n ∷ filter is_cicc_word seen) (filter is_cicc_word seen)) ≡ (bytes_eq x n || list_any (bytes_eq x) seen)) [
      | true ↦ λ _. ap (λ t. bytes_eq x n || t) (any-filtered x h seen)
      | false ↦ λ e. any-filtered x h seen ∙ ap (λ b. b || list_any (bytes_eq x) seen) (sym (name-other x n e h))
    ] refl

push-in : (x : List ℕ) → is_cicc_word x ≡ true → (seen : List (List ℕ)) → filter is_cicc_word (seen ++ x ∷ []) ≡ filter is_cicc_word seen ++ x ∷ []
push-in x h [] = ap (λ b. cond b (x ∷ []) []) h
push-in x h (n ∷ seen) =
    elim (is_cicc_word n) as (λ b. cond b (n ∷ filter is_cicc_word (seen ++ x ∷ [])) (filter is_cicc_word (seen ++ x ∷ [])) ≡ cond b (n ∷ filter is_cicc_word seen) (filter is_cicc_word seen) ++ x ∷ [])
    [ true ↦ ap (λ t. n ∷ t) (push-in x h seen) | false ↦ push-in x h seen ]

push-out : (x : List ℕ) → is_cicc_word x ≡ false → (seen : List (List ℕ)) → filter is_cicc_word (seen ++ x ∷ []) ≡ filter is_cicc_word seen
push-out x h [] = ap (λ b. cond b (x ∷ []) []) h
push-out x h (n ∷ seen) = simp (push-out x h seen)

add-in : (x : List ℕ) → is_cicc_word x ≡ true → (seen : List (List ℕ)) → filter is_cicc_word (add seen x) ≡ add (filter is_cicc_word seen) x
add-in x h seen = grind (arith, any-filtered, push-in)

add-out : (x : List ℕ) → is_cicc_word x ≡ false → (seen : List (List ℕ)) → filter is_cicc_word (add seen x) ≡ filter is_cicc_word seen
add-out x h seen = grind (arith, push-out)

fold-filtered : (xs seen : List (List ℕ)) → filter is_cicc_word (fold add seen xs) ≡ fold add (filter is_cicc_word seen) (filter is_cicc_word xs)
fold-filtered [] seen = refl
fold-filtered (x ∷ xs) seen =
    fold-filtered xs (add seen x)
    ∙ elim (is_cicc_word x) as (λ b. is_cicc_word x ≡ b → fold add (filter is_cicc_word (add seen x)) (filter is_cicc_word xs) ≡ fold add (filter is_cicc_word seen) (cond b (x ∷ filter is_cicc_word xs) (filter is_cicc_word xs))) [
      | true ↦ λ e. ap (λ s. fold add s (filter is_cicc_word xs)) (add-in x e seen)
      | false ↦ λ e. ap (λ s. fold add s (filter is_cicc_word xs)) (add-out x e seen)
    ] refl

rank-of_steps : (suffixes : List (List ℕ)) (commands : List CommandLine) (name : List ℕ) → is_cicc_word name ≡ true → rank (codes ".cpp1.ii") (names_of_run suffixes commands) name ≡ rank (codes ".cpp1.ii") (fold add [] (step_names suffixes commands)) name
rank-of_steps suffixes commands name h = grind (arith, run-names, rank-filtered, add, fold-filtered)

-- what holds of some names holds of the different ones among them
all-filtered : (xs : List (List ℕ)) → list_all is_cicc_word (filter is_cicc_word xs) ≡ true
all-filtered [] = refl
all-filtered (x ∷ xs) =
    elim (is_cicc_word x) as (λ b. is_cicc_word x ≡ b → list_all is_cicc_word (cond b (x ∷ filter is_cicc_word xs) (filter is_cicc_word xs)) ≡ true)
    [ true ↦ λ e. and_from (is_cicc_word x) (list_all is_cicc_word (filter is_cicc_word xs)) e (all-filtered xs) | false ↦ λ _. all-filtered xs ] refl

all-add : (test : List ℕ → Bool) (seen : List (List ℕ)) (x : List ℕ) → list_all test seen ≡ true → test x ≡ true → list_all test (add seen x) ≡ true
all-add test seen x h k = grind (arith, all-append, and_from)

all-fold : (test : List ℕ → Bool) (xs seen : List (List ℕ)) → list_all test xs ≡ true → list_all test seen ≡ true → list_all test (fold add seen xs) ≡ true
all-fold test [] seen h k = k
all-fold test (x ∷ xs) seen h k = grind (arith, add, all-add, (all-fold test xs (add seen x)))

-- Below, bare names are put into a folder.
module _ (folder : List ℕ) where
  bytes-joined : (m n : List ℕ) → is_bare m ≡ true → is_bare n ≡ true → bytes_eq (joined folder m) (joined folder n) ≡ bytes_eq m n
  bytes-joined m n hm hn = grind (arith, same-tests, joined-cancels, bare-relative, bytes_eq-Decides, bytes_eq-itself)

  any-joined : (x : List ℕ) → is_bare x ≡ true → (seen : List (List ℕ)) → list_all is_bare seen ≡ true → list_any (bytes_eq (joined folder x)) (map (joined folder) seen) ≡ list_any (bytes_eq x) seen
  any-joined x hx [] h = refl
  any-joined x hx (n ∷ seen) h = grind (arith, bytes-joined, (any-joined x hx seen))

  add-joined : (seen : List (List ℕ)) (x : List ℕ) → list_all is_bare seen ≡ true → is_bare x ≡ true → add (map (joined folder) seen) (joined folder x) ≡ map (joined folder) (add seen x)
  add-joined seen x h hx = grind (arith, any-joined, map-append)

  fold-joined : (xs seen : List (List ℕ)) → list_all is_bare xs ≡ true → list_all is_bare seen ≡ true → fold add (map (joined folder) seen) (map (joined folder) xs) ≡ map (joined folder) (fold add seen xs)
  fold-joined [] seen h k = refl
  fold-joined (x ∷ xs) seen h k = grind (arith, add, add-joined, all-add, (fold-joined xs (add seen x)))

  rank-joined : (name : List ℕ) → is_bare name ≡ true → (seen : List (List ℕ)) → list_all is_bare seen ≡ true → list_all is_cicc_word seen ≡ true →
      rank (codes ".cpp1.ii") (map (joined folder) seen) (joined folder name) ≡ rank (codes ".cpp1.ii") seen name
  rank-joined name hn [] h k = refl
  rank-joined name hn (n ∷ seen) h k =
      grind (arith, bytes-joined, cicc-joined_name, (rank-joined name hn seen))

pub step-names_keep_rank : StepNamesKeepRank
step-names_keep_rank suffixes lawful first second folder h name bare ends =
    let steps = step_names suffixes first in
    let parts = shadow-parts steps (step_names suffixes second) folder second h in
    rank-of_steps suffixes first name ends
    ∙ sym (rank-joined folder name bare (fold add [] steps) (all-fold is_bare steps [] parts.0 refl) (all-fold is_cicc_word steps [] (all-filtered (appearances suffixes first)) refl))
    ∙ ap (λ ns. rank (codes ".cpp1.ii") ns (joined folder name)) (sym (fold-joined folder steps [] parts.0 refl) ∙ ap (fold add []) (sym parts.1))
    ∙ sym (rank-of_steps suffixes second (joined folder name) (cicc-joined_name folder name ends))
