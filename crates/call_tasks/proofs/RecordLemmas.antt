-- Records within others.
use Rattle.std.proofs.Common.{◌≡◌, ℕ, Bool, true, false, cond, ◌||◌, List, [], ◌∷◌, ◌++◌, refl, subst, ◌∙◌, bytes_eq, filter}
use Rattle.std.specs.List.{list_all}
use Rattle.std.proofs.lemmas.Bool.{false≢true, and_parts}
use Rattle.std.proofs.lemmas.List.Folds.{list_any-append, list_all-append}
use Rattle.std.proofs.lemmas.Slice.Eq.{bytes_eq-Decides}
use Rattle.command_files.specs.declared.files.CommandFiles.{CommandFiles}
use Rattle.command_files.specs.Files.{Files, is_among, must_follow, share}
use Rattle.command_files.specs.PlanNeeds.{record_of}
use Rattle.command_files.proofs.OrderLemmas.{in_both, in_either, in_first, in_second}
use Rattle.call_tasks.specs.Parts.{is_within}

pub eq_self : (x : List ℕ) → bytes_eq x x ≡ true
eq_self x = (bytes_eq-Decides x x).1 refl

same_text : (x y : List ℕ) → bytes_eq x y ≡ true → x ≡ y
same_text x y e = (bytes_eq-Decides x y).0 e

-- a file of both lists
share_at : (big others : List (List ℕ)) (x : List ℕ) → is_among big x ≡ true → is_among others x ≡ true → share big others ≡ true
share_at [] others x among both = absurd (false≢true among)
share_at (y ∷ ys) others x among both =
    in_either (bytes_eq x y) (is_among ys x)
    (λ e. in_first (is_among others y) (share ys others) (subst (λ z. is_among others z ≡ true) (same_text x y e) both))
    (λ e. in_second (is_among others y) (share ys others) (share_at ys others x e both)) among

share_more : (small big others : List (List ℕ)) → list_all (is_among big) small ≡ true → share small others ≡ true → share big others ≡ true
share_more [] big others all e = absurd (false≢true e)
share_more (x ∷ xs) big others all e =
    let parts = and_parts (is_among big x) (list_all (is_among big) xs) all in
    in_either (is_among others x) (share xs others) (share_at big others x parts.0) (share_more xs big others parts.1) e

-- what must follow a part must follow the whole
pub must_follow_whole : (part whole : CommandFiles) (later : Files) → is_within part whole ≡ true
    → must_follow (record_of part) later ≡ true → must_follow (record_of whole) later ≡ true
must_follow_whole part whole later within e =
    let w = record_of whole in
    let p = record_of part in
    let parts = and_parts (list_all (is_among whole.reads) part.reads) (list_all (is_among w.writes) p.writes) within in
    in_either (share p.writes later.reads) (share p.reads later.writes || share p.writes later.writes)
    (λ k. in_first (share w.writes later.reads) (share w.reads later.writes || share w.writes later.writes) (share_more p.writes w.writes later.reads parts.1 k))
    (λ others. in_second (share w.writes later.reads) (share w.reads later.writes || share w.writes later.writes)
    (in_either (share p.reads later.writes) (share p.writes later.writes)
    (λ k. in_first (share w.reads later.writes) (share w.writes later.writes) (share_more p.reads w.reads later.writes parts.0 k))
    (λ k. in_second (share w.reads later.writes) (share w.writes later.writes) (share_more p.writes w.writes later.writes parts.1 k)) others)) e

-- tests that pass where others do
pub all_more : {X : Type 0} (one other : X → Bool) → ((x : X) → one x ≡ true → other x ≡ true) → (xs : List X) → list_all one xs ≡ true → list_all other xs ≡ true
all_more one other f [] all = refl
all_more one other f (x ∷ xs) all =
    let parts = and_parts (one x) (list_all one xs) all in
    in_both (other x) (list_all other xs) (f x parts.0) (all_more one other f xs parts.1)

among_front : (front back : List (List ℕ)) (x : List ℕ) → is_among front x ≡ true → is_among (front ++ back) x ≡ true
among_front front back x e = list_any-append (bytes_eq x) front back ∙ in_first (is_among front x) (is_among back x) e

among_back : (front back : List (List ℕ)) (x : List ℕ) → is_among back x ≡ true → is_among (front ++ back) x ≡ true
among_back front back x e = list_any-append (bytes_eq x) front back ∙ in_second (is_among front x) (is_among back x) e

pub all_among : (xs : List (List ℕ)) → list_all (is_among xs) xs ≡ true
all_among [] = refl
all_among (x ∷ xs) =
    in_both (bytes_eq x x || is_among xs x) (list_all (is_among (x ∷ xs)) xs) (in_first (bytes_eq x x) (is_among xs x) (eq_self x))
    (all_more (is_among xs) (is_among (x ∷ xs)) (λ y e. in_second (bytes_eq y x) (is_among xs y) e) xs (all_among xs))

-- some files, and others with one between them
pub with_one_between : (front : List (List ℕ)) (x : List ℕ) (back : List (List ℕ)) → list_all (is_among ((front ++ x ∷ []) ++ back)) (front ++ back) ≡ true
with_one_between front x back =
    list_all-append (is_among ((front ++ x ∷ []) ++ back)) front back
    ∙ in_both (list_all (is_among ((front ++ x ∷ []) ++ back)) front) (list_all (is_among ((front ++ x ∷ []) ++ back)) back)
    (all_more (is_among front) (is_among ((front ++ x ∷ []) ++ back)) (λ y e. among_front (front ++ x ∷ []) back y (among_front front (x ∷ []) y e)) front (all_among front))
    (all_more (is_among back) (is_among ((front ++ x ∷ []) ++ back)) (λ y e. among_back (front ++ x ∷ []) back y e) back (all_among back))

-- some of the files of a list
pub filtered_among : (test : List ℕ → Bool) (xs : List (List ℕ)) → list_all (is_among xs) (filter test xs) ≡ true
filtered_among test [] = refl
filtered_among test (x ∷ xs) =
    let more = all_more (is_among xs) (is_among (x ∷ xs)) (λ y e. in_second (bytes_eq y x) (is_among xs y) e) (filter test xs) (filtered_among test xs) in
    elim (test x) as (λ b. list_all (is_among (x ∷ xs)) (cond b (x ∷ filter test xs) (filter test xs)) ≡ true) [
      | true ↦ in_both (bytes_eq x x || is_among xs x) (list_all (is_among (x ∷ xs)) (filter test xs)) (in_first (bytes_eq x x) (is_among xs x) (eq_self x)) more
      | false ↦ more
    ]

pub within_itself : (files : CommandFiles) → is_within files files ≡ true
within_itself files =
    in_both (list_all (is_among files.reads) files.reads) (list_all (is_among (record_of files).writes) (record_of files).writes)
    (all_among files.reads) (all_among (record_of files).writes)
