-- Every order by the needs does what the plan's own order does.
use Rattle.std.proofs.Common.{◌≡◌, ℕ, zero, suc, ◌+◌, ◌<◌, ◌≤◌, List, [], ◌∷◌, ◌++◌, Bool, true, false, cond, ◌&&◌, ◌||◌, ◌==◌, Option, Some, map, length, get_or, refl, sym, ap, subst, ◌∙◌, arith, IsPermutation, bytes_eq}
use Rattle.std.specs.List.{filter, list_all, range_with_len, sum_by}
use Rattle.std.proofs.lemmas.Bool.{false≢true, and_parts, or_parts, eqb-true, eq-eqb, lt-ltb, ltb-true}
use Rattle.std.proofs.lemmas.List.Folds.{list_any-append}
use Rattle.std.proofs.lemmas.List.Sums.{sum_by-cons, sum_by-append}
use Rattle.std.proofs.lemmas.List.Sorted.{sum_by-IsPermutation}
use Rattle.std.proofs.lemmas.Slice.Eq.{bytes_eq-Decides}
use Rattle.command_files.specs.Files.{Files, is_among, share, touches, must_follow}
use Rattle.command_files.specs.Order.{numbers_where, is_in, is_ready, needs_at, own_order, are_ordered, has_one_place, Contents, Effect, contents_after, contents_read, files_at, writers, may_see, StaysWithin, AllStayWithin, Hold, OrdersAgree, RunsAgree}

-- Tests.

pub in_either : {P : Type 0} (a b : Bool) → (a ≡ true → P) → (b ≡ true → P) → (a || b) ≡ true → P
in_either a b f g e = grind arith

pub in_first : (a b : Bool) → a ≡ true → (a || b) ≡ true
in_first a b e = grind (arith, false≢true)

pub in_second : (a b : Bool) → b ≡ true → (a || b) ≡ true
in_second a b e = grind arith

pub in_neither : (a b : Bool) → a ≡ false → b ≡ false → (a || b) ≡ false
in_neither a b e f = grind (arith, false≢true)

pub in_both : (a b : Bool) → a ≡ true → b ≡ true → (a && b) ≡ true
in_both a b e f = grind (arith, false≢true)

-- a test that can't hold fails
pub fails : (b : Bool) → (b ≡ true → ⊥) → b ≡ false
fails b f = grind arith

-- Commands that share no written file.

apart : (some others : List (List ℕ)) (file : List ℕ) → share some others ≡ false → is_among some file ≡ true → is_among others file ≡ false
apart [] others file e h = absurd (false≢true h)
apart (x ∷ xs) others file e h = grind (arith, or_parts, in_either, bytes_eq-Decides, (apart xs others file))

apart_back : (some others : List (List ℕ)) (file : List ℕ) → share some others ≡ false → is_among others file ≡ true → is_among some file ≡ false
apart_back some others file e h = fails (is_among some file) (λ k. false≢true (sym (apart some others file e k) ∙ h))

record Apart (a b : Files) : Type 0 where
  first : (file : List ℕ) → is_among a.writes file ≡ true → touches b file ≡ false
  second : (file : List ℕ) → is_among b.writes file ≡ true → touches a file ≡ false

apart_if_free : (a b : Files) → must_follow a b ≡ false → Apart a b
apart_if_free a b e =
    let read : (share a.writes b.reads ≡ false) × ((share a.reads b.writes || share a.writes b.writes) ≡ false) = or_parts (share a.writes b.reads) (share a.reads b.writes || share a.writes b.writes) e in
    let written : (share a.reads b.writes ≡ false) × (share a.writes b.writes ≡ false) = or_parts (share a.reads b.writes) (share a.writes b.writes) read.1 in
    record {
      first = λ file h. in_neither (is_among b.reads file) (is_among b.writes file) (apart a.writes b.reads file read.0 h) (apart a.writes b.writes file written.1 h);
      second = λ file h. in_neither (is_among a.reads file) (is_among a.writes file) (apart_back a.reads b.writes file written.0 h) (apart_back a.writes b.writes file written.1 h);
    }

turned : (a b : Files) → Apart a b → Apart b a
turned a b h = record { first = h.second; second = h.first }

-- Numbers of the commands that pass a test.

-- a number that passes is among those that do
pub passes : {X : Type 0} (test : X → Bool) (d : X) (n : ℕ) (xs : List X) (i : ℕ) → i < length xs → test (get_or xs i d) ≡ true → is_in (numbers_where test n xs) (n + i) ≡ true
passes test d n [] i h e = absurd (omega arith)
passes test d n (x ∷ xs) zero h e = grind (arith, in_first, eq-eqb)
passes test d n (x ∷ xs) (suc i) h e = grind (arith, list_any-append, in_second, (passes test d (n + 1) xs i (omega arith) e))

pub all_pass : (test : ℕ → Bool) (xs : List ℕ) (n : ℕ) → list_all test xs ≡ true → is_in xs n ≡ true → test n ≡ true
all_pass test [] n h e = absurd (false≢true e)
all_pass test (x ∷ xs) n h e = grind (arith, in_either, eqb-true, (all_pass test xs n))

written_by_it : (plan : List Files) (n : ℕ) (file : List ℕ) → n < length plan → is_among (files_at plan n).writes file ≡ true → is_in (writers plan file) n ≡ true
written_by_it plan n file h w =
    let here : 0 + n ≡ n = omega arith in
    grind (arith, passes)

-- Two commands that no need orders, share no written file and stay within their records.

record Free (plan : List Files) (needs : List (List ℕ)) (a b : ℕ) (ea eb : Effect) : Type 0 where
  within_a : StaysWithin plan needs a ea
  within_b : StaysWithin plan needs b eb
  apart : Apart (files_at plan a) (files_at plan b)
  there_a : a < length plan
  there_b : b < length plan
  loose_a : are_ordered needs a b ≡ false
  loose_b : are_ordered needs b a ≡ false

turned_free : (plan : List Files) (needs : List (List ℕ)) (a b : ℕ) (ea eb : Effect) → Free plan needs a b ea eb → Free plan needs b a eb ea
turned_free plan needs a b ea eb h = grind (arith, apart, turned)

-- what one may see the other doesn't write
unseen : (plan : List Files) (needs : List (List ℕ)) (a b : ℕ) (ea eb : Effect) → Free plan needs a b ea eb → (file : List ℕ) → may_see plan needs a file ≡ true → is_among (files_at plan b).writes file ≡ false
unseen plan needs a b ea eb h file see =
    fails (is_among (files_at plan b).writes file)
    (λ w. false≢true (sym (in_neither (touches (files_at plan a) file) (list_all (are_ordered needs a) (writers plan file)) (h.apart.second file w)
    (fails (list_all (are_ordered needs a) (writers plan file))
    (λ all. false≢true (sym h.loose_a ∙ all_pass (are_ordered needs a) (writers plan file) b all (written_by_it plan b file h.there_b w))))) ∙ see))

-- one after the other in a file that the first of them writes
exchange_written : (plan : List Files) (needs : List (List ℕ)) (a b : ℕ) (ea eb : Effect) → Free plan needs a b ea eb → (c : Contents) (file : List ℕ) → is_among (files_at plan a).writes file ≡ true → ea (eb c) file ≡ eb (ea c) file
exchange_written plan needs a b ea eb h c file w = grind (arith, unseen, or_parts)

exchange_at : (plan : List Files) (needs : List (List ℕ)) (a b : ℕ) (ea eb : Effect) → Free plan needs a b ea eb → (c : Contents) (file : List ℕ) → ea (eb c) file ≡ eb (ea c) file
exchange_at plan needs a b ea eb h c file =
    let first = exchange_written plan needs a b ea eb h c file in
    let second = exchange_written plan needs b a eb ea (turned_free plan needs a b ea eb h) c file in
    grind (arith, first, second, (h.within_a.changes (eb c) file), (h.within_b.changes c file), (h.within_b.changes (ea c) file), (h.within_a.changes c file))

-- what a command reads is the same behind another
reads_same : (plan : List Files) (needs : List (List ℕ)) (a b : ℕ) (ea eb : Effect) → Free plan needs a b ea eb → (c : Contents) (files : List (List ℕ)) → ((file : List ℕ) → is_among files file ≡ true → touches (files_at plan a) file ≡ true) → map (eb c) files ≡ map c files
reads_same plan needs a b ea eb h c [] among = refl
reads_same plan needs a b ea eb h c (f ∷ fs) among =
    let own : Files = files_at plan a in
    let same : eb c f ≡ c f =
    h.within_b.changes c f (unseen plan needs a b ea eb h f (in_first (touches own f) (list_all (are_ordered needs a) (writers plan f)) (among f (in_first (bytes_eq f f) (is_among fs f) ((bytes_eq-Decides f f).1 refl))))) in
    let rest : map (eb c) fs ≡ map c fs = reads_same plan needs a b ea eb h c fs (λ file k. among file (in_second (bytes_eq file f) (is_among fs file) k)) in
    λ i. same i ∷ rest i

-- what holds of a command that may change places with the one behind it
record Exchange (files : ℕ → Files) (effects : ℕ → Effect) (p x : ℕ) : Type 0 where
  both : (c : Contents) → effects p (effects x c) ≡ effects x (effects p c)
  reads_first : (c : Contents) → map (effects x c) (files p).reads ≡ map c (files p).reads
  reads_second : (c : Contents) → map (effects p c) (files x).reads ≡ map c (files x).reads

exchange : (plan : List Files) (needs : List (List ℕ)) (effects : ℕ → Effect) (p x : ℕ) → Free plan needs p x (effects p) (effects x) → Exchange (files_at plan) effects p x
exchange plan needs effects p x h = record {
  both = λ c i file. exchange_at plan needs p x (effects p) (effects x) h c file i;
  reads_first = λ c. reads_same plan needs p x (effects p) (effects x) h c (files_at plan p).reads (λ file k. in_first (is_among (files_at plan p).reads file) (is_among (files_at plan p).writes file) k);
  reads_second = λ c. reads_same plan needs x p (effects x) (effects p) (turned_free plan needs p x (effects p) (effects x) h) c (files_at plan x).reads (λ file k. in_first (is_among (files_at plan x).reads file) (is_among (files_at plan x).writes file) k);
}

-- Moving a command to the front.

each_below : (a : ℕ) (xs : List ℕ) (x : ℕ) → is_in xs x ≡ true → is_in (a ∷ xs) x ≡ true
each_below a xs x e = in_second (a == x) (is_in xs x) e

at_head : (a : ℕ) (xs : List ℕ) → is_in (a ∷ xs) a ≡ true
at_head a xs = in_first (a == a) (is_in xs a) (eq-eqb a a refl)

moved : (files : ℕ → Files) (effects : ℕ → Effect) (p : ℕ) (before after : List ℕ) → ((x : ℕ) → is_in before x ≡ true → Exchange files effects p x) → (c : Contents) → contents_after effects (before ++ p ∷ after) c ≡ contents_after effects (before ++ after) (effects p c)
moved files effects p [] after h c = refl
moved files effects p (a ∷ before) after h c =
    moved files effects p before after (λ x k. h x (each_below a before x k)) (effects a c)
    ∙ ap (contents_after effects (before ++ after)) ((h a (at_head a before)).both c)

exchange_tests : {X : Type 0} (u v : Bool) (x y z : X) → (u ≡ true → v ≡ true → ⊥) → cond u x (cond v y z) ≡ cond v y (cond u x z)
exchange_tests u v x y z h = grind arith

moved_reads : (files : ℕ → Files) (effects : ℕ → Effect) (k p : ℕ) (before after : List ℕ) → is_in before p ≡ false → ((x : ℕ) → is_in before x ≡ true → Exchange files effects p x) → (c : Contents) → contents_read files effects k (before ++ p ∷ after) c ≡ contents_read files effects k (p ∷ (before ++ after)) c
moved_reads files effects k p [] after new h c = refl
moved_reads files effects k p (a ∷ before) after new h c =
    let parts : ((a == p) ≡ false) × (is_in before p ≡ false) = or_parts (a == p) (is_in before p) new in
    let swap : Exchange files effects p a = h a (at_head a before) in
    let rest : Contents → Option (List (Option (List ℕ))) = contents_read files effects k (before ++ after) in
    let inner : contents_read files effects k (before ++ p ∷ after) (effects a c) ≡ cond (p == k) (Some (map (effects a c) (files p).reads)) (rest (effects p (effects a c))) =
    moved_reads files effects k p before after parts.1 (λ x m. h x (each_below a before x m)) (effects a c) in
    ap (cond (a == k) (Some (map c (files a).reads))) (inner ∙ ap (λ (r : List (Option (List ℕ))). cond (p == k) (Some r) (rest (effects p (effects a c)))) (swap.reads_first c))
    ∙ exchange_tests (a == k) (p == k) (Some (map c (files a).reads)) (Some (map c (files p).reads)) (rest (effects p (effects a c)))
    (λ e f. false≢true (sym parts.0 ∙ eq-eqb a p (eqb-true a k e ∙ sym (eqb-true p k f))))
    ∙ (λ i. cond (p == k) (Some (map c (files p).reads)) (cond (a == k) (Some (sym (swap.reads_second c) i)) (rest (swap.both c i))))

-- How often numbers are in a list.

abbrev mark : ℕ → ℕ → ℕ
mark n x = cond (x == n) 1 0

times : ℕ → List ℕ → ℕ
times n xs = sum_by (mark n) xs

times-nil : (n : ℕ) → times n [] ≡ 0
unfolding times
times-nil n = refl

times-cons : (n x : ℕ) (xs : List ℕ) → times n (x ∷ xs) ≡ mark n x + times n xs
unfolding times
times-cons n x xs = sum_by-cons (mark n) x xs

times-append : (n : ℕ) (xs ys : List ℕ) → times n (xs ++ ys) ≡ times n xs + times n ys
unfolding times
times-append n xs ys = sum_by-append (mark n) xs ys

times-permutation : (n : ℕ) (xs ys : List ℕ) → IsPermutation xs ys → times n ys ≡ times n xs
unfolding times
times-permutation n xs ys h = sum_by-IsPermutation (mark n) xs ys h

times-in : (n : ℕ) (xs : List ℕ) → is_in xs n ≡ true → 1 ≤ times n xs
times-in n [] e = absurd (false≢true e)
times-in n (x ∷ xs) e = grind (arith, times-cons, (times-in n xs))

in-times : (n : ℕ) (xs : List ℕ) → 1 ≤ times n xs → is_in xs n ≡ true
in-times n [] h = let none = times-nil n in absurd (omega arith)
in-times n (x ∷ xs) h = grind (arith, times-cons, (in-times n xs))

-- A number's first place.

record Split (n : ℕ) (xs : List ℕ) : Type 0 where
  before : List ℕ
  after : List ℕ
  is : xs ≡ before ++ n ∷ after
  new : is_in before n ≡ false

split : (n : ℕ) (xs : List ℕ) → is_in xs n ≡ true → Split n xs
split n [] e = absurd (false≢true e)
split n (x ∷ xs) e =
    let ih : (is_in xs n ≡ true → Split n xs) = split n xs in
    (elim (x == n) as (λ b. (x == n) ≡ b → (b || is_in xs n) ≡ true → Split n (x ∷ xs)) [
      | true ↦ λ k m. record { before = []; after = xs; is = ap (λ y. y ∷ xs) (eqb-true x n k); new = refl }
      | false ↦ λ k m.
          let s : Split n xs = ih m in
          record { before = x ∷ s.before; after = s.after; is = ap (λ ys. x ∷ ys) s.is; new = in_neither (x == n) (is_in s.before n) k s.new }
    ]) refl e

-- What is ready.

all_more : (test more : ℕ → Bool) → ((n : ℕ) → test n ≡ true → more n ≡ true) → (xs : List ℕ) → list_all test xs ≡ true → list_all more xs ≡ true
all_more test more f [] h = refl
all_more test more f (x ∷ xs) h = grind (arith, in_both, (all_more test more f xs))

more_behind : (a : ℕ) (done more : List ℕ) → ((n : ℕ) → is_in done n ≡ true → is_in more n ≡ true) → (n : ℕ) → is_in (a ∷ done) n ≡ true → is_in (a ∷ more) n ≡ true
more_behind a done more f n e = in_either (a == n) (is_in done n) (λ k. in_first (a == n) (is_in more n) k) (λ k. in_second (a == n) (is_in more n) (f n k)) e

ready_more : (needs : ℕ → List ℕ) (done more xs : List ℕ) → ((n : ℕ) → is_in done n ≡ true → is_in more n ≡ true) → is_ready needs done xs ≡ true → is_ready needs more xs ≡ true
ready_more needs done more [] f h = refl
ready_more needs done more (x ∷ xs) f h =
    grind (arith, in_both, all_more, more_behind, (ready_more needs (x ∷ done) (x ∷ more) xs (more_behind x done more f)))

-- a command may run first where an order is ready
ready_moved : (needs : ℕ → List ℕ) (done : List ℕ) (p : ℕ) (before after : List ℕ) → is_ready needs done (before ++ p ∷ after) ≡ true → is_ready needs (p ∷ done) (before ++ after) ≡ true
ready_moved needs done p [] after h = (and_parts (list_all (is_in done) (needs p)) (is_ready needs (p ∷ done) after) h).1
ready_moved needs done p (a ∷ before) after h =
    grind (arith, in_both, all_more, each_below, ready_more, (ready_moved needs (a ∷ done) p before after))

-- none of the commands before one needs it
not_needed : (needs : ℕ → List ℕ) (done : List ℕ) (p : ℕ) (before after : List ℕ) → is_in done p ≡ false → is_in before p ≡ false → is_ready needs done (before ++ p ∷ after) ≡ true → (x : ℕ) → is_in before x ≡ true → is_in (needs x) p ≡ false
not_needed needs done p [] after fresh new h x e = absurd (false≢true e)
not_needed needs done p (a ∷ before) after fresh new h x e =
    grind (arith, or_parts, in_either, eqb-true, fails, all_pass, in_neither, (not_needed needs (a ∷ done) p before after))

-- The theorem, over the numbers of a plan.

-- numbers of which none is twice in the list
abbrev Distinct : List ℕ → Type 0
Distinct [] = Unit {0}
Distinct (p ∷ ps) = (is_in ps p ≡ false) × Distinct ps

-- each command may change places with the later ones that don't need it
abbrev Exchanged : (ℕ → Files) → (ℕ → Effect) → (ℕ → List ℕ) → List ℕ → Type 0
Exchanged files effects needs [] = Unit {0}
Exchanged files effects needs (p ∷ ps) = ((x : ℕ) → is_in ps x ≡ true → is_in (needs x) p ≡ false → Exchange files effects p x) × Exchanged files effects needs ps

record Same (files : ℕ → Files) (effects : ℕ → Effect) (one other : List ℕ) (c : Contents) : Type 0 where
  leaves : contents_after effects one c ≡ contents_after effects other c
  reads : (k : ℕ) → contents_read files effects k one c ≡ contents_read files effects k other c

agree : (files : ℕ → Files) (needs : ℕ → List ℕ) (effects : ℕ → Effect) (ps os done : List ℕ)
    → Distinct ps → ((n : ℕ) → times n os ≡ times n ps) → ((n : ℕ) → is_in ps n ≡ true → is_in done n ≡ false)
    → Exchanged files effects needs ps → is_ready needs done os ≡ true
    → (c : Contents) → Same files effects os ps c
agree files needs effects [] [] done distinct same fresh swaps ready c = record { leaves = refl; reads = λ k. refl }
agree files needs effects [] (x ∷ xs) done distinct same fresh swaps ready c = grind (arith, (times-nil x), (times-cons x x xs), (same x))
agree files needs effects (p ∷ ps) os done distinct same fresh swaps ready c =
    let counted : 1 ≤ times p (p ∷ ps) = times-in p (p ∷ ps) (at_head p ps) in
    let count = same p in
    let s : Split p os = split p os (in-times p os (omega arith)) in
    let rest : List ℕ = s.before ++ s.after in
    let whole : is_ready needs done (s.before ++ p ∷ s.after) ≡ true = subst (λ (xs : List ℕ). is_ready needs done xs ≡ true) s.is ready in
    let same_rest : ((n : ℕ) → times n (s.before ++ s.after) ≡ times n ps) =
    λ n.
    let all = same n in
    let cut : times n os ≡ times n (s.before ++ p ∷ s.after) = ap (times n) s.is in
    let a = times-append n s.before (p ∷ s.after) in
    let b = times-append n s.before s.after in
    let d = times-cons n p s.after in
    let e = times-cons n p ps in
    omega arith in
    let later : ((x : ℕ) → is_in s.before x ≡ true → is_in ps x ≡ true) =
    λ x k.
    let some : 1 ≤ times x s.before = times-in x s.before k in
    let b = times-append x s.before s.after in
    let all = same_rest x in
    in-times x ps (omega arith) in
    let unneeded : ((x : ℕ) → is_in s.before x ≡ true → is_in (needs x) p ≡ false) = not_needed needs done p s.before s.after (fresh p (at_head p ps)) s.new whole in
    let exchanges : ((x : ℕ) → is_in s.before x ≡ true → Exchange files effects p x) = λ x k. swaps.0 x (later x k) (unneeded x k) in
    let fresh_rest : ((n : ℕ) → is_in ps n ≡ true → is_in (p ∷ done) n ≡ false) =
    λ n k. in_neither (p == n) (is_in done n)
    (fails (p == n) (λ m. false≢true (sym distinct.0 ∙ (ap (is_in ps) (eqb-true p n m) ∙ k))))
    (fresh n (each_below p ps n k)) in
    let ih : Same files effects rest ps (effects p c) =
    agree files needs effects ps rest (p ∷ done) distinct.1 same_rest fresh_rest swaps.1 (ready_moved needs done p s.before s.after whole) (effects p c) in
    record {
      leaves = ap (λ (xs : List ℕ). contents_after effects xs c) s.is ∙ moved files effects p s.before s.after exchanges c ∙ ih.leaves;
      reads = λ k. ap (λ (xs : List ℕ). contents_read files effects k xs c) s.is ∙ moved_reads files effects k p s.before s.after s.new exchanges c ∙ ap (cond (p == k) (Some (map c (files p).reads))) (ih.reads k);
    }

-- Plans.

pub in_range : (a n x : ℕ) → is_in (range_with_len a n) x ≡ true → (a ≤ x) × (x < a + n)
in_range a zero x e = absurd (false≢true e)
in_range a (suc n) x e = grind (arith, (in_range (a + 1) n x))

range_is_distinct : (a n : ℕ) → Distinct (range_with_len a n)
range_is_distinct a zero = tt
range_is_distinct a (suc n) = grind (arith, fails, in_range, (range_is_distinct (a + 1) n))

range_has : (a n x : ℕ) → a ≤ x → x < a + n → is_in (range_with_len a n) x ≡ true
range_has a zero x h k = absurd (omega arith)
range_has a (suc n) x h k = grind (arith, (range_has (a + 1) n x))

-- then neither has one place in all orders
many_places : (needs : List (List ℕ)) (n m : ℕ) → m < length needs → (m ≡ n → ⊥) → are_ordered needs m n ≡ false → has_one_place needs n ≡ false
many_places needs n m h differ e =
    fails (has_one_place needs n)
    (λ all. false≢true (sym (in_neither (m == n) (are_ordered needs m n) (fails (m == n) (λ k. differ (eqb-true m n k))) e)
    ∙ all_pass (λ k. k == n || are_ordered needs k n) (own_order needs) m all (range_has 0 (length needs) m (omega arith) (omega arith))))

free : (plan : List Files) (needs : List (List ℕ)) (effects : ℕ → Effect) → Hold must_follow plan needs → AllStayWithin plan needs effects
    → (a x : ℕ) → a < x → x < length plan → is_in (needs_at needs x) a ≡ false → Free plan needs a x (effects a) (effects x)
free plan needs effects holds stay a x h k e =
    let forth : are_ordered needs a x ≡ false = ap (λ b. cond b (is_in (needs_at needs x) a) (is_in (needs_at needs a) x)) (lt-ltb a x h) ∙ e in
    let back : are_ordered needs x a ≡ false = grind (arith, fails, ltb-true) in
    grind (arith, many_places, apart, apart_if_free, fails, false≢true)

range_exchanges : (plan : List Files) (needs : List (List ℕ)) (effects : ℕ → Effect) → Hold must_follow plan needs → AllStayWithin plan needs effects
    → (a n : ℕ) → a + n ≡ length plan → Exchanged (files_at plan) effects (needs_at needs) (range_with_len a n)
range_exchanges plan needs effects holds stay a zero e = tt
range_exchanges plan needs effects holds stay a (suc n) e = (
  λ x k u.
      let place : (a + 1 ≤ x) × (x < (a + 1) + n) = in_range (a + 1) n x k in
      exchange plan needs effects a x (free plan needs effects holds stay a x (omega arith) (omega arith) u),
  range_exchanges plan needs effects holds stay (a + 1) n (omega arith),
)

-- some of the commands
in_filter : (test : ℕ → Bool) (xs : List ℕ) (x : ℕ) → is_in (filter test xs) x ≡ true → is_in xs x ≡ true
in_filter test [] x e = absurd (false≢true e)
in_filter test (y ∷ ys) x e = grind (arith, (in_filter test ys x))

some_distinct : (test : ℕ → Bool) (xs : List ℕ) → Distinct xs → Distinct (filter test xs)
some_distinct test [] d = tt
some_distinct test (x ∷ xs) d = grind (arith, fails, false≢true, in_filter, (some_distinct test xs d.1))

some_exchange : (files : ℕ → Files) (effects : ℕ → Effect) (needs : ℕ → List ℕ) (test : ℕ → Bool) (xs : List ℕ) → Exchanged files effects needs xs → Exchanged files effects needs (filter test xs)
some_exchange files effects needs test [] h = tt
some_exchange files effects needs test (x ∷ xs) h = grind (arith, in_filter, (some_exchange files effects needs test xs h.1))

pub orders_agree : OrdersAgree must_follow
orders_agree plan needs order effects contents holds is stay =
    let n : ℕ = length needs in
    let bound = holds.each in
    let same : Same (files_at plan) effects order (own_order needs) contents =
    agree (files_at plan) (needs_at needs) effects (own_order needs) order []
    (range_is_distinct 0 n)
    (λ k. times-permutation k (own_order needs) order is.each_once)
    (λ k e. refl)
    (range_exchanges plan needs effects holds stay 0 n (omega arith))
    is.ready contents in
    record { leaves = λ file i. same.leaves i file; reads = same.reads }

pub runs_agree : RunsAgree must_follow
runs_agree plan needs ran effects contents holds is stay =
    let n : ℕ = length needs in
    let bound = holds.each in
    let own : List ℕ = filter (is_in ran) (own_order needs) in
    let same : Same (files_at plan) effects ran own contents =
    agree (files_at plan) (needs_at needs) effects own ran []
    (some_distinct (is_in ran) (own_order needs) (range_is_distinct 0 n))
    (λ k. times-permutation k own ran is.each_once)
    (λ k e. refl)
    (some_exchange (files_at plan) effects (needs_at needs) (is_in ran) (own_order needs) (range_exchanges plan needs effects holds stay 0 n (omega arith)))
    is.ready contents in
    record { leaves = λ file i. same.leaves i file; reads = same.reads }
