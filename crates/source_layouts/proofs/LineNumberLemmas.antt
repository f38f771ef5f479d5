-- What is joined is found, and a set that shuts out the number of a line is closed.
use Rattle.std.proofs.Common.{◌≡◌, ℕ, zero, suc, ◌+◌, ◌-◌, ◌<◌, ◌≤◌, Bool, true, false, not, ◌&&◌, ◌||◌, List, [], ◌∷◌, ◌++◌, length, take, drop, get_or, refl, ap, sym, subst, ◌∙◌, arith, append_assoc, append-nil, nat_lt}
use Rattle.std.specs.List.{list_all, concat, Contains}
use Rattle.std.proofs.Math.Seq.{drop-append_seam, take-append_seam}
use Rattle.std.proofs.lemmas.Bool.{and_parts, false≢true, ltb-true}
use Rattle.std.proofs.Math.ListN.{get_or-append}
use Rattle.std.proofs.Math.Seq.{get_or-append_seam}
use Rattle.std.proofs.lemmas.List.{length-append}
use Rattle.std.proofs.lemmas.List.Folds.{list_all_at}
use Rattle.source_layouts.specs.LineNumbers.{Set, Defined, IsJoined, IsClosed, MayBecomeLines, line, suffixes, ends_at, joined_up_to, joined_at, is_joined, has_all, goes_on, has_joined, lacks_lines, shuts_out}

-- tests

by_cases : (b : Bool) → (b ≡ false → false ≡ true) → b ≡ true
by_cases true never = refl
by_cases false never = never refl

pub all_contained : {X : Type 0} (test : X → Bool) (xs : List X) (x : X) → list_all test xs ≡ true → Contains xs x → test x ≡ true
all_contained test xs x all at =
    by_cases (test x) (λ isnt. sym (list_all_at test xs at.0 x at.1 (ap test at.2 ∙ isnt)) ∙ all)

implied : (a b : Bool) → (not a || b) ≡ true → a ≡ true → b ≡ true
implied true b is given = is
implied false b is given = absurd (false≢true given)

known : (a b : Bool) → (a || not b) ≡ true → b ≡ true → a ≡ true
known true b is given = refl
known false true is given = absurd (false≢true is)
known false false is given = absurd (false≢true given)

isnt : (a : Bool) → not a ≡ true → a ≡ false
isnt true is = absurd (false≢true is)
isnt false is = refl

-- what is joined

pub length_up_to : (set : Set) (text : List ℕ) (n : ℕ) → length (joined_up_to set text n) ≡ suc n
length_up_to set text zero = refl
length_up_to set text (suc n) =
    length-append (joined_up_to set text n) (joined_at set text (suc n) ∷ [])
    ∙ ap (λ k. k + 1) (length_up_to set text n) ∙ (let e : suc n + 1 ≡ suc (suc n) = omega arith in e)

at_up_to : (set : Set) (text : List ℕ) (n j : ℕ) → j ≤ n → get_or (joined_up_to set text n) j false ≡ joined_at set text j
at_up_to set text zero zero within = refl
at_up_to set text zero (suc j) within = absurd (omega arith)
at_up_to set text (suc n) j within =
    elim (nat_lt j (suc n)) as (λ b. nat_lt j (suc n) ≡ b → get_or (joined_up_to set text (suc n)) j false ≡ joined_at set text j) [
      | true ↦ λ is.
          let less : j < suc n = ltb-true j (suc n) is in
          let inside : j < length (joined_up_to set text n) = subst (λ k. j < k) (sym (length_up_to set text n)) less in
          get_or-append (joined_up_to set text n) (joined_at set text (suc n) ∷ []) false j inside ∙ at_up_to set text n j (omega arith)
      | false ↦ λ isnt.
          let same : j ≡ suc n = not_less j (suc n) within isnt in
          subst (λ k. get_or (joined_up_to set text (suc n)) k false ≡ joined_at set text k) (sym same)
          (subst (λ k. get_or (joined_up_to set text (suc n)) k false ≡ joined_at set text (suc n)) (length_up_to set text n)
          (get_or-append_seam (joined_up_to set text n) (joined_at set text (suc n)) [] false))
    ] refl
  where
    not_less : (a b : ℕ) → a ≤ b → nat_lt a b ≡ false → a ≡ b
    not_less a b within isnt = grind arith

ends_so : (set : Set) (text : List ℕ) (end start j : ℕ) (bs : List Bool) → get_or bs j false ≡ true →
    set (take (end - (start + j)) (drop (start + j) text)) ≡ true → ends_at set text end start bs ≡ true
ends_so set text end start j [] is has = absurd (false≢true is)
ends_so set text end start zero (b ∷ bs) is has =
    either (b && set (take (end - start) (drop start text))) (ends_at set text end (start + 1) bs)
    (both b (set (take (end - start) (drop start text))) is (subst (λ k. set (take (end - k) (drop k text)) ≡ true) (let e : start + 0 ≡ start = omega arith in e) has))
  where
    either : (a b : Bool) → a ≡ true → (a || b) ≡ true
    either a b is = grind arith

    both : (a b : Bool) → a ≡ true → b ≡ true → (a && b) ≡ true
    both a b is too = grind arith
ends_so set text end start (suc j) (b ∷ bs) is has =
    or_later (b && set (take (end - start) (drop start text))) (ends_at set text end (start + 1) bs)
    (ends_so set text end (start + 1) j bs is
    (subst (λ k. set (take (end - k) (drop k text)) ≡ true) (let e : start + suc j ≡ (start + 1) + j = omega arith in e) has))
  where
    or_later : (a b : Bool) → b ≡ true → (a || b) ≡ true
    or_later a b is = grind arith

-- a word of the set joins what is behind it
joins_on : (set : Set) (text front word back : List ℕ) → joined_at set text (length front) ≡ true → set word ≡ true → text ≡ front ++ (word ++ back) →
    joined_at set text (length (front ++ word)) ≡ true
joins_on set text front [] back joined has whole = subst (λ (front : List ℕ). joined_at set text (length front) ≡ true) (sym (append-nil front)) joined
joins_on set text front (c ∷ cs) back joined has whole =
    let m : ℕ = length front + length cs in
    let size : length (front ++ c ∷ cs) ≡ suc m = length-append front (c ∷ cs) ∙ (let e : length front + suc (length cs) ≡ suc (length front + length cs) = omega arith in e) in
    subst (λ k. joined_at set text k ≡ true) (sym size)
    (ends_so set text (suc m) 0 (length front) (joined_up_to set text m)
    (at_up_to set text m (length front) (omega arith) ∙ joined)
    (ap set (part m) ∙ has))
  where
    part : (m : ℕ) → take (suc (length front + length cs) - (0 + length front)) (drop (0 + length front) text) ≡ c ∷ cs
    part m =
        (let e : suc (length front + length cs) - (0 + length front) ≡ suc (length cs) = omega arith in ap (λ k. take k (drop (0 + length front) text)) e)
        ∙ (let e : 0 + length front ≡ length front = omega arith in ap (λ k. take (suc (length cs)) (drop k text)) e)
        ∙ ap (λ (text : List ℕ). take (length (c ∷ cs)) (drop (length front) text)) whole
        ∙ ap (take (length (c ∷ cs))) (drop-append_seam front ((c ∷ cs) ++ back))
        ∙ take-append_seam (c ∷ cs) back

joined_from : (set : Set) (text front : List ℕ) (parts : List (List ℕ)) → joined_at set text (length front) ≡ true → list_all set parts ≡ true → text ≡ front ++ concat parts →
    is_joined set text ≡ true
joined_from set text front [] joined known whole =
    subst (λ (front : List ℕ). joined_at set text (length front) ≡ true) (sym (whole ∙ append-nil front)) joined
joined_from set text front (w ∷ ws) joined known whole =
    let is = and_parts (set w) (list_all set ws) known in
    joined_from set text (front ++ w) ws (joins_on set text front w (concat ws) joined is.0 whole) is.1 (whole ∙ sym (append_assoc front w (concat ws)))

pub joined_found : (set : Set) (text : List ℕ) → IsJoined set text → is_joined set text ≡ true
joined_found set text is = joined_from set text [] is.parts refl is.known (sym is.whole)

-- what is closed

pub closed : (macros : List Defined) (words : List (List ℕ)) (set : Set) → shuts_out macros words set ≡ true → IsClosed macros words set
closed macros words set is =
    let halves = and_parts (lacks_lines set && (has_all set words && has_all set suffixes)) (list_all (goes_on set) macros && list_all (λ m. has_joined set m.name) macros) is in
    let first = and_parts (lacks_lines set) (has_all set words && has_all set suffixes) halves.0 in
    let had = and_parts (has_all set words) (has_all set suffixes) first.1 in
    let rules = and_parts (list_all (goes_on set) macros) (list_all (λ m. has_joined set m.name) macros) halves.1 in
    let lacks = and_parts (not (set line)) (not (is_joined set line)) first.0 in
    record {
      has = λ word at. all_contained set words word had.0 at;
      suffix = λ word at. all_contained set suffixes word had.1 at;
      becomes = λ m at name word of. all_contained set m.words word (implied (set m.name) (has_all set m.words) (all_contained (goes_on set) macros m rules.0 at) name) of;
      joins = λ m at joined. known (set m.name) (is_joined set m.name) (all_contained (λ m. has_joined set m.name) macros m rules.1 at) (joined_found set m.name joined);
      number = λ joined. absurd (false≢true (sym (isnt (is_joined set line) lacks.1) ∙ joined_found set line joined));
    }

pub shut_out : (macros : List Defined) (words : List (List ℕ)) (set : Set) → shuts_out macros words set ≡ true → MayBecomeLines macros words → ⊥
shut_out macros words set is may =
    let halves = and_parts (lacks_lines set && (has_all set words && has_all set suffixes)) (list_all (goes_on set) macros && list_all (λ m. has_joined set m.name) macros) is in
    let first = and_parts (lacks_lines set) (has_all set words && has_all set suffixes) halves.0 in
    let lacks = and_parts (not (set line)) (not (is_joined set line)) first.0 in
    false≢true (sym (isnt (set line) lacks.0) ∙ may set (closed macros words set is))
