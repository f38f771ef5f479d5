-- Where the input stands in a line, in the words left of it, and in the line that it is written back as.
use Rattle.std.proofs.Common.{◌≡◌, ℕ, zero, suc, ◌+◌, ◌-◌, ◌≤◌, ◌<◌, List, [], ◌∷◌, ◌++◌, Bool, true, false, cond, ◌||◌, eqb, ne_eqb, Some, None, refl, ap, sym, ◌∙◌, subst, append_assoc, append-nil, filter, length, take, drop, take-append-drop, nat_le, nat_eq, arith, codes, option_map}
use Rattle.std.specs.List.{AllByRecursion, position, remove, ends_with}
use Rattle.std.specs.Cmp.Lexicographic.{pointwise}
use Rattle.std.proofs.lemmas.Bool.{false≢true, and_parts}
use Rattle.std.proofs.lemmas.Bool.Decides.{Decides-ltb, nat_tests}
use Rattle.std.proofs.lemmas.List.{length-append}
use Rattle.std.proofs.lemmas.Slice.Eq.{bytes_eq-Decides}
use Rattle.std.specs.Option.{option_or}
use Rattle.texts.specs.declared.language.Language.{Language}
use Rattle.texts.specs.declared.language.Language.TheVariants.{C, Cxx, ObjectiveC, ObjectiveCxx, Cuda, CudaFE, Ptx, Cubin}
use Rattle.texts.specs.Path.{is_absolute_path, separator_after, joined, lacks}
use Rattle.texts.proofs.PathLemmas.{false-not_true, not-is}
use Rattle.device_lines.proofs.RereadWords.{all-append}
use Rattle.device_lines.specs.Reading.{is_input_word, place_from_end, input_place}

-- the first place of a list with one more element in front
position-cons : {X : Type 0} (p : X → Bool) (x : X) (xs : List X) → position p (x ∷ xs) ≡ cond (p x) (Some 0) (option_map suc (position p xs))
position-cons p x xs = grind (arith, Decides-ltb, false-not_true, false≢true)

module _ {X : Type 0} (p : X → Bool) where
  -- no element passes
  abbrev pub NonePass : List X → Type 0
  NonePass xs = AllByRecursion (λ x. p x ≡ false) xs

  -- after elements that don't pass, the first place is that of the element after them, where it passes
  pub position-after : (xs : List X) (y : X) (ys : List X) → NonePass xs → p y ≡ true → position p (xs ++ y ∷ ys) ≡ Some (length xs)
  position-after [] y ys h e = position-cons p y ys ∙ rw e refl
  position-after (x ∷ xs) y ys h e = position-cons p x (xs ++ y ∷ ys) ∙ rw (h.0, position-after xs y ys h.1 e) refl

  pub position-none : (xs : List X) → NonePass xs → position p xs ≡ None
  position-none [] h = refl
  position-none (x ∷ xs) h = position-cons p x xs ∙ rw (h.0, position-none xs h.1) refl

  none-position : (xs : List X) → position p xs ≡ None → NonePass xs
  none-position [] h = tt
  none-position (x ∷ xs) h = grind (arith, (position-cons p x xs), (none-position xs))

  -- where at most no element passes, none does
  filter-none : (xs : List X) → length (filter p xs) ≤ 0 → NonePass xs
  filter-none [] h = tt
  filter-none (x ∷ xs) h = grind (arith, (filter-none xs))

  none-removed : (xs : List X) (place : ℕ) → NonePass xs → NonePass (remove xs place)
  none-removed [] zero h = tt
  none-removed [] (suc place) h = tt
  none-removed (x ∷ xs) zero h = h.1
  none-removed (x ∷ xs) (suc place) h = (h.0, none-removed xs place h.1)

  -- without the first element that passes, none does where at most one did
  one-removed : (xs : List X) (place : ℕ) → length (filter p xs) ≤ 1 → position p xs ≡ Some place → NonePass (remove xs place)
  one-removed [] place h at = let never : None ≡ Some place = at in cc
  one-removed (x ∷ xs) place h at =
      elim (p x) as (λ b. p x ≡ b → length (cond b (x ∷ filter p xs) (filter p xs)) ≤ 1 → cond b (Some 0) (option_map suc (position p xs)) ≡ Some place → NonePass (remove (x ∷ xs) place)) [
        | true ↦ λ e k is.
            let first : 0 ≡ place = cc in
            subst (λ n. NonePass (remove (x ∷ xs) n)) first (filter-none xs (fewer (filter p xs) k))
        | false ↦ λ e k is.
            elim (position p xs) as (λ o. position p xs ≡ o → option_map suc o ≡ Some place → NonePass (remove (x ∷ xs) place)) [
              | None ↦ λ found none. let never : None ≡ Some place = none in cc
              | Some at' ↦ λ found some.
                  let next : suc at' ≡ place = cc in
                  subst (λ n. NonePass (remove (x ∷ xs) n)) next (e, one-removed xs at' k found)
            ] refl is
      ] refl h (sym (position-cons p x xs) ∙ at) where
        fewer : (ys : List X) → length (x ∷ ys) ≤ 1 → length ys ≤ 0
        fewer ys h = omega arith

-- the words left of a line, where at most one of its words is by its end the input
pub rest-none : (language : Language) (offset : ℕ) (words : List (List ℕ)) (place : ℕ) → length (filter (is_input_word language) words) ≤ 1 → input_place language offset words ≡ Some place → NonePass (is_input_word language) (remove words place)
rest-none language offset words place few at = grind (arith, none-removed, none-position, one-removed)

-- the place from the end, where so many words stand before it
from-end : (offset before count : ℕ) → 0 < offset → count ≡ before + offset → place_from_end offset count ≡ Some before
from-end offset before count some e = grind (arith, Decides-ltb, nat_tests)

-- the input of a line that is written with it as the third last word
pub third-last : (language : Language) (words : List (List ℕ)) (input option path : List ℕ) → NonePass (is_input_word language) words → is_input_word language option ≡ false → is_input_word language path ≡ false → input_place language 3 (words ++ input ∷ option ∷ path ∷ []) ≡ Some (length words)
third-last language words input option path none other away =
    let test = is_input_word language in
    let back = place_from_end 3 (length (words ++ input ∷ option ∷ path ∷ [])) in
    elim (test input) as (λ b. test input ≡ b → option_or (position test (words ++ input ∷ option ∷ path ∷ [])) back ≡ Some (length words)) [
      | true ↦ λ e. ap (λ o. option_or o back) (position-after test words input (option ∷ path ∷ []) none e)
      | false ↦ λ e.
          let nowhere = position-none test (words ++ input ∷ option ∷ path ∷ []) (all-append (λ w. test w ≡ false) words (input ∷ option ∷ path ∷ []) none (e, (other, (away, tt)))) in
          ap (λ o. option_or o back) nowhere ∙ from-end 3 (length words) (length (words ++ input ∷ option ∷ path ∷ [])) (omega arith) (length-append words (input ∷ option ∷ path ∷ []))
    ] refl

-- the input of a cudafe++ line that is written with it as the last word
none-host : (words : List (List ℕ)) → NonePass (is_input_word CudaFE) words
none-host [] = tt
none-host (w ∷ words) = (refl, none-host words)

pub host-words : (words : List (List ℕ)) → length (filter (is_input_word CudaFE) words) ≤ 1
host-words [] = omega arith
host-words (w ∷ words) = host-words words

pub last-place : (words : List (List ℕ)) (input : List ℕ) → input_place CudaFE 1 (words ++ input ∷ []) ≡ Some (length words)
last-place words input = grind (arith, position-none, none-host, from-end, length-append)

-- a line with its input cut out
pub cut-rest : {X : Type 0} (xs : List X) (y : X) (ys : List X) → remove (xs ++ y ∷ ys) (length xs) ≡ xs ++ ys
cut-rest [] y ys = refl
cut-rest (x ∷ xs) y ys = ap (λ t. x ∷ t) (cut-rest xs y ys)

-- an end without `/` isn't longer than what follows the last `/`
apart-slash : (needle front name : List ℕ) → lacks 47 needle ≡ true → pointwise nat_eq needle (front ++ 47 ∷ name) ≡ false
apart-slash [] [] name h = refl
apart-slash [] (x ∷ front) name h = refl
apart-slash (c ∷ needle) [] name h = grind (arith, and_parts, not-is)
apart-slash (c ∷ needle) (x ∷ front) name h = grind (arith, (apart-slash needle front name))

-- a text with one more byte in front ends like another only if it is that one, or ended like it before
ends-cons : (needle text : List ℕ) (c : ℕ) → pointwise nat_eq needle (c ∷ text) ≡ false → ends_with nat_eq text needle ≡ false → ends_with nat_eq (c ∷ text) needle ≡ false
ends-cons needle text c other none =
    elim (nat_le (length needle) (length text)) as (λ b. nat_le (length needle) (length text) ≡ b → ends_with nat_eq (c ∷ text) needle ≡ false) [
      | true ↦ λ e.
          let fits : length needle ≤ length text = grind (arith, nat_tests) in
          let start : length (c ∷ text) - length needle ≡ suc (length text - length needle) = omega arith in
          ap (λ n. pointwise nat_eq needle (drop n (c ∷ text))) start ∙ none
      | false ↦ λ e.
          let longer : length text < length needle = grind (arith, nat_tests) in
          let start : length (c ∷ text) - length needle ≡ 0 = omega arith in
          ap (λ n. pointwise nat_eq needle (drop n (c ∷ text))) start ∙ other
    ] refl

ends-below : (needle front name : List ℕ) → lacks 47 needle ≡ true → ends_with nat_eq name needle ≡ false → ends_with nat_eq (front ++ 47 ∷ name) needle ≡ false
ends-below needle [] name bare none = ends-cons needle name 47 (apart-slash needle [] name bare) none
ends-below needle (x ∷ front) name bare none = ends-cons needle (front ++ 47 ∷ name) x (apart-slash needle (x ∷ front) name bare) (ends-below needle front name bare none)

-- what stands before a name that is put below an absolute folder ends in `/`
folder-slash : (cwd : List ℕ) → is_absolute_path cwd ≡ true → (front : List ℕ) × (cwd ++ separator_after cwd ≡ front ++ 47 ∷ [])
folder-slash [] h = absurd (false≢true h)
folder-slash (c ∷ cs) h =
    let some : eqb (length (c ∷ cs)) 0 ≡ false = ne_eqb (length (c ∷ cs)) 0 (λ e. omega arith) in
    let before = length (c ∷ cs) - 1 in
    elim (ends_with nat_eq (c ∷ cs) (47 ∷ [])) as (λ b. ends_with nat_eq (c ∷ cs) (47 ∷ []) ≡ b → (front : List ℕ) × ((c ∷ cs) ++ cond (eqb (length (c ∷ cs)) 0 || b) [] (47 ∷ []) ≡ front ++ 47 ∷ [])) [
      | true ↦ λ e.
          let slash : drop before (c ∷ cs) ≡ 47 ∷ [] = sym ((bytes_eq-Decides (47 ∷ []) (drop before (c ∷ cs))).0 e) in
          (take before (c ∷ cs), ap (λ b. (c ∷ cs) ++ cond (b || true) [] (47 ∷ [])) some ∙ append-nil (c ∷ cs) ∙ sym (take-append-drop before (c ∷ cs)) ∙ ap (λ t. take before (c ∷ cs) ++ t) slash)
      | false ↦ λ e. (c ∷ cs, ap (λ b. (c ∷ cs) ++ cond (b || false) [] (47 ∷ [])) some)
    ] refl

joined-end : (needle cwd path : List ℕ) → lacks 47 needle ≡ true → is_absolute_path cwd ≡ true → ends_with nat_eq path needle ≡ false → ends_with nat_eq (joined cwd path) needle ≡ false
joined-end needle cwd path bare root none = grind (arith, folder-slash, append_assoc, ends-below)

-- a path below an absolute folder is an input by its end only where its text is
pub joined-away : (language : Language) (cwd path : List ℕ) → is_absolute_path cwd ≡ true → is_input_word language path ≡ false → is_input_word language (joined cwd path) ≡ false
joined-away Ptx cwd path root none = joined-end (codes ".cpp1.ii") cwd path refl root none
joined-away Cubin cwd path root none = joined-end (codes ".ptx") cwd path refl root none
joined-away C cwd path root none = refl
joined-away Cxx cwd path root none = refl
joined-away ObjectiveC cwd path root none = refl
joined-away ObjectiveCxx cwd path root none = refl
joined-away Cuda cwd path root none = refl
joined-away CudaFE cwd path root none = refl

-- a path that was put below an absolute folder is absolute, and so stays where it is put there again
joined-absolute : (cwd path : List ℕ) → is_absolute_path cwd ≡ true → is_absolute_path (joined cwd path) ≡ true
joined-absolute cwd path root = grind (arith, false≢true)

pub joined-twice : (cwd path : List ℕ) → is_absolute_path cwd ≡ true → joined cwd (joined cwd path) ≡ joined cwd path
joined-twice cwd path root = ap (λ b. cond b (joined cwd path) ((cwd ++ separator_after cwd) ++ joined cwd path)) (joined-absolute cwd path root)
