-- Roots in texts: a text is that of its parts, and parts are found again where no root begins elsewhere.
use Rattle.std.proofs.Common.{◌≡◌, ℕ, zero, suc, ◌+◌, ◌-◌, ◌<◌, ◌==◌, Bool, true, false, not, cond, ◌&&◌, List, [], ◌∷◌, ◌++◌, Option, Some, None, MatchOption, Bor, length-append, refl, ap, sym, ◌∙◌, length, take, drop, get_or, arith, bytes_eq, nat_eq, sub-one, take-append-drop}
use Rattle.std.specs.List.{position_from, list_all, starts_with}
use Rattle.std.proofs.lemmas.Bool.{false≢true, and_parts, and_from, false_from_ne_true}
use Rattle.std.proofs.lemmas.Slice.Eq.{bytes_eq-Decides}
use Rattle.std.proofs.lemmas.Option.{none-some, same_Some}
use Rattle.texts.specs.Path.{lacks}
use Rattle.command_keys.specs.declared.marks.Part.{Part}
use Rattle.command_keys.specs.declared.marks.Part.TheVariants.{Byte, Root}
use Rattle.command_keys.specs.Marks.{begins_with, begins_with_all, may_end, longest, root_at, root_of, part_at, length_behind, parts_past, parts, text_of_part, text_of, are_told, is_told}

-- a text that begins with a root is the root and the rest
begins-split : (c : ℕ) (cs root : List ℕ) → begins_with (c ∷ cs) root ≡ true → root ++ drop (length root - 1) cs ≡ c ∷ cs
begins-split c cs root h = grind (arith, and_parts, false≢true, bytes_eq-Decides, sub-one, take-append-drop)

-- the position that is found, counted from the first of the list
record Found (text : List ℕ) (most : ℕ) (roots : List (List ℕ)) (start number : ℕ) : Type 0 where
  pub place : ℕ
  pub is : number ≡ start + place
  pub within : place < length roots
  pub begins : begins_with_all text most (get_or roots place []) ≡ true

found-from : (text : List ℕ) (most : ℕ) (roots : List (List ℕ)) (start number : ℕ) → position_from (begins_with_all text most) start roots ≡ Some number → Found text most roots start number
found-from text most [] start number e = absurd (none-some number e)
found-from text most (root ∷ roots) start number e =
    elim (begins_with_all text most root) as (λ b. begins_with_all text most root ≡ b → cond b (Some start) (position_from (begins_with_all text most) (start + 1) roots) ≡ Some number → Found text most (root ∷ roots) start number) [
      | true ↦ λ is e.
          let same : start ≡ number = same_Some start number e in
          record { place = 0; is = omega (arith, same); within = omega arith; begins = is }
      | false ↦ λ is e.
          let more = found-from text most roots (start + 1) number e in
          let at : number ≡ start + 1 + more.place = more.is in
          let below : more.place < length roots = more.within in
          record { place = suc more.place; is = omega (arith, at); within = omega (arith, below); begins = more.begins }
    ] refl e

-- a root that is found is the longest that begins the text
pub root-found : (roots : List (List ℕ)) (text : List ℕ) (number : ℕ) → root_at roots text ≡ Some number → begins_with_all text (longest text roots) (root_of roots number) ≡ true
root-found roots text number e = grind (arith, (found-from text (longest text roots) roots 0 number e))

-- it begins the text, and has a number of the list
pub root-begins : (roots : List (List ℕ)) (text : List ℕ) (number : ℕ) → root_at roots text ≡ Some number → begins_with text (root_of roots number) ≡ true
root-begins roots text number e = (and_parts (begins_with text (root_of roots number)) (length (root_of roots number) == longest text roots) (root-found roots text number e)).0

pub root-within : (roots : List (List ℕ)) (text : List ℕ) (number : ℕ) → root_at roots text ≡ Some number → number < length roots
root-within roots text number e = grind (arith, (found-from text (longest text roots) roots 0 number e))

-- the text of the parts is the text
pub text-past : (roots : List (List ℕ)) (skipped : ℕ) (text : List ℕ) → text_of roots (parts_past skipped roots text) ≡ drop skipped text
text-past roots zero [] = refl
text-past roots (suc skipped) [] = refl
text-past roots (suc skipped) (c ∷ cs) = text-past roots skipped cs
text-past roots zero (c ∷ cs) =
    elim (root_at roots (c ∷ cs)) as (λ o. root_at roots (c ∷ cs) ≡ o → text_of_part roots (part_at o c) ++ text_of roots (parts_past (length_behind roots o) roots cs) ≡ c ∷ cs) [
      | None ↦ λ _. ap (λ t. c ∷ t) (text-past roots zero cs)
      | Some number ↦ λ e.
          ap (λ t. root_of roots number ++ t) (text-past roots (length (root_of roots number) - 1) cs)
          ∙ begins-split c cs (root_of roots number) (root-begins roots (c ∷ cs) number e)
    ] refl

pub text-parts : (roots : List (List ℕ)) (text : List ℕ) → text_of roots (parts roots text) ≡ text
text-parts roots text = text-past roots zero text

-- passing over the beginning of a text
parts-behind : (roots : List (List ℕ)) (front back : List ℕ) → parts_past (length front) roots (front ++ back) ≡ parts_past 0 roots back
parts-behind roots [] back = refl
parts-behind roots (c ∷ front) back = parts-behind roots front back

-- the parts of a text that begins with a root
root-first : (roots : List (List ℕ)) (number : ℕ) (root rest : List ℕ) → root_of roots number ≡ root → begins_with (root ++ rest) root ≡ true → root_at roots (root ++ rest) ≡ Some number → parts roots (root ++ rest) ≡ Root number ∷ parts roots rest
root-first roots number [] rest is begins e = grind (arith, false≢true)
root-first roots number (r ∷ rs) rest is begins e = grind (arith, sub-one, parts-behind)

told-root : (number : ℕ) (found : Option ℕ) → is_told (Root number) found ≡ true → found ≡ Some number
told-root number None h = absurd (false≢true h)
told-root number (Some other) h = grind (arith, h)

-- parts are found again in their text
pub parts-told : (roots : List (List ℕ)) (ps : List Part) → are_told roots ps ≡ true → parts roots (text_of roots ps) ≡ ps
parts-told roots [] h = refl
parts-told roots (Byte byte ∷ ps) h = grind (arith, (parts-told roots ps))
parts-told roots (Root number ∷ ps) h =
    let text = root_of roots number ++ text_of roots ps in
    let both = and_parts (is_told (Root number) (root_at roots text)) (are_told roots ps) h in
    let at : root_at roots text ≡ Some number = told-root number (root_at roots text) both.0 in
    root-first roots number (root_of roots number) (text_of roots ps) refl (root-begins roots text number at) at
    ∙ ap (λ parts. Root number ∷ parts) (parts-told roots ps both.1)

-- a text without NUL has no part that is NUL
abbrev pub is_plain_part : Part → Bool
is_plain_part (Byte byte) = not (byte == 0)
is_plain_part (Root number) = true

pub plain-past : (roots : List (List ℕ)) (skipped : ℕ) (text : List ℕ) → lacks 0 text ≡ true → list_all is_plain_part (parts_past skipped roots text) ≡ true
plain-past roots zero [] h = refl
plain-past roots (suc skipped) [] h = refl
plain-past roots (suc skipped) (c ∷ cs) h = plain-past roots skipped cs (and_parts (not (c == 0)) (lacks 0 cs) h).1
plain-past roots zero (c ∷ cs) h =
    let both = and_parts (not (c == 0)) (lacks 0 cs) h in
    elim (root_at roots (c ∷ cs)) as (λ o. (is_plain_part (part_at o c) && list_all is_plain_part (parts_past (length_behind roots o) roots cs)) ≡ true) [
      | None ↦ and_from (not (c == 0)) (list_all is_plain_part (parts_past 0 roots cs)) both.0 (plain-past roots zero cs both.1)
      | Some number ↦ plain-past roots (length (root_of roots number) - 1) cs both.1
    ]

-- a text off which a root is stripped
front-stripped : (text : List ℕ) (c : ℕ) (cs : List ℕ) → bytes_eq (take (length (c ∷ cs)) text) (c ∷ cs) ≡ true → starts_with nat_eq text (c ∷ cs) ≡ true
front-stripped text c cs front = grind (arith, false≢true, false_from_ne_true, bytes_eq-Decides, take-append-drop)

pub begins-stripped : (text root rest : List ℕ) → (length root == 0) ≡ false → bytes_eq (take (length root) text) root ≡ true → rest ≡ drop (length root) text → begins_with text root ≡ may_end root rest
begins-stripped text [] rest some front is = absurd (false≢true (sym some))
begins-stripped text (c ∷ cs) rest some front is =
    ap (λ b. b && may_end (c ∷ cs) (drop (length (c ∷ cs)) text)) (front-stripped text c cs front) ∙ ap (may_end (c ∷ cs)) (sym is)

pub stripped : (text root rest : List ℕ) → bytes_eq (take (length root) text) root ≡ true → rest ≡ drop (length root) text → text ≡ root ++ rest
stripped text root rest front is = grind (arith, bytes_eq-Decides, take-append-drop)

-- a text that begins with a root, and what follows it
some-root : (text root : List ℕ) → begins_with text root ≡ true → 0 < length root
some-root text root h = grind (arith, false≢true)

pub first-root : (roots : List (List ℕ)) (text rest : List ℕ) (number : ℕ) → root_at roots text ≡ Some number → text ≡ root_of roots number ++ rest → (parts roots text ≡ Root number ∷ parts roots rest) × (length rest < length text)
first-root roots text rest number e is =
    let root = root_of roots number in
    let at : root_at roots (root ++ rest) ≡ Some number = ap (root_at roots) (sym is) ∙ e in
    grind (arith, length-append, root-first, (root-begins roots (root ++ rest) number at))

pub first-byte : (roots : List (List ℕ)) (text rest : List ℕ) (byte : ℕ) → root_at roots text ≡ None → text ≡ byte ∷ rest → parts roots text ≡ Byte byte ∷ parts roots rest
first-byte roots text rest byte e is = cc
