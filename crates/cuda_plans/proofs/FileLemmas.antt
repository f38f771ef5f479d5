-- File names of paths that end in a given text.
use Rattle.std.proofs.Common.{◌≡◌, ℕ, ◌-◌, ◌++◌, true, false, cond, eqb, List, [], ◌∷◌, Option, Some, None, refl, ap, sym, ◌∙◌, length, take, reverse, append_assoc, append-nil, codes, arith}
use Rattle.std.specs.Option.{option_map_or}
use Rattle.std.proofs.lemmas.Bool.{false≢true, and_parts, or_right}
use Rattle.std.proofs.lemmas.List.{reverse-append, reverse-reverse}
use Rattle.std.proofs.Math.Bool.{and-false}
use Rattle.texts.specs.DeviceFiles.{is_cicc_word}
use Rattle.texts.specs.Extension.{onto_front, split_at_last, last_part}
use Rattle.texts.specs.Path.{joined, is_bare, is_absolute_path, trimmed, is_idle, proper_name, file_name_of}
use Rattle.texts.proofs.PathLaw.{joined-has_name}
use Rattle.texts.proofs.PathLemmas.{lacks-append, unsplit-lacks, split-text, reverse-cons, not-is}
use Rattle.cuda_plans.specs.Shadow.{is_cicc_file}
use Rattle.canonical_names.proofs.CanonicalLemmas.{ends-split, ends-append}

-- a text of three characters and more is a proper name
long-proper : (x y z : ℕ) (rest : List ℕ) → proper_name (x ∷ y ∷ z ∷ rest) ≡ Some (x ∷ y ∷ z ∷ rest)
long-proper x y z rest = simp and-false

pub proper-behind : (front : List ℕ) (x y z : ℕ) (rest : List ℕ) → proper_name (front ++ x ∷ y ∷ z ∷ rest) ≡ Some (front ++ x ∷ y ∷ z ∷ rest)
proper-behind [] x y z rest = long-proper x y z rest
proper-behind (a ∷ []) x y z rest = long-proper a x y (z ∷ rest)
proper-behind (a ∷ b ∷ []) x y z rest = long-proper a b x (y ∷ z ∷ rest)
proper-behind (a ∷ b ∷ c ∷ front) x y z rest = long-proper a b c (front ++ x ∷ y ∷ z ∷ rest)

-- what is put before an input of cicc
pub cicc-front : (front text : List ℕ) → is_cicc_word text ≡ true → is_cicc_word (front ++ text) ≡ true
cicc-front front text h =
    let s = codes ".cpp1.ii" in
    let begin = take (length text - length s) text in
    ap (λ z. is_cicc_word (front ++ z)) (ends-split text s h) ∙ ap is_cicc_word (sym (append_assoc front begin s)) ∙ ends-append (front ++ begin) s

proper-cicc : (text : List ℕ) → is_cicc_word text ≡ true → is_cicc_file (proper_name text) ≡ true
proper-cicc text h = grind (arith, proper-behind, (ends-split text (codes ".cpp1.ii") h))

cicc-proper : (text : List ℕ) → is_cicc_file (proper_name text) ≡ true → is_cicc_word text ≡ true
cicc-proper text h = grind (arith, false≢true)

-- the file name of a path that ends in a bare text
pub bare-relative : (text : List ℕ) → is_bare text ≡ true → is_absolute_path text ≡ false
bare-relative text h = grind (arith, not-is, and_parts)

joined-nothing : (text : List ℕ) → joined [] text ≡ text
joined-nothing text = elim (is_absolute_path text) as (λ b. cond b text text ≡ text) [ true ↦ refl | false ↦ refl ]

joined-slash : (a text : List ℕ) → is_bare text ≡ true → joined (a ++ 47 ∷ []) text ≡ (a ++ 47 ∷ []) ++ text
joined-slash a text bare = simp (or_right, ends-append, bare-relative, append-nil)

pub any-front : (front text : List ℕ) → is_bare text ≡ true → ((b : List ℕ) → proper_name (b ++ text) ≡ Some (b ++ text)) → (b : List ℕ) × (file_name_of (front ++ text) ≡ Some (b ++ text))
any-front front text bare proper = by_split (split_at_last 47 front) refl where
  by_split : (r : Option (List ℕ × List ℕ)) → r ≡ split_at_last 47 front → (b : List ℕ) × (file_name_of (front ++ text) ≡ Some (b ++ text))
  by_split None e = (front, ap file_name_of (sym (joined-nothing (front ++ text))) ∙ joined-has_name [] (front ++ text) (lacks-append 47 front text (unsplit-lacks 47 front e) bare) (proper front))
  by_split (Some p) e =
      let parts = split-text 47 front p.0 p.1 e in
      let rest : is_bare (p.1 ++ text) ≡ true = lacks-append 47 p.1 text parts.1 bare in (
        p.1,
        ap (λ z. file_name_of (z ++ text)) parts.0
            ∙ ap file_name_of (append_assoc p.0 (47 ∷ p.1) text ∙ sym (append_assoc p.0 (47 ∷ []) (p.1 ++ text)) ∙ sym (joined-slash p.0 (p.1 ++ text) rest))
            ∙ joined-has_name (p.0 ++ 47 ∷ []) (p.1 ++ text) rest (proper p.1),
      )

-- a path that ends as cicc's input does has such a file name
pub cicc-file : (text : List ℕ) → is_cicc_word text ≡ true → is_cicc_file (file_name_of text) ≡ true
cicc-file text h =
    let s = codes ".cpp1.ii" in
    let found = any-front (take (length text - length s) text) s refl (λ b. proper-behind b 46 99 112 (codes "p1.ii")) in
    ap (λ z. is_cicc_file (file_name_of z)) (ends-split text s h) ∙ ap is_cicc_file found.1 ∙ ends-append found.0 s

-- the last part of a text behind another
last-front : (front text : List ℕ) → (b : List ℕ) × (last_part (front ++ text) ≡ b ++ last_part text)
last-front [] text = ([], refl)
last-front (c ∷ front) text =
    let rest = front ++ text in
    let more = last-front front text in
    elim (split_at_last 47 rest) as (λ r. split_at_last 47 rest ≡ r → (b : List ℕ) × (option_map_or (λ (p : List ℕ × List ℕ). p.1) (onto_front c r rest 47) (c ∷ rest) ≡ b ++ last_part text)) [
      | Some p ↦ λ e. (more.0, sym (ap (λ r. option_map_or (λ (p : List ℕ × List ℕ). p.1) r rest) e) ∙ more.1)
      | None ↦ λ e.
          let plain : last_part rest ≡ rest = ap (λ r. option_map_or (λ (p : List ℕ × List ℕ). p.1) r rest) e in
          elim (eqb c 47) as (λ b. (q : List ℕ) × (option_map_or (λ (p : List ℕ × List ℕ). p.1) (cond b (Some ([], rest)) None) (c ∷ rest) ≡ q ++ last_part text))
          [ true ↦ (more.0, sym plain ∙ more.1) | false ↦ (c ∷ more.0, ap (λ z. c ∷ z) (sym plain ∙ more.1)) ]
    ] refl

-- what goes off the end of a text that begins with `-` goes off behind any front
trimmed-behind : (u more : List ℕ) → trimmed (is_idle false) (u ++ 45 ∷ more) ≡ trimmed (is_idle false) (u ++ 45 ∷ []) ++ more
trimmed-behind [] [] = refl
trimmed-behind [] (d ∷ more) = refl
trimmed-behind (c ∷ []) more = grind (arith, (trimmed-behind [] more))
trimmed-behind (c ∷ d ∷ u) more = grind (arith, append_assoc, (trimmed-behind (d ∷ u) more))

-- a text that begins with `-` and has a file name as cicc's input has one, behind any front
pub dash-file : (front text : List ℕ) → is_cicc_file (file_name_of (45 ∷ text)) ≡ true → is_cicc_file (file_name_of (front ++ 45 ∷ text)) ≡ true
dash-file front text h =
    let kept = trimmed (is_idle false) (reverse text ++ 45 ∷ []) in
    let own : trimmed (is_idle false) (reverse (45 ∷ text)) ≡ kept = ap (trimmed (is_idle false)) (reverse-cons text 45) in
    let turned : reverse (front ++ 45 ∷ text) ≡ reverse text ++ 45 ∷ reverse front =
    reverse-append front (45 ∷ text) ∙ ap (λ z. z ++ reverse front) (reverse-cons text 45) ∙ append_assoc (reverse text) (45 ∷ []) (reverse front) in
    let whole : reverse (trimmed (is_idle false) (reverse (front ++ 45 ∷ text))) ≡ front ++ reverse kept =
    ap (λ z. reverse (trimmed (is_idle false) z)) turned ∙ ap reverse (trimmed-behind (reverse text) (reverse front)) ∙ reverse-append kept (reverse front) ∙ ap (λ z. z ++ reverse kept) (reverse-reverse front) in
    let last = last-front front (reverse kept) in
    let ends : is_cicc_word (last_part (reverse kept)) ≡ true = cicc-proper (last_part (reverse kept)) (sym (ap (λ z. is_cicc_file (proper_name (last_part (reverse z)))) own) ∙ h) in
    ap (λ z. is_cicc_file (proper_name (last_part z))) whole ∙ ap (λ z. is_cicc_file (proper_name z)) last.1
    ∙ proper-cicc (last.0 ++ last_part (reverse kept)) (cicc-front last.0 (last_part (reverse kept)) ends)
