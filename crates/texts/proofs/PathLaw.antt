-- A name that is put into a folder has that folder and that file name.
use Rattle.std.proofs.Common.{◌≡◌, ◌≢◌, ℕ, Bool, true, false, cond, not, ◌&&◌, eqb, eqb-true, ne_eqb, List, [], ◌∷◌, ◌++◌, Some, refl, ap, sym, ◌∙◌, subst, reverse, arith, append_assoc, append-nil}
use Rattle.std.proofs.lemmas.List.{reverse-append, reverse-reverse, append_cancel_left, length-reverse}
use Rattle.std.proofs.lemmas.Bool.{false≢true, and_parts}
use Rattle.texts.specs.Extension.{last_part}
use Rattle.texts.specs.Path.{is_absolute_path, separator_after, joined, lacks, is_bare, through_last_byte, trimmed, is_idle, folder_of, proper_name, JoinedKeepsFolder, JoinedHasName, FolderBegins, JoinedCancels, FoldersCancel}
use Rattle.texts.proofs.PathLemmas.{reverse-push, reverse-cons, forwards, ends_slash, trimmed-stays_before, lacks-reverse, not-is, through_last_byte-past, split-bare, split-at}

-- a bare name isn't absolute
bare-relative : (f : List ℕ) → is_bare f ≡ true → is_absolute_path f ≡ false
bare-relative f h = grind (arith, not-is, and_parts)

joined-relative : (base f : List ℕ) → is_absolute_path f ≡ false → joined base f ≡ (base ++ separator_after base) ++ f
joined-relative base f h = rw h refl

joined-backwards : (base f : List ℕ) → is_bare f ≡ true → reverse (joined base f) ≡ reverse f ++ reverse (base ++ separator_after base)
joined-backwards base f bare = ap reverse (joined-relative base f (bare-relative f bare)) ∙ reverse-append (base ++ separator_after base) f

-- what stands between a folder and a name, by the folder's last character
separator-cond : (base before : List ℕ) (c : ℕ) → reverse base ≡ c ∷ before → separator_after base ≡ cond (eqb c 47) [] (47 ∷ [])
separator-cond base before c e = grind (arith, length-reverse, ends_slash)

-- a folder with what stands before a name, backwards: nothing, or a `/` and the rest
module _ (P : List ℕ → Type 0) where
  at-separator : (base : List ℕ) → (reverse base ≡ [] → P []) → ((before : List ℕ) → reverse base ≡ 47 ∷ before → P (47 ∷ before)) → ((c : ℕ) (before : List ℕ) → eqb c 47 ≡ false → reverse base ≡ c ∷ before → P (47 ∷ c ∷ before)) → P (reverse (base ++ separator_after base))
  at-separator base nothing slash other =
      elim (reverse base) as (λ xs. reverse base ≡ xs → P (reverse (base ++ separator_after base))) [
        | [] ↦ λ e.
            let none : base ≡ [] = sym (reverse-reverse base) ∙ ap reverse e in
            subst (λ b. P (reverse (b ++ separator_after b))) (sym none) (nothing e)
        | c ∷ before ↦ λ e.
            elim (eqb c 47) as (λ b. eqb c 47 ≡ b → P (reverse (base ++ separator_after base))) [
              | true ↦ λ is.
                  let sep : separator_after base ≡ [] = separator-cond base before c e ∙ ap (λ b. cond b [] (47 ∷ [])) is in
                  let all : reverse base ≡ 47 ∷ before = e ∙ ap (λ d. d ∷ before) (eqb-true c 47 is) in
                  let whole : reverse (base ++ separator_after base) ≡ 47 ∷ before = ap (λ s. reverse (base ++ s)) sep ∙ ap reverse (append-nil base) ∙ all in
                  subst P (sym whole) (slash before all)
              | false ↦ λ is.
                  let sep : separator_after base ≡ 47 ∷ [] = separator-cond base before c e ∙ ap (λ b. cond b [] (47 ∷ [])) is in
                  let whole : reverse (base ++ separator_after base) ≡ 47 ∷ c ∷ before = ap (λ s. reverse (base ++ s)) sep ∙ reverse-push base 47 ∙ ap (λ t. 47 ∷ t) e in
                  subst P (sym whole) (other c before is e)
            ] refl
      ] refl

-- what is left after trimming can't be trimmed further
trimmed-head : (test : ℕ → List ℕ → Bool) (text before : List ℕ) (c : ℕ) → trimmed test text ≡ c ∷ before → test c before ≡ false
trimmed-head test [] before c h = cc
trimmed-head test (d ∷ rest) before c h =
    elim (test d rest) as (λ b. test d rest ≡ b → cond b (trimmed test rest) (d ∷ rest) ≡ c ∷ before → test c before ≡ false)
    [ true ↦ λ _ k. trimmed-head test rest before c k | false ↦ λ e k. let same : d ≡ c = cc in let tail : rest ≡ before = cc in subst (λ x. test x before ≡ false) same (subst (λ r. test d r ≡ false) tail e) ] refl h

-- a folder with a name put into it, trimmed again
folder-again : (folder : List ℕ) → ((c : ℕ) (before : List ℕ) → reverse folder ≡ c ∷ before → is_idle true c before ≡ false) → trimmed (is_idle true) (through_last_byte 47 (reverse (folder ++ separator_after folder))) ≡ reverse folder
folder-again folder stays =
    at-separator (λ t. trimmed (is_idle true) (through_last_byte 47 t) ≡ reverse folder) folder
    (λ e. sym e)
    (λ before e. root before e (stays 47 before e))
    (λ c before _ e. ap (λ b. cond b (trimmed (is_idle true) before) (c ∷ before)) (stays c before e) ∙ sym e) where
      root : (before : List ℕ) → reverse folder ≡ 47 ∷ before → is_idle true 47 before ≡ false → trimmed (is_idle true) (47 ∷ before) ≡ reverse folder
      root [] e idle = sym e
      root (d ∷ before) e idle = absurd (false≢true (sym idle))

pub joined-keeps_folder : JoinedKeepsFolder
joined-keeps_folder name f bare = grind (arith, reverse-reverse, folder-again, trimmed-head, joined-backwards, through_last_byte-past, lacks-reverse)

-- a proper name isn't empty, and isn't `.`
proper-some : (f : List ℕ) → proper_name f ≡ Some f → f ≢ []
proper-some f proper none = let k : proper_name [] ≡ Some f = ap proper_name (sym none) ∙ proper in cc

proper-no_dot : (f : List ℕ) → proper_name f ≡ Some f → f ≢ 46 ∷ []
proper-no_dot f proper dot = let k : proper_name (46 ∷ []) ≡ Some f = ap proper_name (sym dot) ∙ proper in cc

-- nothing is trimmed off a path that ends in a proper bare name
no_dot-before : (f back : List ℕ) (c : ℕ) (before : List ℕ) → proper_name f ≡ Some f → reverse f ≡ c ∷ before → lacks 47 before ≡ true → (eqb c 46 && is_absolute_path (before ++ back)) ≡ false
no_dot-before f back c [] proper e bare =
    let other : eqb c 46 ≡ false = ne_eqb c 46 (λ is. proper-no_dot f proper (forwards f [] c e ∙ ap (λ d. d ∷ []) is)) in
    grind arith
no_dot-before f back c (d ∷ before) proper e bare = grind (arith, not-is, and_parts)

name-kept : (f back : List ℕ) → is_bare f ≡ true → proper_name f ≡ Some f → trimmed (is_idle false) (reverse f ++ back) ≡ reverse f ++ back
name-kept f back bare proper =
    elim (reverse f) as (λ xs. reverse f ≡ xs → trimmed (is_idle false) (xs ++ back) ≡ xs ++ back) [
      | [] ↦ λ e. absurd (proper-some f proper (sym (reverse-reverse f) ∙ ap reverse e))
      | c ∷ before ↦ λ e.
          let bare' : lacks 47 (c ∷ before) ≡ true = subst (λ t. lacks 47 t ≡ true) e (lacks-reverse 47 f bare) in
          let parts = and_parts (not (eqb c 47)) (lacks 47 before) bare' in
          trimmed-stays_before false c (before ++ back) (not-is 47 c parts.0) (no_dot-before f back c before proper e parts.1)
    ] refl

last-after : (front f : List ℕ) → is_bare f ≡ true → last_part (front ++ 47 ∷ f) ≡ f
last-after front f bare = rw (split-at 47 front f bare) refl

pub joined-has_name : JoinedHasName
joined-has_name base f bare proper =
    let back = reverse (base ++ separator_after base) in
    let slash : (before : List ℕ) → last_part (reverse (47 ∷ before) ++ f) ≡ f = λ before. ap last_part (ap (λ t. t ++ f) (reverse-cons before 47) ∙ append_assoc (reverse before) (47 ∷ []) f) ∙ last-after (reverse before) f bare in
    let seam : last_part (reverse back ++ f) ≡ f = at-separator (λ t. last_part (reverse t ++ f) ≡ f) base (λ _. (rw (split-bare 47 f bare) refl)) (λ before _. slash before) (λ c before _ _. slash (c ∷ before)) in
    grind (arith, joined-backwards, name-kept, reverse-append, reverse-reverse)

-- a folder is a beginning of its name
through_last_byte-part : (byte : ℕ) (text : List ℕ) → (front : List ℕ) × (text ≡ front ++ through_last_byte byte text)
through_last_byte-part byte [] = ([], refl)
through_last_byte-part byte (c ∷ before) =
    elim (eqb c byte) as (λ b. (front : List ℕ) × (c ∷ before ≡ front ++ cond b (c ∷ before) (through_last_byte byte before)))
    [ true ↦ ([], refl) | false ↦ let part = through_last_byte-part byte before in (c ∷ part.0, ap (λ t. c ∷ t) part.1) ]

trimmed-part : (test : ℕ → List ℕ → Bool) (text : List ℕ) → (front : List ℕ) × (text ≡ front ++ trimmed test text)
trimmed-part test [] = ([], refl)
trimmed-part test (c ∷ before) =
    elim (test c before) as (λ b. (front : List ℕ) × (c ∷ before ≡ front ++ cond b (trimmed test before) (c ∷ before)))
    [ true ↦ let part = trimmed-part test before in (c ∷ part.0, ap (λ t. c ∷ t) part.1) | false ↦ ([], refl) ]

pub folder-begins : FolderBegins
folder-begins name =
    let outer = through_last_byte-part 47 (reverse name) in
    let inner = trimmed-part (is_idle true) (through_last_byte 47 (reverse name)) in
    let whole : reverse name ≡ (outer.0 ++ inner.0) ++ trimmed (is_idle true) (through_last_byte 47 (reverse name)) = outer.1 ∙ ap (λ t. outer.0 ++ t) inner.1 ∙ sym (append_assoc outer.0 inner.0 (trimmed (is_idle true) (through_last_byte 47 (reverse name)))) in
    (reverse (outer.0 ++ inner.0), sym (reverse-reverse name) ∙ ap reverse whole ∙ reverse-append (outer.0 ++ inner.0) (trimmed (is_idle true) (through_last_byte 47 (reverse name))))

-- joined names
pub joined-cancels : JoinedCancels
joined-cancels base f g frel grel same = grind (arith, append_cancel_left, joined-relative)

pub folders-cancel : FoldersCancel
folders-cancel m n f g fbare gbare same =
    let folders : folder_of m ≡ folder_of n = sym (joined-keeps_folder m f fbare) ∙ ap folder_of same ∙ joined-keeps_folder n g gbare in
    grind (arith, joined-cancels, bare-relative)
