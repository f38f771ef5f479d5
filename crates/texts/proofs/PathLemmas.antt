-- Facts about the ends of texts, which are read backwards.
use Rattle.std.proofs.Common.{◌≡◌, ◌≢◌, ℕ, ◌<◌, ◌-◌, suc, Bool, true, false, not, ◌&&◌, eqb, eq-eqb, eqb-true, ne_eqb, List, [], ◌∷◌, ◌++◌, Option, Some, None, MatchOption}
use Rattle.std.proofs.Common.{Bor, refl, ap, sym, ◌∙◌, subst, get_or, length, take, drop, reverse, nat_eq, arith, append_assoc, append-nil, take-append-drop, option_map}
use Rattle.std.specs.List.{ends_with, list_any}
use Rattle.std.specs.Str.Pattern.{RFindsChar, SplitsAroundMatch}
use Rattle.std.proofs.lemmas.Str.Pattern.{NoCharPasses-char, drop_at_char}
use Rattle.std.proofs.lemmas.List.{reverse-append, reverse-reverse, length-append}
use Rattle.std.proofs.lemmas.Grind.{reverse_onto}
use Rattle.std.proofs.lemmas.Bool.{false≢true, and_parts}
use Rattle.std.proofs.Math.Seq.{drop-append_seam}
use Rattle.texts.specs.Extension.{parts_of, split_at_last}
use Rattle.texts.specs.Path.{is_absolute_path, lacks, through_last_byte, trimmed, is_idle, folder_of}

-- a test that isn't true is false
pub false-not_true : (b : Bool) → (b ≡ true → ⊥) → b ≡ false
false-not_true b h = grind arith

-- a text by whether its length is nothing
pub empty-length : (text : List ℕ) → eqb (length text) 0 ≡ true → text ≡ []
empty-length [] h = refl
empty-length (c ∷ cs) h = absurd (false≢true (sym (ne_eqb (length (c ∷ cs)) 0 (λ e. omega arith)) ∙ h))

pub some-length : (text : List ℕ) → eqb (length text) 0 ≡ false → text ≢ []
some-length text h e = false≢true (sym h ∙ ap (λ t. eqb (length t) 0) e)

-- a text read backwards, by its last character
pub reverse-push : (front : List ℕ) (c : ℕ) → reverse (front ++ c ∷ []) ≡ c ∷ reverse front
reverse-push front c = reverse-append front (c ∷ [])

pub reverse-cons : (before : List ℕ) (c : ℕ) → reverse (c ∷ before) ≡ reverse before ++ c ∷ []
reverse-cons before c = reverse_onto before c []

pub forwards : (text before : List ℕ) (c : ℕ) → reverse text ≡ c ∷ before → text ≡ reverse before ++ c ∷ []
forwards text before c e = sym (reverse-reverse text) ∙ ap reverse e ∙ reverse-cons before c

pub reverse-parted : (front back : List ℕ) (c : ℕ) → reverse (front ++ c ∷ back) ≡ reverse back ++ c ∷ reverse front
reverse-parted front back c = reverse-append front (c ∷ back) ∙ ap (λ t. t ++ reverse front) (reverse-cons back c) ∙ append_assoc (reverse back) (c ∷ []) (reverse front)

ends_slash_before : (before : List ℕ) → ends_with nat_eq (reverse before) (47 ∷ []) ≡ is_absolute_path before
ends_slash_before [] = refl
ends_slash_before (c ∷ before) =
    let count : length (reverse before ++ c ∷ []) - 1 ≡ length (reverse before) = omega (arith, length-append (reverse before) (c ∷ [])) in
    grind (arith, drop-append_seam, reverse-cons)

pub ends_slash : (text : List ℕ) → ends_with nat_eq text (47 ∷ []) ≡ is_absolute_path (reverse text)
ends_slash text = ap (λ t. ends_with nat_eq t (47 ∷ [])) (sym (reverse-reverse text)) ∙ ends_slash_before (reverse text)

-- a `/` at the end goes, unless it is the root that is kept
trimmed-slash_before : (keeps_root : Bool) (before : List ℕ) → (keeps_root ≡ true → before ≢ []) → trimmed (is_idle keeps_root) (47 ∷ before) ≡ trimmed (is_idle keeps_root) before
trimmed-slash_before keeps_root before some = grind arith

-- a text that ends in neither stays
pub trimmed-stays_before : (keeps_root : Bool) (c : ℕ) (before : List ℕ) → eqb c 47 ≡ false → (eqb c 46 && is_absolute_path before) ≡ false → trimmed (is_idle keeps_root) (c ∷ before) ≡ c ∷ before
trimmed-stays_before keeps_root c before slash dot = grind arith

pub trimmed-stays : (keeps_root : Bool) (text : List ℕ) → ((front : List ℕ) → text ≢ front ++ 47 ∷ []) → ((front : List ℕ) → text ≡ front ++ 46 ∷ [] → is_absolute_path (reverse front) ≡ true → ⊥) → trimmed (is_idle keeps_root) (reverse text) ≡ reverse text
trimmed-stays keeps_root text no_slash no_dot =
    elim (reverse text) as (λ xs. reverse text ≡ xs → trimmed (is_idle keeps_root) xs ≡ xs) [
      | [] ↦ λ _. refl
      | c ∷ before ↦ λ e.
          let slash : eqb c 47 ≡ false = ne_eqb c 47 (λ is. no_slash (reverse before) (forwards text before c e ∙ ap (λ d. reverse before ++ d ∷ []) is)) in
          let dot : (eqb c 46 && is_absolute_path before) ≡ false = false-not_true (eqb c 46 && is_absolute_path before) (λ both.
          let parts = and_parts (eqb c 46) (is_absolute_path before) both in
          no_dot (reverse before) (forwards text before c e ∙ ap (λ d. reverse before ++ d ∷ []) (eqb-true c 46 parts.0)) (ap is_absolute_path (reverse-reverse before) ∙ parts.1)) in
          trimmed-stays_before keeps_root c before slash dot
    ] refl

-- a text with no such byte, as a test and by places
pub lacks-places : (byte : ℕ) (text : List ℕ) → ((i : ℕ) → i < length text → get_or text i 0 ≢ byte) → lacks byte text ≡ true
lacks-places byte [] h = refl
lacks-places byte (c ∷ cs) h =
    let here : eqb c byte ≡ false = ne_eqb c byte (h 0 (omega arith)) in
    grind (arith, (lacks-places byte cs (λ i l. h (suc i) (omega arith))))

pub lacks-append : (byte : ℕ) (front back : List ℕ) → lacks byte front ≡ true → lacks byte back ≡ true → lacks byte (front ++ back) ≡ true
lacks-append byte [] back h k = k
lacks-append byte (c ∷ front) back h k = grind (arith, (lacks-append byte front back))

pub lacks-reverse : (byte : ℕ) (text : List ℕ) → lacks byte text ≡ true → lacks byte (reverse text) ≡ true
lacks-reverse byte [] h = refl
lacks-reverse byte (c ∷ cs) h = grind (arith, reverse-cons, lacks-append, (lacks-reverse byte cs))

-- the parts of a text, backwards, by its last such byte
pub not-is : (byte c : ℕ) → not (eqb c byte) ≡ true → eqb c byte ≡ false
not-is byte c h = false-not_true (eqb c byte) (λ e. false≢true (subst (λ b. not b ≡ true) e h))

pub through_last_byte-past : (byte : ℕ) (back before : List ℕ) → lacks byte back ≡ true → through_last_byte byte (back ++ before) ≡ through_last_byte byte before
through_last_byte-past byte [] before h = refl
through_last_byte-past byte (c ∷ back) before h = let parts = and_parts (not (eqb c byte)) (lacks byte back) h in rw (not-is byte c parts.0) (through_last_byte-past byte back before parts.1)

-- a text that lacks the byte isn't split
pub split-bare : (byte : ℕ) (text : List ℕ) → lacks byte text ≡ true → split_at_last byte text ≡ None
split-bare byte [] h = refl
split-bare byte (c ∷ cs) h = let parts = and_parts (not (eqb c byte)) (lacks byte cs) h in rw (split-bare byte cs parts.1, not-is byte c parts.0) refl

-- a text is split where the byte stands and what follows lacks it
pub split-at : (byte : ℕ) (front back : List ℕ) → lacks byte back ≡ true → split_at_last byte (front ++ byte ∷ back) ≡ Some (front, back)
split-at byte [] back h = rw (split-bare byte back h, eq-eqb byte byte refl) refl
split-at byte (c ∷ cs) back h = rw (split-at byte cs back h) refl

-- what splitting a text at the last place of an ASCII character answers
pub split_at_last-split : (mark : ℕ) (s : List ℕ) (r : Option (Bor (List ℕ) × Bor (List ℕ))) → MatchOption r (RFindsChar mark s None) (λ x. SplitsAroundMatch (RFindsChar mark) s x.0.now x.1.now) → mark < 128 → option_map parts_of r ≡ split_at_last mark s
split_at_last-split mark s None h low = sym (split-bare mark s (lacks-places mark s (λ i l. NoCharPasses-char mark s i h low l)))
split_at_last-split mark s (Some x) h low =
    let after : lacks mark (drop h.1 s) ≡ true = lacks-places mark (drop h.1 s) (λ i l. NoCharPasses-char mark (drop h.1 s) i h.2.0 low l) in
    let whole : s ≡ take h.0 s ++ mark ∷ drop h.1 s = sym (take-append-drop h.0 s) ∙ ap (λ l. take h.0 s ++ l) (drop_at_char mark s h.0 h.1 h.2.1 low) in
    grind (arith, split-at)

-- what the two parts of a text are
abbrev Parts : ℕ → List ℕ → Option (List ℕ × List ℕ) → Type 0
Parts byte text r = MatchOption r (lacks byte text ≡ true) (λ p. (text ≡ p.0 ++ byte ∷ p.1) × (lacks byte p.1 ≡ true))

split-parts : (byte : ℕ) (text : List ℕ) → Parts byte text (split_at_last byte text)
split-parts byte [] = refl
split-parts byte (c ∷ cs) = grind (arith, eqb-true, (split-parts byte cs))

pub unsplit-lacks : (byte : ℕ) (text : List ℕ) → None ≡ split_at_last byte text → lacks byte text ≡ true
unsplit-lacks byte text e = subst (Parts byte text) (sym e) (split-parts byte text)

pub split-text : (byte : ℕ) (text front back : List ℕ) → Some (front, back) ≡ split_at_last byte text → (text ≡ front ++ byte ∷ back) × (lacks byte back ≡ true)
split-text byte text front back e = subst (Parts byte text) (sym e) (split-parts byte text)

-- the folder of a name, by what stands before its last `/`
pub folder-lacking : (name : List ℕ) → lacks 47 name ≡ true → folder_of name ≡ []
folder-lacking name h =
    ap (λ t. reverse (trimmed (is_idle true) (through_last_byte 47 t))) (sym (append-nil (reverse name))) ∙ ap (λ t. reverse (trimmed (is_idle true) t)) (through_last_byte-past 47 (reverse name) [] (lacks-reverse 47 name h))

folder-parted : (name front back : List ℕ) → name ≡ front ++ 47 ∷ back → lacks 47 back ≡ true → folder_of name ≡ reverse (trimmed (is_idle true) (47 ∷ reverse front))
folder-parted name front back e h = grind (arith, reverse-parted, through_last_byte-past, lacks-reverse)

pub folder-root : (name front back : List ℕ) → name ≡ front ++ 47 ∷ back → lacks 47 back ≡ true → front ≡ [] → folder_of name ≡ 47 ∷ []
folder-root name front back e h none = folder-parted name front back e h ∙ ap (λ f. reverse (trimmed (is_idle true) (47 ∷ reverse f))) none

pub folder-below : (name front back : List ℕ) → name ≡ front ++ 47 ∷ back → lacks 47 back ≡ true → front ≢ [] → folder_of name ≡ reverse (trimmed (is_idle true) (reverse front))
folder-below name front back e h some =
    folder-parted name front back e h ∙ ap reverse (trimmed-slash_before true (reverse front) (λ _ none. some (sym (reverse-reverse front) ∙ ap reverse none)))

pub lacks-by_search : (byte : ℕ) (text : List ℕ) → not (list_any (λ c. eqb c byte) text) ≡ lacks byte text
lacks-by_search byte [] = refl
lacks-by_search byte (c ∷ cs) = (grind arith) ∙ ap (λ t. not (eqb c byte) && t) (lacks-by_search byte cs)
