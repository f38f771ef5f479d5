-- What stands before an `=` stays, if the word names no file from its start.
use Rattle.std.proofs.Common.{◌≡◌, ℕ, ◌&&◌, Bool, true, false, not, cond, List, [], ◌∷◌, ◌++◌, refl, ap, sym, ◌∙◌, eqb, append_assoc, arith}
use Rattle.std.proofs.lemmas.Bool.{false≢true, and_parts}
use Rattle.texts.specs.Path.{joined, lacks}
use Rattle.command_files.specs.declared.files.CommandFiles.{CommandFiles}
use Rattle.placed_commands.specs.PlacedWords.{is_file, placed_from, placed_word}

from-start : (files : CommandFiles) (folder word : List ℕ) → is_file files folder word ≡ false → placed_word files folder word ≡ placed_from files folder false word
from-start files folder [] none = ap (λ b. cond b (joined folder []) []) none
from-start files folder (c ∷ cs) none = ap (λ b. cond b (joined folder (c ∷ cs)) (c ∷ placed_from files folder (eqb c 61) cs)) none

no-equals : (c : ℕ) (cs : List ℕ) → lacks 61 (c ∷ cs) ≡ true → eqb c 61 ≡ false
no-equals c cs h =
    elim (eqb c 61) as (λ b. (not b && lacks 61 cs) ≡ true → b ≡ false) [ true ↦ λ k. absurd (false≢true k) | false ↦ λ _. refl ] h

from-none : (files : CommandFiles) (folder word : List ℕ) → lacks 61 word ≡ true → placed_from files folder false word ≡ word
from-none files folder [] h = refl
from-none files folder (c ∷ cs) h =
    ap (λ b. c ∷ placed_from files folder b cs) (no-equals c cs h) ∙ ap (λ t. c ∷ t) (from-none files folder cs (and_parts (not (eqb c 61)) (lacks 61 cs) h).1)

from-equals : (files : CommandFiles) (folder front back : List ℕ) → lacks 61 front ≡ true
    → placed_from files folder false (front ++ 61 ∷ back) ≡ front ++ 61 ∷ placed_word files folder back
from-equals files folder [] back h = refl
from-equals files folder (c ∷ cs) back h =
    ap (λ b. c ∷ placed_from files folder b (cs ++ 61 ∷ back)) (no-equals c cs h)
    ∙ ap (λ t. c ∷ t) (from-equals files folder cs back (and_parts (not (eqb c 61)) (lacks 61 cs) h).1)

-- a word that names no file from its start: without an `=`, and with one
pub kept : (files : CommandFiles) (folder word : List ℕ) (t : Bool) → t ≡ is_file files folder word → t ≡ false → lacks 61 word ≡ true → placed_word files folder word ≡ word
kept files folder word t same e h = from-start files folder word (sym same ∙ e) ∙ from-none files folder word h

pub skipped : (files : CommandFiles) (folder word front back : List ℕ) (t : Bool) → t ≡ is_file files folder word → t ≡ false → word ≡ front ++ 61 ∷ back → lacks 61 front ≡ true
    → placed_word files folder word ≡ front ++ 61 ∷ placed_word files folder back
skipped files folder word front back t same e whole h =
    from-start files folder word (sym same ∙ e)
    ∙ ap (λ w. placed_from files folder false w) whole
    ∙ from-equals files folder front back h

-- what is placed so far grows by what stands before an `=`, and by that
pub grown : (so-far front back : List ℕ) → ((so-far ++ front) ++ 61 ∷ []) ++ back ≡ so-far ++ (front ++ 61 ∷ back)
grown so-far front back = grind (arith, append_assoc)
