-- A word that holds no name seen so far keeps its text.
use Rattle.std.proofs.Common.{◌≡◌, ℕ, ◌++◌, false, List, [], ◌∷◌, refl, ap, ◌∙◌, fold, length, arith}
use Rattle.std.specs.List.{list_any, AllByRecursion}
use Rattle.std.proofs.lemmas.Bool.{or_parts, cond_both}
use Rattle.compilers.specs.Replacing.{replaced}
use Rattle.canonical_names.specs.Generated.{head_of, core_of}
use Rattle.canonical_names.specs.Renaming.{insert_by, longest_first, canonical_name, rewritten, renamed_core}
use Rattle.canonical_names.specs.Alike.{holds}
use Rattle.canonical_names.specs.CanonicalNames.{OtherWordsStay}

-- a text without any place of another stays
pub replaced-none : (old new text : List ℕ) → holds old text ≡ false → replaced old new text ≡ text
replaced-none old new [] h = refl
replaced-none old new (c ∷ cs) h = grind (arith, or_parts, (replaced-none old new cs))

-- what holds of each holds of each in the order of their lengths
module _ {A : Type 0} (size : A → ℕ) (P : A → Type 0) where
  pub insert-each : (xs : List A) (x : A) → AllByRecursion P xs → P x → AllByRecursion P (insert_by size xs x)
  insert-each [] x all one = (one, tt)
  insert-each (y ∷ ys) x all one = grind (arith, cond_both, (insert-each ys x all.1 one))

  pub fold-each : (xs sorted : List A) → AllByRecursion P xs → AllByRecursion P sorted → AllByRecursion P (fold (insert_by size) sorted xs)
  fold-each [] sorted all done = done
  fold-each (x ∷ xs) sorted all done = fold-each xs (insert_by size sorted x) all.1 (insert-each sorted x done all.0)

-- names whose replacement leaves a text as it is
fold-same : (new : List ℕ → List ℕ) (text : List ℕ) (names : List (List ℕ)) → AllByRecursion (λ n. replaced n (new n) text ≡ text) names → fold (λ t name. replaced name (new name) t) text names ≡ text
fold-same new text [] all = refl
fold-same new text (n ∷ ns) all = ap (λ t. fold (λ t name. replaced name (new name) t) t ns) all.0 ∙ fold-same new text ns all.1

pub rewritten-same : (suffixes seen : List (List ℕ)) (text : List ℕ) → AllByRecursion (λ n. replaced n (canonical_name suffixes seen n) text ≡ text) seen → rewritten suffixes seen text ≡ text
rewritten-same suffixes seen text each =
    fold-same (canonical_name suffixes seen) text (longest_first seen) (fold-each length (λ n. replaced n (canonical_name suffixes seen n) text ≡ text) seen [] each tt)

-- such are those that don't stand in the text
none-each : (new : List ℕ → List ℕ) (text : List ℕ) (names : List (List ℕ)) →
    list_any (λ n. holds n text) names ≡ false → AllByRecursion (λ n. replaced n (new n) text ≡ text) names
none-each new text [] h = tt
none-each new text (n ∷ ns) h = grind (arith, or_parts, replaced-none, (none-each new text ns))

pub none-rewritten : (suffixes seen : List (List ℕ)) (text : List ℕ) → list_any (λ n. holds n text) seen ≡ false → rewritten suffixes seen text ≡ text
none-rewritten suffixes seen text none = rewritten-same suffixes seen text (none-each (canonical_name suffixes seen) text seen none)

pub other-words_stay : OtherWordsStay
other-words_stay suffixes seen word class none =
    ap (λ o. head_of word ++ renamed_core suffixes seen (core_of word) o) class ∙ ap (λ t. head_of word ++ t) (none-rewritten suffixes seen (core_of word) none)
