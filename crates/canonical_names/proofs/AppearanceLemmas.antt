-- The names that appear in a run have a class, and a text holds one of them where it holds one of the run's names.
use Rattle.std.proofs.Common.{◌≡◌, ℕ, ◌++◌, ◌||◌, Bool, true, false, not, cond, List, [], ◌∷◌, Option, None, refl, ap, sym, ◌∙◌, fold, option_map, bytes_eq, arith}
use Rattle.std.specs.List.{list_any, list_all, filter_map, cons_option}
use Rattle.std.proofs.lemmas.Bool.{false≢true, and_from}
use Rattle.std.proofs.lemmas.List.Folds.{list_any-append}
use Rattle.std.proofs.lemmas.Slice.Eq.{bytes_eq-Decides}
use Rattle.std.proofs.Math.Bool.{or_assoc, or-false, or-true}
use Rattle.compilers.specs.CommandLines.{CommandLine}
use Rattle.canonical_names.specs.Alike.{holds, is_clean_word}
use Rattle.canonical_names.specs.Counted.{has_class}
use Rattle.canonical_names.specs.Generated.{core_of, class_of_name, generated_name, is_generated, begins_with_dash}
use Rattle.canonical_names.specs.Renaming.{names_of_run}
use Rattle.canonical_names.specs.Appearances.{appearances}
use Rattle.canonical_names.proofs.CanonicalLemmas.{add, run-names}
use Rattle.canonical_names.proofs.ReferenceLemmas.{no-suffix-no_names}

-- the names that appear have a class
pub all-append : {A : Type 0} (test : A → Bool) (xs ys : List A) → list_all test xs ≡ true → list_all test ys ≡ true → list_all test (xs ++ ys) ≡ true
all-append test [] ys h k = k
all-append test (x ∷ xs) ys h k = grind (arith, and_from, (all-append test xs ys))

name-class : (suffixes : List (List ℕ)) (core : List ℕ) (b : Bool) (o : Option (List ℕ)) → class_of_name suffixes core ≡ o → (more : List (List ℕ)) → list_all (has_class suffixes) more ≡ true →
    list_all (has_class suffixes) (cons_option (option_map (λ (_ : List ℕ). core) (cond b None o)) more) ≡ true
name-class suffixes core b o e more h = grind (arith, and_from)

words-classes : (suffixes words : List (List ℕ)) → list_all (has_class suffixes) (filter_map (generated_name suffixes) words) ≡ true
words-classes suffixes [] = refl
words-classes suffixes (w ∷ words) = name-class suffixes (core_of w) (begins_with_dash (core_of w)) (class_of_name suffixes (core_of w)) refl (filter_map (generated_name suffixes) words) (words-classes suffixes words)

pub appearances-classes : (suffixes : List (List ℕ)) (commands : List CommandLine) → list_all (has_class suffixes) (appearances suffixes commands) ≡ true
appearances-classes suffixes [] = refl
appearances-classes suffixes (c ∷ commands) = simp (all-append, words-classes, (appearances-classes suffixes commands))

-- a test of the different names tests all that appear
module _ (test : List ℕ → Bool) where
  seen-tested : (x : List ℕ) (seen : List (List ℕ)) → list_any (bytes_eq x) seen ≡ true → test x ≡ true → list_any test seen ≡ true
  seen-tested x [] h t = absurd (false≢true h)
  seen-tested x (y ∷ seen) h t = grind (arith, bytes_eq-Decides, (seen-tested x seen))

  absorbed : (a b c : Bool) → (b ≡ true → a ≡ true) → (a || c) ≡ (a || (b || c))
  absorbed a b c h = grind (arith, false≢true)

  any-added : (xs seen : List (List ℕ)) → list_any test (fold add seen xs) ≡ (list_any test seen || list_any test xs)
  any-added [] seen = sym (or-false (list_any test seen))
  any-added (x ∷ xs) seen = grind (arith, add, absorbed, seen-tested, list_any-append, or_assoc, (any-added xs seen), (any-added xs (seen ++ x ∷ [])))

pub names-tested : (test : List ℕ → Bool) (suffixes : List (List ℕ)) (commands : List CommandLine) → list_any test (names_of_run suffixes commands) ≡ list_any test (appearances suffixes commands)
names-tested test suffixes commands = ap (list_any test) (run-names suffixes [] commands) ∙ any-added test (appearances suffixes commands) []

-- a word that holds no suffix is clean
pub clean-without_suffix : (suffixes : List (List ℕ)) (commands : List CommandLine) (word : List ℕ) → list_any (λ s. holds s word) suffixes ≡ false → is_clean_word suffixes (names_of_run suffixes commands) word ≡ true
clean-without_suffix suffixes commands word none =
    let no_name : list_any (λ n. holds n word) (names_of_run suffixes commands) ≡ false =
    names-tested (λ n. holds n word) suffixes commands ∙ no-suffix-no_names suffixes (appearances suffixes commands) word (appearances-classes suffixes commands) none in
    ap (λ b. is_generated suffixes word || not b) no_name ∙ or-true (is_generated suffixes word)
