-- Runs for which the laws of renaming fail once a premise is left out.
use Rattle.std.proofs.Common.{◌≡◌, ℕ, List, [], ◌∷◌, Bool, true, false, map, refl, sym, ap, ◌∙◌, codes, Contains, bytes_eq, arith}
use Rattle.std.specs.Cmp.Lexicographic.{pointwise}
use Rattle.std.proofs.lemmas.Bool.{false≢true}
use Rattle.std.proofs.lemmas.List.Elements.{All-from_recursion, All-contains}
use Rattle.texts.specs.Path.{folder_of}
use Rattle.compilers.specs.CommandLines.{CommandLine, words_of_command}
use Rattle.canonical_names.specs.Alike.{IsRenaming, Alike}
use Rattle.canonical_names.specs.AlikeExamples.{run_with}
use Rattle.canonical_names.specs.Generated.{standard_suffixes, class_of_name}
use Rattle.canonical_names.specs.Renaming.{names_of_run}
use Rattle.canonical_names.specs.RenamingNeeds.{AreAlikeFirstUnclean, AreAlikeSecondUnclean, AlikeByAnyMap, AlikeInOtherFolders, AreCleanByAnyMap, AreCleanInOtherFolders, Agree, OneRunIsAlikeFirstUnclean, OneRunIsAlikeSecondUnclean, EveryRunIsRenamedOnce}
use Rattle.canonical_names.proofs.CanonicalLemmas.{standard-are_suffixes}
use Rattle.canonical_names.proofs.SuffixLemmas.{accepted-are_suffixes}

-- whether the words of a run are these
abbrev pub has_words : List (List (List ℕ)) → List CommandLine → Bool
has_words words commands = pointwise (pointwise bytes_eq) (map words_of_command commands) words

-- a text among one, or two, is that text, or one of them
among_one : (x n : List ℕ) → Contains (x ∷ []) n → n ≡ x
among_one x n h = All-contains (λ m. m ≡ x) (x ∷ []) n (All-from_recursion (λ m. m ≡ x) (x ∷ []) (refl, tt)) h

-- a run of two words, a generated one and a reference to a name; and two runs that differ by one name
abbrev pub naming : List ℕ → List ℕ → List CommandLine
naming name option = run_with (name ∷ option ∷ [])

abbrev a : List ℕ
a = codes "a.cpp1.ii"

abbrev b : List ℕ
b = codes "b.cpp1.ii"

-- a map of one name to another in no folder, of the same class
pub one_name : (from to : List ℕ) → folder_of to ≡ folder_of from → class_of_name standard_suffixes to ≡ class_of_name standard_suffixes from → IsRenaming standard_suffixes (from ∷ []) (λ _. to)
one_name from to folder class = grind (arith, among_one)

-- the words `b, -a` and `a, -a`, the suffix left out, of which the latter run isn't clean
pub clean_to_unclean : Alike standard_suffixes (naming b (codes "-a.cpp1.ii")) (naming a (codes "-a.cpp1.ii"))
clean_to_unclean = ((λ _. a), one_name b a refl refl, refl)

pub unclean_to_clean : Alike standard_suffixes (naming a (codes "-a.cpp1.ii")) (naming b (codes "-a.cpp1.ii"))
unclean_to_clean = ((λ _. b), one_name a b refl refl, refl)

differ : (words : List (List (List ℕ))) (one other : List CommandLine) → one ≡ other → has_words words one ≡ true → has_words words other ≡ false → ⊥
differ words one other e here there = false≢true (sym there ∙ sym (ap (has_words words) e) ∙ here)

abbrev kept : List (List (List ℕ))
kept = (codes "x_0.cpp1.ii" ∷ codes "-a.cpp1.ii" ∷ []) ∷ []

pub second_must_be_clean : Agree AreAlikeSecondUnclean → ⊥
second_must_be_clean law = differ kept _ _ (law standard_suffixes standard-are_suffixes (naming b (codes "-a.cpp1.ii")) (naming a (codes "-a.cpp1.ii")) (refl, clean_to_unclean)) refl refl

pub first_must_be_clean : Agree AreAlikeFirstUnclean → ⊥
first_must_be_clean law = differ kept _ _ (sym (law standard_suffixes standard-are_suffixes (naming a (codes "-a.cpp1.ii")) (naming b (codes "-a.cpp1.ii")) (refl, unclean_to_clean))) refl refl

-- the words `a, b` and `c, c`
abbrev pub two_names : List CommandLine
two_names = run_with (a ∷ b ∷ [])

abbrev pub one_name_twice : List CommandLine
one_name_twice = run_with (codes "c.cpp1.ii" ∷ codes "c.cpp1.ii" ∷ [])

KeptAs : List ℕ → List ℕ → Type 0
KeptAs to n = (folder_of to ≡ folder_of n) × (class_of_name standard_suffixes to ≡ class_of_name standard_suffixes n)

pub two_become_one : AlikeByAnyMap standard_suffixes two_names one_name_twice
unfolding KeptAs
two_become_one =
    let c = codes "c.cpp1.ii" in
    let all : (n : List ℕ) → Contains (names_of_run standard_suffixes two_names) n → KeptAs c n = λ n h. All-contains (KeptAs c) (a ∷ b ∷ []) n (All-from_recursion (KeptAs c) (a ∷ b ∷ []) ((refl, refl), ((refl, refl), tt))) h in
    ((λ _. c), (λ n h. (all n h).0), (λ n h. (all n h).1), refl)

pub map_must_be_one_to_one : Agree AreCleanByAnyMap → ⊥
map_must_be_one_to_one law =
    differ ((codes "x_0.cpp1.ii" ∷ codes "x_1.cpp1.ii" ∷ []) ∷ []) _ _ (law standard_suffixes standard-are_suffixes two_names one_name_twice (refl, refl, two_become_one)) refl refl

-- a name in a folder, and the same name in none
abbrev pub in_folder : List CommandLine
in_folder = run_with (codes "/t/a.cpp1.ii" ∷ [])

abbrev pub in_no_folder : List CommandLine
in_no_folder = run_with (a ∷ [])

pub folder_goes : AlikeInOtherFolders standard_suffixes in_folder in_no_folder
folder_goes =
    let from = codes "/t/a.cpp1.ii" in (
      (λ _. a),
      (λ m n hm hn e. among_one from m hm ∙ sym (among_one from n hn)),
      (λ n h. sym (ap (class_of_name standard_suffixes) (among_one from n h))),
      refl,
    )

pub map_must_keep_folders : Agree AreCleanInOtherFolders → ⊥
map_must_keep_folders law = differ ((codes "/t/x_0.cpp1.ii" ∷ []) ∷ []) _ _ (law standard_suffixes standard-are_suffixes in_folder in_no_folder (refl, refl, folder_goes)) refl refl

-- the words `a, -x_0` and `b, -b`, of which the latter run isn't clean
abbrev canonical_reference : List CommandLine
canonical_reference = naming a (codes "-x_0.cpp1.ii")

abbrev own_reference : List CommandLine
own_reference = naming b (codes "-b.cpp1.ii")

pub one_run_second_clean : OneRunIsAlikeSecondUnclean → ⊥
one_run_second_clean law =
    grind (arith, false≢true, (law standard_suffixes standard-are_suffixes canonical_reference own_reference refl refl))

pub one_run_first_clean : OneRunIsAlikeFirstUnclean → ⊥
one_run_first_clean law =
    grind (arith, false≢true, (law standard_suffixes standard-are_suffixes own_reference canonical_reference refl refl))

-- a text that refers to a name becomes generated once the name is replaced, by a suffix of the caller's
abbrev own_suffixes : List (List ℕ)
own_suffixes = codes ".cpp1.ii" ∷ codes ".x_0.cpp1.iib" ∷ []

pub renamed_run_must_be_clean : EveryRunIsRenamedOnce → ⊥
renamed_run_must_be_clean law =
    differ ((codes "x_0.cpp1.ii" ∷ codes "x_0.x_0.cpp1.iib" ∷ []) ∷ []) _ _ (law own_suffixes (accepted-are_suffixes own_suffixes refl) (naming a (codes "q.a.cpp1.iib"))) refl refl
