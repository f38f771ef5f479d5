-- Runs that are clean or alike, and runs that aren't, worked out by hand.
use Rattle.std.proofs.Common.{◌≡◌, ℕ, ◌++◌, List, [], ◌∷◌, true, false, drop, get_or, Option, None, refl, sym, ap, ◌∙◌, eqb, codes, slice_index, Contains}
use Rattle.std.proofs.lemmas.Bool.{false≢true}
use Rattle.std.proofs.lemmas.List.Elements.{All-from_recursion, All-contains}
use Rattle.texts.specs.Path.{folder_of}
use Rattle.compilers.specs.CommandLines.{CommandLine}
use Rattle.canonical_names.specs.Generated.{standard_suffixes, class_of_name}
use Rattle.canonical_names.specs.Renaming.{names_of_run}
use Rattle.canonical_names.specs.Alike.{is_clean, Alike}
use Rattle.compilers.specs.OneKernel.{one_kernel_commands, one_kernel_elsewhere_commands}

-- a run of one command with these words
abbrev pub run_with : List (List ℕ) → List CommandLine
run_with words = (0, codes "/b/gcc", words) ∷ []

-- the one-kernel dry run is clean, and one that refers to a generated name is not
abbrev pub OneKernelIsClean : Type 0
OneKernelIsClean = is_clean standard_suffixes one_kernel_commands ≡ true

abbrev pub ReferenceIsNotClean : Type 0
ReferenceIsNotClean = is_clean standard_suffixes (run_with (codes "k.cudafe1.c" ∷ codes "-I=k.cudafe1.c" ∷ [])) ≡ false

-- the one-kernel dry run and the same run with other names of its generated files are alike
abbrev pub OneKernelIsAlike : Type 0
OneKernelIsAlike = Alike standard_suffixes one_kernel_commands one_kernel_elsewhere_commands

-- the other names, and the way back
elsewhere : List ℕ → List ℕ
elsewhere name = codes "a1" ++ drop 6 name

back : List ℕ → List ℕ
back name = codes "kernel" ++ drop 2 name

-- facts about each name
Kept : List ℕ → Type 0
Kept n = (back (elsewhere n) ≡ n) × (folder_of (elsewhere n) ≡ folder_of n)
    × (class_of_name standard_suffixes (elsewhere n) ≡ class_of_name standard_suffixes n)

kept : (n : List ℕ) → Contains (names_of_run standard_suffixes one_kernel_commands) n → Kept n
unfolding Kept elsewhere back
kept n among =
    All-contains Kept (names_of_run standard_suffixes one_kernel_commands) n
    (All-from_recursion Kept (names_of_run standard_suffixes one_kernel_commands)
    (((refl, refl, refl), ((refl, refl, refl), ((refl, refl, refl), ((refl, refl, refl), ((refl, refl, refl), tt))))))) among

pub one_kernel_is_alike : OneKernelIsAlike
unfolding elsewhere back Kept
one_kernel_is_alike = (
  elsewhere,
  record {
    one_to_one = λ m n am an e. sym (kept m am).0 ∙ ap back e ∙ (kept n an).0;
    keeps_folder = λ n an. (kept n an).1;
    keeps_class = λ n an. (kept n an).2;
  },
  refl,
)

-- two runs of three words are not alike if the last word is the first name in one, and the second name in the other
abbrev pub OtherPatternIsNotAlike : Type 0
OtherPatternIsNotAlike =
    ¬ Alike standard_suffixes (run_with (codes "a.cudafe1.c" ∷ codes "b.cudafe1.c" ∷ codes "a.cudafe1.c" ∷ []))
    (run_with (codes "a.cudafe1.c" ∷ codes "b.cudafe1.c" ∷ codes "b.cudafe1.c" ∷ []))

-- the patterns of the two runs, word by word
core_at : ℕ → List (ℕ × List ℕ × List (List ℕ × Option (List ℕ) × List ℕ)) → List ℕ
core_at k told = (get_or (get_or told 0 (0, [], [])).2 k ([], None, [])).2

pub other_pattern_is_not_alike : OtherPatternIsNotAlike
unfolding core_at
other_pattern_is_not_alike (f, renaming, same) =
    let one : f (codes "a.cudafe1.c") ≡ codes "a.cudafe1.c" = ap (core_at 0) same in
    let two : f (codes "a.cudafe1.c") ≡ codes "b.cudafe1.c" = ap (core_at 2) same in
    false≢true (sym (ap (λ (t : List ℕ). eqb (slice_index t 0) 97) (sym one ∙ two)))
