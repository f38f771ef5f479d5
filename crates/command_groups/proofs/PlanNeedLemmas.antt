-- Runs for which the laws of plans fail once a premise is left out.
use Rattle.std.proofs.Common.{◌≡◌, ℕ, List, [], ◌∷◌, Some, None, Bool, true, false, not, eqb, length, map, refl, sym, ap, ◌∙◌, codes, bytes_eq}
use Rattle.std.specs.Cmp.Lexicographic.{pointwise}
use Rattle.std.specs.List.{list_any}
use Rattle.std.proofs.lemmas.Bool.{false≢true}
use Rattle.compilers.specs.declared.compiler.NvccHostCompiler.TheVariants.{Gcc}
use Rattle.compilers.specs.CommandLines.{CommandLine}
use Rattle.compilers.specs.OneKernel.{at}
use Rattle.canonical_names.specs.Alike.{Alike}
use Rattle.canonical_names.specs.AlikeExamples.{run_with}
use Rattle.canonical_names.specs.Generated.{standard_suffixes}
use Rattle.canonical_names.specs.RenamingNeeds.{AreAlikeFirstUnclean, AreAlikeSecondUnclean, AreCleanByAnyMap, AreCleanInOtherFolders}
use Rattle.canonical_names.proofs.CanonicalLemmas.{standard-are_suffixes}
use Rattle.canonical_names.proofs.NeedLemmas.{naming, one_name, clean_to_unclean, unclean_to_clean, two_names, one_name_twice, two_become_one, in_folder, in_no_folder, folder_goes}
use Rattle.compilers.specs.declared.plans.plan.Plan.{Plan}
use Rattle.command_groups.specs.Plan.{PlanSetting}
use Rattle.command_groups.specs.PlanLaws.{AreCleanAndAlike}
use Rattle.command_groups.specs.PlanNeeds.{PlansAgree, PlansAgreeWithAnyVariables}
use Rattle.command_groups.specs.PlanExamples.{setting}

-- whether the words of a plan's dropped commands are these, and whether some command of a plan has variables
abbrev drops_words : List (List (List ℕ)) → Plan → Bool
drops_words words plan = pointwise (pointwise bytes_eq) (map (λ d. d.args) plan.dropped) words

abbrev has_variables : Plan → Bool
has_variables plan = list_any (list_any (λ c. not (eqb (length c.env_vars) 0))) plan.groups

differ : (test : Plan → Bool) (one other : Plan) → one ≡ other → test one ≡ true → test other ≡ false → ⊥
differ test one other e here there = false≢true (sym there ∙ sym (ap test e) ∙ here)

abbrev plain : PlanSetting
plain = setting Gcc (codes "-c")

-- every run is alike itself
alike_itself : (suffixes : List (List ℕ)) (commands : List CommandLine) → Alike suffixes commands commands
alike_itself suffixes commands = ((λ n. n), record { one_to_one = λ m n hm hn e. e; keeps_folder = λ n h. refl; keeps_class = λ n h. refl }, refl)

-- Below, the first runs are empty, and the second ones have one command, which is dropped.

pub first_must_be_clean : PlansAgree AreAlikeFirstUnclean None → ⊥
first_must_be_clean law =
    differ (drops_words ((codes "x_0.cpp1.ii" ∷ codes "-x_0.cpp1.ii" ∷ []) ∷ [])) _ _
    (law standard_suffixes standard-are_suffixes plain [] [] (naming (codes "a.cpp1.ii") (codes "-a.cpp1.ii")) [] (naming (codes "b.cpp1.ii") (codes "-a.cpp1.ii")) (refl, alike_itself standard_suffixes []) (refl, unclean_to_clean))
    refl refl

pub second_must_be_clean : PlansAgree AreAlikeSecondUnclean None → ⊥
second_must_be_clean law =
    differ (drops_words ((codes "x_0.cpp1.ii" ∷ codes "-a.cpp1.ii" ∷ []) ∷ [])) _ _
    (law standard_suffixes standard-are_suffixes plain [] [] (naming (codes "b.cpp1.ii") (codes "-a.cpp1.ii")) [] (naming (codes "a.cpp1.ii") (codes "-a.cpp1.ii")) (refl, alike_itself standard_suffixes []) (refl, clean_to_unclean))
    refl refl

pub map_must_be_one_to_one : PlansAgree AreCleanByAnyMap None → ⊥
map_must_be_one_to_one law =
    differ (drops_words ((codes "x_0.cpp1.ii" ∷ codes "x_1.cpp1.ii" ∷ []) ∷ [])) _ _
    (law standard_suffixes standard-are_suffixes plain [] [] two_names [] one_name_twice (refl, refl, ((λ n. n), (λ n h. refl), (λ n h. refl), refl)) (refl, refl, two_become_one))
    refl refl

pub map_must_keep_folders : PlansAgree AreCleanInOtherFolders None → ⊥
map_must_keep_folders law =
    differ (drops_words ((codes "/t/x_0.cpp1.ii" ∷ []) ∷ [])) _ _
    (law standard_suffixes standard-are_suffixes plain [] [] in_folder [] in_no_folder (refl, refl, ((λ n. n), (λ m n hm hn e. e), (λ n h. refl), refl)) (refl, refl, folder_goes))
    refl refl

pub words_must_be_renamed : ((keep_dir : List ℕ) → PlansAgree AreCleanAndAlike (Some keep_dir)) → ⊥
words_must_be_renamed law =
    let one = run_with (codes "a.cpp1.ii" ∷ []) in
    let other = run_with (codes "b.cpp1.ii" ∷ []) in
    let nothing : AreCleanAndAlike standard_suffixes [] [] = record { one_is_clean = refl; other_is_clean = refl; alike = alike_itself standard_suffixes [] } in
    let like : AreCleanAndAlike standard_suffixes one other =
    record { one_is_clean = refl; other_is_clean = refl; alike = ((λ _. codes "b.cpp1.ii"), one_name (codes "a.cpp1.ii") (codes "b.cpp1.ii") refl refl, refl) } in
    differ (drops_words ((codes "a.cpp1.ii" ∷ []) ∷ [])) _ _ (law (codes "/k") standard_suffixes standard-are_suffixes plain [] [] one [] other nothing like) refl refl

pub variables_must_be_equal : PlansAgreeWithAnyVariables → ⊥
variables_must_be_equal law =
    let step = at 1 (codes "/b/gcc") (codes "-D__CUDACC__ -E a.cu") ∷ [] in
    let nothing : AreCleanAndAlike standard_suffixes [] [] = record { one_is_clean = refl; other_is_clean = refl; alike = alike_itself standard_suffixes [] } in
    let like : AreCleanAndAlike standard_suffixes step step = record { one_is_clean = refl; other_is_clean = refl; alike = alike_itself standard_suffixes step } in
    differ has_variables _ _ (law standard_suffixes standard-are_suffixes plain ((codes "X", codes "1") ∷ []) [] [] step [] step nothing like) refl refl
