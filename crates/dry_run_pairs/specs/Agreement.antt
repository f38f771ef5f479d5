-- When two dry runs of one call agree, so that a plan of one does what the other one's line asks for.
use Rattle.std.specs.Prelude.{◌≡◌, ℕ, List, [], ◌∷◌, length, Bool, true, false, not, ◌&&◌, ◌==◌, Option, Some, None, if◌then◌else◌, codes, refl, bytes_eq, option_map, IsTrue}
use Rattle.std.specs.List.Sorted.{IsPermutation}
use Rattle.texts.specs.Lists.{is_some_and}
use Rattle.dry_run_pairs.specs.Forms.{CallOf, call_in, forms_of}

-- some lines without one of them, or none if it isn't there
abbrev pub without_one : List ℕ → List (List ℕ) → Option (List (List ℕ))
without_one line [] = None
without_one line (other ∷ others) = if bytes_eq line other then Some others else option_map (λ rest. other ∷ rest) (without_one line others)

-- whether two lists have the same lines, each as often, in any order
abbrev pub are_same : List (List ℕ) → List (List ℕ) → Bool
are_same [] [] = true
are_same [] (other ∷ others) = false
are_same (line ∷ lines) others = is_some_and (λ rest. are_same lines rest) (without_one line others)

-- whether the dry run of a line and that of its plan agree: both have the same forms, and some
abbrev pub agree : CallOf → List ℕ → List ℕ → Bool
agree call of_line of_plan = not (length (forms_of call of_line) == 0) && are_same (forms_of call of_line) (forms_of call of_plan)

-- what agreement means: the forms of one dry run are those of the other in another order
abbrev pub AgreementOrders : Type 0
AgreementOrders =
    (call : CallOf) (of_line of_plan : List ℕ) → IsTrue (agree call of_line of_plan) → IsPermutation (forms_of call of_line) (forms_of call of_plan)

-- examples
pub other_order : agree (call_in (codes "/w") [] false) (codes "#$ a \"/t/tmpxft_1_2-3_k\" \n#$ b\n") (codes "#$ b\nnote\n#$ a \"k\"\n") ≡ true
other_order = refl

pub one_word_more : agree (call_in (codes "/w") [] false) (codes "#$ a\n#$ b\n") (codes "#$ b\n#$ a -g\n") ≡ false
one_word_more = refl

pub twice_and_once : agree (call_in (codes "/w") [] false) (codes "#$ a\n#$ a\n") (codes "#$ a\n") ≡ false
twice_and_once = refl

pub nothing_at_all : agree (call_in (codes "/w") [] false) (codes "error\n") (codes "error\n") ≡ false
nothing_at_all = refl
