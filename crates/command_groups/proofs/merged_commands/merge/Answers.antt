use Rattle.std.proofs.Common.{◌≡◌, ◌∷◌, [], ◌++◌, List, suc, map, ap, subst, ◌∙◌, arith, add-one, IsPermutation, IsSorted, Result, IfOk}
use Rattle.std.specs.Vec.Iter.{into_iter_items}
use Rattle.compilers.specs.CommandLines.{CommandLine, line_of}
use Rattle.std.proofs.lemmas.List.{map-append}
use Rattle.std.proofs.lemmas.List.Sorted.{IsPermutation-map}
use Rattle.command_groups.specs.declared.merged_commands.SelectedCommand.{SelectedCommand}
use Rattle.command_groups.specs.contracts.merged_commands.SelectedCommandOrd.TheImpl as compared
use Rattle.command_groups.specs.Merge as spec
use Rattle.command_groups.specs.MergeLaws.{Rises, RisesInOrder}
use Rattle.command_groups.specs.Views.{command_seen}
use Rattle.command_groups.proofs.MergeLemmas.{Adjacent, not_greater, ordered_by_neighbours, merged_once}
use Rattle.command_groups.proofs.merged_commands.merge.Goals as goal

neighbours : (cs : List SelectedCommand) → IsSorted (compared.cmp-value).it cs → Adjacent (map command_seen cs)
neighbours [] s = tt
neighbours (x ∷ []) s = tt
neighbours (x ∷ y ∷ ys) s =
    (not_greater (command_seen x) (command_seen y) _ (s 0 x (omega arith) (omega arith)), neighbours (y ∷ ys) (λ k d p q. rw add-one (rw add-one at (s (suc k) d (omega arith) (omega arith)))))

-- the commands of both runs, once they are sorted
all_merged : (first second : List CommandLine) (tools others commands sorted : List SelectedCommand) → Rises (map line_of first) → Rises (map line_of second) →
    map command_seen tools ≡ map (spec.of_run 1) (spec.selected spec.is_nvcc_stem first) → map command_seen others ≡ map (spec.of_run 2) (spec.selected spec.is_host_stem second) →
    commands ≡ tools ++ others → IsPermutation commands sorted → IsSorted (compared.cmp-value).it sorted →
    (map command_seen sorted ≡ spec.merged first second) × RisesInOrder (map command_seen sorted)
all_merged first second tools others commands sorted h k e f g p s =
    let same : map command_seen commands ≡ map (spec.of_run 1) (spec.selected spec.is_nvcc_stem first) ++ map (spec.of_run 2) (spec.selected spec.is_host_stem second) =
    ap (map command_seen) g ∙ map-append command_seen tools others ∙ (λ i. e i ++ f i) in
    merged_once first second (map command_seen sorted) h k
    (subst (λ xs. IsPermutation xs (map command_seen sorted)) same (IsPermutation-map command_seen commands sorted p))
    (ordered_by_neighbours (map command_seen sorted) (neighbours sorted s))

from_both : {X E : Type 0} (P Q R : X → Type 0) → ((x : X) → P x → Q x → R x) → (r : Result X E) → IfOk r P → IfOk r Q → IfOk r R
from_both X E P f R p q = grind arith

both : (c : goal.After-drop-others-2) → IfOk c.in_order.result (λ merged. (map command_seen (into_iter_items merged) ≡ spec.merged c.args.first c.args.second) × RisesInOrder (map command_seen (into_iter_items merged)))
both c = grind (arith, from_both, all_merged)

pub returns-clause-commands : goal.returns-clause-commands
returns-clause-commands c = from_both _ _ _ (λ it p s. p.0) c.in_order.result (both c) (both c)

pub returns-clause-rises : goal.returns-clause-rises
returns-clause-rises c = from_both _ _ _ (λ it p s. p.1) c.in_order.result (both c) (both c)
