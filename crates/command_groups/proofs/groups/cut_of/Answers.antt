use Rattle.std.proofs.Common.{◌≡◌, ◌+◌, ℕ, List, map, length, arith, vec_items}
use Rattle.std.specs.Global.{Vec}
use Rattle.std.proofs.lemmas.Grind.{common_steps}
use Rattle.command_groups.specs.Groups.{no_groups}
use Rattle.command_groups.proofs.groups.cut_of.Goals as goal

-- as many vectors as empty groups
groups_begun : {X : Type 0} (vs : List (Vec X)) (names : ℕ) → map vec_items vs ≡ no_groups names → length vs ≡ names + 2
groups_begun vs names begun = grind (arith, common_steps)

pub loop-command-init : goal.loop-command-init
loop-command-init c = grind (arith, common_steps, groups_begun)
