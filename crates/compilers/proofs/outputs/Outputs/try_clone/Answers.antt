use Rattle.std.proofs.Common.{[], ◌∙◌, map, nat_cmp}
use Rattle.std.proofs.lemmas.Cmp.{nat_list_cmp_total}
use Rattle.std.specs.Cmp.Lexicographic.{slice_cmp}
use Rattle.compilers.proofs.Sorted.{fold-ascending, sorted-seen}
use Rattle.compilers.proofs.outputs.Outputs.try_clone.Goals as goal

pub loop-key-init : goal.loop-key-init
loop-key-init c =
    let entries = c.self.inside.files.entries in
    let given = c.into_iter-key-iterator.ensures.into_iter_gives in
    rw (c.new-copy.ensures, given, c.iter-key-items.ensures.rest)
    (fold-ascending (slice_cmp nat_cmp) nat_list_cmp_total [] (map (λ e. (e.0.now, e.1)) entries) (sorted-seen (λ k. k.now) (slice_cmp nat_cmp) entries c.iter-key-items.ensures.ordered) ∙ c.self.view_is)
