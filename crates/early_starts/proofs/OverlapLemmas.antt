-- The three kinds of needs, by the code's order of questions.
use Rattle.std.proofs.Common.{◌≡◌, Bool, true, false, ◌||◌, refl, ap, sym, ◌∙◌}
use Rattle.std.proofs.lemmas.List.Folds.{list_any-append}
use Rattle.command_files.specs.declared.files.CommandFiles.{CommandFiles}
use Rattle.command_files.specs.Files.{is_among, share}
use Rattle.command_files.specs.PlanNeeds.{record_of}
use Rattle.early_starts.specs.Overlaps.{follows, touches_one_of}

rearranged : (rw rm ww wm wr : Bool) → ((rw || ww) || ((rm || wm) || wr)) ≡ ((rw || rm) || (wr || (ww || wm)))
rearranged true rm ww wm wr = refl
rearranged false true true wm wr = refl
rearranged false true false wm wr = refl
rearranged false false true wm true = refl
rearranged false false true wm false = refl
rearranged false false false true true = refl
rearranged false false false true false = refl
rearranged false false false false true = refl
rearranged false false false false false = refl

-- what `follows` asks
abbrev pub asked : CommandFiles → CommandFiles → Bool
asked e l = touches_one_of e.writes l || (touches_one_of e.may_write l || share e.reads (record_of l).writes)

pub follows-asked : (e l : CommandFiles) → asked e l ≡ follows e l
follows-asked e l =
    rearranged (share e.writes l.reads) (share e.may_write l.reads) (share e.writes (record_of l).writes) (share e.may_write (record_of l).writes) (share e.reads (record_of l).writes)
    ∙ ap (λ b. b || (share e.reads (record_of l).writes || (share e.writes (record_of l).writes || share e.may_write (record_of l).writes))) (sym (list_any-append (is_among l.reads) e.writes e.may_write))
    ∙ ap (λ b. share (record_of e).writes l.reads || (share e.reads (record_of l).writes || b)) (sym (list_any-append (is_among (record_of l).writes) e.writes e.may_write))
