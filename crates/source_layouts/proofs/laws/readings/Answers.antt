use Rattle.std.proofs.Common.{◌≡◌, ℕ, Bool, true, false, List, [], ◌∷◌, Some, refl, sym, subst, ◌∙◌, ◌||◌}
use Rattle.std.specs.Prelude.{nat_eq}
use Rattle.std.specs.List.{starts_with}
use Rattle.source_layouts.specs.Reading.{beginning, read, ending, has_trigraph, layout}
use Rattle.source_layouts.specs.Pieces.{start, scan}
use Rattle.source_layouts.proofs.LinedLemmas.{stays_lined}
use Rattle.source_layouts.proofs.ReadingLemmas.{rests_at}
use Rattle.source_layouts.proofs.RunLemmas.{Reads, Ends, text_follows, reading_ends, none_of}
use Rattle.source_layouts.proofs.laws.readings.Goals as goal

reads : (is_lined : Bool) (text : List ℕ) → Reads (read (beginning is_lined) text) (scan (start is_lined) text)
reads is_lined text = text_follows (beginning is_lined) (start is_lined) text (record {
  follows = rests_at is_lined true false [] (start is_lined) refl refl refl refl refl refl;
  clean = refl;
})

ends : (is_lined : Bool) (text out : List ℕ) → layout is_lined text ≡ Some out → Ends is_lined out (scan (start is_lined) text)
ends is_lined text out is =
    subst (λ l. Ends l out (scan (start is_lined) text)) (stays_lined is_lined (beginning is_lined) text refl)
    (reading_ends (read (beginning is_lined) text) (scan (start is_lined) text) out (reads is_lined text)
    (none_of (starts_with nat_eq text (239 ∷ 187 ∷ 191 ∷ []) || has_trigraph text) (ending (read (beginning is_lined) text)) out is))

pub returns-clause-found : goal.returns-clause-found
returns-clause-found c is_lined text out is = (ends is_lined text out is).some

pub returns-clause-pieces : goal.returns-clause-pieces
returns-clause-pieces c is_lined text out is = (ends is_lined text out is).same

pub returns-clause-same : goal.returns-clause-same
returns-clause-same c is_lined first second out one other =
    sym (ends is_lined first out one).same ∙ (ends is_lined second out other).same
