use Rattle.std.proofs.Common.{◌≡◌, ℕ, List, map, ◌∙◌, subst, sym, false, string_bytes, String, IfOk, Global, arith}
use Rattle.std.specs.List.{list_any}
use Rattle.std.proofs.lemmas.Result.{IfOk-weaker}
use Rattle.std.proofs.lemmas.Grind.{common_steps}
use Rattle.texts.specs.Variables.{pair_of}
use Rattle.canonical_names.specs.Alike.{holds}
use Rattle.canonical_names.specs.Counted.{old_names}
use Rattle.canonical_names.specs.References.{replaced_by_all, longest_pairs_first}
use Rattle.canonical_names.specs.Renaming as spec
use Rattle.canonical_names.proofs.ReferenceLemmas.{rewritten-by_pairs, pairs-named, rewritten-none}
use Rattle.canonical_names.proofs.renames.Renames.rewritten.Goals as goal

pub returns-then-not-stand_in : goal.returns-then-not-stand_in
returns-then-not-stand_in c =
    let suffixes = c.self.inside.suffixes in
    let names = old_names (map pair_of c.self.inside.names.entries) in
    let text = c.args.text.now in
    let none : list_any (λ s. holds s text) suffixes ≡ false = sym c.stand_in.ensures ∙ c.if-not-stand_in.true in
    subst (λ (r : List (List ℕ) × List (List ℕ)). IfOk c.from_str.result (λ t. string_bytes t ≡ spec.rewritten r.0 r.1 text)) c.self.view_is
    (IfOk-weaker c.from_str.result (λ (t : String Global). string_bytes t ≡ text) (λ (t : String Global). string_bytes t ≡ spec.rewritten suffixes names text)
    (λ t h. h ∙ rewritten-none suffixes names text c.self.invariant.classes none) c.from_str.ensures.ok)

pub rewrite-requires : goal.rewrite-requires
rewrite-requires c = grind (arith, common_steps, pairs-named)

pub returns : goal.returns
returns c =
    let suffixes = c.self.inside.suffixes in
    let pairs = map pair_of c.self.inside.names.entries in
    let text = c.args.text.now in
    subst (λ (r : List (List ℕ) × List (List ℕ)). IfOk c.rewrite.result (λ t. string_bytes t ≡ spec.rewritten r.0 r.1 text)) c.self.view_is
    (IfOk-weaker c.rewrite.result (λ (t : String Global). string_bytes t ≡ replaced_by_all (longest_pairs_first pairs) text) (λ (t : String Global). string_bytes t ≡ spec.rewritten suffixes (old_names pairs) text)
    (λ t h. h ∙ rewritten-by_pairs suffixes (old_names pairs) pairs c.self.invariant.canonical text) c.rewrite.ensures)
