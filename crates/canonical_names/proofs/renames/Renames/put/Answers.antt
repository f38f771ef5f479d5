use Rattle.std.proofs.Common.{◌≡◌, ◌<◌, ◌++◌, ◌∷◌, [], ℕ, List, length, map, ap, sym, subst, ◌∙◌, refl, false, slice_set, ◌+◌, string_bytes, bytes_eq}
use Rattle.std.specs.List.{list_any, slice_get}
use Rattle.texts.specs.Variables.{pair_of}
use Rattle.canonical_names.specs.Counted.{old_names, IsCount}
use Rattle.canonical_names.specs.Generated.{class_of_name}
use Rattle.canonical_names.specs.Renaming.{canonical_name}
use Rattle.canonical_names.proofs.CountedLemmas.{put-counted, entry-last, names-put}
use Rattle.canonical_names.proofs.renames.Renames.put.Goals as goal

pub invariant_of-self-2 : goal.invariant_of-self-2
invariant_of-self-2 c =
    let suffixes = c.self.inside.suffixes in
    let entries = c.self.inside.names.entries in
    let i = c.args.class in
    let k = c.count-count.result in
    let name = string_bytes c.args.name in
    let back = sym c.self.view_is in
    let within : i < length suffixes = subst (λ (r : List (List ℕ) × List (List ℕ)). i < length r.0) back c.requires.within in
    let class : class_of_name suffixes name ≡ slice_get suffixes i = subst (λ (r : List (List ℕ) × List (List ℕ)). class_of_name r.0 name ≡ slice_get r.0 i) back c.requires.class in
    let new : list_any (bytes_eq name) (old_names (map pair_of entries)) ≡ false = subst (λ (r : List (List ℕ) × List (List ℕ)). list_any (bytes_eq name) r.1 ≡ false) back c.requires.absent in
    let canonical : string_bytes c.args.canonical ≡ canonical_name suffixes (old_names (map pair_of entries)) name = subst (λ (r : List (List ℕ) × List (List ℕ)). string_bytes c.args.canonical ≡ canonical_name r.0 r.1 name) back c.requires.canonical in
    let count : IsCount suffixes (old_names (map pair_of entries)) i k = subst (λ (r : List (List ℕ) × List (List ℕ)). IsCount r.0 r.1 i k) back c.count-count.ensures.value in
    let is : c.insert.new.self.entries ≡ entries ++ (c.args.name, c.args.canonical) ∷ [] = c.in_ok-insert.ensures.entries ∙ entry-last entries c.args.name c.args.canonical new in
    put-counted suffixes entries c.insert.new.self.entries c.self.inside.counts.items (slice_set c.self.inside.counts.items i (k + 1)) c.args.name c.args.canonical i k c.self.invariant within class new canonical is count refl

pub returns-clause-names : goal.returns-clause-names
returns-clause-names c =
    let suffixes = c.self.inside.suffixes in
    let entries = c.self.inside.names.entries in
    let name = string_bytes c.args.name in
    let new : list_any (bytes_eq name) (old_names (map pair_of entries)) ≡ false = subst (λ (r : List (List ℕ) × List (List ℕ)). list_any (bytes_eq name) r.1 ≡ false) (sym c.self.view_is) c.requires.absent in
    let is : c.insert.new.self.entries ≡ entries ++ (c.args.name, c.args.canonical) ∷ [] = c.in_ok-insert.ensures.entries ∙ entry-last entries c.args.name c.args.canonical new in
    subst (λ (r : List (List ℕ) × List (List ℕ)). (suffixes, old_names (map pair_of c.insert.new.self.entries)) ≡ (r.0, r.1 ++ name ∷ [])) c.self.view_is
    (ap (λ (ns : List (List ℕ)). (suffixes, ns)) (names-put entries c.insert.new.self.entries c.args.name c.args.canonical is))
