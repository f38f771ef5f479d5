use Rattle.std.proofs.Common.{◌≡◌, ◌<◌, ℕ, List, length, get_or, map, sym, subst, ◌∙◌, arith}
use Rattle.texts.specs.Variables.{pair_of}
use Rattle.canonical_names.specs.Counted.{old_names, IsCount}
use Rattle.canonical_names.proofs.CountedLemmas.{counter-read, counter-limit, counter-is, old_names-length}
use Rattle.canonical_names.proofs.renames.Renames.count.Goals as goal

pub prove-unreachable-requires : goal.prove-unreachable-requires
prove-unreachable-requires c =
    let suffixes = c.self.inside.suffixes in
    let pairs = map pair_of c.self.inside.names.entries in
    let counts = c.self.inside.counts.items in
    let i = c.args.class in
    let x = c.index-count.result.now in
    let within : i < length suffixes = subst (λ (r : List (List ℕ) × List (List ℕ)). i < length r.0) (sym c.self.view_is) c.requires in
    let read : x ≡ get_or counts i 0 = counter-read suffixes (old_names pairs) pairs counts c.self.invariant i x within c.index-count.ensures in
    omega (arith, read, (counter-limit suffixes (old_names pairs) pairs counts c.self.invariant i within), old_names-length)

pub returns-clause-value : goal.returns-clause-value
returns-clause-value c =
    let suffixes = c.self.inside.suffixes in
    let pairs = map pair_of c.self.inside.names.entries in
    let counts = c.self.inside.counts.items in
    let i = c.args.class in
    let x = c.index-count.result.now in
    let within : i < length suffixes = subst (λ (r : List (List ℕ) × List (List ℕ)). i < length r.0) (sym c.self.view_is) c.requires in
    let read : x ≡ get_or counts i 0 = counter-read suffixes (old_names pairs) pairs counts c.self.invariant i x within c.index-count.ensures in
    subst (λ (r : List (List ℕ) × List (List ℕ)). IsCount r.0 r.1 i x) c.self.view_is (λ class at. read ∙ counter-is suffixes (old_names pairs) pairs counts c.self.invariant i class at)
