use Rattle.std.proofs.Common.{◌≡◌, ◌++◌, ◌∷◌, [], ℕ, List, map, ap, ◌∙◌, subst, sym, false, true, cond, Bool, string_bytes, String, Some, if◌then◌else◌, option_copied, IfOk, OnOk, bytes_eq, Global, arith}
use Rattle.std.specs.List.{list_any}
use Rattle.std.specs.Map.{lookup}
use Rattle.std.proofs.lemmas.Result.{IfOk-weaker}
use Rattle.std.proofs.lemmas.Grind.{common_steps}
use Rattle.texts.specs.Variables.{pair_of}
use Rattle.canonical_names.specs.Counted.{old_names}
use Rattle.canonical_names.specs.Renaming as spec
use Rattle.canonical_names.proofs.CountedLemmas.{known-name, unknown-name}
use Rattle.canonical_names.proofs.renames.Renames.canonical.Goals as goal
use Rattle.canonical_names.proofs.renames.Renames.canonical.Goals.{In-Some, In_default}

-- a name that was found has its canonical name, and is one of those that were seen
known : (c : In-Some) → (string_bytes c.in-Some.known.now ≡ spec.canonical_name c.self.inside.suffixes (old_names (map pair_of c.self.inside.names.entries)) c.args.name.now)
    × (list_any (bytes_eq c.args.name.now) (old_names (map pair_of c.self.inside.names.entries)) ≡ true)
known c =
    let entries = c.self.inside.names.entries in
    let found : lookup (λ (k : String Global). bytes_eq c.args.name.now (string_bytes k)) entries ≡ Some c.in-Some.known.now = sym c.get.ensures.value ∙ ap option_copied c.in-Some.is in
    known-name (spec.canonical_name c.self.inside.suffixes (old_names (map pair_of entries))) entries c.args.name.now c.self.invariant.canonical c.in-Some.known.now found

-- a name that wasn't found wasn't seen
absent : (c : In_default) → list_any (bytes_eq c.args.name.now) c.args.self.now.1 ≡ false
absent c = grind (arith, common_steps, unknown-name)

pub returns-in-Some-clause-name : goal.returns-in-Some-clause-name
returns-in-Some-clause-name c =
    let name = c.args.name.now in
    subst (λ (r : List (List ℕ) × List (List ℕ)). IfOk c.from_str.result (λ t. string_bytes t ≡ spec.canonical_name r.0 r.1 name)) c.self.view_is
    (IfOk-weaker c.from_str.result (λ (t : String Global). string_bytes t ≡ c.as_str.result.now)
    (λ (t : String Global). string_bytes t ≡ spec.canonical_name c.self.inside.suffixes (old_names (map pair_of c.self.inside.names.entries)) name)
    (λ t h. h ∙ c.as_str.ensures.value ∙ (known (goal.at.returns-in-Some-clause-name c).In-Some).0) c.from_str.ensures.ok)

pub returns-in-Some-clause-names : goal.returns-in-Some-clause-names
returns-in-Some-clause-names c =
    let suffixes = c.self.inside.suffixes in
    let names = old_names (map pair_of c.self.inside.names.entries) in
    let name = c.args.name.now in
    subst (λ (r : List (List ℕ) × List (List ℕ)). OnOk c.from_str.result (r ≡ (r.0, if list_any (bytes_eq name) r.1 then r.1 else r.1 ++ name ∷ []))) c.self.view_is
    (IfOk-weaker c.from_str.result (λ (t : String Global). string_bytes t ≡ c.as_str.result.now) (λ (t : String Global). (suffixes, names) ≡ (suffixes, if list_any (bytes_eq name) names then names else names ++ name ∷ []))
    (λ t h. ap (λ (b : Bool). (suffixes, cond b names (names ++ name ∷ []))) (sym (known (goal.at.returns-in-Some-clause-names c).In-Some).1)) c.from_str.ensures.ok)

pub add-requires-clause-absent : goal.add-requires-clause-absent
add-requires-clause-absent c = absent (goal.at.add-requires-clause-absent c).In_default

pub returns-clause-names : goal.returns-clause-names
returns-clause-names c = rw (absent (goal.at.returns-clause-names c).In_default) c.add.ensures.names
