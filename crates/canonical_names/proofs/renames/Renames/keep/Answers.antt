-- A word that begins with no mark and holds no suffix stays as it is.
use Rattle.std.proofs.Common.{◌≡◌, ℕ, true, false, cond, List, [], ◌∷◌, Option, Some, None, is_some, refl, ap, sym, ◌∙◌, nat_eq, append-nil, codes, map, subst, arith}
use Rattle.std.specs.List.{list_any, list_all, starts_with}
use Rattle.std.proofs.lemmas.Bool.{false≢true}
use Rattle.std.proofs.lemmas.Grind.{common_steps}
use Rattle.texts.specs.Variables.{pair_of}
use Rattle.canonical_names.specs.Alike.{holds}
use Rattle.canonical_names.specs.Counted.{has_class, old_names}
use Rattle.canonical_names.specs.Generated.{core_of, class_of, class_of_name, is_file_mark}
use Rattle.canonical_names.specs.Renaming.{renamed_word, seen_after_word}
use Rattle.canonical_names.proofs.CanonicalLemmas.{eqb-turned}
use Rattle.canonical_names.proofs.ReferenceLemmas.{name-needs_suffix, rewritten-none}
use Rattle.canonical_names.proofs.ReplaceLemmas.{holds-within}
use Rattle.canonical_names.proofs.renames.Renames.keep.Goals as goal

mark-begins : (a b c : ℕ) (rest : List ℕ) → starts_with nat_eq (a ∷ b ∷ c ∷ rest) (codes "-Fi") ≡ is_file_mark a b c
mark-begins a b c rest = grind (arith, common_steps, eqb-turned)

core-whole : (word : List ℕ) → starts_with nat_eq word (codes "-Fi") ≡ false → core_of word ≡ word
core-whole [] h = refl
core-whole (a ∷ []) h = refl
core-whole (a ∷ b ∷ []) h = refl
core-whole (a ∷ b ∷ c ∷ rest) h = ap (λ t. cond t (core_of rest) (a ∷ b ∷ c ∷ rest)) (sym (mark-begins a b c rest) ∙ h)

module _ (suffixes : List (List ℕ)) where
  none-of : (o : Option (List ℕ)) → is_some o ≡ false → o ≡ None
  none-of None h = refl
  none-of (Some c) h = absurd (false≢true (sym h))

  class-none : (word : List ℕ) → list_any (λ s. holds s word) suffixes ≡ false → class_of_name suffixes word ≡ None
  class-none word none =
      none-of (class_of_name suffixes word) (elim (has_class suffixes word) as (λ b. has_class suffixes word ≡ b → b ≡ false) [
        | true ↦ λ e. absurd (false≢true (sym (name-needs_suffix suffixes word word e none) ∙ ap (holds word) (sym (append-nil word)) ∙ holds-within word [] []))
        | false ↦ λ _. refl
      ] refl)

  class-whole : (word : List ℕ) → core_of word ≡ word → list_any (λ s. holds s word) suffixes ≡ false → class_of suffixes word ≡ None
  class-whole word core none = grind (arith, common_steps, class-none)

  kept-word : (names : List (List ℕ)) (word : List ℕ) → list_all (has_class suffixes) names ≡ true → starts_with nat_eq word (codes "-Fi") ≡ false → list_any (λ s. holds s word) suffixes ≡ false →
      (renamed_word suffixes names word ≡ word) × (seen_after_word suffixes names word ≡ names)
  kept-word names word classes unmarked none =
      grind (arith, common_steps, core-whole, class-whole, rewritten-none)

pub returns-clause-word : goal.returns-clause-word
returns-clause-word c =
    let names = old_names (map pair_of c.self.inside.names.entries) in
    let word = c.args.word.now in
    let kept = kept-word c.self.inside.suffixes names word c.self.invariant.classes (sym c.is_marked.ensures ∙ c.if-is_marked.false) (sym c.stand_in.ensures ∙ c.if-stand_in.false) in
    λ _. subst (λ (r : List (List ℕ) × List (List ℕ)). renamed_word r.0 r.1 word ≡ word) c.self.view_is kept.0

pub returns-clause-names : goal.returns-clause-names
returns-clause-names c =
    let names = old_names (map pair_of c.self.inside.names.entries) in
    let kept = kept-word c.self.inside.suffixes names c.args.word.now c.self.invariant.classes (sym c.is_marked.ensures ∙ c.if-is_marked.false) (sym c.stand_in.ensures ∙ c.if-stand_in.false) in
    λ _. subst (λ (r : List (List ℕ) × List (List ℕ)). seen_after_word r.0 r.1 c.args.word.now ≡ r.1) c.self.view_is kept.1
