-- The rule of a dependency file, as nvcc writes it.
use Rattle.std.specs.Prelude.{◌≡◌, ℕ, List, [], ◌∷◌, ◌++◌, length, drop, Bool, true, false, not, ◌&&◌, ◌||◌, ◌==◌, nat_lt, Option, Some, None, if◌then◌else◌, codes, refl}
use Rattle.std.specs.List.{flat_map, list_all}
use Rattle.dependency_rules.specs.Asking.{RuleOf, is_name_byte}
use Rattle.dependency_rules.specs.Markers.{begins_with_source, files_of, small_text}

-- whether a file's name has no byte but plain ones and blanks. Versions of nvcc may differ in how they write others
abbrev pub is_written_alike : List ℕ → Bool
is_written_alike name = not (length name == 0) && list_all (λ byte. is_name_byte byte || byte == 32) name

-- a file's name in a rule: with a backslash before each blank
abbrev pub escaped : ℕ → List ℕ
escaped byte = if byte == 32 then 92 ∷ 32 ∷ [] else byte ∷ []

abbrev pub written : List ℕ → List ℕ
written name = flat_map escaped name

-- a further file on a line of its own
abbrev pub further : List ℕ → List ℕ
further name = codes " \\\n    " ++ written name

-- the text of a rule for a target that needs these files
abbrev pub text_of : List ℕ → List (List ℕ) → List ℕ
text_of target [] = target ++ codes " :\n"
text_of target (source ∷ files) = target ++ (codes " : " ++ (written source ++ (flat_map further files ++ 10 ∷ [])))

-- a file as a target without files
abbrev pub target_alone : List ℕ → List ℕ
target_alone name = 10 ∷ (written name ++ codes ":\n")

abbrev pub targets_of : List (List ℕ) → List ℕ
targets_of files = flat_map target_alone (drop 1 files)

-- the text of a rule with what it lists
abbrev pub listing_text : RuleOf → List (List ℕ) → List ℕ
listing_text rule files = text_of rule.target files ++ (if rule.listing.targets then targets_of files else [])

-- the text of a rule, from what the preprocessors have written, in nvcc's order. None if nvcc has to make it: if a text doesn't begin with the
-- source, if there is no other file, or if versions of nvcc may write a name differently
abbrev pub is_certain : List (List ℕ) → Bool
is_certain files = list_all is_written_alike files && nat_lt 1 (length files)

abbrev pub text_for : RuleOf → List (List ℕ) → Option (List ℕ)
text_for rule files = if is_certain files then Some (listing_text rule files) else None

abbrev pub rule_text : RuleOf → List (List ℕ) → Option (List ℕ)
rule_text rule texts = if list_all (begins_with_source rule.source) texts then text_for rule (files_of rule.listing.of_system rule.source texts) else None

-- examples
abbrev pub small_rule : Bool → Bool → RuleOf
small_rule of_system targets =
    record { source = codes "k.cu"; file = codes "k.d"; target = codes "k.o"; listing = record { of_system = of_system; targets = targets } }

pub small_rule_text : rule_text (small_rule true false) (small_text ∷ []) ≡ Some (codes "k.o : k.cu \\\n    a\\ b.h \\\n    c.h\n")
small_rule_text = refl

pub with_targets : rule_text (small_rule true true) (small_text ∷ []) ≡ Some (codes "k.o : k.cu \\\n    a\\ b.h \\\n    c.h\n\na\\ b.h:\n\nc.h:\n")
with_targets = refl

pub without_system : rule_text (small_rule false true) (codes "# 0 \"k.cu\"\n# 1 \"a.h\" 1\n# 1 \"b.h\" 1 3\n" ∷ []) ≡ Some (codes "k.o : k.cu \\\n    a.h\n\na.h:\n")
without_system = refl

pub source_alone : rule_text (small_rule true false) (codes "# 0 \"k.cu\"\n" ∷ []) ≡ None
source_alone = refl

pub odd_name : rule_text (small_rule true false) (codes "# 0 \"k.cu\"\n# 1 \"a$b.h\" 1\n" ∷ []) ≡ None
odd_name = refl

pub odd_flags : rule_text (small_rule false false) (codes "# 0 \"k.cu\"\n# 1 \"a.h\" 1\n# 1 \"b.h\" 5\n" ∷ []) ≡ None
odd_flags = refl

pub source_of_another_text : rule_text (small_rule true false) (small_text ∷ codes "# 0 \"j.cu\"\n" ∷ []) ≡ None
source_of_another_text = refl
