-- The files that a command makes, as entries in the order of their keys.
use Rattle.std.specs.Prelude.{ℕ, List, [], Option, fold, bytes_eq}
use Rattle.std.specs.Ordering.{nat_cmp}
use Rattle.std.specs.Cmp.Lexicographic.{slice_cmp}
use Rattle.std.specs.Map.{lookup}
use Rattle.std.specs.BTreeMap.{insert_entry}
use Rattle.compilers.specs.declared.outputs.ArtifactDescriptor.{ArtifactDescriptor}
use denote.Ref.{Bor}

-- an entry of the map, with the key's text
abbrev pub entry_of : Bor (List ℕ) × ArtifactDescriptor → List ℕ × ArtifactDescriptor
entry_of e = (e.0.now, e.1)

module _ {X : Type 0} where
  -- the entries with one more, in place of one of the same key
  abbrev pub with_entry : List (List ℕ × X) → List ℕ × X → List (List ℕ × X)
  with_entry entries e = insert_entry (slice_cmp nat_cmp) entries e.0 e.1

  -- the entries that a list of them makes: the last of each key, in the order of the keys
  abbrev pub entries_from : List (List ℕ × X) → List (List ℕ × X)
  entries_from es = fold with_entry [] es

  -- what stands under a key
  abbrev pub entry_at : List ℕ → List (List ℕ × X) → Option X
  entry_at key entries = lookup (bytes_eq key) entries
