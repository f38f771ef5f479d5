-- Environment variables, as pairs of texts.
use Rattle.std.specs.Prelude.{ℕ, List, Option, String, string_bytes, bytes_eq}
use Rattle.std.specs.Map.{lookup}
use Rattle.std.specs.Arc.{arc_value}
use Rattle.std.specs.declared.alloc.Global.{Global}
use Rattle.texts.specs.declared.variables.Pairs.{Pairs}
use Rattle.texts.specs.declared.variables.Pairs.TheVariants.{Own, Shared}

-- the texts of a name and its value
abbrev pub pair_of : String Global × String Global → List ℕ × List ℕ
pair_of p = (string_bytes p.0, string_bytes p.1)

-- the value of the first variable of a name
abbrev pub first_value : List ℕ → List (List ℕ × List ℕ) → Option (List ℕ)
first_value name variables = lookup (bytes_eq name) variables

-- the pairs as the code holds them, of one list or of several
abbrev pub held_pairs : Pairs → List (String Global × String Global)
held_pairs (Own pairs) = pairs.items
held_pairs (Shared pairs) = (arc_value pairs).items
