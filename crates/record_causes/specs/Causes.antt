-- Why the products of two records differ: the first command whose result does, and what it had otherwise.
use Rattle.std.specs.Prelude.{◌≡◌, ℕ, suc, List, [], ◌∷◌, Bool, true, false, ◌&&◌, if◌then◌else◌, Option, Some, None, codes, refl, bytes_eq}
use Rattle.std.specs.Option.{is_some}
use Rattle.record_causes.specs.Places.{first_other}
use Rattle.record_causes.specs.declared.causes.Cause.{Cause}
use Rattle.record_causes.specs.declared.causes.Part.{Part}
use Rattle.record_causes.specs.declared.causes.Part.TheVariants as parts
use Rattle.record_causes.specs.declared.ran.Ran.{Ran}
use Rattle.record_causes.specs.declared.ran.Record.{Record}

-- whether two pairs are the same
abbrev pub is_same : List ℕ × List ℕ → List ℕ × List ℕ → Bool
is_same p q = bytes_eq p.0 q.0 && bytes_eq p.1 q.1

-- whether two lists have the same pairs
abbrev pub is_none : Option ℕ → Bool
is_none None = true
is_none (Some n) = false

abbrev pub are_same : List (List ℕ × List ℕ) → List (List ℕ × List ℕ) → Bool
are_same ps qs = is_none (first_other is_same 0 ps qs)

-- what is at a place, or another part
abbrev pub part_at : (ℕ → Part) → Part → Option ℕ → Part
part_at part rest None = rest
part_at part rest (Some n) = part n

-- What a command had otherwise than another one, the first that differs: a word, a variable, a program, a file, a folder.
abbrev pub part_of_surroundings : Ran → Ran → Part
part_of_surroundings c d =
    part_at parts.Variable
    (part_at parts.Tool
    (part_at parts.Input
    (part_at parts.Folder parts.Nothing (first_other bytes_eq 0 c.folders d.folders))
    (first_other is_same 0 c.inputs d.inputs))
    (first_other is_same 0 c.tools d.tools))
    (first_other is_same 0 c.variables d.variables)

abbrev pub part_of : Ran → Ran → Part
part_of c d = part_at parts.Word (part_of_surroundings c d) (first_other bytes_eq 0 c.words d.words)

-- the first command whose result differs, counted from `n`, and what it had otherwise
abbrev pub first_change : ℕ → List Ran → List Ran → Cause
first_change n [] [] = record { command = n; part = parts.Unseen }
first_change n [] (d ∷ ds) = record { command = n; part = parts.Count }
first_change n (c ∷ cs) [] = record { command = n; part = parts.Count }
first_change n (c ∷ cs) (d ∷ ds) = if are_same c.outputs d.outputs then first_change (suc n) cs ds else record { command = n; part = part_of c d }

-- why the products of two records differ
abbrev pub cause_of : Record → Record → Option Cause
cause_of r s = if are_same r.products s.products then None else Some (first_change 0 r.commands.items s.commands.items)
