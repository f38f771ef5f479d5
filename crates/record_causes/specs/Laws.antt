-- What a cause means.
use Rattle.std.specs.Prelude.{◌≡◌, ◌≢◌, ◌↔◌, ℕ, List, [], ◌∷◌, ◌⊎◌, Option, Some, None, map, take, drop}
use Rattle.record_causes.specs.Places.{at}
use Rattle.record_causes.specs.Causes.{cause_of}
use Rattle.record_causes.specs.declared.causes.Cause.{Cause}
use Rattle.record_causes.specs.declared.causes.Part.{Part}
use Rattle.record_causes.specs.declared.causes.Part.TheVariants as parts
use Rattle.record_causes.specs.declared.ran.Ran.{Ran}
use Rattle.record_causes.specs.declared.ran.Record.{Record}

-- there is a cause if and only if the products differ
abbrev pub NamesDifferences : Type 0
NamesDifferences = (r s : Record) → (cause_of r s ≡ None) ↔ (r.products ≡ s.products)

-- nothing that ran before it made other files
abbrev pub made : Ran → List (List ℕ × List ℕ)
made c = c.outputs

abbrev pub FirstIsNamed : Type 0
FirstIsNamed = (r s : Record) (c : Cause) → cause_of r s ≡ Some c → map made (take c.command r.commands.items) ≡ map made (take c.command s.commands.items)

-- two lists are the same before a place, and differ there
abbrev pub DifferAt : {A : Type 0} → ℕ → List A → List A → Type 0
DifferAt n xs ys = (take n xs ≡ take n ys) × (at n xs ≢ at n ys)

-- what two commands have otherwise, whose results differ
abbrev pub PartDiffers : Part → Ran → Ran → Type 0
PartDiffers (parts.Word n) c d = DifferAt n c.words d.words
PartDiffers (parts.Variable n) c d = (c.words ≡ d.words) × DifferAt n c.variables d.variables
PartDiffers (parts.Tool n) c d = (c.words ≡ d.words) × (c.variables ≡ d.variables) × DifferAt n c.tools d.tools
PartDiffers (parts.Input n) c d = (c.words ≡ d.words) × (c.variables ≡ d.variables) × (c.tools ≡ d.tools) × DifferAt n c.inputs d.inputs
PartDiffers (parts.Folder n) c d =
    (c.words ≡ d.words) × (c.variables ≡ d.variables) × (c.tools ≡ d.tools) × (c.inputs ≡ d.inputs) × DifferAt n c.folders d.folders
PartDiffers parts.Nothing c d =
    (c.words ≡ d.words) × (c.variables ≡ d.variables) × (c.tools ≡ d.tools) × (c.inputs ≡ d.inputs) × (c.folders ≡ d.folders)
PartDiffers parts.Count c d = c.outputs ≡ d.outputs
PartDiffers parts.Unseen c d = c.outputs ≡ d.outputs

-- the same of the commands that are left from that of the cause on
abbrev pub CommandsDiffer : Part → List Ran → List Ran → Type 0
CommandsDiffer part [] [] = part ≡ parts.Unseen
CommandsDiffer part [] (d ∷ ds) = part ≡ parts.Count
CommandsDiffer part (c ∷ cs) [] = part ≡ parts.Count
CommandsDiffer part (c ∷ cs) (d ∷ ds) = (c.outputs ≢ d.outputs) × PartDiffers part c d

-- the cause is a true difference, where it says
abbrev pub CauseIsTrue : Type 0
CauseIsTrue = (r s : Record) (c : Cause) → cause_of r s ≡ Some c → CommandsDiffer c.part (drop c.command r.commands.items) (drop c.command s.commands.items)
