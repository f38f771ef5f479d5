-- The tools by their names.
use Rattle.std.specs.Prelude.{ℕ, List, if◌then◌else◌, Option, Some, None, codes, bytes_eq}
use Rattle.plan_texts.specs.declared.tool.Tool.{Tool}
use Rattle.plan_texts.specs.declared.tool.Tool.TheVariants.{Cicc, Ptxas, CudaFe}

-- the tool of a name
abbrev pub tool_of_name : List ℕ → Option Tool
tool_of_name name =
    if bytes_eq name (codes "cicc") then Some Cicc else
    if bytes_eq name (codes "ptxas") then Some Ptxas else
    if bytes_eq name (codes "cudafe++") then Some CudaFe else None
