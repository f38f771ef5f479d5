-- What commands usually weigh.
use Rattle.std.specs.Prelude.{ℕ}
use Rattle.schedules.specs.declared.kinds.CommandKind.{CommandKind}
use Rattle.schedules.specs.declared.kinds.CommandKind.TheVariants as kinds

-- in hundredths of a second
abbrev pub usual_weight : CommandKind → ℕ
usual_weight kinds.Preprocess = 11
usual_weight kinds.CudaFe = 41
usual_weight kinds.Cicc = 33
usual_weight kinds.Ptxas = 2
usual_weight kinds.HostCompile = 38
usual_weight kinds.Other = 1
