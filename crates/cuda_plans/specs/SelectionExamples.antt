-- Selections of dry runs worked out by hand.
use Rattle.std.specs.Prelude.{◌≡◌, ℕ, List, [], ◌∷◌, ◌++◌, Bool, true, false, Result, Ok, Err, codes, bytes_eq}
use Rattle.texts.specs.Rows.{spaced}
use Rattle.texts.specs.declared.fault.Fault.{Fault}
use Rattle.texts.specs.declared.fault.Fault.TheVariants.{BadShell}
use Rattle.compilers.specs.CommandLines.{CommandLine}
use Rattle.dry_runs.specs.DryRun.{dry_run_of}
use Rattle.dry_runs.specs.Environment.{Variable}
use Rattle.dry_runs.specs.FirstDir.{first_dir}
use Rattle.compilers.specs.OneKernel.{one_kernel}
use Rattle.canonical_names.specs.Generated.{standard_suffixes}
use Rattle.cuda_plans.specs.Selection.{Read, selection_of, environment_behind}

-- a first run, read at `/w`
abbrev pub read : List ℕ → Read
read bytes = dry_run_of 1 bytes (codes "/w") first_dir

-- the ciccs of a run
abbrev pub ciccs : Bool → List ℕ → Result (List CommandLine) Fault
ciccs remap bytes = selection_of standard_suffixes remap (λ stem. bytes_eq stem (codes "cicc")) (read bytes)

-- the environment of the examples, behind a run
abbrev pub behind : List ℕ → Result (List Variable) Fault
behind bytes = environment_behind ((codes "PATH", codes "/x") ∷ (codes "Q", codes "1") ∷ []) (read bytes)

-- the cicc of the one-kernel dry run
abbrev pub OneOfOneKernel : Type 0
OneOfOneKernel =
    ciccs true one_kernel ≡
    Ok ((
      4,
      codes "/b/cicc",
      spaced "--device-c -arch compute_80 --module_id_file_name kernel.module_id --gen_c_file_name x_0.cudafe1.c" ++
          spaced "--stub_file_name x_0.cudafe1.stub.c --gen_device_file_name kernel.cudafe1.gpu x_0.cpp1.ii --simt-only" ++
          spaced "-o kernel.ptx",
    ) ∷ [])

-- a known name keeps its place
abbrev pub FoldedBehindOneKernel : Type 0
FoldedBehindOneKernel = behind one_kernel ≡ Ok ((codes "PATH", codes "/b") ∷ (codes "Q", codes "1") ∷ [])

-- a run of two commands with a name each
abbrev pub two_names : List ℕ
two_names = codes "#$ PATH=/b\n#$ gcc a.cpp1.ii\n#$ cicc b.cpp1.ii\n#$ TOP=/u\n"

-- the name of a command that isn't selected counts
abbrev pub AllNamesCount : Type 0
AllNamesCount = ciccs true two_names ≡ Ok ((2, codes "/b/cicc", codes "x_1.cpp1.ii" ∷ []) ∷ [])

-- names stay where no canonical ones are asked for
abbrev pub NamesStay : Type 0
NamesStay = ciccs false two_names ≡ Ok ((2, codes "/b/cicc", codes "b.cpp1.ii" ∷ []) ∷ [])

-- a program's folder and its extension are no part of its stem
abbrev pub NothingIsSelected : Type 0
NothingIsSelected = ciccs true (codes "#$ PATH=/cicc\n#$ gcc k.cpp1.ii\n#$ ./cicc/x.cicc k.cpp1.ii\n") ≡ Ok []

-- an environment line behind all commands counts, and a new name comes last
abbrev pub LaterLineSetsToo : Type 0
LaterLineSetsToo = behind two_names ≡ Ok ((codes "PATH", codes "/b") ∷ (codes "Q", codes "1") ∷ (codes "TOP", codes "/u") ∷ [])

-- a bad line behind a command that is selected refuses the whole run
abbrev pub BadRunIsRefused : Type 0
BadRunIsRefused = ciccs true (codes "#$ PATH=/b\n#$ cicc k.cpp1.ii\n#$ gcc \"a\n") ≡ Err (BadShell 1 2)
