-- Plans worked out by hand, of commands whose words are renamed already.
use Rattle.std.proofs.Common.{◌≡◌, ℕ, List, [], ◌∷◌, ◌++◌, codes}
use Rattle.texts.specs.Rows.{blank_separated}
use Rattle.compilers.specs.declared.command.Cacheable.{Cacheable}
use Rattle.compilers.specs.declared.command.Cacheable.TheVariants.{Yes, No}
use Rattle.compilers.specs.declared.compiler.NvccHostCompiler.{NvccHostCompiler}
use Rattle.compilers.specs.declared.compiler.NvccHostCompiler.TheVariants.{Gcc, Msvc}
use Rattle.compilers.specs.declared.plans.plan.NvccGeneratedSubcommand.{NvccGeneratedSubcommand}
use Rattle.compilers.specs.declared.plans.plan.Dropped.{Dropped}
use Rattle.compilers.specs.declared.plans.plan.Reason.{Reason}
use Rattle.compilers.specs.declared.plans.plan.Reason.TheVariants.{NoCiccGroup, NoPtxasGroup, Superseded}
use Rattle.compilers.specs.declared.plans.plan.Plan.{Plan}
use Rattle.compilers.specs.CommandLines.{CommandLine}
use Rattle.compilers.specs.OneKernel.{at}
use Rattle.command_groups.specs.Merge.{MergedCommand, merged}
use Rattle.dry_runs.specs.Environment.{with_variables}
use Rattle.command_groups.specs.Plan.{PlanSetting, plan_of}

-- How the examples are written: a line's words in one text, with blanks between them (`at`, `blank_separated`).

-- the setting of most examples, under a host compiler and a compilation flag
abbrev pub setting : NvccHostCompiler → List ℕ → PlanSetting
setting compiler flag = record { cwd = codes "/w"; tmp = codes "/t"; flag = flag; host_compiler = compiler; env_vars = [] }

-- the environment line of most examples
abbrev pub path_set : List (List ℕ × List ℕ)
path_set = (codes "PATH", codes "/b") ∷ []

-- the plan of one list of commands for both runs
abbrev pub plan_of_both : List CommandLine → Plan
plan_of_both commands = plan_of (setting Gcc (codes "-c")) path_set commands commands

-- what a group holds: a command in its folder, and one that host code is compiled by
abbrev pub runs : Cacheable → List ℕ → List ℕ → List ℕ → NvccGeneratedSubcommand
runs cacheable cwd exe words = record { exe = exe; args = blank_separated words; cwd = cwd; env_vars = path_set; cacheable = cacheable }

abbrev pub compiles : List ℕ → List ℕ → NvccGeneratedSubcommand
compiles exe words = record (runs Yes (codes "/w") exe words) {
  env_vars = (codes "PATH", codes "/b") ∷ (codes "__SCCACHE_THIS_IS_A_CUDA_COMPILATION__", []) ∷ [];
}

abbrev pub drops : Reason → ℕ → ℕ → List ℕ → List ℕ → Dropped
drops reason line run exe words = record { line = line; run = run; exe = exe; args = blank_separated words; reason = reason }

abbrev pub plan_with : List (List NvccGeneratedSubcommand) → List Dropped → Plan
plan_with groups dropped = record { groups = groups; dropped = dropped }

-- a step that preprocesses the source to an output
abbrev pub step : List ℕ → NvccGeneratedSubcommand
step output = runs No (codes "/w") (codes "/b/gcc") (codes "-D__NVCC__ -E k.cu -o " ++ output)

-- the plan in which such a step is the only command of a group, and these commands are dropped
abbrev pub plan_of_step : List ℕ → List Dropped → Plan
plan_of_step output dropped = plan_with ([] ∷ (step output ∷ []) ∷ [] ∷ []) dropped

-- the plan of the one-kernel dry run, the names of the first run's files made of one text and those of the second run's of another
abbrev pub one_kernel_plan : List ℕ → List ℕ → Plan
one_kernel_plan name second =
    plan_with
    ((runs No (codes "/w") (codes "/b/gcc") (codes "-D__CUDACC__ -E -x c++ kernel.cu -o " ++ (second ++ codes ".cpp4.ii")) ∷
    runs Yes (codes "/t") (codes "/b/cudafe++")
    (codes "--gen_c_file_name " ++
    (name ++ (codes ".cudafe1.cpp --stub_file_name " ++
    (name ++ (codes ".cudafe1.stub.c --gen_module_id_file --module_id_file_name kernel.module_id --simt-only " ++
    (name ++ codes ".cpp4.ii")))))) ∷
    []) ∷
    (runs No (codes "/w") (codes "/b/gcc") (codes "-D__CUDA_ARCH__=800 -D__CUDACC__ -E -x c++ kernel.cu -o " ++ (second ++ codes ".cpp1.ii")) ∷
    runs Yes (codes "/t") (codes "/b/cicc")
    (codes "--device-c -arch compute_80 --module_id_file_name kernel.module_id --gen_c_file_name " ++
    (name ++ (codes ".cudafe1.c --stub_file_name " ++
    (name ++ (codes ".cudafe1.stub.c --gen_device_file_name kernel.cudafe1.gpu " ++
    (name ++ codes ".cpp1.ii --simt-only -o kernel.ptx")))))) ∷
    runs Yes (codes "/t") (codes "/b/ptxas") (codes "-arch=sm_80 --compile-only kernel.ptx -o kernel.cubin") ∷
    []) ∷
    (runs No (codes "/t") (codes "/b/fatbinary")
    (codes "--create=kernel.fatbin --image3=kind=elf,sm=80,file=kernel.cubin --embedded-fatbin=kernel.fatbin.c --device-c") ∷
    compiles (codes "/b/gcc") (codes "-D__CUDA_ARCH__=800 -D__CUDACC__ -c -x c++ " ++ (second ++ codes ".cudafe1.cpp -o kernel.o")) ∷
    []) ∷
    [])
    []

-- a preprocess step and cicc, twice over
abbrev pub step_and_cicc_twice : List CommandLine
step_and_cicc_twice =
    at 1 (codes "/b/gcc") (codes "-D__NVCC__ -E k.cu -o x_0.cpp1.ii") ∷
    at 2 (codes "/b/cicc") (codes "x_0.cpp1.ii -o k.ptx") ∷
    at 3 (codes "/b/gcc") (codes "-D__NVCC__ -E k.cu -o x_0.cpp1.ii") ∷
    at 4 (codes "/b/cicc") (codes "x_0.cpp1.ii -o k.ptx") ∷
    []

abbrev pub superseded_pair : List Dropped
superseded_pair =
    drops Superseded 1 2 (codes "/b/gcc") (codes "-D__NVCC__ -E k.cu -o x_0.cpp1.ii") ∷
    drops Superseded 2 1 (codes "/b/cicc") (codes "x_0.cpp1.ii -o k.ptx") ∷
    []

abbrev pub step_and_cicc : List NvccGeneratedSubcommand
step_and_cicc =
    step (codes "x_0.cpp1.ii") ∷
    runs Yes (codes "/t") (codes "/b/cicc") (codes "x_0.cpp1.ii -o k.ptx") ∷
    []

-- a step that opens a name again supersedes the commands that were in its group
abbrev pub ReopenedGroup : Type 0
ReopenedGroup = plan_of_both step_and_cicc_twice ≡ plan_with ([] ∷ step_and_cicc ∷ [] ∷ []) superseded_pair

-- both ptxas commands join the group whose cicc makes their input
abbrev pub SecondPtxas : Type 0
SecondPtxas =
    plan_of_both (step_and_cicc_twice ++ (at 5 (codes "/b/ptxas") (codes "k.ptx -o a.cubin") ∷ at 6 (codes "/b/ptxas") (codes "k.ptx -o b.cubin") ∷ [])) ≡
    plan_with
    ([] ∷
    (step_and_cicc ++
    (runs Yes (codes "/t") (codes "/b/ptxas") (codes "k.ptx -o a.cubin") ∷
    runs Yes (codes "/t") (codes "/b/ptxas") (codes "k.ptx -o b.cubin") ∷
    [])) ∷
    [] ∷
    [])
    superseded_pair

-- a cicc whose group was opened again makes nothing for ptxas
abbrev pub SupersededCicc : Type 0
SupersededCicc =
    plan_of_both
    (at 1 (codes "/b/gcc") (codes "-D__NVCC__ -E k.cu -o x_0.cpp1.ii") ∷
    at 2 (codes "/b/cicc") (codes "x_0.cpp1.ii -o k.ptx") ∷
    at 3 (codes "/b/gcc") (codes "-D__NVCC__ -E k.cu -o x_0.cpp1.ii") ∷
    at 4 (codes "/b/ptxas") (codes "k.ptx -o a.cubin") ∷
    []) ≡ plan_of_step (codes "x_0.cpp1.ii") (superseded_pair ++ drops NoPtxasGroup 4 1 (codes "/b/ptxas") (codes "k.ptx -o a.cubin") ∷ [])

-- nor does a step, though it is the group's last command and has ptxas's file as its last word
abbrev pub StepMakesNoPtx : Type 0
StepMakesNoPtx =
    plan_of_both
    (at 1 (codes "/b/gcc") (codes "-D__NVCC__ -E k.cu -o x_0.cpp1.ii k.ptx") ∷ at 2 (codes "/b/ptxas") (codes "k.ptx -o a.cubin") ∷ []) ≡
    plan_of_step (codes "x_0.cpp1.ii k.ptx") (drops NoPtxasGroup 2 1 (codes "/b/ptxas") (codes "k.ptx -o a.cubin") ∷ [])

-- two steps, which open two groups
abbrev pub two_steps : List CommandLine
two_steps = at 1 (codes "/b/gcc") (codes "-D__NVCC__ -E k.cu -o x_0.cpp1.ii") ∷ at 2 (codes "/b/gcc") (codes "-D__NVCC__ -E k.cu -o x_1.cpp1.ii") ∷ []

-- two groups whose cicc make one file share the later ptxas in the first of them
abbrev pub SharedPtx : Type 0
SharedPtx =
    plan_of_both
    (two_steps ++ (at 3 (codes "/b/cicc") (codes "x_1.cpp1.ii -o k.ptx") ∷
    at 4 (codes "/b/cicc") (codes "x_0.cpp1.ii -o k.ptx") ∷
    at 5 (codes "/b/ptxas") (codes "k.ptx -o a.cubin") ∷
    [])) ≡
    plan_with
    ([] ∷
    (step_and_cicc ++ runs Yes (codes "/t") (codes "/b/ptxas") (codes "k.ptx -o a.cubin") ∷ []) ∷
    (step (codes "x_1.cpp1.ii") ∷
    runs Yes (codes "/t") (codes "/b/cicc") (codes "x_1.cpp1.ii -o k.ptx") ∷
    []) ∷
    [] ∷
    [])
    []

-- cl preprocesses by `-P`, and gcc doesn't
abbrev pub cl_step : List CommandLine
cl_step = at 1 (codes "/b/cl") (codes "-D__NVCC__ -P k.cu -o x_0.cpp1.ii") ∷ []

-- under Msvc the step opens a group
abbrev pub PreprocessesForMsvc : Type 0
PreprocessesForMsvc =
    plan_of (setting Msvc (codes "-c")) path_set cl_step cl_step ≡
    plan_with
    ([] ∷ (runs No (codes "/w") (codes "/b/cl") (codes "-D__NVCC__ -P k.cu -o x_0.cpp1.ii") ∷ []) ∷ [] ∷ []) []

-- under Gcc the same command compiles host code
abbrev pub CompilesForGcc : Type 0
CompilesForGcc = plan_of_both cl_step ≡ plan_with ([] ∷ (compiles (codes "/b/cl") (codes "-D__NVCC__ -P k.cu -o x_0.cpp1.ii") ∷ []) ∷ []) []

-- a step and a cicc that says twice that the module id file is made
abbrev pub step_and_generating_cicc : List CommandLine
step_and_generating_cicc =
    at 1 (codes "/b/gcc") (codes "-D__NVCC__ -E k.cu -o x_0.cpp1.ii") ∷
    at 2 (codes "/b/cicc") (codes "--gen_module_id_file --gen_module_id_file x_0.cpp1.ii -o k.ptx") ∷
    []

abbrev pub step_and_cicc_with : List ℕ → List NvccGeneratedSubcommand
step_and_cicc_with words = step (codes "x_0.cpp1.ii") ∷
    runs Yes (codes "/t") (codes "/b/cicc") words ∷ []

-- where objects are made, cicc loses the first of the two words
abbrev pub CiccLosesOneWord : Type 0
CiccLosesOneWord =
    plan_of_both step_and_generating_cicc ≡ plan_with ([] ∷ step_and_cicc_with (codes "--gen_module_id_file x_0.cpp1.ii -o k.ptx") ∷ [] ∷ []) []

-- under another flag it keeps both
abbrev pub CiccKeepsItsWords : Type 0
CiccKeepsItsWords =
    plan_of (setting Gcc (codes "-ptx")) path_set step_and_generating_cicc step_and_generating_cicc ≡
    plan_with ([] ∷ step_and_cicc_with (codes "--gen_module_id_file --gen_module_id_file x_0.cpp1.ii -o k.ptx") ∷ [] ∷ []) []

-- a program without a stem is of neither run
abbrev pub ProgramWithoutAStem : Type 0
ProgramWithoutAStem =
    plan_of (setting Gcc (codes "-c")) ((codes "PATH", codes "/") ∷ [])
    (at 1 (codes "/") (codes "x") ∷ []) (at 1 (codes "/") (codes "x") ∷ []) ≡
    plan_with ([] ∷ [] ∷ []) []

-- a step without a word after its `-o` opens no group
abbrev pub StepWithoutAnOutput : Type 0
StepWithoutAnOutput =
    plan_of_both (at 1 (codes "/b/gcc") (codes "-D__NVCC__ -E k.cu -o") ∷ []) ≡
    plan_with ((runs No (codes "/w") (codes "/b/gcc") (codes "-D__NVCC__ -E k.cu -o") ∷ []) ∷ [] ∷ []) []

-- nor does one whose output has no file name
abbrev pub StepWithoutAFileName : Type 0
StepWithoutAFileName =
    plan_of_both (at 1 (codes "/b/gcc") (codes "-D__NVCC__ -E k.cu -o ..") ∷ []) ≡
    plan_with ((step (codes "..") ∷ []) ∷ [] ∷ []) []

-- two groups: cicc and ptxas join the one that makes their input, which is the second; cicc and ptxas that name no input join none
abbrev pub SecondGroupIsJoined : Type 0
SecondGroupIsJoined =
    plan_of_both
    (two_steps ++ (at 3 (codes "/b/cicc") (codes "x_1.cpp1.ii -o b.ptx") ∷
    at 4 (codes "/b/ptxas") (codes "b.ptx -o b.cubin") ∷
    at 5 (codes "/b/cicc") (codes "-o b.ptx") ∷
    at 6 (codes "/b/ptxas") (codes "-o b.cubin") ∷
    [])) ≡
    plan_with
    ([] ∷
    (step (codes "x_0.cpp1.ii") ∷ []) ∷
    (step (codes "x_1.cpp1.ii") ∷
    runs Yes (codes "/t") (codes "/b/cicc") (codes "x_1.cpp1.ii -o b.ptx") ∷
    runs Yes (codes "/t") (codes "/b/ptxas") (codes "b.ptx -o b.cubin") ∷
    []) ∷
    [] ∷
    [])
    (drops NoCiccGroup 5 1 (codes "/b/cicc") (codes "-o b.ptx") ∷ drops NoPtxasGroup 6 1 (codes "/b/ptxas") (codes "-o b.cubin") ∷ [])

-- a command as the merged list holds it
abbrev pub planned : ℕ → ℕ → List ℕ → MergedCommand
planned line run program = record { line = line; run = run; program = program; words = [] ∷ [] }

-- commands are merged by line, and on one line the first run comes first; each run has its own programs
abbrev pub MergedByLineAndRun : Type 0
MergedByLineAndRun =
    merged (at 0 (codes "/b/gcc") [] ∷ at 2 (codes "/b/nvlink") [] ∷ at 4 (codes "/b/cicc") [] ∷ [])
    (at 0 (codes "/b/ptxas") [] ∷ at 2 (codes "/b/gcc") [] ∷ at 3 (codes "/b/cicc.sh.exe") [] ∷ []) ≡
    (planned 2 1 (codes "/b/nvlink") ∷ planned 2 2 (codes "/b/gcc") ∷ planned 3 2 (codes "/b/cicc.sh.exe") ∷ planned 4 1 (codes "/b/cicc") ∷ [])

-- a known variable gets its value where it stands first, a new one comes last
abbrev pub FoldedEnvironment : Type 0
FoldedEnvironment =
    with_variables ((codes "PATH", codes "/x") ∷ (codes "Q", codes "1") ∷ (codes "PATH", codes "/y") ∷ [])
    ((codes "PATH", codes "/b") ∷ (codes "R", codes "2") ∷ []) ≡
    ((codes "PATH", codes "/b") ∷ (codes "Q", codes "1") ∷ (codes "PATH", codes "/y") ∷ (codes "R", codes "2") ∷ [])

-- the pair that host compilers get comes last even where the environment has its name
abbrev pub MarkedTwice : Type 0
MarkedTwice =
    plan_of (record (setting Gcc (codes "-c")) { env_vars = (codes "__SCCACHE_THIS_IS_A_CUDA_COMPILATION__", codes "1") ∷ [] }) path_set [] (at 1 (codes "/b/gcc") (codes "-D__NVCC__ -c x.cpp") ∷ []) ≡
    plan_with
    ([] ∷
    (record (compiles (codes "/b/gcc") (codes "-D__NVCC__ -c x.cpp")) {
      env_vars = (codes "__SCCACHE_THIS_IS_A_CUDA_COMPILATION__", codes "1") ∷ (codes "PATH", codes "/b") ∷
          (codes "__SCCACHE_THIS_IS_A_CUDA_COMPILATION__", []) ∷ [];
    } ∷ []) ∷
    [])
    []
