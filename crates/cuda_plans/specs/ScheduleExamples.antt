-- Schedules worked out by hand: three kernels, and which of their commands run once one fails.
use Rattle.std.proofs.Common.{◌≡◌, ℕ, ◌*◌, List, [], ◌∷◌, ◌++◌, map, pos, Ok, Err, codes}
use Rattle.compilers.specs.declared.command.Cacheable.TheVariants.{Yes, No}
use Rattle.texts.specs.declared.fault.Fault.TheVariants.{Process}
use Rattle.compilers.specs.declared.plans.plan.NvccGeneratedSubcommand.{NvccGeneratedSubcommand}
use Rattle.cuda_plans.specs.declared.runner.Answer.{Answer}
use Rattle.cuda_plans.specs.declared.runner.Answer.TheVariants.{Ran, Failed}
use Rattle.compilers.specs.CommandLines.{CommandLine}
use Rattle.cuda_plans.specs.Outcome.{output_with}
use Rattle.compilers.specs.OneKernel.{at}
use Rattle.command_groups.specs.PlanExamples.{runs, compiles, plan_of_both, plan_with}
use Rattle.cuda_plans.specs.Schedule.{AccountEntry, IsWhole, outcome_of, chunk_of}

-- three kernels: three preprocess steps, three runs of cicc, and host code
abbrev pub three_kernels : List CommandLine
three_kernels =
    at 1 (codes "/b/gcc") (codes "-D__NVCC__ -E k.cu -o x_0.cpp1.ii") ∷
    at 2 (codes "/b/gcc") (codes "-D__NVCC__ -E k.cu -o x_1.cpp1.ii") ∷
    at 3 (codes "/b/gcc") (codes "-D__NVCC__ -E k.cu -o x_2.cpp1.ii") ∷
    at 4 (codes "/b/cicc") (codes "x_0.cpp1.ii -o a.ptx") ∷
    at 5 (codes "/b/cicc") (codes "x_1.cpp1.ii -o b.ptx") ∷
    at 6 (codes "/b/cicc") (codes "x_2.cpp1.ii -o c.ptx") ∷
    at 7 (codes "/b/gcc") (codes "-D__NVCC__ -c k.cpp") ∷
    []

abbrev pub step_of_kernel : List ℕ → NvccGeneratedSubcommand
step_of_kernel name = runs No (codes "/w") (codes "/b/gcc") (codes "-D__NVCC__ -E k.cu -o " ++ name)

abbrev pub cicc_of_kernel : List ℕ → List ℕ → NvccGeneratedSubcommand
cicc_of_kernel name ptx = runs Yes (codes "/t") (codes "/b/cicc") (name ++ (codes " -o " ++ ptx))

-- the first, second and third kernel's commands, and the host code's
abbrev pub step_a : NvccGeneratedSubcommand
step_a = step_of_kernel (codes "x_0.cpp1.ii")

abbrev pub step_b : NvccGeneratedSubcommand
step_b = step_of_kernel (codes "x_1.cpp1.ii")

abbrev pub step_c : NvccGeneratedSubcommand
step_c = step_of_kernel (codes "x_2.cpp1.ii")

abbrev pub cicc_a : NvccGeneratedSubcommand
cicc_a = cicc_of_kernel (codes "x_0.cpp1.ii") (codes "a.ptx")

abbrev pub cicc_b : NvccGeneratedSubcommand
cicc_b = cicc_of_kernel (codes "x_1.cpp1.ii") (codes "b.ptx")

abbrev pub cicc_c : NvccGeneratedSubcommand
cicc_c = cicc_of_kernel (codes "x_2.cpp1.ii") (codes "c.ptx")

abbrev pub host_code : NvccGeneratedSubcommand
host_code = compiles (codes "/b/gcc") (codes "-D__NVCC__ -c k.cpp")

abbrev pub three_groups : List (List NvccGeneratedSubcommand)
three_groups = [] ∷ (step_a ∷ cicc_a ∷ []) ∷ (step_b ∷ cicc_b ∷ []) ∷ (step_c ∷ cicc_c ∷ []) ∷ (host_code ∷ []) ∷ []

-- an answer that is a code, without a text, and one of a process that the runner calls failed though it wasn't
abbrev pub code : ℕ → Answer
code n = Ran (output_with (pos (n * 256)) [] [])

abbrev pub no_failure : Answer
no_failure = Failed (Process (output_with (pos 0) [] []))

-- an entry: a command at its place, and the answer
abbrev pub ran : ℕ → ℕ → NvccGeneratedSubcommand → Answer → AccountEntry
ran group index command answer = record { place = record { group = group; index = index }; command = command; answer = answer }

-- an account that is whole, and what comes of it: the failure with code 3
abbrev pub EndsWithThree : ℕ → List AccountEntry → Type 0
EndsWithThree parallel account = IsWhole three_groups parallel account × (outcome_of account ≡ Err (Process (output_with (pos 768) [] [])))

-- their plan: an empty front group, a device group for each kernel, and host code
abbrev pub ThreeKernelsPlan : Type 0
ThreeKernelsPlan = plan_of_both three_kernels ≡ plan_with three_groups []

-- the chunks of these groups, the device groups by two: the front group, two groups, one group, and the final group
abbrev pub ChunksOfTwo : Type 0
ChunksOfTwo = map (chunk_of 3 2) (0 ∷ 1 ∷ 2 ∷ 3 ∷ 4 ∷ []) ≡ (0 ∷ 1 ∷ 1 ∷ 2 ∷ 4 ∷ [])

-- by two, the second group fails at once: its chunk is at its end, and nothing more runs
abbrev pub FailureEndsItsGroup : Type 0
FailureEndsItsGroup = EndsWithThree 2 (ran 1 0 step_a (code 0) ∷ ran 1 1 cicc_a (code 0) ∷ ran 2 0 step_b (code 3) ∷ [])

-- by two, the first group fails at once: the second one is of its chunk and runs to its end
abbrev pub ChunkIsFinished : Type 0
ChunkIsFinished = EndsWithThree 2 (ran 1 0 step_a (code 3) ∷ ran 2 0 step_b (code 0) ∷ ran 2 1 cicc_b (code 0) ∷ [])

-- one at a time, the first group fails at once: it ends its chunk
abbrev pub OneAtATime : Type 0
OneAtATime = EndsWithThree 1 (ran 1 0 step_a (code 3) ∷ [])

-- none at a time is one at a time
abbrev pub NoneAtATime : Type 0
NoneAtATime = EndsWithThree 0 (ran 1 0 step_a (code 3) ∷ [])

-- more at a time than there are: all device groups are one chunk
abbrev pub ManyAtATime : Type 0
ManyAtATime =
    EndsWithThree 9 (ran 1 0 step_a (code 3) ∷ ran 2 0 step_b (code 0) ∷ ran 2 1 cicc_b (code 0) ∷ ran 3 0 step_c (code 0) ∷ ran 3 1 cicc_c (code 0) ∷ [])

-- both groups of a chunk fail: the first failure counts
abbrev pub FirstFailureIsKept : Type 0
FirstFailureIsKept = EndsWithThree 2 (ran 1 0 step_a (code 3) ∷ ran 2 0 step_b (code 5) ∷ [])

-- all commands in the order of their places, with one answer for each
abbrev pub all_ran : Answer → List AccountEntry
all_ran answer =
    ran 1 0 step_a answer ∷ ran 1 1 cicc_a answer ∷ ran 2 0 step_b answer ∷ ran 2 1 cicc_b answer ∷
    ran 3 0 step_c answer ∷ ran 3 1 cicc_c answer ∷ ran 4 0 host_code answer ∷ []

-- no command fails: all run
abbrev pub AllSucceed : Type 0
AllSucceed = IsWhole three_groups 2 (all_ran (code 0)) × (outcome_of (all_ran (code 0)) ≡ Ok (output_with (pos 0) [] []))

-- a failure that carries the output of a success is none
abbrev pub FailureOfASuccess : Type 0
FailureOfASuccess = IsWhole three_groups 1 (all_ran no_failure) × (outcome_of (all_ran no_failure) ≡ Ok (output_with (pos 0) [] []))
