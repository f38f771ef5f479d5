-- What each command of a plan needs. Commands are numbered in plan order from 0: group after group, as they are run.
use Rattle.std.specs.Prelude.{◌≡◌, ℕ, ◌+◌, ◌-◌, List, [], ◌∷◌, ◌++◌, Bool, true, false, ◌||◌, ◌==◌, if◌then◌else◌, map, length, codes, bytes_eq}
use Rattle.std.specs.List.{list_any}
use Rattle.texts.specs.Rows.{spaced}
use Rattle.compilers.specs.declared.command.Cacheable.TheVariants.{Yes}
use Rattle.compilers.specs.declared.plans.plan.NvccGeneratedSubcommand.{NvccGeneratedSubcommand}
use Rattle.compilers.specs.declared.plans.plan.Plan.{Plan}
use Rattle.compilers.specs.Listed.{Listed, listed}
use Rattle.command_files.specs.declared.files.CommandFiles.{CommandFiles}
use Rattle.compilers.specs.declared.plans.program.Program.{Program}
use Rattle.compilers.specs.declared.plans.program.Program.TheVariants as programs
use Rattle.compilers.specs.Programs.{program_at}
use Rattle.command_files.specs.declared.steps.Role.{Role}
use Rattle.command_files.specs.declared.steps.Role.TheVariants as roles
use Rattle.command_files.specs.declared.steps.Step.{Step}
use Rattle.command_files.specs.CommandFiles.{files_of_words}
use Rattle.command_files.specs.Files.{Files, must_follow}
use Rattle.command_files.specs.Order.{needs_by}

-- whether a program is a host compiler. nvlink counts as one here, and only a final group has it
abbrev pub is_host_compiler : Program → Bool
is_host_compiler programs.Cicc = false
is_host_compiler programs.Cudafe = false
is_host_compiler programs.Ptxas = false
is_host_compiler programs.Fatbinary = false
is_host_compiler programs.Nvlink = true
is_host_compiler programs.Other = true

-- The role of a command in the group numbered `group` of `count`: a host compiler preprocesses in the front group and in device
-- groups. The last group is the final one, unless it is also the first.
abbrev pub role_of : ℕ → ℕ → Bool → Role
role_of count group compiles =
    if group == 0 then (if compiles then roles.FrontStep else roles.Plain) else
    (if count - group == 1 then roles.Final else
    (if compiles then roles.DeviceStep else roles.Plain))

-- whether words ask a host compiler to preprocess only
abbrev pub preprocesses : List (List ℕ) → Bool
preprocesses words = list_any (bytes_eq (codes "-E")) words

-- a command as what its needs and its orders depend on: its files, its role, and whether it only preprocesses
abbrev pub step_of : ℕ → ℕ → NvccGeneratedSubcommand → Step
step_of count group c = record {
  files = files_of_words c.exe c.args c.cwd;
  role = role_of count group (is_host_compiler (program_at c.exe));
  preprocesses = preprocesses c.args;
}

-- the commands of a plan, in plan order
abbrev pub step_in : ℕ → Listed → Step
step_in count l = step_of count l.group l.command

abbrev pub plan_steps : Plan → List Step
plan_steps plan = map (step_in (length plan.groups)) (listed plan.groups)

-- the files of each command
abbrev pub plan_files : Plan → List CommandFiles
plan_files plan = map (λ s. s.files) (plan_steps plan)

-- a command's record: a file that it may write counts as written
abbrev pub record_of : CommandFiles → Files
record_of f = record { reads = f.reads; writes = f.writes ++ f.may_write }

abbrev pub plan_records : Plan → List Files
plan_records plan = map record_of (plan_files plan)

-- Whether a role needs an earlier one whatever the files. The final group needs everything, because the generated source
-- includes files that no word names. A device preprocess step needs the front one, so that a missing header is reported once.
abbrev pub role_needs : Role → Role → Bool
role_needs roles.Plain earlier = false
role_needs roles.FrontStep earlier = false
role_needs roles.DeviceStep roles.Plain = false
role_needs roles.DeviceStep roles.FrontStep = true
role_needs roles.DeviceStep roles.DeviceStep = false
role_needs roles.DeviceStep roles.Final = false
role_needs roles.Final earlier = true

-- whether a command needs an earlier one: by their files, or by their roles
abbrev pub step_needs : Step → Step → Bool
step_needs earlier later = must_follow (record_of earlier.files) (record_of later.files) || role_needs later.role earlier.role

-- the needs of each command: the numbers of the earlier commands that it needs, in ascending order
abbrev pub plan_needs : Plan → List (List ℕ)
plan_needs plan = needs_by step_needs (plan_steps plan)

-- Two real plans for two targets, with fewer words.

abbrev pub runs : List ℕ → List ℕ → List (List ℕ) → NvccGeneratedSubcommand
runs cwd exe words = record { exe = exe; args = words; cwd = cwd; env_vars = []; cacheable = Yes }

-- `-fatbin`: the first cicc writes the module id, which the second one reads
abbrev pub fatbin_plan : Plan
fatbin_plan = record {
  groups =
      [] ∷
      (runs (codes "/w") (codes "/b/gcc") (spaced "-D__CUDA_ARCH__=900 -E -x c++ -D__CUDACC__ -m64 /w/kernel.cu -o /t/x_0.cpp1.ii") ∷
      runs (codes "/t") (codes "/b/cicc")
      (spaced "--c++17 -arch compute_90 -m64 --gen_module_id_file --module_id_file_name kernel.module_id --gen_c_file_name x_0.cudafe1.c --stub_file_name x_0.cudafe1.stub.c --gen_device_file_name kernel.compute_90.cudafe1.gpu x_0.cpp1.ii -o kernel.compute_90.ptx") ∷
      runs (codes "/t") (codes "/b/ptxas") (spaced "-arch=sm_90 -m64 kernel.compute_90.ptx -o kernel.compute_90.cubin") ∷ []) ∷
      (runs (codes "/w") (codes "/b/gcc") (spaced "-D__CUDA_ARCH__=800 -E -x c++ -D__CUDACC__ -m64 /w/kernel.cu -o /t/x_1.cpp1.ii") ∷
      runs (codes "/t") (codes "/b/cicc")
      (spaced "--c++17 -arch compute_80 -m64 --module_id_file_name kernel.module_id --gen_c_file_name x_1.cudafe1.c --stub_file_name x_1.cudafe1.stub.c --gen_device_file_name kernel.compute_80.cudafe1.gpu x_1.cpp1.ii -o kernel.compute_80.ptx") ∷
      runs (codes "/t") (codes "/b/ptxas") (spaced "-arch=sm_80 -m64 kernel.compute_80.ptx -o kernel.compute_80.cubin") ∷ []) ∷
      (runs (codes "/t") (codes "/b/fatbinary")
      (spaced "--create=/w/kernel.fatbin -64 --image3=kind=elf,sm=80,file=kernel.compute_80.cubin --image3=kind=elf,sm=90,file=kernel.compute_90.cubin") ∷ []) ∷ [];
  dropped = [];
}

abbrev pub NeedsOfFatbin : Type 0
NeedsOfFatbin = plan_needs fatbin_plan ≡ [] ∷ (0 ∷ []) ∷ (1 ∷ []) ∷ [] ∷ (1 ∷ 3 ∷ []) ∷ (4 ∷ []) ∷ (0 ∷ 1 ∷ 2 ∷ 3 ∷ 4 ∷ 5 ∷ []) ∷ []

-- `-c`: cudafe++ runs beside the device preprocess step and writes the module id, which cicc reads
abbrev pub object_plan : Plan
object_plan = record {
  groups =
      (runs (codes "/w") (codes "/b/gcc") (spaced "-E -x c++ -D__CUDACC__ -m64 /w/kernel.cu -o /t/x_0.cpp4.ii") ∷
      runs (codes "/t") (codes "/b/cudafe++")
      (spaced "--c++17 --m64 --gen_c_file_name x_0.cudafe1.cpp --stub_file_name x_0.cudafe1.stub.c --gen_module_id_file --module_id_file_name kernel.module_id x_0.cpp4.ii") ∷ []) ∷
      (runs (codes "/w") (codes "/b/gcc") (spaced "-D__CUDA_ARCH__=800 -E -x c++ -D__CUDACC__ -m64 /w/kernel.cu -o /t/x_0.cpp1.ii") ∷
      runs (codes "/t") (codes "/b/cicc")
      (spaced "--c++17 -arch compute_80 -m64 --module_id_file_name kernel.module_id --gen_c_file_name x_0.cudafe1.c --stub_file_name x_0.cudafe1.stub.c --gen_device_file_name kernel.cudafe1.gpu x_0.cpp1.ii -o kernel.ptx") ∷
      runs (codes "/t") (codes "/b/ptxas") (spaced "-arch=sm_80 -m64 kernel.ptx -o kernel.sm_80.cubin") ∷
      runs (codes "/t") (codes "/b/ptxas") (spaced "-arch=sm_86 -m64 kernel.ptx -o kernel.sm_86.cubin") ∷ []) ∷
      (runs (codes "/t") (codes "/b/fatbinary")
      (spaced "--create=kernel.fatbin -64 --image3=kind=elf,sm=80,file=kernel.sm_80.cubin --image3=kind=elf,sm=86,file=kernel.sm_86.cubin --embedded-fatbin=kernel.fatbin.c") ∷
      runs (codes "/w") (codes "/b/gcc") (spaced "-c -x c++ -m64 /t/x_0.cudafe1.cpp -o kernel.o") ∷ []) ∷ [];
  dropped = [];
}

abbrev pub NeedsOfObject : Type 0
NeedsOfObject =
    plan_needs object_plan ≡
    [] ∷ (0 ∷ []) ∷ (0 ∷ []) ∷ (1 ∷ 2 ∷ []) ∷ (3 ∷ []) ∷ (3 ∷ []) ∷ (0 ∷ 1 ∷ 2 ∷ 3 ∷ 4 ∷ 5 ∷ []) ∷ (0 ∷ 1 ∷ 2 ∷ 3 ∷ 4 ∷ 5 ∷ 6 ∷ []) ∷ []
