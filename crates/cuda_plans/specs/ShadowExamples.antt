-- Shadow runs worked out by hand, for the folder `/t`: where cicc stands beside the step that makes its input, and where it
-- doesn't, since one premise is missing.
use Rattle.std.specs.Prelude.{◌≡◌, ◌==◌, ℕ, List, [], ◌∷◌, None, true, false, if◌then◌else◌, map, filter, codes}
use Rattle.std.specs.List.{list_all}
use Rattle.compilers.specs.declared.compiler.NvccHostCompiler.TheVariants.{Gcc}
use Rattle.texts.specs.Path.{joined, is_bare}
use Rattle.texts.specs.Rows.{spaced}
use Rattle.compilers.specs.CommandLines.{CommandLine}
use Rattle.compilers.specs.OneKernel.{at, one_kernel_commands, one_kernel_in_temporary_commands}
use Rattle.canonical_names.specs.Alike.{is_clean}
use Rattle.canonical_names.specs.Generated.{standard_suffixes}
use Rattle.canonical_names.specs.Appearances.{appearances}
use Rattle.cuda_plans.specs.Shadow.{is_shadow, is_step_shadow}
use Rattle.compilers.specs.declared.plans.plan.Reason.TheVariants.{NoCiccGroup, Superseded}
use Rattle.command_groups.specs.Fate.{Fate, front, device, final, ungrouped, fates}
use Rattle.command_groups.specs.Plan.{PlanSetting, staged_commands}
use Rattle.command_groups.specs.PlanOfBytes.{named}
use Rattle.command_groups.specs.PlanExamples.{setting}
use Rattle.cuda_plans.specs.ShadowLaws.{is_step_to, IsFedBy}

abbrev pub shadow_setting : PlanSetting
shadow_setting = setting Gcc (codes "-c")

-- the fates of all merged commands, in their order
abbrev pub all_fates : List CommandLine → List CommandLine → List Fate
all_fates first second = map (λ p. p.fate) (fates (staged_commands shadow_setting (named standard_suffixes None first) (named standard_suffixes None second)))

-- the steps that make an input of cicc
abbrev pub steps_to : List ℕ → List CommandLine → List CommandLine
steps_to name second = filter (is_step_to Gcc (joined (codes "/t") name)) second

abbrev pub AreBothClean : List CommandLine → List CommandLine → Type 0
AreBothClean first second = (is_clean standard_suffixes first ≡ true) × (is_clean standard_suffixes second ≡ true)

-- cicc and a step that stands earlier: they stand together
abbrev pub cicc_of_a : CommandLine
cicc_of_a = at 2 (codes "/b/cicc") (codes "a.cpp1.ii -o a.ptx")

abbrev pub one_cicc : List CommandLine
one_cicc = cicc_of_a ∷ []

abbrev pub step_of_a : CommandLine
step_of_a = at 1 (codes "/b/gcc") (codes "-D__CUDACC__ -E a.cu -o /t/a.cpp1.ii")

abbrev pub earlier_step : List CommandLine
earlier_step = step_of_a ∷ []

abbrev pub EarlierStepStandsTogether : Type 0
EarlierStepStandsTogether =
    AreBothClean one_cicc earlier_step × (is_shadow standard_suffixes one_cicc earlier_step (codes "/t") ≡ true) ×
    (steps_to (codes "a.cpp1.ii") earlier_step ≡ earlier_step) ×
    (all_fates one_cicc earlier_step ≡ device (codes "x_0.cpp1.ii") ∷ device (codes "x_0.cpp1.ii") ∷ [])

-- they meet all premises of the laws of shadow runs
abbrev pub EarlierStepFeedsCicc : Type 0
EarlierStepFeedsCicc = IsFedBy standard_suffixes shadow_setting one_cicc earlier_step cicc_of_a step_of_a (codes "a.cpp1.ii")

-- the step stands at a later line: cicc has no group
abbrev pub later_step : List CommandLine
later_step = at 3 (codes "/b/gcc") (codes "-D__CUDACC__ -E a.cu -o /t/a.cpp1.ii") ∷ []

abbrev pub LaterStepStandsApart : Type 0
LaterStepStandsApart =
    AreBothClean one_cicc later_step × (is_shadow standard_suffixes one_cicc later_step (codes "/t") ≡ true) ×
    (steps_to (codes "a.cpp1.ii") later_step ≡ later_step) ×
    (all_fates one_cicc later_step ≡ ungrouped NoCiccGroup ∷ device (codes "x_0.cpp1.ii") ∷ [])

-- two steps write cicc's input, one earlier and one later: cicc and the earlier step lose their group
abbrev pub cicc_and_step : List CommandLine
cicc_and_step = at 2 (codes "/b/cicc") (codes "a.cpp1.ii -o a.ptx") ∷ at 3 (codes "/b/gcc") (codes "a.cpp1.ii") ∷ []

abbrev pub two_steps : List CommandLine
two_steps = at 1 (codes "/b/gcc") (codes "-D__CUDACC__ -E a.cu -o /t/a.cpp1.ii") ∷ at 3 (codes "/b/gcc") (codes "-D__CUDACC__ -E a.cu -o /t/a.cpp1.ii") ∷ []

abbrev pub TwoStepsStandApart : Type 0
TwoStepsStandApart =
    AreBothClean cicc_and_step two_steps × (is_shadow standard_suffixes cicc_and_step two_steps (codes "/t") ≡ true) ×
    (steps_to (codes "a.cpp1.ii") two_steps ≡ two_steps) ×
    (all_fates cicc_and_step two_steps ≡ ungrouped Superseded ∷ ungrouped Superseded ∷ device (codes "x_0.cpp1.ii") ∷ [])

-- cicc's input has a folder, and all else is as in a shadow: the step opens the group of the file name alone, and cicc has none
abbrev pub cicc_in_folder : List CommandLine
cicc_in_folder = at 2 (codes "/b/cicc") (codes "d/a.cpp1.ii -o a.ptx") ∷ []

abbrev pub step_in_folder : List CommandLine
step_in_folder = at 1 (codes "/b/gcc") (codes "-D__CUDACC__ -E a.cu -o /t/d/a.cpp1.ii") ∷ []

abbrev pub FolderStandsApart : Type 0
FolderStandsApart =
    AreBothClean cicc_in_folder step_in_folder × (list_all is_bare (appearances standard_suffixes cicc_in_folder) ≡ false) ×
    (appearances standard_suffixes step_in_folder ≡
    map (joined (codes "/t")) (appearances standard_suffixes cicc_in_folder)) ×
    (steps_to (codes "d/a.cpp1.ii") step_in_folder ≡ step_in_folder) ×
    (all_fates cicc_in_folder step_in_folder ≡ device (codes "x_0.cpp1.ii") ∷ ungrouped NoCiccGroup ∷ [])

-- the one-kernel dry run in the folder `/t`, except that cudafe++ names the stub file without it, like nvcc 13.0
abbrev pub bare_stub_commands : List CommandLine
bare_stub_commands =
    map
    (λ c. if c.0 == 2 then (
      2,
      codes "/b/cudafe++",
      spaced "--gen_c_file_name /t/kernel.cudafe1.cpp --stub_file_name kernel.cudafe1.stub.c --module_id_file_name kernel.module_id --simt-only /t/kernel.cpp4.ii",
    ) else c)
    one_kernel_in_temporary_commands

-- The one-kernel dry run and the same run in the folder `/t` are shadows by the inputs of cicc. They still are if cudafe++'s
-- stub file is bare, although they are no shadows then. A run doesn't shadow itself.
abbrev pub OneKernelHasStepShadows : Type 0
OneKernelHasStepShadows =
    (is_step_shadow standard_suffixes one_kernel_commands one_kernel_in_temporary_commands (codes "/t") ≡ true)
    × (is_step_shadow standard_suffixes one_kernel_commands bare_stub_commands (codes "/t") ≡ true)
    × (is_shadow standard_suffixes one_kernel_commands bare_stub_commands (codes "/t") ≡ false)
    × (is_step_shadow standard_suffixes one_kernel_commands one_kernel_commands (codes "/t") ≡ false)

-- the one-kernel dry run and the same run in the folder `/t`, with cudafe++'s stub file bare: no shadow, but one as far as the
-- inputs of cicc go, and cicc stands beside its step
abbrev pub OneKernelStandsTogether : Type 0
OneKernelStandsTogether =
    AreBothClean one_kernel_commands bare_stub_commands × (is_shadow standard_suffixes one_kernel_commands bare_stub_commands (codes "/t") ≡ false) ×
    (is_step_shadow standard_suffixes one_kernel_commands bare_stub_commands (codes "/t") ≡ true) ×
    (all_fates one_kernel_commands bare_stub_commands ≡ front ∷ front ∷ device (codes "x_0.cpp1.ii") ∷
    device (codes "x_0.cpp1.ii") ∷ device (codes "x_0.cpp1.ii") ∷ final ∷ final ∷ [])

-- the same run in the folder `/t` shadows the one-kernel dry run; a run doesn't shadow itself
abbrev pub OneKernelHasAShadow : Type 0
OneKernelHasAShadow =
    (is_shadow standard_suffixes one_kernel_commands one_kernel_in_temporary_commands (codes "/t") ≡ true) ×
    (is_shadow standard_suffixes one_kernel_commands one_kernel_commands (codes "/t") ≡ false)
