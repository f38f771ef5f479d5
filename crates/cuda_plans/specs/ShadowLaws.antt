-- What is claimed of shadow runs and of their plans: cicc stands beside the step that makes its input.
use Rattle.std.specs.Prelude.{◌≡◌, ℕ, ◌<◌, List, [], ◌∷◌, Bool, true, false, ◌&&◌, map, filter, Some, None, codes, Contains, bytes_eq}
use Rattle.compilers.specs.declared.compiler.NvccHostCompiler.{NvccHostCompiler}
use Rattle.texts.specs.Lists.{is_some_and, word_after}
use Rattle.texts.specs.DeviceFiles.{is_cicc_word}
use Rattle.texts.specs.Path.{joined, is_bare, is_absolute_path, file_name_of, file_stem_of}
use Rattle.compilers.specs.CommandLines.{CommandLine, line_of, program_of, words_of_command}
use Rattle.canonical_names.specs.Alike.{is_clean}
use Rattle.canonical_names.specs.CanonicalNames.{AreSuffixes, word_by_all, command_by_all}
use Rattle.canonical_names.specs.Generated.{begins_with_dash}
use Rattle.canonical_names.specs.Renaming.{rank, canonical_file, canonical_name, names_of_run}
use Rattle.cuda_plans.specs.Shadow.{is_plain_output, is_shadow, is_step_shadow}
use Rattle.command_groups.specs.Fate.{Fate, device, PlacedCommand, fates}
use Rattle.command_groups.specs.Merge.{of_run, is_taken, is_host_stem}
use Rattle.command_groups.specs.Plan.{PlanSetting, staged_commands}
use Rattle.command_groups.specs.PlanOfBytes.{named}
use Rattle.command_groups.specs.Stage.{StagedCommand, staged, is_for_cuda, has_word, preprocess_word, cicc_input}

-- a shadow is one by the inputs of cicc alone
abbrev pub ShadowIsStepShadow : Type 0
ShadowIsStepShadow =
    (suffixes : List (List ℕ)) → AreSuffixes suffixes → (first second : List CommandLine) (folder : List ℕ) →
    is_shadow suffixes first second folder ≡ true → is_step_shadow suffixes first second folder ≡ true

-- the inputs of cicc in one run, and the same ones in the folder in the other, have the same rank, and so the same canonical
-- file name
abbrev pub StepNamesKeepRank : Type 0
StepNamesKeepRank =
    (suffixes : List (List ℕ)) → AreSuffixes suffixes → (first second : List CommandLine) (folder : List ℕ) →
    is_step_shadow suffixes first second folder ≡ true → (name : List ℕ) → is_bare name ≡ true → is_cicc_word name ≡ true →
    rank (codes ".cpp1.ii") (names_of_run suffixes first) name ≡ rank (codes ".cpp1.ii") (names_of_run suffixes second) (joined folder name)

-- of plain outputs only an input of cicc gets a canonical file name of its class, with its own rank
abbrev pub PlainOutputsStayApart : Type 0
PlainOutputsStayApart =
    (suffixes : List (List ℕ)) → AreSuffixes suffixes → (names : List (List ℕ)) (word : List ℕ) (k : ℕ) → is_plain_output (Some word) ≡ true →
    file_name_of (word_by_all suffixes names word) ≡ Some (canonical_file k (codes ".cpp1.ii")) →
    (begins_with_dash word ≡ false) × (is_cicc_word word ≡ true) × (rank (codes ".cpp1.ii") names word ≡ k)

-- whether a command has a path right after its first `-o`
abbrev pub writes : List ℕ → CommandLine → Bool
writes path c = is_some_and (bytes_eq path) (word_after (codes "-o") (words_of_command c))

-- whether a command is a preprocess step of CUDA, by a host compiler, that writes a path
abbrev pub is_step_to : NvccHostCompiler → List ℕ → CommandLine → Bool
is_step_to compiler path c =
    (is_taken is_host_stem (program_of c) && (is_for_cuda (words_of_command c) && has_word (preprocess_word compiler) (words_of_command c))) && writes path c

-- a command of a clean run as it is planned: its words renamed and edited, and its stage
abbrev pub planned_command : List (List ℕ) → PlanSetting → ℕ → List CommandLine → CommandLine → StagedCommand
planned_command suffixes s run commands c = staged s.host_compiler s.flag (of_run run (command_by_all suffixes (names_of_run suffixes commands) c))

-- a cicc command of the first run and the one step of the second run that makes its input: both runs are clean, and the folder
-- of temporary files is absolute; the first of cicc's words that is an input is bare and doesn't begin with `-`; that name in
-- that folder is what exactly one preprocess step of the second run writes, and the step stands at an earlier line
pub record IsFedBy (suffixes : List (List ℕ)) (s : PlanSetting) (first second : List CommandLine) (cicc step : CommandLine) (name : List ℕ) : Type 0 where
  pub first_is_clean : is_clean suffixes first ≡ true
  pub second_is_clean : is_clean suffixes second ≡ true
  pub folder_is_absolute : is_absolute_path s.tmp ≡ true
  pub cicc_stands : Contains first cicc
  pub cicc_is_cicc : file_stem_of (program_of cicc) ≡ Some (codes "cicc")
  pub input : cicc_input (words_of_command cicc) ≡ Some name
  pub input_is_bare : is_bare name ≡ true
  pub input_is_no_option : begins_with_dash name ≡ false
  pub one_step : filter (is_step_to s.host_compiler (joined s.tmp name)) second ≡ step ∷ []
  pub step_is_earlier : line_of step < line_of cicc

-- a command stands among those that are planned, and wherever it does, this is its fate
pub record HasFate (commands : List StagedCommand) (c : StagedCommand) (fate : Fate) : Type 0 where
  pub stands : Contains (map (λ p. p.staged) (fates commands)) c
  pub goes : (p : PlacedCommand) → Contains (fates commands) p → p.staged ≡ c → p.fate ≡ fate

-- in the plan of two runs, their words renamed, both commands go to the device group of the input's canonical name
abbrev pub StandTogether : List (List ℕ) → PlanSetting → List CommandLine → List CommandLine → CommandLine → CommandLine → List ℕ → Type 0
StandTogether suffixes s first second cicc step name =
    HasFate (staged_commands s (named suffixes None first) (named suffixes None second))
    (planned_command suffixes s 1 first cicc)
    (device (canonical_name suffixes (names_of_run suffixes first) name)) ×
    HasFate (staged_commands s (named suffixes None first) (named suffixes None second))
    (planned_command suffixes s 2 second step) (device (canonical_name suffixes (names_of_run suffixes first) name))

-- they do where the second run shadows the first as far as the inputs of cicc go
abbrev pub StepShadowsStandTogether : Type 0
StepShadowsStandTogether =
    (suffixes : List (List ℕ)) → AreSuffixes suffixes → (s : PlanSetting) (first second : List CommandLine) (cicc step : CommandLine) (name : List ℕ) →
    is_step_shadow suffixes first second s.tmp ≡ true → IsFedBy suffixes s first second cicc step name → StandTogether suffixes s first second cicc step name

-- so they do where it shadows the first
abbrev pub ShadowsStandTogether : Type 0
ShadowsStandTogether =
    (suffixes : List (List ℕ)) → AreSuffixes suffixes → (s : PlanSetting) (first second : List CommandLine) (cicc step : CommandLine) (name : List ℕ) →
    is_shadow suffixes first second s.tmp ≡ true → IsFedBy suffixes s first second cicc step name → StandTogether suffixes s first second cicc step name
