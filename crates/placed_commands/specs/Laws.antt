-- What stays of a command that runs in the call's own directory.
use Rattle.std.specs.Prelude.{◌≡◌, ℕ, List, ◌++◌, true, length, ◌⊎◌}
use Rattle.texts.specs.Path.{joined}
use Rattle.compilers.specs.declared.plans.plan.NvccGeneratedSubcommand.{NvccGeneratedSubcommand}
use Rattle.compilers.specs.declared.plans.plan.Plan.{Plan}
use Rattle.command_files.specs.declared.files.CommandFiles.{CommandFiles}
use Rattle.command_files.specs.PlanNeeds.{step_of, plan_steps}
use Rattle.placed_commands.specs.PlacedWords.{is_file, placed_word}
use Rattle.placed_commands.specs.PlacedCommands.{placed_command, placed_plan}

-- as many words as before
abbrev pub KeepsCount : Type 0
KeepsCount = (tmp cwd : List ℕ) (c : NvccGeneratedSubcommand) → length (placed_command tmp cwd c).args ≡ length c.args

-- a word stays, but for an end that names a file of the record and gets the file's whole path
abbrev pub ChangesEnds : Type 0
ChangesEnds = (files : CommandFiles) (folder word : List ℕ) →
    (placed_word files folder word ≡ word)
    ⊎ ((head : List ℕ) × (name : List ℕ) × (word ≡ head ++ name) × (is_file files folder name ≡ true) × (placed_word files folder word ≡ head ++ joined folder name))

-- what needs and orders depend on: the record, the role in any group, and whether it preprocesses
abbrev pub KeepsSteps : Type 0
KeepsSteps = (tmp cwd : List ℕ) (c : NvccGeneratedSubcommand) (count group : ℕ) → step_of count group (placed_command tmp cwd c) ≡ step_of count group c

abbrev pub KeepsPlanSteps : Type 0
KeepsPlanSteps = (tmp cwd : List ℕ) (plan : Plan) → plan_steps (placed_plan tmp cwd plan) ≡ plan_steps plan
