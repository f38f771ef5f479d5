-- The text of a plan.
use Rattle.std.specs.Prelude.{ℕ, ◌+◌, List, [], ◌∷◌, ◌++◌, flat_map, codes}
use Rattle.compilers.specs.declared.command.Cacheable.{Cacheable}
use Rattle.compilers.specs.declared.command.Cacheable.TheVariants.{Yes, No}
use Rattle.compilers.specs.declared.plans.plan.NvccGeneratedSubcommand.{NvccGeneratedSubcommand}
use Rattle.compilers.specs.declared.plans.plan.Dropped.{Dropped}
use Rattle.compilers.specs.declared.plans.plan.Plan.{Plan}
use Rattle.compilers.specs.Reasons.{reason_name}
use Rattle.texts.specs.Numeral.{numeral}

-- a program and its words, each word after a space, and the end of the line
abbrev pub show_words : List ℕ → List (List ℕ) → List ℕ
show_words exe words = exe ++ (flat_map (λ word. 32 ∷ word) words ++ 10 ∷ [])

-- whether a cache may serve a command's outputs
abbrev pub show_cacheable : Cacheable → List ℕ
show_cacheable Yes = codes "yes"
show_cacheable No = codes "no"

-- the line of a command: whether a cache may serve it, its directory, its program and its words
abbrev pub show_subcommand : NvccGeneratedSubcommand → List ℕ
show_subcommand c = show_cacheable c.cacheable ++ (codes " cd " ++ (c.cwd ++ (codes " && " ++ show_words c.exe c.args)))

-- the lines of groups, numbered from a number on: the number of each, then its commands
abbrev pub show_groups : ℕ → List (List NvccGeneratedSubcommand) → List ℕ
show_groups number [] = []
show_groups number (group ∷ groups) =
    codes "group " ++ (numeral number ++ (10 ∷ (flat_map show_subcommand group ++ show_groups (number + 1) groups)))

-- the line of a dropped command: its line, its run, the reason, its program and its words
abbrev pub show_dropped : Dropped → List ℕ
show_dropped d =
    codes "dropped " ++ (numeral d.line ++ (codes " run " ++ (numeral d.run ++ (32 ∷ (reason_name d.reason ++ (32 ∷ show_words d.exe d.args))))))

-- the text of a plan: its groups, numbered from 0, then its dropped commands
abbrev pub show_plan : Plan → List ℕ
show_plan plan = show_groups 0 plan.groups ++ flat_map show_dropped plan.dropped
