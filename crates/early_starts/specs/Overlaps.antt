-- Commands that may run beside each other.
use Rattle.std.specs.Prelude.{ℕ, List, Bool, ◌||◌}
use Rattle.compilers.specs.declared.plans.plan.NvccGeneratedSubcommand.{NvccGeneratedSubcommand}
use Rattle.command_files.specs.declared.files.CommandFiles.{CommandFiles}
use Rattle.command_files.specs.CommandFiles.{files_of_words}
use Rattle.command_files.specs.Files.{must_follow, share}
use Rattle.command_files.specs.PlanNeeds.{record_of}

-- whether a command touches one of some files
abbrev pub touches_one_of : List (List ℕ) → CommandFiles → Bool
touches_one_of paths files = share paths files.reads || share paths (record_of files).writes

-- whether a command has to follow an earlier one by their records
abbrev pub follows : CommandFiles → CommandFiles → Bool
follows earlier later = must_follow (record_of earlier) (record_of later)

-- the files of a command by its record
abbrev pub files_of : NvccGeneratedSubcommand → CommandFiles
files_of c = files_of_words c.exe c.args c.cwd
