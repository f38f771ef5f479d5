-- Whether a plan can be run.
use Rattle.std.specs.Prelude.{◌≡◌, ℕ, ◌+◌, List, [], ◌∷◌, Bool, true, false, not, ◌&&◌, ◌||◌, ◌==◌, nat_eq, length, if◌then◌else◌, Option, Some, None, codes, refl, bytes_eq, option_copied}
use Rattle.std.specs.List.{list_any, position_from, starts_with}
use Rattle.texts.specs.Lists.{is_some_and}
use Rattle.texts.specs.Path.{joined}
use Rattle.canonical_names.specs.Directories.{is_plain}
use Rattle.command_files.specs.declared.files.CommandFiles.{CommandFiles}
use Rattle.plan_fitness.specs.declared.reasons.Directory.{Directory}
use Rattle.plan_fitness.specs.declared.reasons.Directory.TheVariants.{Working, Temporary}
use Rattle.plan_fitness.specs.declared.reasons.Fitness.{Fitness}
use Rattle.plan_fitness.specs.declared.reasons.Fitness.TheVariants.{Fit, OddDirectory, NoCommand, Dropped, Unwritten, SourceUnread, ProductUnwritten}
use Rattle.plan_fitness.specs.declared.plan_to_run.PlanToRun.{PlanToRun}
use Rattle.plan_fitness.specs.Written.{Files, no_files, with_files}

-- what is asked of a plan: its directories, the files of its commands in plan order, how many it dropped, and the call's files
pub record Asked : Type 0 where
  pub cwd : List ℕ
  pub tmp : List ℕ
  pub records : List CommandFiles
  pub dropped : ℕ
  pub source : Option (List ℕ)
  pub product : Option (List ℕ)

-- the first directory that isn't absolute and plain
abbrev pub odd_directory : List ℕ → List ℕ → Option Directory
odd_directory cwd tmp = if not (is_plain cwd) then Some Working else if not (is_plain tmp) then Some Temporary else None

-- whether a path is that of a file, if there is one
abbrev pub is_file : Option (List ℕ) → List ℕ → Bool
is_file file path = is_some_and (bytes_eq path) file

-- whether a command that reads a file finds none, given the folder for temporary files and the files that commands before it write:
-- it's in the folder, isn't the call's source, and none wrote it
abbrev pub is_missing : List ℕ → Option (List ℕ) → Files → List ℕ → Bool
is_missing folder source written path = starts_with nat_eq path folder && (not (is_file source path) && not (written path))

-- the files that commands have written once one more has run
abbrev pub written_after : Files → CommandFiles → Files
written_after written step = with_files (with_files written step.writes) step.may_write

-- the first command from a number on that reads such a file, and the file's place
abbrev pub found_at : ℕ → Option ℕ → Option (ℕ × ℕ) → Option (ℕ × ℕ)
found_at number (Some place) later = Some (number, place)
found_at number None later = later

abbrev pub first_unwritten : List ℕ → Option (List ℕ) → Files → ℕ → List CommandFiles → Option (ℕ × ℕ)
first_unwritten folder source written number [] = None
first_unwritten folder source written number (step ∷ records) =
    found_at number (position_from (is_missing folder source written) 0 step.reads)
    (first_unwritten folder source (written_after written step) (number + 1) records)

-- the same of a plan, given the directory for temporary files
abbrev pub first_unwritten_of : List ℕ → Option (List ℕ) → List CommandFiles → Option (ℕ × ℕ)
first_unwritten_of tmp source records = first_unwritten (joined tmp []) source no_files 0 records

-- whether a command reads a file, or writes it or may write it
abbrev pub is_among : List ℕ → List (List ℕ) → Bool
is_among path paths = list_any (bytes_eq path) paths

abbrev pub reads_file : List ℕ → CommandFiles → Bool
reads_file path step = is_among path step.reads

abbrev pub writes_file : List ℕ → CommandFiles → Bool
writes_file path step = is_among path step.writes || is_among path step.may_write

-- whether the commands are those of the call: one reads its source, and one writes its product
abbrev pub lacks_file : (List ℕ → CommandFiles → Bool) → List CommandFiles → Option (List ℕ) → Bool
lacks_file touches records file = is_some_and (λ path. not (list_any (touches path) records)) file

abbrev pub fitness_for_call : Asked → Fitness
fitness_for_call asked =
    if lacks_file reads_file asked.records asked.source then SourceUnread else
    if lacks_file writes_file asked.records asked.product then ProductUnwritten else Fit

-- whether each command finds what it reads, and the commands are those of the call
abbrev pub fitness_of_files : Asked → Option (ℕ × ℕ) → Fitness
fitness_of_files asked (Some found) = Unwritten found.0 found.1
fitness_of_files asked None = fitness_for_call asked

-- whether a plan with plain directories can be run
abbrev pub fitness_in : Asked → Option Directory → Fitness
fitness_in asked (Some directory) = OddDirectory directory
fitness_in asked None =
    if length asked.records == 0 then NoCommand else
    if not (asked.dropped == 0) then Dropped else
    fitness_of_files asked (first_unwritten_of asked.tmp asked.source asked.records)

-- whether a plan can be run, or the first reason why it can't
abbrev pub fitness : Asked → Fitness
fitness asked = fitness_in asked (odd_directory asked.cwd asked.tmp)

-- what the code has
abbrev pub asked_of : PlanToRun → Asked
asked_of plan = record {
  cwd = plan.cwd.now;
  tmp = plan.tmp.now;
  records = plan.records.now;
  dropped = plan.dropped;
  source = option_copied plan.source;
  product = option_copied plan.product;
}

-- Examples: cicc reads what a preprocessor wrote, and writes the call's product.
abbrev pub preprocessor : CommandFiles
preprocessor = record { reads = codes "/w/k.cu" ∷ []; writes = codes "/t/k.ii" ∷ []; may_write = []; complete = false }

abbrev pub cicc : CommandFiles
cicc = record { reads = codes "/t/k.ii" ∷ []; writes = []; may_write = codes "/w/k.ptx" ∷ []; complete = true }

abbrev pub asked_in : List ℕ → List CommandFiles → Asked
asked_in tmp records = record {
  cwd = codes "/w";
  tmp = tmp;
  records = records;
  dropped = 0;
  source = Some (codes "/w/k.cu");
  product = Some (codes "/w/k.ptx");
}

pub both_commands : fitness (asked_in (codes "/t") (preprocessor ∷ cicc ∷ [])) ≡ Fit
both_commands = refl

pub out_of_order : fitness (asked_in (codes "/t") (cicc ∷ preprocessor ∷ [])) ≡ Unwritten 0 0
out_of_order = refl

pub one_file_for_two : fitness (asked_in (codes "/t") (preprocessor ∷ cicc ∷ cicc ∷ [])) ≡ Fit
one_file_for_two = refl

pub elsewhere : fitness (asked_in (codes "/tmp") (cicc ∷ [])) ≡ SourceUnread
elsewhere = refl

pub nothing_made : fitness (asked_in (codes "/t") (preprocessor ∷ [])) ≡ ProductUnwritten
nothing_made = refl

pub no_command : fitness (asked_in (codes "/t") []) ≡ NoCommand
no_command = refl

pub odd_directory_first : fitness (asked_in (codes "/t/") []) ≡ OddDirectory Temporary
odd_directory_first = refl

pub source_among_temporary_files : fitness (asked_in (codes "/w") (preprocessor ∷ cicc ∷ [])) ≡ Fit
source_among_temporary_files = refl
