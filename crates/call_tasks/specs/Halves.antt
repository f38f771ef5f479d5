-- The last host compile in two halves.
use Rattle.std.specs.Prelude.{ℕ, ◌-◌, List, [], ◌∷◌, ◌++◌, Bool, true, false, ◌&&◌, Option, Some, None, if◌then◌else◌, map, length, reverse, take, codes, option_and_then}
use Rattle.std.specs.List.{list_any, list_all}
use Rattle.texts.specs.Lists.{word_after}
use Rattle.texts.specs.Path.{joined}
use Rattle.compilers.specs.declared.plans.plan.NvccGeneratedSubcommand.{NvccGeneratedSubcommand}
use Rattle.compilers.specs.declared.plans.program.Program.{Program}
use Rattle.compilers.specs.declared.plans.program.Program.TheVariants as programs
use Rattle.compilers.specs.Programs.{program_at}
use Rattle.command_files.specs.declared.steps.Step.{Step}
use Rattle.command_files.specs.Files.{is_among}
use Rattle.early_starts.specs.declared.split.Places.{Places}
use Rattle.early_starts.specs.declared.split.Split.{Split}
use Rattle.early_starts.specs.LateFiles.{is_file, renamed}
use Rattle.early_starts.specs.LatePlans.{assembler_step, final_step}
use Rattle.early_starts.specs.Overlaps.{files_of}
use Rattle.early_starts.specs.Splits.{split_of}
use Rattle.call_tasks.specs.declared.task.Asks.{Asks}
use Rattle.call_tasks.specs.declared.task.Head.{Head}
use Rattle.call_tasks.specs.declared.task.Task.{Task}
use Rattle.call_tasks.specs.declared.task.Wait.TheVariants.{Reading}
use Rattle.call_tasks.specs.Heads.{plain_step}

-- where the files go that the driver adds
abbrev pub place_in : List ℕ → List ℕ → List ℕ
place_in own name = joined own name

abbrev pub places_in : List ℕ → Places
places_in own = record {
  text_file = place_in own (codes "late.s");
  fatbin_file = place_in own (codes "fatbin.c");
  included = place_in own (codes "fatbin.s");
}

abbrev pub stub_file : List ℕ → List ℕ
stub_file own = place_in own (codes "stub.c")

-- a command with its record and role, and no head
abbrev pub task_of : NvccGeneratedSubcommand → Step → Task
task_of c s = record { command = c; step = s; is_rule = false; head = None }

-- the word by which commands say that they are of nvcc 13, whose fatbinary writes files of a known form
abbrev pub version_word : List ℕ
version_word = codes "-D__CUDACC_VER_MAJOR__=13"

-- whether one of some tasks writes a file for certain
abbrev pub is_written : List Task → List ℕ → Bool
is_written tasks path = list_any (λ t. is_among t.step.files.writes path) tasks

-- the halves of a compile, if what its compiler's half reads late and what it reads at once are written by some tasks
abbrev pub if_written : List Task → Task → Split → Option Split
if_written tasks compile s = if is_written tasks s.stub && list_all (is_written tasks) compile.step.files.reads then Some s else None

abbrev pub split_of_two : List ℕ → List Task → Task → Task → Option Split
split_of_two own before fatbinary compile = option_and_then (if_written before compile) (split_of (places_in own) fatbinary.command compile.command)

-- the halves of the last of some tasks, given in reverse order
abbrev pub split_of_others : List ℕ → Task → List Task → Option Split
split_of_others own compile [] = None
split_of_others own compile (fatbinary ∷ before) = split_of_two own (reverse before) fatbinary compile

abbrev pub split_behind : List ℕ → List Task → Option Split
split_behind own [] = None
split_behind own (compile ∷ others) = split_of_others own compile others

abbrev pub last_split : Asks → List Task → Option Split
last_split asks tasks =
    if asks.halves && list_any (λ t. is_among t.command.args version_word) tasks then split_behind asks.own (reverse tasks) else None

-- the option behind which cicc names the stub file
abbrev pub stub_option : List ℕ
stub_option = codes "--stub_file_name"

-- whether a program is cicc
abbrev pub is_cicc : Program → Bool
is_cicc programs.Cicc = true
is_cicc programs.Cudafe = false
is_cicc programs.Ptxas = false
is_cicc programs.Fatbinary = false
is_cicc programs.Nvlink = false
is_cicc programs.Other = false

-- whether a task is a cicc that names a stub file by its path
abbrev pub is_behind : List ℕ → List ℕ → List (List ℕ) → Bool
is_behind option file words = is_file file (word_after option words)

abbrev pub names_stub : List ℕ → Task → Bool
names_stub stub t = is_cicc (program_at t.command.exe) && is_behind stub_option stub t.command.args

-- a command that writes the stub file elsewhere, and its task
abbrev pub moved_command : List ℕ → NvccGeneratedSubcommand → NvccGeneratedSubcommand
moved_command own c = record c { args = renamed stub_option (stub_file own) c.args }

abbrev pub moved_task : List ℕ → List ℕ → Task → Task
moved_task own stub t =
    if names_stub stub t then record t { command = moved_command own t.command; step = record t.step { files = files_of (moved_command own t.command) } } else t

-- the compiler's half of a split: it reads these files besides those of its words, and the placeholder
abbrev pub with_stub : Option (List ℕ) → List (List ℕ) → List (List ℕ)
with_stub None reads = reads
with_stub (Some stub) reads = reads ++ stub ∷ []

abbrev pub compiler_step : Split → Option (List ℕ) → Step
compiler_step s stub = plain_step (record (files_of s.compiler) { reads = with_stub stub (files_of s.compiler).reads ++ s.read ∷ [] })

-- it begins before the stub file is there, and reads it late by the name that its words give
abbrev pub compiler_head : List ℕ → Split → Head
compiler_head own s = record { args = s.compiler.args; step = compiler_step s None; file = stub_file own; withheld = s.stub; wait = Reading }

abbrev pub compiler_task : List ℕ → Split → Bool → Task
compiler_task own s false = task_of s.compiler (compiler_step s (Some s.stub))
compiler_task own s true = record (task_of s.compiler (compiler_step s (Some (stub_file own)))) { head = Some (compiler_head own s) }

abbrev pub assembler_task : List ℕ → Split → Task
assembler_task own s = task_of s.assembler (assembler_step (places_in own) s)

-- a split in place of the last two of some tasks, given those before them
abbrev pub last_tasks : List ℕ → Split → Bool → List Task
last_tasks own s is_moved = task_of s.fatbinary (final_step s.fatbinary) ∷ compiler_task own s is_moved ∷ assembler_task own s ∷ []

abbrev pub moves : Asks → Split → List Task → Bool
moves asks s front = asks.pipes && list_any (names_stub s.stub) front

abbrev pub with_split : Asks → Split → List Task → List Task
with_split asks s front =
    (if moves asks s front then map (moved_task asks.own s.stub) front else front) ++ last_tasks asks.own s (moves asks s front)

abbrev pub halved_by : Asks → List Task → Option Split → List Task
halved_by asks tasks None = tasks
halved_by asks tasks (Some s) = with_split asks s (take (length tasks - 2) tasks)
