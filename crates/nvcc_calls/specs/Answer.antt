-- What becomes of an nvcc line, and what the arguments of one say: the commands that a plan of the line begins with.
use Rattle.std.specs.Prelude.{◌≡◌, ℕ, List, [], ◌∷◌, ◌++◌, Option, Some, None, Result, Ok, Err, if◌then◌else◌, map, codes, refl, length, ◌==◌, Bool, false, not, ◌&&◌, ◌||◌, bytes_eq, unwrap_or, option_and_then}
use Rattle.std.specs.Str.{chars}
use Rattle.texts.specs.declared.fault.Fault.{Fault}
use Rattle.texts.specs.Rows.{spaced}
use Rattle.compilers.specs.Compiler.{Reading, accepted, cannot_cache, not_compilation}
use Rattle.compilers.specs.declared.arguments.ParsedArguments.{ParsedArguments}
use Rattle.host_lines.specs.declared.nvcc.command.NvccCompileCommand.{NvccCompileCommand}
use Rattle.host_lines.specs.Nvcc.{nvcc_reading}
use Rattle.nvcc_calls.specs.declared.asked.Asked.{Asked}
use Rattle.nvcc_calls.specs.declared.settling.Call.{Call}
use Rattle.nvcc_calls.specs.declared.reason.Reason.{Reason}
use Rattle.nvcc_calls.specs.declared.reason.Reason.TheVariants.{OtherReading, OtherPhase, SeveralInputs, Links, GeneratedName}
use Rattle.nvcc_calls.specs.declared.verdict.Verdict.{Verdict}
use Rattle.nvcc_calls.specs.declared.verdict.Verdict.TheVariants as verdicts
use Rattle.nvcc_calls.specs.Asked.{asked_of}
use Rattle.nvcc_calls.specs.Keeping.{keeps}
use Rattle.nvcc_calls.specs.NormalForm.{settled, judged, line_asked}
use Rattle.texts.specs.Results.{and_then}
use Rattle.nvcc_calls.specs.declared.answer.Answer.{Answer}
use Rattle.nvcc_calls.specs.declared.answer.Answer.TheVariants.{Split, Pass}
use Rattle.compilers.specs.Calls.{NvccOf}
use Rattle.nvcc_calls.specs.Hazards.{hazard_of}
use Rattle.std.specs.List.{list_any}
use Rattle.std.specs.Option.{is_some, option_map_or}
use Rattle.texts.specs.Variables.{first_value}
use Rattle.texts.specs.declared.language.Language.TheVariants.{Cuda}
use Rattle.texts.specs.Path.{joined}
use Rattle.compilers.specs.declared.command.SingleCompileCommand.{SingleCompileCommand}
use Rattle.compilers.specs.declared.compiler.NvccHostCompiler.TheVariants.{Gcc}
use Rattle.compilers.specs.declared.compiler.Places.{Places}
use Rattle.compilers.specs.Arguments.{plain_arguments}
use Rattle.host_lines.specs.NvccCommand.{dry_runs, nvcc_written}
use Rattle.canonical_names.specs.Alike.{holds}
use Rattle.host_lines.specs.KeepThreads.{keep_of, threads_of, number_of}
use Rattle.host_lines.specs.Preprocess.{nvcc_preprocess}
use Rattle.nvcc_calls.specs.declared.outline.Outline.{Outline}

-- whether a word asks nvcc to put the source's lines into device code
abbrev pub is_lines_word : List ℕ → Bool
is_lines_word word =
    bytes_eq word (codes "-lineinfo") || bytes_eq word (codes "--generate-line-info") || bytes_eq word (codes "-G") || bytes_eq word (codes "--device-debug")

abbrev pub asks_lines : List (List ℕ) → Bool
asks_lines words = list_any is_lines_word words

-- the input's path: as the line gives it, or absolute if the line asks for the source's lines. cicc would resolve a relative path from
-- its own directory, unless that is the call's: the caller may run nvcc's tools there, and not in the temporary one, as plans have it
abbrev pub input_of : List ℕ → ParsedArguments → List (List ℕ × List ℕ) → List ℕ
input_of cwd p variables =
    if asks_lines p.common_args && not (is_some (first_value (codes "ZIGRUNK_IN_PLACE") variables)) then joined cwd p.input else p.input

-- the places of a line
abbrev pub places_of : NvccOf → ParsedArguments → List (List ℕ × List ℕ) → Places
places_of call p variables = record { temp_dir = call.tmp; canonical_input = input_of call.cwd p variables }

abbrev pub first_command : List SingleCompileCommand → Option SingleCompileCommand
first_command [] = None
first_command (c ∷ cs) = Some c

-- the command that writes the dependency file, if the line asks for one
abbrev pub dependencies_of : NvccOf → ParsedArguments → List (List ℕ × List ℕ) → Result (Option SingleCompileCommand) Fault
dependencies_of call p variables =
    if length p.dependency_args == 0 then Ok None else
    and_then (nvcc_preprocess Gcc call.nvcc p call.cwd variables) (λ commands. Ok (first_command commands))

-- the number of threads that a line asks for, or 0 if it has no thread words, so that as many words are left without these
abbrev pub threads_of_line : List ℕ → ParsedArguments → Result ℕ Fault
threads_of_line cwd p =
    and_then (keep_of cwd p.unhashed_args) (λ kept.
    and_then (threads_of kept.0) (λ taken.
    Ok (if length taken.0 == length kept.0 then 0 else taken.1)))

-- the number of jobs, or 0 if nobody says, given the line's number of threads. `ZIGRUNK_JOBS` decides if it is a number. Under a make that
-- hands out jobs, the call is one of them
abbrev pub names_jobserver : List ℕ → Bool
names_jobserver flags = holds (codes "--jobserver-auth=") flags || holds (codes "--jobserver-fds=") flags

abbrev pub jobs_of : List (List ℕ × List ℕ) → ℕ → ℕ
jobs_of variables threads =
    unwrap_or (option_and_then number_of (first_value (codes "ZIGRUNK_JOBS") variables))
    (if option_map_or names_jobserver (first_value (codes "MAKEFLAGS") variables) false then 1 else threads)

-- what a line says, given its command, the dependency command and the number of jobs
abbrev pub outline_with : NvccCompileCommand → Option SingleCompileCommand → ℕ → Outline
outline_with c dependencies jobs = record {
  dependencies = dependencies;
  first = (dry_runs c).0;
  second = (dry_runs c).1;
  flag = c.compilation_flag;
  jobs = jobs;
  keep_dir = c.keep_dir;
}

-- the nvcc command of a line's arguments
abbrev pub command_of : NvccOf → ParsedArguments → List (List ℕ × List ℕ) → Result NvccCompileCommand Fault
command_of call p variables =
    and_then (nvcc_written call.nvcc p call.cwd variables Gcc (places_of call p variables)) (λ made. Ok made.0)

-- what a line's arguments say, given their command. A fault of the line comes before a fault of its language
abbrev pub outline_of : NvccOf → ParsedArguments → List (List ℕ × List ℕ) → NvccCompileCommand → Result Outline Fault
outline_of call p variables command =
    and_then (dependencies_of call p variables) (λ dependencies.
    and_then (threads_of_line call.cwd p) (λ threads.
    Ok (outline_with command dependencies (jobs_of variables threads))))

-- worked examples
abbrev lines_line : ParsedArguments
lines_line = record (plain_arguments (codes "k.cu") Cuda []) { common_args = spaced "-lineinfo -c" }

pub inputs_of_lines :
    input_of (codes "/w") lines_line [] ∷ input_of (codes "/w") lines_line ((codes "ZIGRUNK_IN_PLACE", codes "1") ∷ []) ∷ [] ≡ spaced "/w/k.cu k.cu"
inputs_of_lines = refl

pub jobs_of_lines :
    jobs_of ((codes "MAKEFLAGS", codes " -j4 --jobserver-auth=fifo:/tmp/x") ∷ []) 3
    ∷ jobs_of ((codes "MAKEFLAGS", codes " -j4 --jobserver-auth=3,4") ∷ (codes "ZIGRUNK_JOBS", codes "2") ∷ []) 3
    ∷ jobs_of ((codes "ZIGRUNK_JOBS", codes "two") ∷ []) 3 ∷ [] ≡ 1 ∷ 2 ∷ 3 ∷ []
jobs_of_lines = refl

-- the answer to arguments, given their command, which has to keep the line's options
abbrev pub answer_by : NvccOf → List (List ℕ × List ℕ) → Asked → ParsedArguments → NvccCompileCommand → Result Answer Fault
answer_by call variables asked p command =
    if keeps asked (asked_of [] command.arguments) then and_then (outline_of call p variables command) (λ outline. Ok (Split outline))
    else Ok (Pass OtherReading)

abbrev pub answer_to_arguments : NvccOf → List (List ℕ × List ℕ) → Asked → ParsedArguments → Result Answer Fault
answer_to_arguments call variables asked p = and_then (command_of call p variables) (answer_by call variables asked p)

-- the answer to a normal form, by what sccache's reader made of it. It accepts each normal form
abbrev pub answer_to_reading : NvccOf → List (List ℕ × List ℕ) → Asked → Reading → Result Answer Fault
answer_to_reading call variables asked (accepted p) = answer_to_arguments call variables asked p
answer_to_reading call variables asked (cannot_cache text word) = Ok (Pass OtherReading)
answer_to_reading call variables asked not_compilation = Ok (Pass OtherReading)

-- the answer to a line with a normal form, unless a plan of it would make something else
abbrev pub unless_hazard : Option Reason → Result Answer Fault → Result Answer Fault
unless_hazard None answer = answer
unless_hazard (Some reason) answer = Ok (Pass reason)

abbrev pub answer_to_normal : NvccOf → List (List ℕ × List ℕ) → Asked → Call → Result Answer Fault
answer_to_normal call variables asked normal =
    unless_hazard (hazard_of call asked normal) (answer_to_reading call variables asked (nvcc_reading normal.words call.cwd []))

-- the answer to a line by what it asks for, and by the verdict on that. A normal form has the words of both variables and of the options
-- files in it
abbrev pub answer_to_verdict : NvccOf → List (List ℕ × List ℕ) → Asked → Verdict → Result Answer Fault
answer_to_verdict call variables asked (verdicts.Split normal) = answer_to_normal call variables asked normal
answer_to_verdict call variables asked (verdicts.Pass reason) = Ok (Pass reason)

abbrev pub answer_to_line : NvccOf → List (List ℕ × List ℕ) → Asked → Result Answer Fault
answer_to_line call variables asked = answer_to_verdict call variables asked (judged (settled asked))

abbrev pub answer_to : NvccOf → List (List ℕ × List ℕ) → Result Asked Reason → Result Answer Fault
answer_to call variables (Ok asked) = answer_to_line call variables asked
answer_to call variables (Err reason) = Ok (Pass reason)

-- the answer to a line, given the options files by name and text. Its commands have the words of these in it
abbrev pub nvcc_answer : NvccOf → List (List ℕ × List ℕ) → List (List ℕ × List ℕ) → Result Answer Fault
nvcc_answer call variables files = answer_to call variables (line_asked call.words variables files)

-- Worked examples, at the working directory `/w` with the temporary directory `/t`.
abbrev pub line_at : List (List ℕ) → NvccOf
line_at words = record { cwd = codes "/w"; tmp = codes "/t"; nvcc = codes "nvcc"; words = words }

-- of a line that is split: the words of the first dry run, those of what writes the dependency file, and the jobs
abbrev pub said : Result Answer Fault → List (List ℕ) × List (List ℕ) × ℕ
said (Ok (Split o)) = (o.first.arguments, option_map_or (λ command. command.arguments) o.dependencies [], o.jobs)
said _ = ([], [], 0)

pub words_of_a_variable :
    said (nvcc_answer (line_at (spaced "-c k.cu")) ((codes "NVCC_APPEND_FLAGS", codes "-o=j.o -Xptxas -v") ∷ []) [])
    ≡ (spaced "-x cu -o j.o -Xptxas -v -c k.cu --dryrun --keep", [], 0)
unfolding chars lib.Utf8.encode keeps
words_of_a_variable = refl

pub two_values :
    said (nvcc_answer (line_at (spaced "-MD -MF a.d -t2 -o a.o -c k.cu -o b.o -t3 -MF b.d")) [] [])
    ≡ (spaced "-x cu -o b.o -c k.cu --dryrun --keep", spaced "-c -x cu k.cu -M -MF b.d -MT b.o", 3)
unfolding chars lib.Utf8.encode keeps
two_values = refl

pub words_of_a_file :
    said (nvcc_answer (line_at (spaced "-c k.cu --options-file inc.rsp -Iz")) [] ((codes "inc.rsp", codes "-Ix -Iy -o j.o\n") ∷ []))
    ≡ (spaced "-x cu -o j.o -Ix -Iy -Iz -c k.cu --dryrun --keep", [], 0)
unfolding chars lib.Utf8.encode keeps
words_of_a_file = refl

pub passed_lines :
    map (λ words. nvcc_answer (line_at words) [] []) (spaced "-E k.cu" ∷ spaced "-c a.cu b.cu" ∷ [] ∷ spaced "-ptx k.cu -o k.cpp1.ii" ∷ [])
    ≡ Ok (Pass OtherPhase) ∷ Ok (Pass SeveralInputs) ∷ Ok (Pass Links) ∷ Ok (Pass GeneratedName) ∷ []
passed_lines = refl
