-- What is claimed of split lines.
use Rattle.std.specs.Prelude.{◌≡◌, ℕ, List, [], Some, Ok, codes, option_map}
use Rattle.compilers.specs.declared.arguments.ParsedArguments.{ParsedArguments}
use Rattle.compilers.specs.declared.outputs.ArtifactDescriptor.{ArtifactDescriptor}
use Rattle.compilers.specs.Calls.{NvccOf}
use Rattle.compilers.specs.Compiler.{Reading, accepted}
use Rattle.compilers.specs.Outputs.{entry_at}
use Rattle.host_lines.specs.declared.nvcc.command.NvccCompileCommand.{NvccCompileCommand}
use Rattle.host_lines.specs.NvccCommand.{dry_runs}
use Rattle.host_lines.specs.NvccEnvironment.{with_added_words}
use Rattle.nvcc_calls.specs.declared.answer.Answer.TheVariants as answers
use Rattle.nvcc_calls.specs.declared.asked.Asked.{Asked}
use Rattle.nvcc_calls.specs.declared.settling.Call.{Call}
use Rattle.nvcc_calls.specs.declared.outline.Outline.{Outline}
use Rattle.nvcc_calls.specs.declared.verdict.Verdict.TheVariants.{Split}
use Rattle.nvcc_calls.specs.Answer.{nvcc_answer}
use Rattle.nvcc_calls.specs.Asked.{asked_of}
use Rattle.nvcc_calls.specs.Keeping.{SaysAs}
use Rattle.nvcc_calls.specs.NormalForm.{nvcc_call, sccache_reading, verdict}

-- arguments have the input, the output and the compilation flag of a call
pub record IsCall (call : Call) (p : ParsedArguments) : Type 0 where
  pub input : p.input ≡ call.input
  pub output : option_map (λ (file : ArtifactDescriptor). file.path) (entry_at (codes "obj") p.outputs) ≡ Some call.output
  pub flag : p.compilation_flag ≡ call.flag

-- what a reader answers is arguments of a call
abbrev pub ReadsAs : Call → Reading → Type 0
ReadsAs call reading = (p : ParsedArguments) × (reading ≡ accepted p) × IsCall call p

-- a call that a line is split into is nvcc's reading of that line, and sccache's reader reads its words as the call
abbrev pub SplitLinesReadAlike : Type 0
SplitLinesReadAlike =
    (words : List (List ℕ)) (variables files : List (List ℕ × List ℕ)) (call : Call) → verdict words variables files ≡ Split call →
    (nvcc_call files (with_added_words variables words) ≡ Ok call) × ((cwd : List ℕ) → ReadsAs call (sccache_reading cwd call.words))

-- the words that a line is split into are split into themselves
abbrev pub NormalFormsAreKept : Type 0
NormalFormsAreKept =
    (words : List (List ℕ)) (variables files : List (List ℕ × List ℕ)) (call : Call) → verdict words variables files ≡ Split call →
    verdict call.words [] [] ≡ Split call

-- both dry runs of an outline are those of a command whose words say what a line that asks for `a` does
pub record DryRunsSayAs (a : Asked) (outline : Outline) (command : NvccCompileCommand) : Type 0 where
  pub first : outline.first ≡ (dry_runs command).0
  pub second : outline.second ≡ (dry_runs command).1
  pub words : SaysAs a (asked_of [] command.arguments)

-- the options of a split line, with the words of its variables and options files, are those of its dry runs, as nvcc reads both
abbrev pub SplitLinesKeepOptions : Type 0
SplitLinesKeepOptions =
    (call : NvccOf) (variables files : List (List ℕ × List ℕ)) (outline : Outline) → nvcc_answer call variables files ≡ Ok (answers.Split outline) →
    (command : NvccCompileCommand) × DryRunsSayAs (asked_of files (with_added_words variables call.words)) outline command
