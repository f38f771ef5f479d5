-- A line whose answer is an outline was checked on the way to it.
use Rattle.std.proofs.Common.{◌≡◌, ℕ, Bool, true, false, cond, ◌&&◌, List, [], Option, Some, None, is_some, unwrap_or, Result, Ok, Err, refl, ap, subst, arith}
use Rattle.std.specs.List.{list_all}
use Rattle.std.proofs.lemmas.Bool.{false≢true}
use Rattle.texts.specs.declared.fault.Fault.{Fault}
use Rattle.texts.specs.Results.{and_then}
use Rattle.compilers.specs.declared.arguments.ParsedArguments.{ParsedArguments}
use Rattle.compilers.specs.declared.command.SingleCompileCommand.{SingleCompileCommand}
use Rattle.compilers.specs.Compiler.{Reading}
use Rattle.host_lines.specs.declared.nvcc.command.NvccCompileCommand.{NvccCompileCommand}
use Rattle.host_lines.specs.Nvcc.{nvcc_reading}
use Rattle.host_lines.specs.NvccEnvironment.{prepended_name, appended_name, with_added_words}
use Rattle.nvcc_calls.specs.declared.asked.Asked.{Asked}
use Rattle.nvcc_calls.specs.declared.reason.Reason.{Reason}
use Rattle.nvcc_calls.specs.declared.reason.Reason.TheVariants.{OtherReading, ShellCharacter, VariableQuotes}
use Rattle.nvcc_calls.specs.Words.{is_unexpanded}
use Rattle.nvcc_calls.specs.declared.verdict.Verdict.{Verdict}
use Rattle.nvcc_calls.specs.declared.verdict.Verdict.TheVariants as verdicts
use Rattle.nvcc_calls.specs.Asked.{asked_of}
use Rattle.nvcc_calls.specs.Keeping.{keeps}
use Rattle.nvcc_calls.specs.NormalForm.{settled, is_plain, judged}
use Rattle.nvcc_calls.proofs.KeepingLemmas.{keeps-says}
use Rattle.nvcc_calls.specs.declared.answer.Answer.{Answer}
use Rattle.nvcc_calls.specs.declared.answer.Answer.TheVariants.{Split, Pass}
use Rattle.nvcc_calls.specs.declared.outline.Outline.{Outline}
use Rattle.nvcc_calls.specs.Answer.{answer_by, answer_to, answer_to_reading, answer_to_verdict, dependencies_of, jobs_of, outline_of, outline_with, threads_of_line, unless_hazard}
use Rattle.compilers.specs.Calls.{NvccOf}
use Rattle.nvcc_calls.specs.Hazards.{hazard_of}
use Rattle.nvcc_calls.specs.Laws.{DryRunsSayAs, SplitLinesKeepOptions}

-- the outline of an answer
abbrev outline_in : Result Answer Fault → Option Outline
outline_in (Ok (Split outline)) = Some outline
outline_in (Ok (Pass why)) = None
outline_in (Err fault) = None

module _ (call : NvccOf) (variables : List (List ℕ × List ℕ)) (asked : Asked) where
  abbrev IsKept : Outline → Type 0
  IsKept o = (command : NvccCompileCommand) × DryRunsSayAs asked o command

  by-outline : (command : NvccCompileCommand) (o : Outline) (dependencies : Result (Option SingleCompileCommand) Fault) (threads : Result ℕ Fault) → keeps asked (asked_of [] command.arguments) ≡ true →
      outline_in (and_then (and_then dependencies (λ d. and_then threads (λ t. Ok (outline_with command d (jobs_of variables t))))) (λ outline. Ok (Split outline))) ≡ Some o → DryRunsSayAs asked o command
  by-outline command o (Ok d) (Ok j) t e =
      subst (λ q. DryRunsSayAs asked q command) (ap (λ found. unwrap_or found o) e)
      (record { first = refl; second = refl; words = keeps-says asked (asked_of [] command.arguments) t })
  by-outline command o (Ok d) (Err fault) t e = absurd (false≢true (ap is_some e))
  by-outline command o (Err fault) threads t e = absurd (false≢true (ap is_some e))

  by-check : (p : ParsedArguments) (command : NvccCompileCommand) (o : Outline) (b : Bool) → keeps asked (asked_of [] command.arguments) ≡ b →
      outline_in (cond b (and_then (outline_of call p variables command) (λ outline. Ok (Split outline))) (Ok (Pass OtherReading))) ≡ Some o → DryRunsSayAs asked o command
  by-check p command o true t e = by-outline command o (dependencies_of call p variables) (threads_of_line call.cwd p) t e
  by-check p command o false t e = absurd (false≢true (ap is_some e))

  by-command : (p : ParsedArguments) (r : Result NvccCompileCommand Fault) (o : Outline) →
      outline_in (and_then r (answer_by call variables asked p)) ≡ Some o → IsKept o
  by-command p (Ok command) o e = (command, by-check p command o (keeps asked (asked_of [] command.arguments)) refl e)
  by-command p (Err fault) o e = absurd (false≢true (ap is_some e))

  by-hazard : (hazard : Option Reason) (reading : Reading) (o : Outline) →
      outline_in (unless_hazard hazard (answer_to_reading call variables asked reading)) ≡ Some o → IsKept o
  by-hazard hazard reading o e = grind (arith, false≢true, by-command)

  by-verdict : (v : Verdict) (o : Outline) → outline_in (answer_to_verdict call variables asked v) ≡ Some o → IsKept o
  by-verdict (verdicts.Split normal) o e = by-hazard (hazard_of call asked normal) (nvcc_reading normal.words call.cwd []) o e
  by-verdict (verdicts.Pass reason) o e = absurd (false≢true (ap is_some e))

  by-line : (b c : Bool) (one other : Reason) (o : Outline) → outline_in (answer_to call variables (cond b (cond c (Ok asked) (Err one)) (Err other))) ≡ Some o → IsKept o
  by-line true true one other o e = by-verdict (judged (settled asked)) o e
  by-line true false one other o e = absurd (false≢true (ap is_some e))
  by-line false c one other o e = absurd (false≢true (ap is_some e))

pub split-options : SplitLinesKeepOptions
split-options call variables files outline e =
    let line : List (List ℕ) = with_added_words variables call.words in
    by-line call variables (asked_of files line) (is_plain prepended_name variables && is_plain appended_name variables) (list_all is_unexpanded line) ShellCharacter VariableQuotes outline (ap outline_in e)
