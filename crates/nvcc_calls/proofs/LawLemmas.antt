-- What a check of a normal form shows of it.
use Rattle.std.proofs.Common.{◌≡◌, ℕ, Bool, true, false, cond, ◌&&◌, List, [], Option, Some, None, is_some, Result, Ok, Err, refl, ap, ◌∙◌, append-nil, arith}
use Rattle.std.proofs.lemmas.Bool.{false≢true, and_parts}
use Rattle.std.proofs.lemmas.Slice.Eq.{bytes_eq-Decides}
use Rattle.texts.proofs.EqualityLemmas.{lists}
use Rattle.texts.specs.Results.{and_then}
use Rattle.compilers.specs.declared.compiler.CCompilerKind.TheVariants as kinds
use Rattle.host_lines.specs.declared.gcc.options.ArgData.{ArgData}
use Rattle.compilers.specs.Compiler.{Reading}
use Rattle.host_lines.specs.Gcc as gcc
use Rattle.host_lines.specs.GccItems.{asked_of}
use Rattle.compilers.specs.Items.{Item}
use Rattle.host_lines.specs.NvccEnvironment.{prepended_name, appended_name, with_added_words}
use Rattle.nvcc_calls.specs.declared.asked.Asked.{Asked}
use Rattle.nvcc_calls.specs.declared.settling.Call.{Call}
use Rattle.nvcc_calls.specs.declared.verdict.Verdict.{Verdict}
use Rattle.nvcc_calls.specs.declared.verdict.Verdict.TheVariants.{Split, Pass}
use Rattle.nvcc_calls.specs.declared.reason.Reason.{Reason}
use Rattle.nvcc_calls.specs.declared.reason.Reason.TheVariants.{VariableQuotes, OtherReading}
use Rattle.nvcc_calls.specs.NormalForm.{asked_by, nvcc_call, settled, is_call, agrees, sccache_reading, is_normal, judged, is_plain, verdict}
use Rattle.nvcc_calls.specs.Laws.{ReadsAs, SplitLinesReadAlike, NormalFormsAreKept}

-- the call of a split line
abbrev call_in : Verdict → Option Call
call_in (Split call) = Some call
call_in (Pass reason) = None

-- a checked call is split as it is
checked : (call found : Call) (b : Bool) → is_normal found ≡ b → call_in (cond b (Split found) (Pass OtherReading)) ≡ Some call → (found ≡ call) × (is_normal call ≡ true)
checked call found b t e = grind (arith, false≢true)

judged-split : (r : Result Call Reason) (call : Call) → judged r ≡ Split call → (r ≡ Ok call) × (is_normal call ≡ true)
judged-split (Ok found) call e = grind (arith, (checked call found (is_normal found) refl (ap call_in e)))
judged-split (Err reason) call e = absurd (false≢true (ap is_some (ap call_in e)))

split-parts : (b : Bool) (r : Result Asked Reason) (call : Call) → judged (and_then (cond b r (Err VariableQuotes)) settled) ≡ Split call → (and_then r settled ≡ Ok call) × (is_normal call ≡ true)
split-parts true r call e = judged-split (and_then r settled) call e
split-parts false r call e = absurd (false≢true (ap is_some (ap call_in e)))

read-is : (r : Result Call Reason) (call : Call) → is_call r call ≡ true → r ≡ Ok call
read-is (Ok found) call e = ap Ok ((grind (arith, and_parts, bytes_eq-Decides, lists)))
read-is (Err reason) call e = absurd (false≢true e)

agrees-reads : (reading : Reading) (call : Call) → agrees reading call ≡ true → ReadsAs call reading
agrees-reads reading call e = grind (arith, and_parts, bytes_eq-Decides, false≢true)

-- at every working directory alike
module _ (cwd : List ℕ) (dashes : Bool) (is : List (Item ArgData)) (call : Call) where
  anywhere : (refusal : Option (List ℕ)) → agrees (gcc.reading_of_gathering false kinds.Nvcc (gcc.unless_refused refusal (asked_of cwd dashes is))) call ≡ agrees (gcc.reading_of_gathering false kinds.Nvcc (gcc.unless_refused refusal (asked_of [] dashes is))) call
  anywhere refusal = grind arith

normal-parts : (call : Call) → is_normal call ≡ true → (nvcc_call [] call.words ≡ Ok call) × (agrees (sccache_reading [] call.words) call ≡ true)
normal-parts call e = grind (arith, and_parts, read-is)

verdict-split : (words : List (List ℕ)) (variables files : List (List ℕ × List ℕ)) (call : Call) → verdict words variables files ≡ Split call
    → (nvcc_call files (with_added_words variables words) ≡ Ok call) × (is_normal call ≡ true)
verdict-split words variables files call e =
    split-parts (is_plain prepended_name variables && is_plain appended_name variables) (asked_by files (with_added_words variables words)) call e

pub split-lines : SplitLinesReadAlike
split-lines words variables files call e =
    let found = verdict-split words variables files call e in
    (found.0, λ cwd. agrees-reads (sccache_reading cwd call.words) call ((simp anywhere) ∙ (normal-parts call found.1).1))

-- a normal form has no variables and no options files
pub normal-forms : NormalFormsAreKept
normal-forms words variables files call e =
    let found = verdict-split words variables files call e in
    let read : nvcc_call [] (with_added_words [] call.words) ≡ Ok call = ap (nvcc_call []) (append-nil call.words) ∙ (normal-parts call found.1).0 in
    ap judged read ∙ ap (λ b. cond b (Split call) (Pass OtherReading)) found.1
