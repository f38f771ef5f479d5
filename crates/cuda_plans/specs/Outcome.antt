-- The outputs of answers to commands, and outputs joined.
use Rattle.std.specs.Prelude.{◌≡◌, ℕ, suc, List, [], ◌∷◌, ◌++◌, if◌then◌else◌, Option, Some, None, ℤ, pos, negsuc, unwrap_or, codes, refl}
use Rattle.texts.specs.declared.fault.Fault.{Fault}
use Rattle.texts.specs.declared.fault.Fault.TheVariants.{Process, Runner}
use Rattle.texts.specs.declared.status.Output.{Output}
use Rattle.texts.specs.declared.status.CompileFinished.{CompileFinished}
use Rattle.texts.specs.Endings.{status_of_signal, is_success}
use Rattle.texts.specs.Fault.{message_of}
use Rattle.texts.specs.Path.{file_stem_of}
use Rattle.texts.specs.Status.{status_of_code}
use Rattle.cuda_plans.specs.declared.runner.Answer.{Answer}
use Rattle.cuda_plans.specs.declared.runner.Answer.TheVariants.{Ran, Finished, Failed}
use Rattle.texts.specs.Numeral.{numeral}

abbrev pub output_with : ℤ → List ℕ → List ℕ → Output
output_with status stdout stderr = record { status = status; stdout = stdout; stderr = stderr }

-- the output of nothing: success without a text
abbrev pub empty_success : Output
empty_success = output_with (status_of_code (pos 0)) [] []

-- two outputs joined: their texts, and the first status that isn't success
abbrev pub aggregated : Output → Output → Output
aggregated a b = output_with (if is_success a.status then b.status else a.status) (a.stdout ++ b.stdout) (a.stderr ++ b.stderr)

-- the output of a fault: that of the process that failed, else code 1 and the fault's message
abbrev pub output_of_fault : Fault → Output
output_of_fault (Process output) = output
output_of_fault fault = output_with (status_of_code (pos 1)) [] (message_of fault)

-- a whole number in decimal digits, behind a `-` if it is below 0
abbrev pub signed_numeral : ℤ → List ℕ
signed_numeral (pos n) = numeral n
signed_numeral (negsuc n) = 45 ∷ numeral (suc n)

-- the stem of a program's path; a path without one stands whole
abbrev pub program_name : List ℕ → List ℕ
program_name exe = unwrap_or (file_stem_of exe) exe

-- what is said of a program that a signal ended
abbrev pub terminated_text : List ℕ → ℤ → List ℕ
terminated_text exe signal = program_name exe ++ (codes " terminated (signal: " ++ (signed_numeral signal ++ codes ")"))

-- the output of a program that was compiled to its end, by the signal that ended it, if any; without one the code counts,
-- and no code is 0
abbrev pub output_by_signal : List ℕ → CompileFinished → Option ℤ → Output
output_by_signal exe f None = output_with (status_of_code (unwrap_or f.retcode (pos 0))) f.stdout f.stderr
output_by_signal exe f (Some signal) = output_with (status_of_signal signal) f.stdout (terminated_text exe signal ++ f.stderr)

abbrev pub output_of_finished : List ℕ → CompileFinished → Output
output_of_finished exe f = output_by_signal exe f f.signal

-- the output of an answer to a program
abbrev pub output_of_answer : List ℕ → Answer → Output
output_of_answer exe (Ran output) = output
output_of_answer exe (Finished f) = output_of_finished exe f
output_of_answer exe (Failed fault) = output_of_fault fault

-- examples: the first failure counts, and all texts
pub first_failure_counts : aggregated (output_with (status_of_code (pos 3)) (codes "a") [])
    (output_with (status_of_code (pos 5)) (codes "b") []) ≡ output_with (pos 768) (codes "ab") []
first_failure_counts = refl

-- a signal after a success: that signal
pub signal_after_success : aggregated (output_with (pos 0) (codes "a") [])
    (output_with (status_of_signal (pos 9)) (codes "b") []) ≡ output_with (pos 9) (codes "ab") []
signal_after_success = refl

-- what the runner says is standard error, with code 1
pub runner_says : output_of_fault (Runner (codes "no such compiler")) ≡ output_with (pos 256) [] (codes "no such compiler")
runner_says = refl

-- a value that was left: a code with texts, neither code nor signal, a signal
pub finished_badly : output_of_finished (codes "ptxas")
    (record { retcode = Some (pos 1); signal = None; stdout = codes "out"; stderr = codes "err" }) ≡
    output_with (pos 256) (codes "out") (codes "err")
finished_badly = refl

pub finished_without_a_code : output_of_finished (codes "ptxas")
    (record { retcode = None; signal = None; stdout = []; stderr = [] }) ≡ output_with (pos 0) [] []
finished_without_a_code = refl

pub ended_by_a_signal : output_of_finished (codes "/usr/bin/ptxas")
    (record { retcode = None; signal = Some (pos 9); stdout = []; stderr = codes "!" }) ≡
    output_with (pos 9) [] (codes "ptxas terminated (signal: 9)!")
ended_by_a_signal = refl

pub ended_without_a_stem : output_of_finished (codes "/")
    (record { retcode = None; signal = Some (pos 11); stdout = []; stderr = [] }) ≡
    output_with (pos 11) [] (codes "/ terminated (signal: 11)")
ended_without_a_stem = refl

-- three outputs are joined to one, whichever two come first
abbrev pub AggregationIsAssociative : Type 0
AggregationIsAssociative = (a b c : Output) → aggregated (aggregated a b) c ≡ aggregated a (aggregated b c)

-- the empty success joined to an output leaves it, on either side
abbrev pub EmptySuccessIsNeutralFirst : Type 0
EmptySuccessIsNeutralFirst = (a : Output) → aggregated empty_success a ≡ a

abbrev pub EmptySuccessIsNeutralLast : Type 0
EmptySuccessIsNeutralLast = (a : Output) → aggregated a empty_success ≡ a
