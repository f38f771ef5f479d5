-- Reading a file, and a device tool's input.
use Rattle.std.specs.Prelude.{◌≡◌, ◌≢◌, ℕ, List, [], ◌++◌, Option, Result, Err, IfSome, pos, MatchResult}
use Rattle.std.specs.Io.KnownBytes.{Consumes, IsAtEnd}
use Rattle.std.specs.declared.alloc.AllocError.{AllocError}
use Rattle.std.specs.declared.io.ErrorKind.TheVariants.{Interrupted}
use Rattle.texts.specs.declared.fault.Fault.{Fault}
use Rattle.texts.specs.declared.fault.Fault.TheVariants.{Read}
use Rattle.texts.specs.declared.status.Output.{Output}
use Rattle.texts.specs.Fault.{UnlessMemory}
use Rattle.device_lines.specs.declared.input.Step.{Step}
use Rattle.device_lines.specs.declared.input.Step.TheVariants.{GoesOn, Ends, Fails}

-- a file's bytes, as a program that succeeds would print them
abbrev pub printed : List ℕ → Output
printed bytes = record { status = pos 0; stdout = bytes; stderr = [] }

-- reading to the end gives the bytes that the reader had left, if these are known; a read that failed is the only error
-- besides an allocation failure
abbrev pub ReadsBytes : Option (List ℕ) → Result (List ℕ) Fault → Type 0
ReadsBytes left answer = MatchResult answer (λ bytes. IfSome left (λ known. known ≡ bytes)) (λ _. UnlessMemory answer (Err Read))

-- the same, with the bytes as an output
abbrev pub ReadsToEnd : Option (List ℕ) → Result Output Fault → Type 0
ReadsToEnd left answer =
    MatchResult answer (λ output. (bytes : List ℕ) × (output ≡ printed bytes) × IfSome left (λ known. known ≡ bytes)) (λ _. UnlessMemory answer (Err Read))

-- what a step tells of the bytes left after it: at the end there are none; an interruption isn't a failure
abbrev pub StepHolds : Option (List ℕ) → Step → Type 0
StepHolds left_after GoesOn = Unit {0}
StepHolds left_after Ends = IsAtEnd left_after
StepHolds left_after (Fails kind) = kind ≢ Interrupted

-- one read, by the bytes left and those gathered before and after it: it appends what it takes
abbrev pub ReadsOn : Option (List ℕ) → Option (List ℕ) → List ℕ → List ℕ → Result Step AllocError → Type 0
ReadsOn left left_after gathered gathered_after answer =
    MatchResult answer
    (λ step. (bytes : List ℕ) × Consumes left left_after bytes × (gathered_after ≡ gathered ++ bytes) × StepHolds left_after step)
    (λ _. Unit {0})
