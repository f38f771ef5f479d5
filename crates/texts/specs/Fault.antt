-- The texts of the faults.
use Rattle.std.specs.Prelude.{◌≡◌, ℕ, List, ◌++◌, codes, Result, Ok, Err, decimal}
use Rattle.texts.specs.declared.fault.Fault.{Fault}
use Rattle.texts.specs.declared.fault.Fault.TheVariants.{NotUtf8, BadShell, EmptyCommand, NoPath, NotFound, MissingOutput, NoFileName, KeepDirValue, ThreadsValue, NoPreprocess, Process, Runner, Read, Memory, BadSuffixes}
use Rattle.texts.specs.Language.{language_text}

-- the run and line of a fault, and what is wrong there
abbrev pub line_text : ℕ → ℕ → List ℕ → List ℕ
line_text run line what = codes "run " ++ (decimal run ++ (codes " line " ++ (decimal line ++ what)))

-- a fault's text
abbrev pub message_of : Fault → List ℕ
message_of (NotUtf8 run line) = line_text run line (codes ": not UTF-8")
message_of (BadShell run line) = codes "Could not parse shell line"
message_of (EmptyCommand run line) = codes "Could not split shell line"
message_of (NoPath run line) = line_text run line (codes ": no PATH")
message_of (NotFound program) = program ++ codes ": not found"
message_of (MissingOutput language) = codes "Missing \"" ++ (language_text language ++ codes "\" file output")
message_of NoFileName = codes "output has no file name"
message_of KeepDirValue = codes "keep directory without a value"
message_of ThreadsValue = codes "--threads without a value"
message_of (NoPreprocess text) = text
message_of (Process output) = codes "process failed"
message_of (Runner text) = text
message_of Read = codes "cannot read input"
message_of Memory = codes "out of memory"
message_of BadSuffixes = codes "bad generated suffixes"

-- a fact that holds for every fault but `Memory`
abbrev pub UnlessMemoryIs : Fault → Type 0 → Type 0
UnlessMemoryIs Memory P = Unit {0}
UnlessMemoryIs _ P = P

-- a result is the expected one, unless an allocation failed
abbrev pub UnlessMemory : {T : Type 0} → Result T Fault → Result T Fault → Type 0
UnlessMemory (Ok x) expected = expected ≡ Ok x
UnlessMemory (Err fault) expected = UnlessMemoryIs fault (expected ≡ Err fault)
