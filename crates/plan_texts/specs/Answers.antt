-- What a writer answers.
use Rattle.std.specs.Prelude.{◌≡◌, ℕ, List, Result, Ok, Err, String, string_bytes}
use Rattle.std.specs.declared.alloc.Global.{Global}
use Rattle.plan_texts.specs.declared.refusal.Refusal.{Refusal}
use Rattle.plan_texts.specs.declared.refusal.Refusal.TheVariants.{Unheld, VariableName, Program, Memory}

-- a fact of every refusal but running out of memory
abbrev pub UnlessMemoryIs : Refusal → Type 0 → Type 0
UnlessMemoryIs Memory P = Unit {0}
UnlessMemoryIs Unheld P = P
UnlessMemoryIs VariableName P = P
UnlessMemoryIs Program P = P

-- the answer is the expected text or refusal. Only running out of memory is never expected
abbrev pub Answers : Result (String Global) Refusal → Result (List ℕ) Refusal → Type 0
Answers (Ok text) expected = expected ≡ Ok (string_bytes text)
Answers (Err refusal) expected = UnlessMemoryIs refusal (expected ≡ Err refusal)
