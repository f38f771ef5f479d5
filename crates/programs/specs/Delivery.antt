-- What an engine answers, and what it writes.
use Rattle.std.specs.Prelude.{◌≡◌, ℕ, List, Option, Result, Ok, Err, IsOk, String, string_bytes}
use Rattle.std.specs.declared.alloc.Global.{Global}
use Rattle.std.specs.Io.KnownBytes.{Keeps, Appends}
use Rattle.texts.specs.Fault.{UnlessMemoryIs}
use Rattle.programs.specs.declared.stop.Stop.{Stop}
use Rattle.programs.specs.declared.stop.Stop.TheVariants.{Write}
use Rattle.programs.specs.declared.stop.Stop.TheVariants as stops

-- an answer that is a text, by its bytes
abbrev pub text_of : Result (String Global) Stop → Result (List ℕ) Stop
text_of (Ok text) = Ok (string_bytes text)
text_of (Err stop) = Err stop

-- the answer is the expected one: the text, or the reason why there is none. Only running out of memory is never expected
abbrev pub Answers : Result (List ℕ) Stop → Result (List ℕ) Stop → Type 0
Answers (Ok text) expected = expected ≡ Ok text
Answers (Err (stops.Fault fault)) expected = UnlessMemoryIs fault (expected ≡ Err (stops.Fault fault))
Answers (Err Write) expected = IsOk expected
Answers (Err stop) expected = expected ≡ Err stop

-- what an engine writes, given its writer's bytes before and after the call. On success it appended exactly the expected
-- text. If it stopped, for the expected reason or out of memory, it wrote nothing. A write that failed may have written any
-- part, and happens only if a text is expected
abbrev pub Delivers : Result (Unit {0}) Stop → Result (List ℕ) Stop → Option (List ℕ) → Option (List ℕ) → Type 0
Delivers (Ok _) expected before after = (text : List ℕ) × (expected ≡ Ok text) × Appends before after text
Delivers (Err (stops.Fault fault)) expected before after = UnlessMemoryIs fault (expected ≡ Err (stops.Fault fault)) × Keeps before after
Delivers (Err Write) expected before after = IsOk expected
Delivers (Err stop) expected before after = (expected ≡ Err stop) × Keeps before after
