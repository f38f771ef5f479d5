-- Reading a dry run within a limit of bytes: what counts, and which line is the first that exceeds it.
use Rattle.std.specs.Prelude.{◌≡◌, ℕ, ◌+◌, ◌-◌, List, [], ◌∷◌, ◌++◌, Vec, String, map, nat_le, length, fold, if◌then◌else◌, Option, Some, None, Result, Ok, Err, codes, string_bytes, option_map}
use Rattle.std.specs.declared.alloc.Global.{Global}
use Rattle.std.specs.Str.{is_utf8}
use Rattle.texts.specs.declared.fault.Fault.{Fault}
use Rattle.texts.specs.declared.fault.Fault.TheVariants.{Memory}
use Rattle.texts.specs.Fault.{UnlessMemoryIs, line_text, message_of}
use Rattle.dry_runs.specs.declared.limit.LimitedFault.{LimitedFault}
use Rattle.dry_runs.specs.declared.limit.LimitedFault.TheVariants.{TooLong}
use Rattle.dry_runs.specs.declared.limit.LimitedFault.TheVariants as limited
use Rattle.compilers.specs.CommandLines.{CommandLine}
use Rattle.dry_runs.specs.DryRun.{LookUp, Meaning, Ignored, Assigns, Runs, Bad, meaning, environment_after, fault_of, dry_run_of, stated, stated_marked}
use Rattle.dry_runs.specs.DryRunLines.{numbered_lines, marked_text}
use Rattle.dry_runs.specs.Environment.{Variable, assignment, refers}
use Rattle.compilers.specs.Replacing.{replaced}
use Rattle.dry_runs.specs.declared.statement.Statement.{Statement}
use Rattle.texts.specs.Shell.Splitting.{shell_words}

-- what is left of the limit once a text is made, which counts its bytes, and the text, unless it is longer than what was left
abbrev pub made : ℕ → List ℕ → Option (ℕ × List ℕ)
made left text = if nat_le (length text) left then Some (left - length text, text) else None

-- the same with the references to one variable expanded, which makes a text if there are some
abbrev pub expanded_fitting : Option (ℕ × List ℕ) → Variable → Option (ℕ × List ℕ)
expanded_fitting None v = None
expanded_fitting (Some s) v =
    let reference = codes "$" ++ v.0 in
    if refers reference s.1 then made s.0 (replaced reference v.1 s.1) else Some s

-- a text with the variables of an environment expanded, one after the other, and what all texts made on the way leave of
-- the limit; nothing as soon as they exceed it, or if the text itself does
abbrev pub expanded_within : ℕ → List Variable → List ℕ → Option (ℕ × List ℕ)
expanded_within left env text = fold expanded_fitting (if nat_le (length text) left then Some (left, text) else None) env

-- the shell words of a text that is expanded, and what is left of the limit
abbrev pub words_left : ℕ × List ℕ → Option (List (List ℕ)) × ℕ
words_left s = (shell_words s.1, s.0)

-- such a text and such words, as code holds them
abbrev pub text_seen : ℕ × String Global → ℕ × List ℕ
text_seen s = (s.0, string_bytes s.1)

abbrev pub words_seen : Option (Vec (String Global) Global) × ℕ → Option (List (List ℕ)) × ℕ
words_seen s = (option_map (λ words. map string_bytes words.items) s.0, s.1)

-- the bytes that words hold: each word its own, and one more
abbrev pub bytes_of_words : List (List ℕ) → ℕ
bytes_of_words [] = 0
bytes_of_words (word ∷ words) = length word + 1 + bytes_of_words words

-- what a variable and a command count beside their texts: each is compared with those before it, and each of a thousand
-- commands in two runs can wait for all before it, which makes half a million needs
abbrev pub line_cost : ℕ
line_cost = 4096

-- what a line adds to what counts: of a variable its name and its value, of a command its path and its words
abbrev pub held_by : Meaning → ℕ
held_by Ignored = 0
held_by (Assigns v) = line_cost + bytes_of_words (v.0 ∷ v.1 ∷ [])
held_by (Runs command) = line_cost + bytes_of_words (command.1 ∷ command.2)
held_by (Bad fault) = 0

-- what is left of a limit once so many bytes are held, unless they exceed it
abbrev pub left_behind : ℕ → ℕ → Option ℕ
left_behind left held = if nat_le held left then Some (left - held) else None

-- what the texts leave that expanding a marked line makes, by what it assigns: a value isn't expanded
abbrev pub left_assigned : ℕ → List Variable → List ℕ → Option Variable → Option ℕ
left_assigned left env text None = option_map (λ s. s.0) (expanded_within left env text)
left_assigned left env text (Some v) = Some left

-- the same, by the text behind the mark
abbrev pub left_marked : ℕ → List Variable → Option (List ℕ) → Option ℕ
left_marked left env None = Some left
left_marked left env (Some text) = left_assigned left env text (assignment text)

-- the same of a line of bytes
abbrev pub left_by_texts : ℕ → List Variable → List ℕ → Option ℕ
left_by_texts left env line = if is_utf8 line then left_marked left env (marked_text line) else Some left

-- what is left once so many bytes are held as well
abbrev pub left_holding : ℕ → Option ℕ → Option ℕ
left_holding held None = None
left_holding held (Some left) = left_behind left held

-- the first of some lines that exceeds the limit, by whether this line is bad and by what is left behind it. A bad line
-- ends the reading, so none behind it exceeds the limit
abbrev pub too_long_from : ℕ → Option Fault → Option ℕ → (ℕ → Option ℕ) → Option ℕ
too_long_from number fault None rest = Some number
too_long_from number (Some fault) (Some left) rest = None
too_long_from number None (Some left) rest = rest left

-- A line stands in the run of a number, and is read with a look-up and a working directory.
module _ (which : LookUp) (run : ℕ) (cwd : List ℕ) where
  -- what is left of the limit behind a line, unless the line exceeds it
  abbrev pub left_behind_line : ℕ → List Variable → ℕ × List ℕ → Option ℕ
  left_behind_line left env line = left_holding (held_by (meaning which run cwd env line)) (left_by_texts left env line.1)

  -- the number of the first line that exceeds what is left
  abbrev pub first_too_long : ℕ → List Variable → List (ℕ × List ℕ) → Option ℕ
  first_too_long left env [] = None
  first_too_long left env (line ∷ lines) =
      too_long_from line.0 (fault_of (meaning which run cwd env line)) (left_behind_line left env line) (λ less. first_too_long less (environment_after which run cwd env (meaning which run cwd env line)) lines)

-- an answer, unless a line exceeds the limit
abbrev pub answer_within : {T : Type 0} → ℕ → Option ℕ → Result T Fault → Result T LimitedFault
answer_within run (Some line) said = Err (TooLong run line)
answer_within run None (Ok said) = Ok said
answer_within run None (Err fault) = Err (limited.Fault fault)

-- what a dry run says that is read within a limit: the same as without one, unless a line exceeds it before any is bad
abbrev pub dry_run_within : ℕ → ℕ → List ℕ → List ℕ → LookUp → Result (List CommandLine × List Variable) LimitedFault
dry_run_within limit run bytes cwd which = answer_within run (first_too_long which run cwd limit [] (numbered_lines bytes)) (dry_run_of run bytes cwd which)

-- what a marked line says by itself, and what the texts leave that expanding it makes
abbrev pub stated_marked_within : ℕ → List Variable → Option (List ℕ) → Option (Statement × ℕ)
stated_marked_within left env text = option_map (λ less. (stated_marked env text, less)) (left_marked left env text)

-- the same of a line of bytes
abbrev pub stated_within : ℕ → List Variable → List ℕ → Option (Statement × ℕ)
stated_within left env line = option_map (λ less. (stated env line, less)) (left_by_texts left env line)

-- a result is the expected one, unless an allocation failed
abbrev pub UnlessMemoryWithin : {T : Type 0} → Result T LimitedFault → Result T LimitedFault → Type 0
UnlessMemoryWithin (Ok x) expected = expected ≡ Ok x
UnlessMemoryWithin (Err (limited.Fault fault)) expected = UnlessMemoryIs fault (expected ≡ Err (limited.Fault fault))
UnlessMemoryWithin (Err (TooLong run line)) expected = expected ≡ Err (TooLong run line)

-- the fault that such a fault stands for where no limit was asked for
abbrev pub without_limit : LimitedFault → Fault
without_limit (limited.Fault fault) = fault
without_limit (TooLong run line) = Memory

-- the texts of these faults
abbrev pub limited_message_of : LimitedFault → List ℕ
limited_message_of (limited.Fault fault) = message_of fault
limited_message_of (TooLong run line) = line_text run line (codes ": over the limit")
