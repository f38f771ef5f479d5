-- What the lines of a dry run say, within a limit or without, up to the first bad one.
use Rattle.std.proofs.Common.{◌≡◌, ℕ, List, arith, ◌+◌, ◌∷◌, Option, Some, None, Result, Ok, Err, ap, subst, IfOk, option_map, [], ◌++◌, refl, sym, ◌∙◌, append_assoc, append-nil, codes, unwrap_or}
use Rattle.std.specs.List.{enumerate_from}
use Rattle.std.specs.Str.{IsUtf8}
use Rattle.std.specs.Str.Lines.{lines}
use Rattle.std.specs.declared.alloc.AllocError.{AllocError}
use Rattle.std.proofs.lemmas.Str.{IsUtf8-from_is_utf8, is_utf8-from_IsUtf8}
use Rattle.texts.specs.declared.fault.Fault.{Fault}
use Rattle.texts.specs.Results.{and_then}
use Rattle.compilers.specs.CommandLines.{CommandLine}
use Rattle.texts.specs.Fault.{UnlessMemory}
use Rattle.texts.specs.Variables.{first_value}
use Rattle.texts.proofs.RestLemmas.{rest_after-append}
use Rattle.dry_runs.specs.DryRun.{LookUp, meaning, environment_after, fault_of, Meaning, Ignored, Assigns, Runs, Bad, meanings, run_of_meanings, run_or_fault, stated, stated_assigned, stated_by_words}
use Rattle.dry_runs.specs.Environment.{Variable}
use Rattle.dry_runs.specs.Reading.{meaning_stated, said_next, next_within, found_or_fault, said_parsed, said_ended}
use Rattle.dry_runs.specs.declared.reader.Said.{Said}
use Rattle.dry_runs.specs.declared.limit.LimitedFault.TheVariants.{TooLong}
use Rattle.dry_runs.specs.declared.statement.Statement.{Statement}
use Rattle.dry_runs.specs.declared.statement.Statement.TheVariants.{NotUtf8}
use Rattle.dry_runs.specs.DryRunLines.{marked_text, numbered_lines}
use Rattle.dry_runs.specs.Limit.{expanded_within, words_left, left_assigned, stated_marked_within, stated_within, left_behind_line, too_long_from, first_too_long, answer_within, UnlessMemoryWithin, dry_run_within}
use Rattle.dry_runs.proofs.ExpansionLemmas.{within-expanded}
use Rattle.dry_runs.specs.declared.limit.LimitedFault.{LimitedFault}
use Rattle.dry_runs.specs.declared.parsed.ParsedRun.{ParsedRun}
use Rattle.dry_runs.specs.Parsed.{question_of, program_in, path_of, with_line, run_of_lines, lines_read, unless_long, lines_read_within, unless_bad, whole, whole_in, behind_found, found_commands, parsed_of, ParsesThenResolves}
use Rattle.dry_runs.specs.declared.limit.LimitedFault.TheVariants as limited

-- a line means what it says, once its program is looked up
module _ (which : LookUp) (run : ℕ) (cwd : List ℕ) (number : ℕ) (env : List Variable) where
  pub meaning-stated : (line : List ℕ) → meaning_stated which run cwd number env (stated env line) ≡ meaning which run cwd env (number, line)
  meaning-stated line = grind arith

-- What a line says within a limit, and which line is the first that exceeds it.

-- a command, by its text
abbrev by_words : Option (List (List ℕ)) × ℕ → Statement × ℕ
by_words w = (stated_by_words w.0, w.1)

pub marked-command : (left : ℕ) (env : List Variable) (text : List ℕ) (assigned : Option Variable) → None ≡ assigned → option_map by_words (option_map words_left (expanded_within left env text)) ≡ option_map (λ less. (stated_assigned env text assigned, less)) (left_assigned left env text assigned)
marked-command left env text None is = grind (arith, within-expanded)
marked-command left env text (Some v) is = cc

pub within-no_text : (left : ℕ) (env : List Variable) (line : List ℕ) → (IsUtf8 line → ⊥) → ◌≡◌ {A = Option (Statement × ℕ)} (Some (NotUtf8, left)) (stated_within left env line)
within-no_text left env line h = grind (arith, IsUtf8-from_is_utf8)

abbrev marked_within : ℕ → List Variable → List ℕ → Option (Statement × ℕ)
marked_within left env text = stated_marked_within left env (marked_text text)

pub same-within : (left : ℕ) (env : List Variable) (text line : List ℕ) → text ≡ line → IsUtf8 line → marked_within left env text ≡ stated_within left env line
same-within left env text line same h = grind (arith, is_utf8-from_IsUtf8)

pub within-text : (left : ℕ) (env : List Variable) (text line : List ℕ) (r : Result (Option (Statement × ℕ)) AllocError) → text ≡ line → IsUtf8 line → IfOk r (λ s. s ≡ marked_within left env text) → IfOk r (λ s. s ≡ stated_within left env line)
within-text left env text line r same h told = subst (λ q. IfOk r (λ s. s ≡ q)) (same-within left env text line same h) told

-- one line, and the lines behind it
module _ (which : LookUp) (run : ℕ) (cwd : List ℕ) where
  abbrev room_at : ℕ → Said → ℕ → List ℕ → Option ℕ
  room_at left s number line = left_behind_line which run cwd left s.env (number, line)

  abbrev said_at : Said → ℕ → List ℕ → Result Said Fault
  said_at s number line = said_next s (meaning which run cwd s.env (number, line))

  abbrev rest_at : Said → ℕ → List ℕ → List ℕ → ℕ → Option ℕ
  rest_at s number line behind less = first_too_long which run cwd less (environment_after which run cwd s.env (meaning which run cwd s.env (number, line))) (enumerate_from (number + 1) (lines behind))

  first-cut : (s : Said) (left number : ℕ) (line rest behind : List ℕ) → lines rest ≡ line ∷ lines behind →
      first_too_long which run cwd left s.env (enumerate_from number (lines rest)) ≡ too_long_from number (fault_of (meaning which run cwd s.env (number, line))) (room_at left s number line) (rest_at s number line behind)
  first-cut s left number line rest behind cut = ap (λ ls. first_too_long which run cwd left s.env (enumerate_from number ls)) cut

  pub within-fault : (s : Said) (left number : ℕ) (line rest behind : List ℕ) (fault : Fault) → lines rest ≡ line ∷ lines behind → next_within run number (room_at left s number line) (said_at s number line) ≡ Err (limited.Fault fault) →
      (said_at s number line ≡ Err fault) × (first_too_long which run cwd left s.env (enumerate_from number (lines rest)) ≡ None)
  within-fault s left number line rest behind fault cut e = grind (arith, first-cut)

  pub within-long : (s : Said) (left number : ℕ) (line rest behind : List ℕ) (r n : ℕ) → lines rest ≡ line ∷ lines behind → next_within run number (room_at left s number line) (said_at s number line) ≡ Err (TooLong r n) →
      (TooLong run number ≡ TooLong r n) × (first_too_long which run cwd left s.env (enumerate_from number (lines rest)) ≡ Some number)
  within-long s left number line rest behind r n cut e = grind (arith, first-cut)

-- a run that is read within a limit and isn't too long is the run
pub unlimited : (run : ℕ) (long : Option ℕ) (said : Result (List CommandLine × List Variable) Fault) (run_said : List CommandLine × List Variable) → answer_within run long said ≡ Ok run_said → said ≡ Ok run_said
unlimited run long said run_said h = grind arith

-- A run that is read up to its first bad line, and what the look-ups of a parsed one make of it.

-- what was said so far, and the run that the lines behind it are
abbrev pub said_before : Said → ParsedRun → ParsedRun
said_before s run = record { commands = s.commands ++ run.commands; env = s.env ++ run.env; fault = run.fault }

-- one line, and the lines behind it
module _ (which : LookUp) (run : ℕ) (cwd : List ℕ) where
  abbrev pub run_from : List Variable → ℕ → List ℕ → ParsedRun
  run_from env number rest = run_of_lines (meanings which run cwd env (enumerate_from number (lines rest)))

  pub read-next : (s t : Said) (number : ℕ) (line rest behind : List ℕ) → lines rest ≡ line ∷ lines behind → said_next s (meaning which run cwd s.env (number, line)) ≡ Ok t → said_before t (run_from t.env (number + 1) behind) ≡ said_before s (run_from s.env number rest)
  read-next s t number line rest behind cut e = grind (arith, append_assoc)

  read-bad : (s : Said) (number : ℕ) (line rest behind : List ℕ) (fault : Fault) → lines rest ≡ line ∷ lines behind → said_next s (meaning which run cwd s.env (number, line)) ≡ Err fault → said_before s (run_from s.env number rest) ≡ said_parsed s (Some fault)
  read-bad s number line rest behind fault cut e = grind (arith, append-nil)

-- a line at which the reading ends
ended-bad : {X : Type 0} (fault : Fault) (s : Said) (part : Result X LimitedFault) (all : Result ParsedRun LimitedFault) → (part ≡ Err (limited.Fault fault) → all ≡ Ok (said_parsed s (Some fault))) → UnlessMemoryWithin {T = X} (Err (limited.Fault fault)) part → UnlessMemoryWithin (said_ended s (limited.Fault fault)) all
ended-bad fault s part all h told = grind arith

pub read-ended : (which : LookUp) (run limit : ℕ) (bytes cwd : List ℕ) (s t : Said) (left number : ℕ) (line rest behind : List ℕ) → lines rest ≡ line ∷ lines behind →
    said_before s (run_from which run cwd s.env number rest) ≡ lines_read which run bytes cwd →
    first_too_long which run cwd left s.env (enumerate_from number (lines rest)) ≡ first_too_long which run cwd limit [] (numbered_lines bytes) →
    t ≡ s → (fault : LimitedFault) → UnlessMemoryWithin {T = Said × ℕ} (Err fault) (next_within run number (left_behind_line which run cwd left s.env (number, line)) (said_next s (meaning which run cwd s.env (number, line)))) →
    UnlessMemoryWithin (said_ended t fault) (lines_read_within which limit run bytes cwd)
read-ended which run limit bytes cwd s t left number line rest behind cut all over same (limited.Fault fault) told =
    let part = next_within run number (left_behind_line which run cwd left s.env (number, line)) (said_next s (meaning which run cwd s.env (number, line))) in
    ended-bad fault t part (lines_read_within which limit run bytes cwd)
    (λ e.
    let parts = within-fault which run cwd s left number line rest behind fault cut e in
    ap (λ long. unless_long run long (lines_read which run bytes cwd)) (sym over ∙ parts.1)
    ∙ ap (λ (r : ParsedRun). Ok r) (sym all ∙ read-bad which run cwd s number line rest behind fault cut parts.0 ∙ ap (λ (x : Said). said_parsed x (Some fault)) (sym same)))
    told
read-ended which run limit bytes cwd s t left number line rest behind cut all over same (TooLong r n) told = grind (arith, within-long)

-- what a run says is what its lines say, unless one is bad
abbrev Read : Type 0
Read = Result (List CommandLine × List Variable) Fault

abbrev with_one : Variable → Read → Read
with_one v (Ok said) = Ok (said.0, v ∷ said.1)
with_one v (Err fault) = Err fault

abbrev behind_one : CommandLine → Read → Read
behind_one command (Ok said) = Ok (command ∷ said.0, said.1)
behind_one command (Err fault) = Err fault

bad-variable : (commands : List CommandLine) (env : List Variable) (v : Variable) (fault : Option Fault) → unless_bad commands (v ∷ env) fault ≡ with_one v (unless_bad commands env fault)
bad-variable commands env v fault = grind arith

bad-command : (commands : List CommandLine) (env : List Variable) (command : CommandLine) (fault : Option Fault) → unless_bad (command ∷ commands) env fault ≡ behind_one command (unless_bad commands env fault)
bad-command commands env command fault = grind arith

fault-variable : (v : Variable) (ms : List Meaning) (faults : List Fault) → run_or_fault (Assigns v ∷ ms) faults ≡ with_one v (run_or_fault ms faults)
fault-variable v ms faults = grind arith

fault-command : (command : CommandLine) (ms : List Meaning) (faults : List Fault) → run_or_fault (Runs command ∷ ms) faults ≡ behind_one command (run_or_fault ms faults)
fault-command command ms faults = grind arith

pub whole-lines : (ms : List Meaning) → whole (run_of_lines ms) ≡ run_of_meanings ms
whole-lines [] = refl
whole-lines (Ignored ∷ ms) = whole-lines ms ∙ sym ((grind arith))
whole-lines (Assigns v ∷ ms) = simp (bad-variable, fault-variable, (whole-lines ms))
whole-lines (Runs command ∷ ms) = simp (bad-command, fault-command, (whole-lines ms))
whole-lines (Bad fault ∷ ms) = refl

pub whole-within : (which : LookUp) (limit run : ℕ) (bytes cwd : List ℕ) → whole_in (lines_read_within which limit run bytes cwd) ≡ dry_run_within limit run bytes cwd which
whole-within which limit run bytes cwd = grind (arith, whole-lines)

-- The first `PATH` counts for all lines behind it.

first-stays : (name : List ℕ) (env more : List Variable) (value : List ℕ) → first_value name env ≡ Some value → first_value name (env ++ more) ≡ Some value
first-stays name [] more value h = cc
first-stays name (v ∷ env) more value h = grind (arith, (first-stays name env more value))

path-stays : (env more : List Variable) (path : List ℕ) → first_value (codes "PATH") env ≡ Some path → path_of (env ++ more) ≡ path
path-stays env more path h = ap (λ o. unwrap_or o []) (first-stays (codes "PATH") env more path h)

program-asked : (path program : List ℕ) → program_in path (path ++ program) ≡ program
program-asked path program = ap (λ o. unwrap_or o []) (rest_after-append path program)

module _ (which : LookUp) (run : ℕ) (cwd : List ℕ) where
  -- a run that is parsed, and one that is read, from a line of a meaning on
  abbrev asked_from : List Variable → Meaning → List (ℕ × List ℕ) → ParsedRun
  asked_from env m ls = with_line m (run_of_lines (meanings question_of run [] (environment_after question_of run [] env m) ls))

  abbrev read_from : List Variable → Meaning → List (ℕ × List ℕ) → ParsedRun
  read_from env m ls = with_line m (run_of_lines (meanings which run cwd (environment_after which run cwd env m) ls))

  abbrev asked_all : List Variable → List (ℕ × List ℕ) → ParsedRun
  asked_all env ls = run_of_lines (meanings question_of run [] env ls)

  abbrev read_all : List Variable → List (ℕ × List ℕ) → ParsedRun
  read_all env ls = run_of_lines (meanings which run cwd env ls)

  abbrev looked_up : List ℕ → ParsedRun → Read
  looked_up path parsed = and_then (found_commands which cwd path parsed.commands) (λ commands. unless_bad commands parsed.env parsed.fault)

  -- the lines say alike what they say with the look-ups of a parsed run
  abbrev SaysAlike : List Variable → List (ℕ × List ℕ) → Type 0
  SaysAlike env ls = looked_up (path_of (env ++ (asked_all env ls).env)) (asked_all env ls) ≡ whole (read_all env ls)

  abbrev SaysAlikeFrom : List Variable → Meaning → Meaning → List (ℕ × List ℕ) → Type 0
  SaysAlikeFrom env m k ls = looked_up (path_of (env ++ (asked_from env m ls).env)) (asked_from env m ls) ≡ whole (read_from env k ls)

  alike-stated : (number : ℕ) (env : List Variable) (ls : List (ℕ × List ℕ)) (s : Statement) → ((after : List Variable) → SaysAlike after ls) →
      SaysAlikeFrom env (meaning_stated question_of run [] number env s) (meaning_stated which run cwd number env s) ls
  alike-stated number env ls s same = grind (arith, append_assoc, bad-variable, path-stays, program-asked)

  says-alike : (ls : List (ℕ × List ℕ)) (env : List Variable) → SaysAlike env ls
  says-alike [] env = refl
  says-alike ((number, line) ∷ ls) env =
      grind (arith, alike-stated, (says-alike ls), (meaning-stated which run cwd number env line), (meaning-stated question_of run [] number env line))

pub parses-then-resolves : ParsesThenResolves
parses-then-resolves run bytes cwd which =
    says-alike which run cwd (numbered_lines bytes) [] ∙ whole-lines (meanings which run cwd [] (numbered_lines bytes))

-- What a parsed run holds before its bad line doesn't depend on the run's number, which only faults carry.
abbrev HoldAlike : ParsedRun → ParsedRun → Type 0
HoldAlike a b = (a.commands ≡ b.commands) × (a.env ≡ b.env)

module _ (run other : ℕ) where
  abbrev HoldAlikeBehind : List Variable → List (ℕ × List ℕ) → Type 0
  HoldAlikeBehind env ls = HoldAlike (asked_all question_of run [] env ls) (asked_all question_of other [] env ls)

  hold-alike : (ls : List (ℕ × List ℕ)) (env : List Variable) → HoldAlikeBehind env ls
  hold-alike [] env = (refl, refl)
  hold-alike ((number, line) ∷ ls) env =
      let one = meaning-stated question_of run [] number env line in
      let two = meaning-stated question_of other [] number env line in
      grind (arith, (hold-alike ls))

  pub parsed-alike : (bytes : List ℕ) → HoldAlike (parsed_of run bytes) (parsed_of other bytes)
  parsed-alike bytes = hold-alike (numbered_lines bytes) []

-- what looking up the programs of some commands found, and of those behind them
abbrev pub found_behind : List CommandLine → Result (List CommandLine) Fault → Result (List CommandLine) Fault
found_behind found (Ok rest) = Ok (found ++ rest)
found_behind found (Err fault) = Err fault

-- one more command that is found
pub found-next : (found : List CommandLine) (command : CommandLine) (program path : List ℕ) (answer : Option (List ℕ)) (rest : Result (List CommandLine) Fault) → UnlessMemory (Ok path) (found_or_fault program answer) →
    found_behind (found ++ (command.0, path, command.2) ∷ []) rest ≡ found_behind found (behind_found command program answer rest)
found-next found command program path answer rest told = grind (arith, append_assoc)
