-- The operands of calls.
use Rattle.std.specs.Prelude.{ℕ, List, ◌∷◌, Option, Some, None, map, string_bytes, option_map}
use Rattle.plan_texts.specs.declared.tool.Tool.{Tool}
use Rattle.plan_texts.specs.Tools.{tool_of_name}
use Rattle.programs.specs.declared.operands.LineCall.{LineCall}
use Rattle.programs.specs.declared.operands.PlanCall.{PlanCall}

-- a call that reads a line: the tool, the working directory and the line's words
pub record LineOf : Type 0 where
  pub tool : Tool
  pub cwd : List ℕ
  pub words : List (List ℕ)

-- a call that plans: the working directory, the temporary directory, the compilation flag, the files of the two dry runs
-- and the further suffixes
pub record PlanOf : Type 0 where
  pub cwd : List ℕ
  pub tmp : List ℕ
  pub flag : List ℕ
  pub dry1 : List ℕ
  pub dry2 : List ℕ
  pub suffixes : List (List ℕ)

-- calls, as the code holds them
abbrev pub line_of : LineCall → LineOf
line_of call = record { tool = call.tool; cwd = call.cwd.now; words = map string_bytes call.words.now }

abbrev pub plan_of : PlanCall → PlanOf
plan_of call = record {
  cwd = call.cwd.now;
  tmp = call.tmp.now;
  flag = call.flag.now;
  dry1 = call.dry1.now;
  dry2 = call.dry2.now;
  suffixes = map string_bytes call.suffixes.now;
}

-- the call that the words `TOOL CWD WORD..` are
abbrev pub line_call_of : List (List ℕ) → Option LineOf
line_call_of (tool ∷ cwd ∷ words) = option_map (λ t. record { tool = t; cwd = cwd; words = words }) (tool_of_name tool)
line_call_of _ = None

-- the call that the words `CWD TMP FLAG DRY1 DRY2 SUFFIX..` are
abbrev pub plan_call_of : List (List ℕ) → Option PlanOf
plan_call_of (cwd ∷ tmp ∷ flag ∷ dry1 ∷ dry2 ∷ suffixes) =
    Some (record { cwd = cwd; tmp = tmp; flag = flag; dry1 = dry1; dry2 = dry2; suffixes = suffixes })
plan_call_of _ = None
