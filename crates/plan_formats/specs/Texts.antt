-- A plan in a format.
use Rattle.std.specs.Prelude.{ℕ, List, [], ◌∷◌, ◌++◌, Result, Ok, Err}
use Rattle.serde_json.specs.Written.{compact_text}
use Rattle.plan_texts.specs.declared.format.Format.{Format}
use Rattle.plan_texts.specs.declared.format.Format.TheVariants.{Shell, Ninja, Json, Text}
use Rattle.plan_texts.specs.declared.refusal.Refusal.{Refusal}
use Rattle.plan_texts.specs.Script.{shell_answer}
use Rattle.plan_texts.specs.Graph.{ninja_answer}
use Rattle.plan_json.specs.Json.{Described, data_of}
use Rattle.plan_texts.specs.ShownPlan.{show_plan}

-- a plan in a format, or why the format can't represent it
abbrev pub text_in : Format → Described → Result (List ℕ) Refusal
text_in Shell plan = shell_answer plan.tmp plan.planned.plan
text_in Ninja plan = ninja_answer plan.tmp plan.planned.plan
text_in Json plan = Ok (compact_text (data_of plan))
text_in Text plan = Ok (show_plan plan.planned.plan)

-- a plan as a file: with a newline at its end, which the text of JSON lacks
abbrev pub file_with : Format → Result (List ℕ) Refusal → Result (List ℕ) Refusal
file_with format (Err refusal) = Err refusal
file_with Json (Ok text) = Ok (text ++ 10 ∷ [])
file_with format (Ok text) = Ok text

abbrev pub file_in : Format → Described → Result (List ℕ) Refusal
file_in format plan = file_with format (text_in format plan)
