-- What a refusal says.
use Rattle.std.specs.Prelude.{ℕ, List, codes}
use Rattle.plan_texts.specs.declared.refusal.Refusal.{Refusal}
use Rattle.plan_texts.specs.declared.refusal.Refusal.TheVariants.{Unheld, VariableName, Program, Memory}

-- a refusal's text
abbrev pub message_of : Refusal → List ℕ
message_of Unheld = codes "a text of the plan holds a byte that the form can't"
message_of VariableName = codes "a variable of the plan has a name that env takes for something else"
message_of Program = codes "a program of the plan has a path that env takes for something else"
message_of Memory = codes "out of memory"
