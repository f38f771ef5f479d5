-- Words on results that several definitions share.
use Rattle.std.specs.Prelude.{Result, Ok, Err}

-- what follows a step that may refuse
abbrev pub and_then : {A B E : Type 0} → Result A E → (A → Result B E) → Result B E
and_then (Ok x) next = next x
and_then (Err error) next = Err error
