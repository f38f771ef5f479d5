-- What a reader of items shows: the words left, its table, and whether an allocation failed.
use Rattle.std.specs.Prelude.{ℕ, List, Bool}
use Rattle.compilers.specs.declared.items.ArgsIter.{ArgsIter}

abbrev pub words_left : {S T : Type 0} → ArgsIter S T → List (List ℕ)
words_left it = it.line

abbrev pub table_of : {S T : Type 0} → ArgsIter S T → S
table_of it = it.table

abbrev pub is_refused : {S T : Type 0} → ArgsIter S T → Bool
is_refused it = it.refused
