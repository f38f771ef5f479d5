-- How the code holds a set of words.
use Rattle.std.specs.Prelude.{bytes_eq, is_some}
use Rattle.std.specs.HashMap.{get_by}
use Rattle.source_layouts.specs.declared.line_numbers.Words.{Words}
use Rattle.source_layouts.specs.LineNumbers.{Set}

abbrev pub has : Words → Set
has w = λ word. is_some (get_by (λ k. bytes_eq word k.now) w.words)
