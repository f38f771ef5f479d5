-- A parsed line.
use Rattle.std.specs.Prelude.{ℕ, List, Option, Some, None}
use Rattle.cuda_plans.specs.Compiler.{Reading, accepted, cannot_cache, not_compilation}

-- the common words of a line that was read
abbrev pub common_words : Reading → Option (List (List ℕ))
common_words (accepted p) = Some p.common_args
common_words (cannot_cache text word) = None
common_words not_compilation = None
