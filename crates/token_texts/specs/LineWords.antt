-- Words by which a text sees its own lines or files.
use Rattle.std.specs.Prelude.{ℕ, Bool, false, ◌||◌, List, [], ◌∷◌, codes, nat_eq}
use Rattle.std.specs.List.{starts_with}

abbrev pub begins_with_line_word : List ℕ → Bool
begins_with_line_word text =
    starts_with nat_eq text (codes "__LINE__") || starts_with nat_eq text (codes "__builtin_LINE")
    || starts_with nat_eq text (codes "__builtin_FILE") || starts_with nat_eq text (codes "__builtin_COLUMN")
    || starts_with nat_eq text (codes "source_location")

abbrev pub sees_lines : List ℕ → Bool
sees_lines [] = false
sees_lines (c ∷ cs) = begins_with_line_word (c ∷ cs) || sees_lines cs
