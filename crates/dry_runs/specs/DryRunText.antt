-- What is a dry run.
use Rattle.std.specs.Prelude.{ℕ, List, Bool, nat_eq, codes}
use Rattle.std.specs.List.{list_any, starts_with}
use Rattle.std.specs.Str.Lines.{lines}

-- whether a text has a line of a dry run, that is one with nvcc's mark
abbrev pub is_dry_run : List ℕ → Bool
is_dry_run bytes = list_any (λ line. starts_with nat_eq line (codes "#$ ")) (lines bytes)
