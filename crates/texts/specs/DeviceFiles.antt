-- The files that cicc and ptxas read, by the ends of their names.
use Rattle.std.specs.Prelude.{ℕ, List, Bool, nat_eq, codes}
use Rattle.std.specs.List.{ends_with}

-- a word that ends so is an input of cicc, and one of ptxas
abbrev pub is_cicc_word : List ℕ → Bool
is_cicc_word word = ends_with nat_eq word (codes ".cpp1.ii")

abbrev pub is_ptxas_word : List ℕ → Bool
is_ptxas_word word = ends_with nat_eq word (codes ".ptx")
