-- Needs of needs: all that has to run before a command.
use Rattle.std.specs.Prelude.{ℕ, List, [], ◌∷◌, ◌++◌}
use Rattle.command_files.specs.Order.{needs_at}

-- some commands, and all that each of them needs
abbrev pub with_theirs : List (List ℕ) → List ℕ → List ℕ
with_theirs closed [] = []
with_theirs closed (m ∷ ms) = (m ∷ needs_at closed m) ++ with_theirs closed ms

-- The needs of each command: those that are listed, and theirs. A command is listed behind all that it needs, so theirs are known then.
abbrev pub closed_behind : List (List ℕ) → List (List ℕ) → List (List ℕ)
closed_behind done [] = []
closed_behind done (ns ∷ rest) = with_theirs done ns ∷ closed_behind (done ++ with_theirs done ns ∷ []) rest

abbrev pub closed : List (List ℕ) → List (List ℕ)
closed needs = closed_behind [] needs
