-- Names that are borrowed.
use Rattle.std.specs.Prelude.{ℕ, List}
use denote.Ref.{Bor}

-- the borrowed name
abbrev pub name_shown : Bor (List ℕ) → List ℕ
name_shown r = r.now
