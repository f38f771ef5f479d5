-- Look-ups of programs, as records of texts.
use Rattle.std.specs.Prelude.{ℕ, List, [], ◌∷◌, ◌++◌, Bool, ◌&&◌, if◌then◌else◌, fold, bytes_eq}
use Rattle.std.specs.List.{list_any}
use Rattle.dry_runs.specs.declared.lookup.Lookup.{Lookup}

-- the look-up of a program by the value of `PATH` and the working directory
abbrev pub lookup_of : List ℕ → List ℕ → List ℕ → Lookup
lookup_of program path folder = record { program = program; path = path; folder = folder }

-- whether two look-ups ask for the same
abbrev pub same_lookup : Lookup → Lookup → Bool
same_lookup a b = bytes_eq a.program b.program && bytes_eq a.path b.path && bytes_eq a.folder b.folder

-- look-ups in order of first ask, each once, with one more
abbrev pub with_lookup : List Lookup → Lookup → List Lookup
with_lookup known lookup = if list_any (λ other. same_lookup other lookup) known then known else known ++ lookup ∷ []

-- the look-ups of a list behind those of another, in order of first ask, each once
abbrev pub with_lookups : List Lookup → List Lookup → List Lookup
with_lookups known lookups = fold with_lookup known lookups
