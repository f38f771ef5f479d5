-- The files that commands write.
use Rattle.std.specs.Prelude.{ℕ, List, [], ◌∷◌, Bool, true, false, if◌then◌else◌, bytes_eq}
use Rattle.std.specs.HashMap.{get_by}
use Rattle.std.specs.Option.{is_some}
use Rattle.plan_fitness.specs.declared.written.Written.{Written}

-- whether a path is among files
abbrev pub Files : Type 0
Files = List ℕ → Bool

abbrev pub no_files : Files
no_files path = false

-- a file more, and files
abbrev pub with_file : Files → List ℕ → Files
with_file files path = λ other. if bytes_eq other path then true else files other

abbrev pub with_files : Files → List (List ℕ) → Files
with_files files [] = files
with_files files (path ∷ paths) = with_files (with_file files path) paths

-- how the code holds them
abbrev pub seen : Written → Files
seen w path = is_some (get_by (λ k. bytes_eq path k.now) w.paths)
