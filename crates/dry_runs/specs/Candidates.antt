-- The paths that a look-up of a program tries.
use Rattle.std.specs.Prelude.{◌≡◌, ℕ, List, [], ◌∷◌, ◌==◌, Bool, map, if◌then◌else◌, refl, codes}
use Rattle.std.specs.List.{slice_split, find}
use Rattle.texts.specs.Path.{joined, is_bare}
use Rattle.dry_runs.specs.DryRun.{LookUp}

-- the folders of a `PATH`: the parts between its `:`. An empty text has one part, which is empty
abbrev pub parts_of : List ℕ → List (List ℕ)
parts_of path = slice_split (λ c. c == 58) path

-- a program in a part of `PATH`, which counts from the working directory; an empty part is that directory
abbrev pub in_part : List ℕ → List ℕ → List ℕ → List ℕ
in_part program folder part = joined (joined folder part) program

-- the paths that are tried, in order: a name with a `/` counts from the working directory; any other is tried in each
-- part of `PATH`
abbrev pub candidates_of : List ℕ → List ℕ → List ℕ → List (List ℕ)
candidates_of program path folder = if is_bare program then map (in_part program folder) (parts_of path) else joined folder program ∷ []

-- the look-up on a disk that has a test of paths: the first path that passes
abbrev pub found_on : (List ℕ → Bool) → LookUp
found_on test program path folder = find test (candidates_of program path folder)

-- examples: the folders in order, one that is no absolute path and an empty part; an empty `PATH`; a name with a `/`, also
-- from the root
pub tried_in_order : candidates_of (codes "cicc") (codes "/a/bin:bin:") (codes "/w") ≡ codes "/a/bin/cicc" ∷ codes "/w/bin/cicc" ∷ codes "/w/cicc" ∷ []
tried_in_order = refl

pub tried_with_an_empty_path : candidates_of (codes "cc") [] (codes "/w") ≡ codes "/w/cc" ∷ []
tried_with_an_empty_path = refl

pub tried_once :
    map (λ program. candidates_of program (codes "/b") (codes "/w")) (codes "./cc" ∷ codes "/usr/bin/cc" ∷ []) ≡ (codes "/w/./cc" ∷ []) ∷ (codes "/usr/bin/cc" ∷ []) ∷ []
tried_once = refl
