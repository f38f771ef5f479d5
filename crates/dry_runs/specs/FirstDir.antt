-- A look-up that looks at no file.
use Rattle.std.specs.Prelude.{◌≡◌, ℕ, List, [], ◌∷◌, ◌==◌, map, if◌then◌else◌, Option, Some, None, refl, codes}
use Rattle.std.specs.List.{before_first}
use Rattle.texts.specs.Path.{joined, is_bare}

-- the first folder of a `PATH`: what stands before its first `:`
abbrev pub first_folder_of : List ℕ → List ℕ
first_folder_of path = before_first (λ c. c == 58) path

abbrev pub found_in : List ℕ → List ℕ → Option (List ℕ)
found_in [] name = None
found_in (c ∷ folder) name = Some (joined (c ∷ folder) name)

-- the path of a program: a name with a `/` counts from the working directory, and any other is taken to be in the first
-- folder of `PATH`, unless that is empty
abbrev pub first_dir : List ℕ → List ℕ → List ℕ → Option (List ℕ)
first_dir name path cwd = if is_bare name then found_in (first_folder_of path) name else Some (joined cwd name)

-- examples
pub found_in_the_first_folder : map (λ path. first_dir (codes "gcc") path (codes "/w")) (codes "/b:/c" ∷ codes ":/c" ∷ []) ≡ Some (codes "/b/gcc") ∷ None ∷ []
found_in_the_first_folder = refl

pub found_from_the_working_directory : first_dir (codes "./gcc") (codes "/b") (codes "/w") ≡ Some (codes "/w/./gcc")
found_from_the_working_directory = refl
