-- The compilation flags that ask nvcc for an object file.
use Rattle.std.specs.Prelude.{ℕ, List, [], ◌∷◌, Bool, codes, bytes_eq}
use Rattle.std.specs.List.{list_any}

-- whether a compilation flag is one under which nvcc makes an object of each file
abbrev pub makes_objects : List ℕ → Bool
makes_objects flag =
    list_any (bytes_eq flag) (codes "-c" ∷ codes "--compile" ∷ codes "-dc" ∷ codes "--device-c" ∷ codes "-dw" ∷ codes "--device-w" ∷ [])
