-- What nvcc says that makes a dependency file.
use Rattle.std.specs.Prelude.{◌≡◌, ◌==◌, ◌++◌, ℕ, List, [], ◌∷◌, Bool, nat_eq, if◌then◌else◌, codes, refl}
use Rattle.std.specs.List.{starts_with}

-- whether a text begins with a line in which nvcc itself warns
abbrev pub begins_with_warning : List ℕ → Bool
begins_with_warning text = starts_with nat_eq text (codes "nvcc warning : ")

-- the rest of a text without such lines, given whether it begins inside one
abbrev pub rest_without : Bool → List ℕ → List ℕ
rest_without warns [] = []
rest_without warns (c ∷ cs) = (if warns then [] else c ∷ []) ++ rest_without (if c == 10 then begins_with_warning cs else warns) cs

-- a text without such lines
abbrev pub without_warnings : List ℕ → List ℕ
without_warnings text = rest_without (begins_with_warning text) text

-- examples
pub warnings_go :
    without_warnings (codes "nvcc warning : a\nb: warning: nvcc warning : c\nnvcc warning : d\n\nerror: e") ≡ codes "b: warning: nvcc warning : c\n\nerror: e"
warnings_go = refl

pub last_line_goes : without_warnings (codes "a\nnvcc warning : b") ≡ codes "a\n"
last_line_goes = refl
