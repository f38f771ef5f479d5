-- The name of a call's directory.
use Rattle.std.specs.Prelude.{◌≡◌, ℕ, List, [], ◌∷◌, ◌++◌, length, flat_map, unwrap_or, codes, refl}
use Rattle.hex.specs.Hex.{encode_lower}
use Rattle.sha2.specs.Sha256.{sha256}
use Rattle.texts.specs.Numeral.{numeral}
use Rattle.texts.specs.Variables.{first_value}
use Rattle.compilers.specs.Calls.{DirectoryOf}

-- a text behind its length
abbrev pub sized : List ℕ → List ℕ
sized text = numeral (length text) ++ (58 ∷ text)

-- the value of a variable, or empty if the environment lacks it, as nvcc takes it
abbrev pub value_in : List (List ℕ × List ℕ) → List ℕ → List ℕ
value_in variables name = unwrap_or (first_value name variables) []

-- all that an nvcc call depends on: the working directory, nvcc, both variables of nvcc's flags and the line's words
abbrev pub parts_of : DirectoryOf → List (List ℕ × List ℕ) → List (List ℕ)
parts_of call variables =
    call.cwd ∷ call.nvcc ∷ value_in variables (codes "NVCC_PREPEND_FLAGS") ∷ value_in variables (codes "NVCC_APPEND_FLAGS") ∷ call.words

-- the same as one text
abbrev pub identity : List (List ℕ) → List ℕ
identity parts = flat_map sized parts

-- the name
abbrev pub directory_name : DirectoryOf → List (List ℕ × List ℕ) → List ℕ
directory_name call variables = codes "zigrunk-" ++ encode_lower (sha256 (identity (parts_of call variables)))

-- a worked example
pub two_parts : identity (codes "/w" ∷ [] ∷ []) ≡ codes "2:/w0:"
two_parts = refl

-- two calls have one text exactly if their parts are equal
abbrev pub IdentitiesDiffer : Type 0
IdentitiesDiffer = (parts others : List (List ℕ)) → identity parts ≡ identity others → parts ≡ others
