-- The texts of the languages, and the languages of files.
use Rattle.std.specs.Prelude.{ℕ, List, [], ◌∷◌, Option, Some, None, refl, codes, option_and_then, bytes_eq}
use Rattle.std.specs.Map.{lookup}
use Rattle.texts.specs.declared.language.Language.{Language}
use Rattle.texts.specs.declared.language.Language.TheVariants.{C, Cxx, ObjectiveC, ObjectiveCxx, Cuda, CudaFE, Ptx, Cubin}
use Rattle.texts.specs.Extension.{extension_of}
use Rattle.texts.specs.Rows.{Gives}

-- a language's text in messages
abbrev pub language_text : Language → List ℕ
language_text C = codes "c"
language_text Cxx = codes "c++"
language_text ObjectiveC = codes "objc"
language_text ObjectiveCxx = codes "objc++"
language_text Cuda = codes "cuda"
language_text CudaFE = codes "cuda"
language_text Ptx = codes "ptx"
language_text Cubin = codes "cubin"

-- the languages of files, by their extensions
abbrev pub language_extensions : List (List ℕ × Language)
language_extensions =
    (codes "c", C) ∷ (codes "cc", Cxx) ∷ (codes "cpp", Cxx) ∷ (codes "cxx", Cxx) ∷ (codes "c++", Cxx) ∷ (codes "C", Cxx)
    ∷ (codes "m", ObjectiveC) ∷ (codes "mm", ObjectiveCxx) ∷ (codes "M", ObjectiveCxx) ∷ (codes "cu", Cuda) ∷ []

-- the language of a file, by its path
abbrev pub language_of_file : List ℕ → Option Language
language_of_file path = option_and_then (λ extension. lookup (bytes_eq extension) language_extensions) (extension_of path)

-- examples: the last extension counts, capitals differ from small letters, and a hidden file has no extension
pub languages_of_files : Gives language_of_file (
    (codes "a/foo.c", Some C)
    ∷ (codes "foo.C", Some Cxx)
    ∷ (codes "k.tar.cu", Some Cuda)
    ∷ (codes "a.txt", None)
    ∷ (codes "c.c/.c", None)
    ∷ [])
languages_of_files = refl
