-- The file that an image for fatbinary names.
use Rattle.std.specs.Prelude.{◌≡◌, ℕ, List, [], ◌∷◌, Bool, true, false, ◌||◌, ◌==◌, nat_eq, if◌then◌else◌, Option, Some, None, map, codes, refl}
use Rattle.std.specs.List.{list_any, slice_split, starts_with}
use Rattle.texts.specs.Lists.{rest_after}

abbrev pub is_comma : ℕ → Bool
is_comma byte = byte == 44

-- the parts of an image, which commas divide
abbrev pub parts_of : List ℕ → List (List ℕ)
parts_of image = slice_split is_comma image

-- the name of a file in a part that has one
abbrev pub file_in : List ℕ → Option (List ℕ)
file_in part = rest_after (codes "file=") part

abbrev pub is_file : List ℕ → Bool
is_file part = starts_with nat_eq part (codes "file=")

-- the name in the first of some parts that has one, if no other does
abbrev pub alone : Option (List ℕ) → Option (List ℕ) → List (List ℕ) → Option (List ℕ)
alone (Some name) later parts = if list_any is_file parts then None else Some name
alone None later parts = later

abbrev pub file_alone : List (List ℕ) → Option (List ℕ)
file_alone [] = None
file_alone (part ∷ parts) = alone (file_in part) (file_alone parts) parts

-- the name of the file in an image: it's in one part, and in no other
abbrev pub image_name : List ℕ → Option (List ℕ)
image_name image = file_alone (parts_of image)

-- a quote, an apostrophe or a backslash: fatbinary reads what follows otherwise
abbrev pub quotes : ℕ → Bool
quotes byte = (byte == 34 || byte == 39) || byte == 92

-- examples
pub images :
    map image_name (codes "kind=elf,sm=80,file=x.cubin" ∷ codes "file=a=b,kind=ptx" ∷ codes "kind=elf" ∷ codes "file=a,file=b" ∷ codes "xfile=a" ∷ [])
    ≡ Some (codes "x.cubin") ∷ Some (codes "a=b") ∷ None ∷ None ∷ None ∷ []
images = refl
