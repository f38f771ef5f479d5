-- Texts that are paths, as lists of bytes. The byte 47 is `/`, and 46 is `.`.
use Rattle.std.specs.Prelude.{◌≡◌, ℕ, List, [], ◌∷◌, ◌++◌, Bool, true, false, not, ◌==◌, ◌&&◌, ◌||◌, nat_eq, length, reverse, if◌then◌else◌, Option, Some, None, refl, codes, option_map, bytes_eq}
use Rattle.std.specs.List.{ends_with}
use Rattle.texts.specs.Extension.{last_part, stem_of}
use Rattle.texts.specs.Rows.{Gives}

-- a path is absolute if it begins with `/`
abbrev pub is_absolute_path : List ℕ → Bool
is_absolute_path [] = false
is_absolute_path (c ∷ _) = c == 47

-- what joins a folder and a name: nothing if the folder is empty or ends in `/`, else one `/`
abbrev pub separator_after : List ℕ → List ℕ
separator_after base = if (length base == 0) || ends_with nat_eq base (codes "/") then [] else codes "/"

-- the path of a text that is looked up from a folder
abbrev pub joined : List ℕ → List ℕ → List ℕ
joined base path = if is_absolute_path path then path else (base ++ separator_after base) ++ path

-- examples: an absolute path stays, a relative one is put below the folder, and no second `/` is added
pub joined_paths : Gives (λ (paths : List ℕ × List ℕ). joined paths.0 paths.1) (
    ((codes "/w", codes "kernel.ptx"), codes "/w/kernel.ptx")
    ∷ ((codes ".", codes "kernel.ptx"), codes "./kernel.ptx")
    ∷ ((codes "/", codes "w"), codes "/w")
    ∷ ((codes "/w", []), codes "/w/")
    ∷ ((codes "/w", codes "/t/a.ptx"), codes "/t/a.ptx")
    ∷ [])
joined_paths = refl

-- whether a text lacks a byte
abbrev pub lacks : ℕ → List ℕ → Bool
lacks byte [] = true
lacks byte (c ∷ cs) = not (c == byte) && lacks byte cs

-- a name is bare if it holds no `/`
abbrev pub is_bare : List ℕ → Bool
is_bare name = lacks 47 name

-- The ends of paths are read backwards: below, the first character is the last one of the path, and `before` is
-- what stands before it, backwards too.

-- the part of a text up to and including its last such byte, both backwards; empty if it has none
abbrev pub through_last_byte : ℕ → List ℕ → List ℕ
through_last_byte byte [] = []
through_last_byte byte (c ∷ before) = if c == byte then c ∷ before else through_last_byte byte before

-- a text, backwards, without its last characters, as long as a test holds of the last one and what stands before it
abbrev pub trimmed : (ℕ → List ℕ → Bool) → List ℕ → List ℕ
trimmed test [] = []
trimmed test (c ∷ before) = if test c before then trimmed test before else c ∷ before

-- whether a path may go without its last character: a `/`, or a `.` right after a `/`. Where the root is kept, a `/`
-- that is the only character stays
abbrev pub is_idle : Bool → ℕ → List ℕ → Bool
is_idle keeps_root c [] = not keeps_root && (c == 47)
is_idle keeps_root c (d ∷ before) = (c == 47) || ((c == 46) && (d == 47))

-- a path, backwards, without the `/` and `.` that it may go without
abbrev pub trimmed_backwards : Bool → List ℕ → List ℕ
trimmed_backwards keeps_root path = trimmed (is_idle keeps_root) (reverse path)

-- the folder of a name: the text up to and including its last `/`, without the `/` and `.` that it may go without.
-- It is empty if the name has no `/`, and `/` for a name at the root
abbrev pub folder_of : List ℕ → List ℕ
folder_of name = reverse (trimmed (is_idle true) (through_last_byte 47 (reverse name)))

-- a text as a file name, which isn't empty, and neither `.` nor `..`
abbrev pub proper_name : List ℕ → Option (List ℕ)
proper_name name = if bytes_eq name [] || (bytes_eq name (codes ".") || bytes_eq name (codes "..")) then None else Some name

-- the file name of a path: what follows the last `/`, once the `/` and `.` are off that it may go without; none
-- if that can be no file name. So `/`, `./` and `/.` have none, nor has `a/..`, but `a/.` has `a`
abbrev pub file_name_of : List ℕ → Option (List ℕ)
file_name_of path = proper_name (last_part (reverse (trimmed_backwards false path)))

-- the stem of a path's file name: what stands before its last `.`; all of it if it has no `.`, or if its only `.`
-- comes first
abbrev pub file_stem_of : List ℕ → Option (List ℕ)
file_stem_of path = option_map stem_of (file_name_of path)

-- examples of folders: a bare name has none; what ends a folder's text goes, but within it all stays; the root stays,
-- and so do a `.` that begins the name, and `..`
pub folders : Gives folder_of (
    (codes "k", [])
    ∷ (codes "a/b/k.ptx", codes "a/b")
    ∷ (codes "a/./k.cpp4.ii", codes "a")
    ∷ (codes "a//./b/k", codes "a//./b")
    ∷ (codes "a/b/", codes "a/b")
    ∷ (codes "/", codes "/")
    ∷ (codes "//./k", codes "/")
    ∷ (codes "./k", codes ".")
    ∷ (codes "a/../k", codes "a/..")
    ∷ [])
folders = refl

pub joined_to_its_folder : joined (folder_of (codes "//k.cpp4.ii")) (codes "x_0.cpp4.ii") ≡ codes "/x_0.cpp4.ii"
joined_to_its_folder = refl

-- examples of file names: slashes and dots at the end go, other dots stay; the last seven have none
pub file_names : Gives file_name_of (
    (codes "k.cpp1.ii/", Some (codes "k.cpp1.ii"))
    ∷ (codes "b/a/.", Some (codes "a"))
    ∷ (codes "a//./b", Some (codes "b"))
    ∷ (codes "a/b.", Some (codes "b."))
    ∷ (codes "...", Some (codes "..."))
    ∷ ([], None)
    ∷ (codes "/", None)
    ∷ (codes ".", None)
    ∷ (codes "./", None)
    ∷ (codes "/./", None)
    ∷ (codes "..", None)
    ∷ (codes "a/..//.", None)
    ∷ [])
file_names = refl

-- examples of stems: a `.` that begins the file name begins no extension, and the root has no file name
pub file_stems : Gives file_stem_of (
    (codes "/usr/bin/ptxas", Some (codes "ptxas"))
    ∷ (codes "a.tar.gz", Some (codes "a.tar"))
    ∷ (codes ".profile", Some (codes ".profile"))
    ∷ (codes "b/.a.b", Some (codes ".a"))
    ∷ (codes "a.", Some (codes "a"))
    ∷ (codes "/", None)
    ∷ [])
file_stems = refl

-- What is claimed of these functions, for all texts.

-- a bare name that is put into the folder of a name has that folder
abbrev pub JoinedKeepsFolder : Type 0
JoinedKeepsFolder = (name f : List ℕ) → is_bare f ≡ true → folder_of (joined (folder_of name) f) ≡ folder_of name

-- a bare name that can be a file name is the file name when it is put below any path
abbrev pub JoinedHasName : Type 0
JoinedHasName = (base f : List ℕ) → is_bare f ≡ true → proper_name f ≡ Some f → file_name_of (joined base f) ≡ Some f

-- a folder is a beginning of its name
abbrev pub FolderBegins : Type 0
FolderBegins = (name : List ℕ) → (rest : List ℕ) × (name ≡ folder_of name ++ rest)

-- names that aren't absolute are equal if one folder makes equal paths of them
abbrev pub JoinedCancels : Type 0
JoinedCancels = (base f g : List ℕ) → is_absolute_path f ≡ false → is_absolute_path g ≡ false → joined base f ≡ joined base g → f ≡ g

-- bare names that are put into folders of names make equal paths only if both folders and names are equal
abbrev pub FoldersCancel : Type 0
FoldersCancel =
    (m n f g : List ℕ) → is_bare f ≡ true → is_bare g ≡ true → joined (folder_of m) f ≡ joined (folder_of n) g → (folder_of m ≡ folder_of n) × (f ≡ g)
