-- Texts in which marks replace roots: directories whose paths don't count, such as a temporary one.
use Rattle.std.specs.Prelude.{◌≡◌, ℕ, zero, suc, ◌-◌, ◌==◌, ◌<◌, ⊤, List, [], ◌∷◌, nat_eq, nat_lt, length, drop, get_or, fold, Bool, true, false, not, ◌&&◌, ◌||◌, if◌then◌else◌, Option, Some, None, refl, codes}
use Rattle.std.specs.List.{flat_map, position_from, starts_with}
use Rattle.command_keys.specs.declared.marks.Part.{Part}
use Rattle.command_keys.specs.declared.marks.Part.TheVariants.{Byte, Root}

-- whether a root may end in front of a rest: an absolute path where nothing follows or a `/`, since `-deps` behind `/u/proj` is of
-- another name; another text anywhere
abbrev pub may_end : List ℕ → List ℕ → Bool
may_end [] rest = true
may_end (c ∷ cs) rest = not (c == 47) || ((length rest == 0) || starts_with nat_eq rest (codes "/"))

-- whether a text begins with a root; none begins with an empty one
abbrev pub begins_with : List ℕ → List ℕ → Bool
begins_with text [] = false
begins_with text (c ∷ cs) = starts_with nat_eq text (c ∷ cs) && may_end (c ∷ cs) (drop (length (c ∷ cs)) text)

-- the length of the longest root so far that a text begins with, given a further root
abbrev pub with_longer : List ℕ → ℕ → List ℕ → ℕ
with_longer text most root = if begins_with text root && nat_lt most (length root) then length root else most

-- the length of the longest root that a text begins with, 0 if there is none
abbrev pub longest : List ℕ → List (List ℕ) → ℕ
longest text roots = fold (with_longer text) 0 roots

-- whether a text begins with a root that has this length
abbrev pub begins_with_all : List ℕ → ℕ → List ℕ → Bool
begins_with_all text most root = begins_with text root && (length root == most)

-- the number of the innermost root that a text begins with: the longest, wherever it is in the list
abbrev pub root_at : List (List ℕ) → List ℕ → Option ℕ
root_at roots text = position_from (begins_with_all text (longest text roots)) 0 roots

-- the root with a number; empty if there is none
abbrev pub root_of : List (List ℕ) → ℕ → List ℕ
root_of roots number = get_or roots number []

-- what a text begins with: a root, or else its first byte
abbrev pub part_at : Option ℕ → ℕ → Part
part_at None byte = Byte byte
part_at (Some number) byte = Root number

-- how many bytes such a part has behind the first
abbrev pub length_behind : List (List ℕ) → Option ℕ → ℕ
length_behind roots None = 0
length_behind roots (Some number) = length (root_of roots number) - 1

-- the parts of what is left of a text once `skipped` bytes are passed over
abbrev pub parts_past : ℕ → List (List ℕ) → List ℕ → List Part
parts_past skipped roots [] = []
parts_past (suc skipped) roots (c ∷ cs) = parts_past skipped roots cs
parts_past zero roots (c ∷ cs) = part_at (root_at roots (c ∷ cs)) c ∷ parts_past (length_behind roots (root_at roots (c ∷ cs))) roots cs

-- a text as its parts: from the left, each root of the list, and each byte that is of none
abbrev pub parts : List (List ℕ) → List ℕ → List Part
parts roots text = parts_past 0 roots text

-- the text that parts are
abbrev pub text_of_part : List (List ℕ) → Part → List ℕ
text_of_part roots (Byte byte) = byte ∷ []
text_of_part roots (Root number) = root_of roots number

abbrev pub text_of : List (List ℕ) → List Part → List ℕ
text_of roots parts = flat_map (text_of_part roots) parts

-- a text with each of some roots replaced by the one that has its number in other roots
abbrev pub renamed : List (List ℕ) → List (List ℕ) → List ℕ → List ℕ
renamed roots others text = text_of others (parts roots text)

-- whether a text that begins with a root, or with none, begins with this part
abbrev pub is_told : Part → Option ℕ → Bool
is_told (Byte byte) None = true
is_told (Byte byte) (Some number) = false
is_told (Root number) None = false
is_told (Root number) (Some other) = number == other

-- Whether the text of parts has a root exactly where a part is that root: none begins at another byte.
abbrev pub are_told : List (List ℕ) → List Part → Bool
are_told roots [] = true
are_told roots (part ∷ parts) = is_told part (root_at roots (text_of roots (part ∷ parts))) && are_told roots parts

-- a part that is a root has a number below a bound
abbrev pub fits : ℕ → Part → Type 0
fits bound (Byte byte) = ⊤
fits bound (Root number) = number < bound

-- Examples: the innermost root counts, in any order; a directory ends where its name does; a name is everywhere, and an empty root nowhere.
pub inner_root_counts : parts (codes "/t" ∷ codes "/t/u" ∷ []) (codes "a/t/u") ≡ Byte 97 ∷ Root 1 ∷ []
inner_root_counts = refl

pub inner_root_first : parts (codes "/t/u" ∷ codes "/t" ∷ []) (codes "/t/u/t") ≡ Root 0 ∷ Root 1 ∷ []
inner_root_first = refl

pub longer_names_are_others : parts (codes "/t/u" ∷ codes "/t" ∷ []) (codes "/t/u-x") ≡ Root 1 ∷ Byte 47 ∷ Byte 117 ∷ Byte 45 ∷ Byte 120 ∷ []
longer_names_are_others = refl

pub of_equal_roots_the_first : parts (codes "/t" ∷ codes "/t" ∷ []) (codes "/t") ≡ Root 0 ∷ []
of_equal_roots_the_first = refl

pub no_root_overlaps : parts (codes "aa" ∷ []) (codes "aaa") ≡ Root 0 ∷ Byte 97 ∷ []
no_root_overlaps = refl

pub empty_roots_are_nowhere : parts ([] ∷ codes "/t" ∷ []) (codes "a/t") ≡ Byte 97 ∷ Root 1 ∷ []
empty_roots_are_nowhere = refl

pub roots_are_renamed : renamed (codes "/t" ∷ []) (codes "/tmp/u" ∷ []) (codes "-o/t/a=/t") ≡ codes "-o/tmp/u/a=/tmp/u"
roots_are_renamed = refl
