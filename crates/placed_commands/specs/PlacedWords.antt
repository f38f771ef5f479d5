-- The words of a command whose files have whole paths.
use Rattle.std.specs.Prelude.{◌≡◌, ℕ, List, [], ◌∷◌, ◌++◌, Bool, true, ◌&&◌, ◌||◌, ◌==◌, nat_eq, if◌then◌else◌, Option, Some, None, codes, bytes_eq}
use Rattle.std.specs.Borrow.{Bor}
use Rattle.std.specs.List.{starts_with}
use Rattle.texts.specs.Path.{joined, lacks}
use Rattle.command_files.specs.declared.files.CommandFiles.{CommandFiles}
use Rattle.command_files.specs.Files.{is_among}

-- whether a command reads or writes a file by its record
abbrev pub is_touched : CommandFiles → List ℕ → Bool
is_touched files path = (is_among files.reads path || is_among files.writes path) || is_among files.may_write path

-- whether a text names a file of the record from a folder
abbrev pub is_file : CommandFiles → List ℕ → List ℕ → Bool
is_file files folder text = is_touched files (joined folder text)

-- how a text is cut at its first `=`, which is the byte 61
abbrev pub IsCutAtEquals : List ℕ → Option (Bor (List ℕ) × Bor (List ℕ)) → Type 0
IsCutAtEquals text None = lacks 61 text ≡ true
IsCutAtEquals text (Some parts) = (text ≡ parts.0.now ++ 61 ∷ parts.1.now) × (lacks 61 parts.0.now ≡ true)

-- A word with the whole path of the file that it names, from a place in it on. A file's name may begin at the word's start and behind
-- each `=`
abbrev pub placed_from : CommandFiles → List ℕ → Bool → List ℕ → List ℕ
placed_from files folder begins [] = if begins && is_file files folder [] then joined folder [] else []
placed_from files folder begins (c ∷ cs) =
    if begins && is_file files folder (c ∷ cs) then joined folder (c ∷ cs) else c ∷ placed_from files folder (c == 61) cs

abbrev pub placed_word : CommandFiles → List ℕ → List ℕ → List ℕ
placed_word files folder word = placed_from files folder true word

-- a word behind another. The source's name, which tools show, stays
abbrev pub word_behind : CommandFiles → List ℕ → List ℕ → List ℕ → List ℕ
word_behind files folder before word =
    if bytes_eq before (codes "--orig_src_file_name") || starts_with nat_eq word (codes "--ident=") then word else placed_word files folder word

-- words behind another
abbrev pub placed_words : CommandFiles → List ℕ → List ℕ → List (List ℕ) → List (List ℕ)
placed_words files folder before [] = []
placed_words files folder before (w ∷ ws) = word_behind files folder before w ∷ placed_words files folder w ws
