-- The laws of counted words, for all commands and all records.
use Rattle.std.specs.Prelude.{◌≡◌, ℕ, List, [], ◌∷◌, ◌++◌, Bool, true, false, ◌||◌, Option, Some, None, map, filter}
use Rattle.compilers.specs.declared.plans.program.Program.{Program}
use Rattle.command_keys.specs.CountedWords.{Counted, Files, counted_words, front_of, is_seen_by, texts_seen}
use Rattle.command_keys.specs.Keys.{key_of}
use Rattle.command_keys.specs.ReadWords.{Read, input_read, read_words}
use Rattle.command_keys.specs.WordTable.{known_word}

-- the words of a command that has a key are all there, in order
abbrev pub AllWordsCount : Type 0
AllWordsCount =
    (tool : Program) (words : List (List ℕ)) (files : Files) (counted : List Counted) → counted_words tool words files ≡ Some counted →
    map (λ c. c.read.word) counted ≡ words

-- a command has no key if it has a word, where no option has its value, that no row of the table fits and that can't name a file
abbrev pub UnknownWordsRefuse : Type 0
UnknownWordsRefuse =
    (tool : Program) (before : List (List ℕ)) (word : List ℕ) (after : List (List ℕ)) (files : Files) (read : List Read) →
    read_words tool before ≡ Some read → known_word tool word ≡ None → input_read tool word ≡ None →
    counted_words tool (before ++ word ∷ after) files ≡ None

-- what is left of a word without a product's name
abbrev pub bare_by : Counted → Option ℕ → List ℕ × Option ℕ
bare_by counted None = (counted.read.word, None)
bare_by counted (Some number) = (front_of counted.read, Some number)

abbrev pub bare : Counted → List ℕ × Option ℕ
bare counted = bare_by counted counted.product

-- the words that count
abbrev pub seen : Bool → List Counted → List Counted
seen all counted = filter (λ c. all || is_seen_by c.read.role) counted

-- Commands of one tool with one key have the same words that count, in the same order, but for the names of products. So a command from which a
-- word is dropped, or in which two words are swapped, has another key.
abbrev pub EqualKeysHaveTheWords : Type 0
EqualKeysHaveTheWords =
    (all : Bool) (tool : Program) (words others : List (List ℕ)) (files files' : Files) (counted counted' : List Counted)
    (roots : List (List ℕ)) (variables variables' : List (List ℕ × List ℕ)) (key : List ℕ) →
    counted_words tool words files ≡ Some counted → counted_words tool others files' ≡ Some counted' →
    key_of roots (texts_seen all counted, variables) ≡ Some key → key_of roots (texts_seen all counted', variables') ≡ Some key →
    map bare (seen all counted) ≡ map bare (seen all counted')
