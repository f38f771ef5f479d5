-- The words of a text, computed. By the law `computed_words` they are those of the grammar.
use Rattle.std.specs.Prelude.{ℕ, Bool, true, ◌||◌, ◌==◌, ◌≡◌, refl, if◌then◌else◌, List, [], ◌∷◌, ◌++◌, map, Option, Some, None, encode_utf8_all, codes, option_map, chars}
use Rattle.texts.specs.declared.shell.splitting.State.{State}
use Rattle.texts.specs.declared.shell.splitting.State.TheVariants.{Between, Comment, Word, Escaped, SingleQuoted, DoubleQuoted, EscapedInQuotes}
use Rattle.texts.specs.Shell.{newline, hash, backslash, single_quote, double_quote, is_blank, is_escapable}

-- what a character does: nothing, add these characters to the word that it is in, or end that word
pub data Effect : Type 0 where
  Skips : Effect
  Gives : List ℕ → Effect
  EndsWord : Effect

-- at a piece's first character: the state after it, and what it does
abbrev pub begins_piece : ℕ → State × Effect
begins_piece c =
    if c == backslash then (Escaped, Gives []) else
    if c == single_quote then (SingleQuoted, Gives []) else
    if c == double_quote then (DoubleQuoted, Gives []) else (Word, Gives (c ∷ []))

abbrev pub reads_comment : ℕ → State × Effect
reads_comment c = if c == newline then (Between, Skips) else (Comment, Skips)

abbrev pub reads_word : ℕ → State × Effect
reads_word c = if is_blank c then (Between, EndsWord) else begins_piece c

abbrev pub reads_escaped_in_quotes : ℕ → State × Effect
reads_escaped_in_quotes c =
    if is_escapable c then (DoubleQuoted, Gives (c ∷ [])) else
    if c == newline then (DoubleQuoted, Gives []) else (DoubleQuoted, Gives (backslash ∷ c ∷ []))

-- what a character does in a state, and the state after it
abbrev pub reads : State → ℕ → State × Effect
reads Between c =
    if is_blank c then (Between, Skips) else
    if c == hash then (Comment, Skips) else begins_piece c
reads Comment c = reads_comment c
reads Word c = reads_word c
reads Escaped c = if c == newline then (Word, Gives []) else (Word, Gives (c ∷ []))
reads SingleQuoted c = if c == single_quote then (Word, Gives []) else (SingleQuoted, Gives (c ∷ []))
reads DoubleQuoted c =
    if c == double_quote then (Word, Gives []) else
    if c == backslash then (EscapedInQuotes, Gives []) else (DoubleQuoted, Gives (c ∷ []))
reads EscapedInQuotes c = reads_escaped_in_quotes c

-- Whether a character ends a span in this state. The characters of a span stand for themselves and keep the
-- state. In the other states there is no span.
abbrev pub ends_span : State → ℕ → Bool
ends_span Word c = is_blank c || (c == single_quote) || (c == double_quote) || (c == backslash)
ends_span SingleQuoted c = c == single_quote
ends_span DoubleQuoted c = (c == double_quote) || (c == backslash)
ends_span Between c = true
ends_span Comment c = true
ends_span Escaped c = true
ends_span EscapedInQuotes c = true

-- the words, the first of which has these characters in front
abbrev pub prepend : List ℕ → List (List ℕ) → List (List ℕ)
prepend given [] = []
prepend given (word ∷ words) = (given ++ word) ∷ words

-- the words with what a character in front of them does
abbrev pub with_effect : Effect → List (List ℕ) → List (List ℕ)
with_effect Skips words = words
with_effect (Gives given) words = prepend given words
with_effect EndsWord words = [] ∷ words

-- the words at the text's end: in a word the rest of that word, and none in a quote or after a backslash
abbrev pub words_at_end : State → Option (List (List ℕ))
words_at_end Between = Some []
words_at_end Comment = Some []
words_at_end Word = Some ([] ∷ [])
words_at_end _ = None

-- the words of the rest of a text that is read in this state; in a word the first is the rest of that word
abbrev pub words_from : State → List ℕ → Option (List (List ℕ))
words_from state [] = words_at_end state
words_from state (c ∷ cs) =
    let read = reads state c in
    option_map (λ words. with_effect read.1 words) (words_from read.0 cs)

-- the words of a text, if it has any list of them
abbrev pub split_chars : List ℕ → Option (List (List ℕ))
split_chars cs = words_from Between cs

-- What a splitter holds: its state, the words so far and the current word so far, as bytes.
pub record Splitting : Type 0 where
  pub state : State
  pub words : List (List ℕ)
  pub word : List ℕ

-- what a splitter holds with more bytes of its word
abbrev pub with_bytes : Splitting → List ℕ → Splitting
with_bytes s bytes = record s { word = s.word ++ bytes }

abbrev pub start : Splitting
start = record { state = Between; words = []; word = [] }

-- what a splitter holds once a character has done what it does
abbrev pub applied : State × Effect → Splitting → Splitting
applied (state, Skips) s = record s { state = state }
applied (state, Gives given) s = record s { state = state; word = s.word ++ encode_utf8_all given }
applied (state, EndsWord) s = record { state = state; words = s.words ++ s.word ∷ []; word = [] }

-- what a splitter holds after a character
abbrev pub after : Splitting → ℕ → Splitting
after s c = applied (reads s.state c) s

-- the words at the text's end, with the one that ends there
abbrev pub ended : State → List (List ℕ) → List ℕ → Option (List (List ℕ))
ended Between words word = Some words
ended Comment words word = Some words
ended Word words word = Some (words ++ word ∷ [])
ended _ words word = None

abbrev pub finished : Splitting → Option (List (List ℕ))
finished s = ended s.state s.words s.word

-- the shell words of a text, all as bytes
abbrev pub shell_words : List ℕ → Option (List (List ℕ))
shell_words text = option_map (map encode_utf8_all) (split_chars (chars text))

-- Examples. The first is the text  a\ b "c$d\e" '' # x
pub split_texts : map split_chars (codes "a\\ b \"c$d\\e\" '' # x" ∷ codes "a\\" ∷ [] ∷ codes "a'b c'\"d\"" ∷ codes "a#b #c" ∷ codes "\"a" ∷ [])
    ≡ Some (codes "a b" ∷ codes "c$d\\e" ∷ [] ∷ []) ∷ None ∷ Some [] ∷ Some (codes "ab cd" ∷ []) ∷ Some (codes "a#b" ∷ []) ∷ None ∷ []
split_texts = refl
