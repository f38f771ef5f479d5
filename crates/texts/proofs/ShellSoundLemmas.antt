-- A text of the grammar is split into the words that the grammar gives it.
use Rattle.std.proofs.Common.{ℕ, List, [], ◌∷◌, ◌++◌, ◌≡◌, ◌≢◌, refl, sym, ap, ◌∙◌, append-nil, append_assoc, Some, ne_eqb, arith}
use Rattle.std.proofs.lemmas.Bool.{cond-true, cond-false}
use Rattle.texts.specs.declared.shell.splitting.State.{State}
use Rattle.texts.specs.declared.shell.splitting.State.TheVariants.{Between, Comment, Word, SingleQuoted, DoubleQuoted}
use Rattle.texts.specs.Shell.{newline, hash, backslash, single_quote, double_quote, HasNone, IsGap, IsInnerPiece, IsInside, inside_end, inside_more, IsPiece, bare, escaped, joined, single_quoted, double_quoted, IsPieces, pieces_end, pieces_more, IsWord, word, IsText, text_end, text_gap, text_comment, text_word, text_words}
use Rattle.texts.specs.Shell.Splitting.{Effect, Skips, Gives, EndsWord, begins_piece, reads, with_effect, words_from, split_chars}

-- the words after one more character in front
pub reading : (state : State) (c : ℕ) (cs : List ℕ) (next : State) (effect : Effect) (words : List (List ℕ)) → reads state c ≡ (next, effect) → words_from next cs ≡ Some words → words_from state (c ∷ cs) ≡ Some (with_effect effect words)
reading state c cs next effect words read found = grind arith

pub begins_bare : (c : ℕ) → c ≢ single_quote → c ≢ double_quote → c ≢ backslash → begins_piece c ≡ (Word, Gives (c ∷ []))
begins_bare c not_single not_double not_backslash = grind (arith, cond-false)

-- ---- gaps and comments

comment_passes : (cs rest : List ℕ) (words : List (List ℕ)) → HasNone newline cs → words_from Between rest ≡ Some words → words_from Comment (cs ++ newline ∷ rest) ≡ Some words
comment_passes [] rest words none found = reading Comment newline rest Between Skips words refl found
comment_passes (c ∷ cs) rest words none found = grind (arith, reading, cond-false, (comment_passes cs rest words none.1 found))

comment_ends : (cs : List ℕ) → HasNone newline cs → words_from Comment cs ≡ Some []
comment_ends [] none = refl
comment_ends (c ∷ cs) none = reading Comment c cs Comment Skips [] (cond-false _ _ _ (ne_eqb c newline none.0)) (comment_ends cs none.1)

gap_passes : (gap rest : List ℕ) (words : List (List ℕ)) → IsGap gap → words_from Between rest ≡ Some words → words_from Between (gap ++ rest) ≡ Some words
gap_passes gap rest words h3 found = grind (arith, reading, cond-true, append_assoc, comment_passes)

-- ---- pieces

single_passes : (cs rest given : List ℕ) (words : List (List ℕ)) → HasNone single_quote cs → words_from Word rest ≡ Some (given ∷ words) → words_from SingleQuoted (cs ++ single_quote ∷ rest) ≡ Some ((cs ++ given) ∷ words)
single_passes [] rest given words none found = reading SingleQuoted single_quote rest Word (Gives []) _ refl found
single_passes (c ∷ cs) rest given words none found = grind (arith, reading, cond-false, (single_passes cs rest given words none.1 found))

inner_passes : (piece gives rest given : List ℕ) (words : List (List ℕ)) → IsInnerPiece piece gives → words_from DoubleQuoted rest ≡ Some (given ∷ words) → words_from DoubleQuoted (piece ++ rest) ≡ Some ((gives ++ given) ∷ words)
inner_passes piece gives rest given words kind found = grind (arith, reading, cond-false, cond-true)

inside_passes : (cs gives rest given : List ℕ) (words : List (List ℕ)) → IsInside cs gives → words_from DoubleQuoted rest ≡ Some (given ∷ words) → words_from DoubleQuoted (cs ++ rest) ≡ Some ((gives ++ given) ∷ words)
inside_passes cs gives rest given words inside_end found = found
inside_passes cs gives rest given words (inside_more piece more gives_first gives_more first others) found =
    grind (arith, append_assoc, inner_passes, (inside_passes more gives_more rest given words others found))

piece_passes : (piece gives rest given : List ℕ) (words : List (List ℕ)) → IsPiece piece gives → words_from Word rest ≡ Some (given ∷ words) → words_from Word (piece ++ rest) ≡ Some ((gives ++ given) ∷ words)
piece_passes piece gives rest given words (bare c not_blank not_single not_double not_backslash) found = grind (arith, reading, cond-false, begins_bare)
piece_passes piece gives rest given words (escaped c not_newline) found = grind (arith, reading, cond-false)
piece_passes piece gives rest given words joined found = grind (arith, reading)
piece_passes piece gives rest given words (single_quoted cs none) found =
    grind (arith, reading, append_assoc, single_passes)
piece_passes piece gives rest given words (double_quoted cs inner inside) found =
    reading Word double_quote ((cs ++ double_quote ∷ []) ++ rest) DoubleQuoted (Gives []) _ refl
    (ap (words_from DoubleQuoted) (append_assoc cs (double_quote ∷ []) rest)
    ∙ inside_passes cs inner (double_quote ∷ rest) given words inside (reading DoubleQuoted double_quote rest Word (Gives []) _ refl found))

pieces_pass : (pieces gives rest : List ℕ) (words : List (List ℕ)) → IsPieces pieces gives → words_from Word rest ≡ Some ([] ∷ words) → words_from Word (pieces ++ rest) ≡ Some (gives ∷ words)
pieces_pass pieces gives rest words pieces_end found = found
pieces_pass pieces gives rest words (pieces_more piece more gives_first gives_more first others) found =
    grind (arith, append_assoc, piece_passes, (pieces_pass more gives_more rest words others found))

-- a word's first piece is read between words as it is in a word
first_piece : (piece gives rest : List ℕ) → IsPiece piece gives → piece ≢ hash ∷ [] → words_from Between (piece ++ rest) ≡ words_from Word (piece ++ rest)
first_piece piece gives rest kind no_hash = grind (arith, cond-false)

word_passes : (cs gives rest : List ℕ) (words : List (List ℕ)) → IsWord cs gives → words_from Word rest ≡ Some ([] ∷ words) → words_from Between (cs ++ rest) ≡ Some (gives ∷ words)
word_passes cs gives rest words (word piece more gives_first gives_more first no_hash others) found =
    ap (words_from Between) (append_assoc piece more rest) ∙ first_piece piece gives_first (more ++ rest) first no_hash
    ∙ piece_passes piece gives_first (more ++ rest) gives_more words first (pieces_pass more gives_more rest words others found)

-- ---- texts

pub words_of_text : (cs : List ℕ) (words : List (List ℕ)) → IsText cs words → split_chars cs ≡ Some words
words_of_text cs words text_end = refl
words_of_text cs words (text_gap gap rest later is text) = gap_passes gap rest later is (words_of_text rest later text)
words_of_text cs words (text_comment inside none) = reading Between hash inside Comment Skips [] refl (comment_ends inside none)
words_of_text cs words (text_word written gives is) = ap (words_from Between) (sym (append-nil written)) ∙ word_passes written gives [] [] is refl
words_of_text cs words (text_words written gives c rest later is blank_is text) =
    word_passes written gives (c ∷ rest) later is
    (reading Word c rest Between EndsWord later (cond-true _ _ _ blank_is) (words_of_text rest later text))
