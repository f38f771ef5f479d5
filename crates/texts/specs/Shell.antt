-- The grammar of shell words. A text is the list of its characters.
use Rattle.std.specs.Prelude.{ℕ, Bool, true, false, ◌||◌, ◌==◌, ◌≡◌, ◌≢◌, List, [], ◌∷◌, ◌++◌, map, encode_utf8_all, chars}
use Rattle.std.specs.List.{AllByRecursion}
pub mod Splitting
pub mod Quoting

abbrev pub newline : ℕ
newline = 10

abbrev pub double_quote : ℕ
double_quote = 34

abbrev pub hash : ℕ
hash = 35

abbrev pub single_quote : ℕ
single_quote = 39

abbrev pub backslash : ℕ
backslash = 92

-- a space, a tab or a newline
abbrev pub is_blank : ℕ → Bool
is_blank c = (c == 32) || (c == 9) || (c == newline)

-- a character that a backslash escapes in double quotes: `$`, a backtick, `"` or a backslash
abbrev pub is_escapable : ℕ → Bool
is_escapable c = (c == 36) || (c == 96) || (c == double_quote) || (c == backslash)

-- the character is not in the text
abbrev pub HasNone : ℕ → List ℕ → Type 0
HasNone c cs = AllByRecursion (λ x. x ≢ c) cs

-- A gap is a blank, or `#` and everything through the next newline.
pub data IsGap : List ℕ → Type 0 where
  blank : (c : ℕ) → is_blank c ≡ true → IsGap (c ∷ [])
  comment : (cs : List ℕ) → HasNone newline cs → IsGap (hash ∷ cs ++ newline ∷ [])

-- An inner piece, of double quotes, and what it gives: a character other than `"` and a backslash; a
-- backslash with one of `$`, a backtick, `"` and a backslash, which gives that character; a backslash
-- and a newline, which give nothing; a backslash with any other character, which gives both.
pub data IsInnerPiece : List ℕ → List ℕ → Type 0 where
  inner_bare : (c : ℕ) → c ≢ double_quote → c ≢ backslash → IsInnerPiece (c ∷ []) (c ∷ [])
  inner_escaped : (c : ℕ) → is_escapable c ≡ true → IsInnerPiece (backslash ∷ c ∷ []) (c ∷ [])
  inner_joined : IsInnerPiece (backslash ∷ newline ∷ []) []
  inner_kept : (c : ℕ) → is_escapable c ≡ false → c ≢ newline → IsInnerPiece (backslash ∷ c ∷ []) (backslash ∷ c ∷ [])

-- the inside of double quotes: any number of inner pieces
pub data IsInside : List ℕ → List ℕ → Type 0 where
  inside_end : IsInside [] []
  inside_more : (piece rest given more : List ℕ) → IsInnerPiece piece given → IsInside rest more →
      IsInside (piece ++ rest) (given ++ more)

-- A piece, and what it gives: a character other than a blank, a quote or a backslash; a backslash with
-- a character, which gives that character, or nothing for a newline; `'` and all up to the next `'`;
-- or `"`, its inner pieces and `"`.
pub data IsPiece : List ℕ → List ℕ → Type 0 where
  bare : (c : ℕ) → is_blank c ≡ false → c ≢ single_quote → c ≢ double_quote → c ≢ backslash → IsPiece (c ∷ []) (c ∷ [])
  escaped : (c : ℕ) → c ≢ newline → IsPiece (backslash ∷ c ∷ []) (c ∷ [])
  joined : IsPiece (backslash ∷ newline ∷ []) []
  single_quoted : (cs : List ℕ) → HasNone single_quote cs → IsPiece (single_quote ∷ cs ++ single_quote ∷ []) cs
  double_quoted : (cs given : List ℕ) → IsInside cs given → IsPiece (double_quote ∷ cs ++ double_quote ∷ []) given

-- any number of pieces
pub data IsPieces : List ℕ → List ℕ → Type 0 where
  pieces_end : IsPieces [] []
  pieces_more : (piece rest given more : List ℕ) → IsPiece piece given → IsPieces rest more →
      IsPieces (piece ++ rest) (given ++ more)

-- A word, as it is written and what it gives: one or more pieces, the first not a bare `#`.
pub data IsWord : List ℕ → List ℕ → Type 0 where
  word : (piece rest given more : List ℕ) → IsPiece piece given → piece ≢ hash ∷ [] → IsPieces rest more →
      IsWord (piece ++ rest) (given ++ more)

-- A text and its words: nothing; a gap, and a text; `#` and everything through the end; a word, and the end; or
-- a word, a blank, and a text. A text has at most one list of words.
pub data IsText : List ℕ → List (List ℕ) → Type 0 where
  text_end : IsText [] []
  text_gap : (gap rest : List ℕ) (words : List (List ℕ)) → IsGap gap → IsText rest words → IsText (gap ++ rest) words
  text_comment : (cs : List ℕ) → HasNone newline cs → IsText (hash ∷ cs) []
  text_word : (cs given : List ℕ) → IsWord cs given → IsText cs (given ∷ [])
  text_words : (cs given : List ℕ) (c : ℕ) (rest : List ℕ) (words : List (List ℕ)) →
      IsWord cs given → is_blank c ≡ true → IsText rest words → IsText (cs ++ c ∷ rest) (given ∷ words)

-- the text and its words, all as bytes
abbrev pub HasWords : List ℕ → List (List ℕ) → Type 0
HasWords text words = (lists : List (List ℕ)) × IsText (chars text) lists × (words ≡ map encode_utf8_all lists)

-- the text, as bytes, is no text of the grammar
abbrev pub HasNoWords : List ℕ → Type 0
HasNoWords text = (words : List (List ℕ)) → ¬ IsText (chars text) words
