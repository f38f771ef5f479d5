-- What holds of the tokens of every text.
use Rattle.std.specs.Prelude.{ℕ, Bool, false, true, ◌≡◌, ◌==◌, ◌&&◌, ◌||◌, not, if◌then◌else◌, List, [], ◌∷◌, ◌++◌, map, Some, is_some, option_map, codes}
use Rattle.std.specs.Char.{is_ascii_digit}
use Rattle.std.specs.List.{list_all, concat}
use Rattle.token_texts.specs.Lexing.{Lexing, tokens, tokens_from}
use Rattle.token_texts.specs.declared.lexer.State.TheVariants.{LineStart}
use Rattle.token_texts.specs.Normal.{normal}

-- two texts with one normal form have the same tokens
abbrev pub SameNormal : Type 0
SameNormal = (first second : List ℕ) → normal first ≡ normal second → tokens first ≡ tokens second

-- two texts with the same tokens have one normal form
abbrev pub SameTokens : Type 0
SameTokens = (first second : List ℕ) → tokens first ≡ tokens second → normal first ≡ normal second

-- one or more digits
abbrev pub is_number : List ℕ → Bool
is_number [] = false
is_number (c ∷ cs) = is_ascii_digit c && list_all is_ascii_digit cs

-- a line marker's number doesn't count
abbrev pub NumbersDontCount : Type 0
NumbersDontCount =
    (at : Lexing) (first second rest : List ℕ) → at.state ≡ LineStart → is_number first ≡ true → is_number second ≡ true →
    tokens_from at (codes "# " ++ (first ++ rest)) ≡ tokens_from at (codes "# " ++ (second ++ rest))

-- what a line comment can hold: no line end, and no backslash
abbrev pub is_remark : List ℕ → Bool
is_remark text = list_all (λ c. not (c == 10) && not (c == 92)) text

-- a line that is a comment doesn't count
abbrev pub CommentsDontCount : Type 0
CommentsDontCount =
    (at : Lexing) (remark rest : List ℕ) → at.state ≡ LineStart → at.token ≡ [] → is_remark remark ≡ true →
    tokens_from at (codes "//" ++ (remark ++ 10 ∷ rest)) ≡ tokens_from at rest

-- a text of whole lines: it is empty or ends with a line end
abbrev pub is_whole_lines : List ℕ → Bool
is_whole_lines [] = true
is_whole_lines (c ∷ []) = c == 10
is_whole_lines (c ∷ d ∷ cs) = is_whole_lines (d ∷ cs)

-- no `"` follows in the line
abbrev pub has_no_quote : List ℕ → Bool
has_no_quote [] = true
has_no_quote (c ∷ cs) = if c == 10 then true else if c == 34 then false else has_no_quote cs

-- ` 1` or ` 2`
abbrev pub begins_with_flag : List ℕ → Bool
begins_with_flag (c ∷ d ∷ cs) = (c == 32) && ((d == 49) || (d == 50))
begins_with_flag _ = false

-- such a flag is right behind the line's last `"`
abbrev pub has_flag : List ℕ → Bool
has_flag [] = false
has_flag (c ∷ cs) = if c == 10 then false else ((c == 34) && (begins_with_flag cs && has_no_quote cs)) || has_flag cs

-- a text begins with a line marker that enters a file or returns to one: with `# `, and ` 1` or ` 2` behind the line's last `"`
abbrev pub begins_with_move : List ℕ → Bool
begins_with_move (c ∷ d ∷ cs) = (c == 35) && (d == 32) && has_flag cs
begins_with_move _ = false

-- a text that is cut in front of such a line marker has the tokens of its parts, if the first has a reading
abbrev pub PartsHaveTheTokens : Type 0
PartsHaveTheTokens =
    (part rest : List ℕ) (ended : List (List ℕ)) → is_whole_lines part ≡ true → begins_with_move rest ≡ true → tokens part ≡ Some ended →
    tokens (part ++ rest) ≡ option_map (λ more. ended ++ more) (tokens rest)

-- each part but the last is a text of whole lines
abbrev pub are_parts : List (List ℕ) → Bool
are_parts [] = true
are_parts (part ∷ []) = true
are_parts (part ∷ next ∷ rest) = is_whole_lines part && are_parts (next ∷ rest)

-- Texts whose parts have the same tokens have the same tokens, wherever between two lines they are cut. Each part has to have a reading.
abbrev pub PartsDetermine : Type 0
PartsDetermine =
    (first second : List (List ℕ)) → are_parts first ≡ true → are_parts second ≡ true → list_all is_some (map tokens first) ≡ true →
    map tokens first ≡ map tokens second → tokens (concat first) ≡ tokens (concat second)
