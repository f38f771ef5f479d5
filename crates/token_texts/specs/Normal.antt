-- The normal form of a text: its tokens, each with a newline after it. In a token, a newline is written `\n`, and a backslash twice.
use Rattle.std.specs.Prelude.{ℕ, ◌==◌, if◌then◌else◌, List, [], ◌∷◌, ◌++◌, Option, option_map}
use Rattle.std.specs.List.{flat_map}
use Rattle.token_texts.specs.Lexing.{Lexing, Step, beginning, step, ending, tokens}

abbrev pub encoded_byte : ℕ → List ℕ
encoded_byte c = if c == 10 then 92 ∷ 110 ∷ [] else if c == 92 then 92 ∷ 92 ∷ [] else c ∷ []

abbrev pub encoded_token : List ℕ → List ℕ
encoded_token token = flat_map encoded_byte token ++ 10 ∷ []

abbrev pub encoded : List (List ℕ) → List ℕ
encoded tokens = flat_map encoded_token tokens

abbrev pub normal : List ℕ → Option (List ℕ)
normal text = option_map encoded (tokens text)

-- ---- what a lexer holds: where it is, and the tokens so far as they are written

pub record Written : Type 0 where
  pub at : Lexing
  pub out : List ℕ

abbrev pub start : Written
start = record { at = beginning; out = [] }

abbrev pub applied : Step → Written → Written
applied s w = record { at = s.0; out = w.out ++ encoded s.1 }

abbrev pub after : Written → ℕ → Written
after w c = applied (step c w.at) w

abbrev pub finished : Written → Option (List ℕ)
finished w = option_map (λ tokens. w.out ++ encoded tokens) (ending w.at.state w.at.token)
