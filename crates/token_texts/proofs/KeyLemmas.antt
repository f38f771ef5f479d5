-- A normal form is read back.
use Rattle.std.proofs.Common.{◌≡◌, ℕ, Bool, true, false, cond, ◌==◌, List, [], ◌∷◌, ◌++◌, Option, Some, None, option_map, flat_map, refl, ap, sym, ◌∙◌, append_assoc}
use Rattle.std.proofs.lemmas.Bool.{eqb-true}
use Rattle.token_texts.specs.Lexing.{tokens}
use Rattle.token_texts.specs.Normal.{encoded_byte, encoded_token, encoded, normal}
use Rattle.token_texts.specs.TokenLaws.{SameNormal, SameTokens}

-- a byte in front of the first token
abbrev prepend : ℕ → List (List ℕ) → List (List ℕ)
prepend c [] = []
prepend c (token ∷ tokens) = (c ∷ token) ∷ tokens

-- the tokens of a normal form; after a backslash if the first is true
abbrev decoded : Bool → List ℕ → List (List ℕ)
decoded escape [] = []
decoded true (c ∷ cs) = prepend (cond (c == 110) 10 c) (decoded false cs)
decoded false (c ∷ cs) = cond (c == 10) ([] ∷ decoded false cs) (cond (c == 92) (decoded true cs) (prepend c (decoded false cs)))

byte-again : (c : ℕ) (rest : List ℕ) → decoded false (encoded_byte c ++ rest) ≡ prepend c (decoded false rest)
byte-again c rest =
    elim (c == 10) as (λ b. (c == 10) ≡ b → decoded false (cond b (92 ∷ 110 ∷ []) (cond (c == 92) (92 ∷ 92 ∷ []) (c ∷ [])) ++ rest) ≡ prepend c (decoded false rest)) [
      | true ↦ λ is. ap (λ x. prepend x (decoded false rest)) (sym (eqb-true c 10 is))
      | false ↦ λ no_end.
          elim (c == 92) as (λ b. (c == 92) ≡ b → decoded false (cond b (92 ∷ 92 ∷ []) (c ∷ []) ++ rest) ≡ prepend c (decoded false rest)) [
            | true ↦ λ is. ap (λ x. prepend x (decoded false rest)) (sym (eqb-true c 92 is))
            | false ↦ λ no_backslash.
                ap (λ b. cond b ([] ∷ decoded false rest) (cond (c == 92) (decoded true rest) (prepend c (decoded false rest)))) no_end
                ∙ ap (λ b. cond b (decoded true rest) (prepend c (decoded false rest))) no_backslash
          ] refl
    ] refl

token-again : (token rest : List ℕ) → decoded false (flat_map encoded_byte token ++ 10 ∷ rest) ≡ token ∷ decoded false rest
token-again [] rest = refl
token-again (c ∷ cs) rest =
    ap (decoded false) (append_assoc (encoded_byte c) (flat_map encoded_byte cs) (10 ∷ rest))
    ∙ byte-again c (flat_map encoded_byte cs ++ 10 ∷ rest) ∙ ap (prepend c) (token-again cs rest)

all-again : (ts : List (List ℕ)) → decoded false (encoded ts) ≡ ts
all-again [] = refl
all-again (t ∷ ts) =
    ap (decoded false) (append_assoc (flat_map encoded_byte t) (10 ∷ []) (encoded ts))
    ∙ token-again t (encoded ts) ∙ ap (λ l. t ∷ l) (all-again ts)

again : (ts : Option (List (List ℕ))) → option_map (decoded false) (option_map encoded ts) ≡ ts
again None = refl
again (Some ts) = ap Some (all-again ts)

pub same_tokens : SameNormal
same_tokens first second same = sym (again (tokens first)) ∙ ap (option_map (decoded false)) same ∙ again (tokens second)

pub same_normal : SameTokens
same_normal first second same = ap (option_map encoded) same
