-- What a lexer writes of the rest of a text.
use Rattle.std.proofs.Common.{◌≡◌, ℕ, ◌+◌, ◌<◌, List, [], ◌∷◌, ◌++◌, length, drop, get_or, Option, Some, None, option_map, refl, ap, sym, ◌∙◌, append_assoc}
use Rattle.std.proofs.lemmas.List.{at_drop_more}
use Rattle.std.proofs.lemmas.Grind.{flat_map-append}
use Rattle.token_texts.specs.Lexing.{step, tokens_from}
use Rattle.token_texts.specs.Normal.{Written, after, encoded, encoded_token}

-- the normal form, from where a lexer is
abbrev pub rest_of : Written → List ℕ → Option (List ℕ)
rest_of w text = option_map (λ tokens. w.out ++ encoded tokens) (tokens_from w.at text)

two_maps : (ended : List (List ℕ)) (out : List ℕ) (tokens : Option (List (List ℕ))) →
    option_map (λ ts. (out ++ encoded ended) ++ encoded ts) tokens ≡ option_map (λ ts. out ++ encoded ts) (option_map (λ ts. ended ++ ts) tokens)
two_maps ended out None = refl
two_maps ended out (Some ts) = ap Some (append_assoc out (encoded ended) (encoded ts) ∙ ap (λ l. out ++ l) (sym (flat_map-append encoded_token ended ts)))

-- a byte is read
pub rest_of-step : (w : Written) (c : ℕ) (cs : List ℕ) → rest_of (after w c) cs ≡ rest_of w (c ∷ cs)
rest_of-step w c cs = two_maps (step c w.at).1 w.out (tokens_from (step c w.at).0 cs)

-- a byte of a text is read
pub read-on : (text : List ℕ) (i : ℕ) (w new : Written) {whole : Option (List ℕ)} → i < length text → new ≡ after w (get_or text i 0) →
    rest_of w (drop i text) ≡ whole → rest_of new (drop (i + 1) text) ≡ whole
read-on text i w new within is whole =
    ap (λ (v : Written). rest_of v (drop (i + 1) text)) is ∙ rest_of-step w (get_or text i 0) (drop (i + 1) text)
    ∙ sym (at_drop_more (rest_of w) text i 0 within) ∙ whole
