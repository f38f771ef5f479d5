-- What a splitter holds after a text gives the words of that text.
use Rattle.std.proofs.Common.{ℕ, List, [], ◌∷◌, ◌++◌, ◌≡◌, refl, ap, ◌∙◌, map, append-nil, append_assoc, Option, encode_utf8_all, option_map, fold, arith}
use Rattle.std.proofs.lemmas.Str.{encodes-append}
use Rattle.texts.specs.declared.shell.splitting.State.{State}
use Rattle.texts.specs.Shell.Splitting.{Effect, Skips, Gives, EndsWord, reads, prepend, with_effect, words_from, split_chars, Splitting, start, applied, after, finished}

-- the words that a splitter gives, where these are the words of the rest of the text
abbrev joined : List (List ℕ) → List ℕ → List (List ℕ) → List (List ℕ)
joined words word later = words ++ prepend word (map encode_utf8_all later)

pub prepend-nil : (words : List (List ℕ)) → prepend [] words ≡ words
prepend-nil words = grind arith

map_twice : {A B C : Type 0} (f : A → C) (g : B → C) (h : A → B) → ((x : A) → f x ≡ g (h x)) → (o : Option A) → option_map f o ≡ option_map g (option_map h o)
map_twice f g h same o = grind arith

joined_gives : (words : List (List ℕ)) (word given : List ℕ) (later : List (List ℕ)) → joined words (word ++ encode_utf8_all given) later ≡ joined words word (prepend given later)
joined_gives words word given later = grind (arith, append_assoc, encodes-append)

joined_ends : (words : List (List ℕ)) (word : List ℕ) (later : List (List ℕ)) → joined (words ++ word ∷ []) [] later ≡ joined words word ([] ∷ later)
joined_ends words word later = simp (append_assoc, prepend-nil, append-nil)

joined_step : (read : State × Effect) (cs : List ℕ) (s : Splitting) →
    option_map (joined (applied read s).words (applied read s).word) (words_from (applied read s).state cs)
    ≡ option_map (joined s.words s.word) (option_map (λ words. with_effect read.1 words) (words_from read.0 cs))
joined_step (state, Skips) cs s = map_twice _ _ _ (λ later. refl) (words_from state cs)
joined_step (state, Gives given) cs s = map_twice _ _ _ (joined_gives s.words s.word given) (words_from state cs)
joined_step (state, EndsWord) cs s = map_twice _ _ _ (joined_ends s.words s.word) (words_from state cs)

finished_after : (cs : List ℕ) (s : Splitting) → finished (fold after s cs) ≡ option_map (joined s.words s.word) (words_from s.state cs)
finished_after [] s = grind (arith, append-nil)
finished_after (c ∷ cs) s = finished_after cs (after s c) ∙ joined_step (reads s.state c) cs s

-- from the start
pub finished_is : (cs : List ℕ) → finished (fold after start cs) ≡ option_map (map encode_utf8_all) (split_chars cs)
finished_is cs = finished_after cs start ∙ ap (λ f. option_map f (split_chars cs)) (λ i later. prepend-nil (map encode_utf8_all later) i)
