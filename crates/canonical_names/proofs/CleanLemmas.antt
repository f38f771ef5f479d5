-- In a clean run every word is renamed by all names of the run.
use Rattle.std.proofs.Common.{◌≡◌, ℕ, ◌++◌, true, false, List, [], ◌∷◌, Option, Some, None, is_some, map, refl, ◌∙◌, fold, option_map, arith}
use Rattle.std.specs.List.{list_any, list_all}
use Rattle.std.proofs.lemmas.Bool.{and_parts, or_parts, or_from, not-true}
use Rattle.compilers.specs.CommandLines.{CommandLine, words_of_command}
use Rattle.canonical_names.specs.Generated.{head_of, core_of, class_of}
use Rattle.canonical_names.specs.Renaming.{seen_after_word, seen_after, names_of_run, renamed_word, renamed_words, renamed_after}
use Rattle.texts.specs.Lists.{with_name}
use Rattle.canonical_names.specs.Appearances.{appearances}
use Rattle.canonical_names.specs.Alike.{holds, is_clean_word}
use Rattle.canonical_names.specs.CanonicalNames.{core_by_all, word_by_all, command_by_all, CleanRunIsAMap}
use Rattle.canonical_names.proofs.CanonicalLemmas.{add, words-front, run-names, fold-front, rank-stable}
use Rattle.canonical_names.proofs.RewriteLemmas.{other-words_stay}

-- what a word doesn't hold, its core doesn't hold
core-free : (part word : List ℕ) → holds part word ≡ false → holds part (core_of word) ≡ false
core-free part [] h = h
core-free part (a ∷ []) h = h
core-free part (a ∷ b ∷ []) h = h
core-free part (a ∷ b ∷ c ∷ rest) h = grind (arith, or_parts, (core-free part rest))

fewer-held : (word : List ℕ) (seen more : List (List ℕ)) → list_any (λ n. holds n word) (seen ++ more) ≡ false → list_any (λ n. holds n (core_of word)) seen ≡ false
fewer-held word [] more h = refl
fewer-held word (n ∷ seen) more h = grind (arith, or_parts, or_from, core-free, (fewer-held word seen more))

-- a word of a clean run, by its class; names has those seen before it, itself and the later ones
word-clean : (suffixes names seen xs : List (List ℕ)) (word : List ℕ) (o : Option (List ℕ)) → class_of suffixes word ≡ o → names ≡ fold add (with_name seen (option_map (λ (_ : List ℕ). core_of word) o)) xs →
    is_clean_word suffixes names word ≡ true → renamed_word suffixes seen word ≡ head_of word ++ core_by_all names (core_of word) o
word-clean suffixes names seen xs word None e all clean =
    grind (arith, other-words_stay, fewer-held, not-true, is_some, (fold-front seen xs))
word-clean suffixes names seen xs word (Some class) e all clean = grind (arith, rank-stable)

-- the words of a command
words-clean : (suffixes names seen words xs : List (List ℕ)) → names ≡ fold add (seen_after suffixes seen words) xs → list_all (is_clean_word suffixes names) words ≡ true →
    renamed_words suffixes seen words ≡ map (word_by_all suffixes names) words
words-clean suffixes names seen [] xs all clean = refl
words-clean suffixes names seen (word ∷ words) xs all clean =
    let behind = all ∙ words-front suffixes (seen_after_word suffixes seen word) words xs in
    grind (arith, and_parts, word-clean, (words-clean suffixes names (seen_after_word suffixes seen word) words xs all))

-- the commands of a run
run-clean : (suffixes names seen : List (List ℕ)) (commands : List CommandLine) → names ≡ fold (λ seen command. seen_after suffixes seen (words_of_command command)) seen commands →
    list_all (λ command. list_all (is_clean_word suffixes names) (words_of_command command)) commands ≡ true → renamed_after suffixes seen commands ≡ map (command_by_all suffixes names) commands
run-clean suffixes names seen [] all clean = refl
run-clean suffixes names seen (command ∷ commands) all clean =
    let words = words_of_command command in
    let behind : names ≡ fold add (seen_after suffixes seen words) (appearances suffixes commands) = all ∙ run-names suffixes (seen_after suffixes seen words) commands in
    grind (arith, words-clean, (run-clean suffixes names (seen_after suffixes seen words) commands all))

pub clean-run_is_a_map : CleanRunIsAMap
clean-run_is_a_map suffixes commands clean = run-clean suffixes (names_of_run suffixes commands) [] commands refl clean
