use Rattle.std.proofs.Common.{◌≡◌, ℕ, suc, ◌+◌, ◌<◌, List, [], ◌++◌, length, take, ap, sym, ◌∙◌, arith, slice_get, option_to_list, take-suc}
use Rattle.std.proofs.lemmas.Option.{slice_get-get_or}
use Rattle.canonical_names.proofs.further_suffixes.words_of.Goals as goal

-- the first elements of a list and the one behind them are one more of its first elements
next-taken : (xs : List (List ℕ)) (i : ℕ) → i < length xs → take i xs ++ option_to_list (slice_get xs i) ≡ take (i + 1) xs
next-taken xs i within =
    let one_more : suc i ≡ i + 1 = omega arith in
    ap (λ x. take i xs ++ option_to_list x) (slice_get-get_or xs i [] within) ∙ sym (take-suc xs i [] within) ∙ ap (λ n. take n xs) one_more

pub loop-index-preserved : goal.loop-index-preserved
loop-index-preserved c = grind (arith, next-taken)
