-- Ends of lines.
use Rattle.std.proofs.Common.{◌≡◌, ℕ, ◌+◌, ◌<◌, true, false, cond, List, [], ◌∷◌, ◌++◌, length, take, drop, get_or, ap, sym, ◌∙◌}
use Rattle.std.proofs.lemmas.List.{append-nil, drop_more}
use Rattle.dry_run_pairs.specs.Forms.{is_printing, without_printing}
use Rattle.dry_run_pairs.proofs.CutLemmas.{take-on}

-- a search that comes to the end that prints
pub printing-here : (line : List ℕ) (i : ℕ) → i < length line → without_printing line ≡ take i line ++ without_printing (drop i line) → is_printing (drop i line) ≡ true
    → take i line ≡ without_printing line
printing-here line i less h e =
    let here : drop i line ≡ get_or line i 0 ∷ drop (i + 1) line = drop_more line i 0 less in
    sym (h ∙ ap (λ t. take i line ++ t) (ap without_printing here
    ∙ ap (λ b. cond b [] (get_or line i 0 ∷ without_printing (drop (i + 1) line))) (ap is_printing (sym here) ∙ e)) ∙ append-nil (take i line))

-- a search that goes on
pub printing-on : (line : List ℕ) (i : ℕ) → i < length line → without_printing line ≡ take i line ++ without_printing (drop i line) → is_printing (drop i line) ≡ false
    → without_printing line ≡ take (i + 1) line ++ without_printing (drop (i + 1) line)
printing-on line i less h e =
    let here : drop i line ≡ get_or line i 0 ∷ drop (i + 1) line = drop_more line i 0 less in
    h ∙ ap (λ t. take i line ++ t) (ap without_printing here
    ∙ ap (λ b. cond b [] (get_or line i 0 ∷ without_printing (drop (i + 1) line))) (ap is_printing (sym here) ∙ e))
    ∙ sym (take-on line i 0 (without_printing (drop (i + 1) line)) less)
