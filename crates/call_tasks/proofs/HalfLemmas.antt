-- The last of some tasks, seen from behind.
use Rattle.std.proofs.Common.{◌≡◌, ℕ, List, [], ◌∷◌, ◌++◌, ap, sym, ◌∙◌, reverse}
use Rattle.std.proofs.lemmas.List.{reverse-append, reverse-reverse}
use Rattle.call_tasks.specs.declared.task.Task.{Task}
use Rattle.call_tasks.specs.Halves.{split_of_others, split_of_two}

pub split-others :
    (own : List ℕ) (compile fatbinary : Task) (before others : List Task) → others ≡ before ++ fatbinary ∷ []
    → split_of_two own before fatbinary compile ≡ split_of_others own compile (reverse others)
split-others own compile fatbinary before others e =
    sym (ap (split_of_others own compile) (ap reverse e ∙ reverse-append before (fatbinary ∷ []))
    ∙ ap (λ front. split_of_two own front fatbinary compile) (reverse-reverse before))
