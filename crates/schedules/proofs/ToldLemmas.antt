-- What may be printed, command by command.
use Rattle.std.proofs.Common.{◌≡◌, ℕ, suc, ◌+◌, ◌-◌, ◌<◌, List, ◌∷◌, length, take, drop, ap, ◌∙◌, arith}
use Rattle.std.proofs.lemmas.List.{drop_more}
use Rattle.schedules.specs.declared.command.CommandState.{CommandState}
use Rattle.schedules.specs.declared.command.CommandState.TheVariants as kinds
use Rattle.schedules.specs.States.{state_at}
use Rattle.schedules.specs.Told.{told_from, between}

pub between_step : (states : List CommandState) (n end : ℕ) (state : CommandState) → n < end → n < length states → state_at states n ≡ state → between states n end ≡ state ∷ between states (n + 1) end
between_step states n end state h k e =
    let one_less : end - n ≡ suc (end - (n + 1)) = omega arith in
    (λ i. take (one_less i) (drop_more states n kinds.NotStarted k i)) ∙ ap (λ s. s ∷ take (end - (n + 1)) (drop (n + 1) states)) e

-- what may be printed at a command, by its state
pub told_at : (states : List CommandState) (n end : ℕ) (state : CommandState) → n < end → n < length states → state_at states n ≡ state → told_from n (between states n end) ≡ told_from n (state ∷ between states (n + 1) end)
told_at states n end state h k e = ap (told_from n) (between_step states n end state h k e)
