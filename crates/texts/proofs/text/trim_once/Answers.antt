use Rattle.std.proofs.Common.{◌≢◌, ℕ, List, Option, None, Bor, arith, ◌++◌, ◌∷◌, []}
use Rattle.std.proofs.lemmas.List.{length-append, append_cancel_right}
use Rattle.std.specs.Str.Pattern.{FindsCharSuffix}
use Rattle.std.proofs.lemmas.Str.Pattern.{strip_suffix_char}
use Rattle.std.proofs.lemmas.Grind.{common_steps}
use Rattle.texts.proofs.PathLemmas.{trimmed-stays, ends_slash}
use Rattle.texts.proofs.text.trim_once.Goals as goal

no_slash : (text : List ℕ) → FindsCharSuffix 47 text None → (front : List ℕ) → text ≢ front ++ 47 ∷ []
no_slash text h = let r : Option (Bor (List ℕ)) = None in strip_suffix_char 47 text r h (omega arith)

no_dot : (text : List ℕ) → FindsCharSuffix 46 text None → (front : List ℕ) → text ≢ front ++ 46 ∷ []
no_dot text h = let r : Option (Bor (List ℕ)) = None in strip_suffix_char 46 text r h (omega arith)

pub returns-in_err-front : goal.returns-in_err-front
returns-in_err-front c =
    rw c.from_residual.ensures (trimmed-stays c.args.keeps_root c.args.text.now (no_slash c.args.text.now c.in_default.ensures.cases) (λ front e _. no_dot c.args.text.now c.in_err-front.ensures.cases front e))

pub returns-then-ends_with : goal.returns-then-ends_with
returns-then-ends_with c = grind (arith, common_steps, strip_suffix_char, ends_slash, length-append)

pub returns-else-ends_with : goal.returns-else-ends_with
returns-else-ends_with c =
    grind (arith, common_steps, strip_suffix_char, ends_slash, trimmed-stays, no_slash, append_cancel_right)
