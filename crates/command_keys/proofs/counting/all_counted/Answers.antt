use Rattle.std.proofs.Common.{◌≡◌, ℕ, List, [], ◌∷◌, ◌++◌, Option, Some, None, option_map, append_assoc, ap, refl, sym, ◌∙◌, arith}
use Rattle.std.specs.Option.{option_and_then}
use Rattle.std.proofs.lemmas.Grind.{common_steps}
use Rattle.command_keys.specs.CountedWords.{Counted, all_counted, counted}
use Rattle.command_keys.specs.ReadWords.{Read}
use Rattle.command_keys.proofs.counting.all_counted.Goals as goal

one_more : (all : List Counted) (one : Counted) (o : Option (List Counted)) →
    option_map (λ rest. (all ++ one ∷ []) ++ rest) o ≡ option_map (λ rest. all ++ rest) (option_map (λ others. one ∷ others) o)
one_more all one None = refl
one_more all one (Some others) = ap Some (append_assoc all (one ∷ []) others)

next_counted : (cwd : List ℕ) (reads products : List (List ℕ)) (all : List Counted) (read : Read) (rest : List Read) (one : Counted) → counted cwd reads products read ≡ Some one →
    option_map (λ r. (all ++ one ∷ []) ++ r) (all_counted cwd reads products rest) ≡ option_map (λ r. all ++ r) (all_counted cwd reads products (read ∷ rest))
next_counted cwd reads products all read rest one e =
    one_more all one (all_counted cwd reads products rest)
    ∙ ap (λ o. option_map (λ r. all ++ r) (option_and_then (λ c. option_map (λ others. c ∷ others) (all_counted cwd reads products rest)) o)) (sym e)

pub loop-read-preserved : goal.loop-read-preserved
loop-read-preserved c = grind (arith, common_steps, next_counted)
