use Rattle.std.proofs.Common.{◌≡◌, ℕ, List, Option, refl, ap, nat_eq, Ok, Err, Some}
use Rattle.std.specs.Option.{option_eq}
use Rattle.std.specs.Cmp.Lexicographic.{pointwise}
use Rattle.std.proofs.lemmas.Bool.Decides.{Decides-and, Decides-like}
use Rattle.std.proofs.lemmas.Slice.Eq.{bytes_eq-Decides}
use Rattle.compilers.specs.declared.arguments.CompilerArguments.TheVariants as answer
use Rattle.texts.proofs.EqualityLemmas.{options}
use Rattle.compilers.proofs.laws.answer_equality.Goals as goal

pub returns : goal.returns
returns g c (answer.Ok x) (answer.Ok y) = Decides-like (g.T.PartialEq.eq x y) (ap Ok) (λ e. cc) (c.requires x y)
returns g c (answer.CannotCache t w) (answer.CannotCache u v) =
    Decides-like _ (λ e. λ i. Err (Some (e.0 i, e.1 i))) (λ e. let both : ◌≡◌ {A = List ℕ × Option (List ℕ)} (t.now, w) (u.now, v) = cc in (ap (λ x. x.0) both, ap (λ x. x.1) both))
    (Decides-and (pointwise nat_eq t.now u.now) (option_eq (pointwise nat_eq) w v) (bytes_eq-Decides t.now u.now) (options (pointwise nat_eq) bytes_eq-Decides w v))
returns g c answer.NotCompilation answer.NotCompilation = (λ _. refl, λ _. refl)
returns g c _ _ = (λ e. cc, λ e. cc)
