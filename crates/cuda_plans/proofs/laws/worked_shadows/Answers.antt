use Rattle.std.proofs.Common.{[], refl, lit<}
use Rattle.std.proofs.lemmas.List.Elements.{Contains-push}
use Rattle.cuda_plans.specs.ShadowExamples.{cicc_of_a}
use Rattle.cuda_plans.proofs.laws.worked_shadows.Goals as goal

pub returns : goal.returns
returns c = record {
  one_kernel = ((refl, refl), refl, refl, refl);
  earlier_step = ((refl, refl), refl, refl, refl);
  feeds = record {
    first_is_clean = refl;
    second_is_clean = refl;
    folder_is_absolute = refl;
    cicc_stands = Contains-push [] cicc_of_a;
    cicc_is_cicc = refl;
    input = refl;
    input_is_bare = refl;
    input_is_no_option = refl;
    one_step = refl;
    step_is_earlier = lit< tt;
  };
  later_step = ((refl, refl), refl, refl, refl);
  two_steps = ((refl, refl), refl, refl, refl);
  folder = ((refl, refl), refl, refl, refl, refl);
}
