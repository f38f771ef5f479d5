use Rattle.canonical_names.proofs.AlikeLemmas.{one-canonical_run, alike-runs_agree}
use Rattle.canonical_names.proofs.CanonicalLemmas.{different-names}
use Rattle.canonical_names.proofs.OnceLemmas.{renamed-once}
use Rattle.canonical_names.proofs.laws.renaming.Goals as goal

pub returns : goal.returns
returns c = record { agree = alike-runs_agree; alike = one-canonical_run; different = different-names; once = renamed-once }
