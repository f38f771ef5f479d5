use Rattle.token_texts.proofs.MoveLemmas.{parts_have_the_tokens}
use Rattle.token_texts.proofs.PlaceLemmas.{parts_determine}
use Rattle.token_texts.proofs.laws.parts.Goals as goal

pub returns-clause-tokens : goal.returns-clause-tokens
returns-clause-tokens c = parts_have_the_tokens

pub returns-clause-same : goal.returns-clause-same
returns-clause-same c = parts_determine
