use Rattle.token_texts.proofs.KeyLemmas.{same_tokens, same_normal}
use Rattle.token_texts.proofs.laws.keys.Goals as goal

pub returns-clause-tokens : goal.returns-clause-tokens
returns-clause-tokens c = same_tokens

pub returns-clause-normal : goal.returns-clause-normal
returns-clause-normal c = same_normal
