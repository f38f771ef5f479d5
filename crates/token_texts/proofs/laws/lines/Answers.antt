use Rattle.token_texts.proofs.LineLemmas.{numbers_dont_count, comments_dont_count}
use Rattle.token_texts.proofs.laws.lines.Goals as goal

pub returns-clause-numbers : goal.returns-clause-numbers
returns-clause-numbers c = numbers_dont_count

pub returns-clause-comments : goal.returns-clause-comments
returns-clause-comments c = comments_dont_count
