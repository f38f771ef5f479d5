use Rattle.texts.proofs.ShellQuotingLemmas.{quoted_text, quoted_reads}
use Rattle.texts.proofs.shell_laws.quoted_words.Goals as goal

pub returns-clause-grammar : goal.returns-clause-grammar
returns-clause-grammar c = quoted_text

pub returns-clause-computed : goal.returns-clause-computed
returns-clause-computed c = quoted_reads
