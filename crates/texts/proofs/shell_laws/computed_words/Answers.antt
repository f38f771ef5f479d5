use Rattle.texts.proofs.ShellCompleteLemmas.{computed_words_lem}
use Rattle.texts.proofs.shell_laws.computed_words.Goals as goal

pub returns : goal.returns
returns c = computed_words_lem
