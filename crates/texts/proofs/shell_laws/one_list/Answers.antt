use Rattle.texts.proofs.ShellCompleteLemmas.{one_list_lem}
use Rattle.texts.proofs.shell_laws.one_list.Goals as goal

pub returns : goal.returns
returns c = one_list_lem
