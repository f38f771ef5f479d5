use Rattle.texts.proofs.PathLaw.{joined-keeps_folder, joined-has_name, folder-begins, joined-cancels, folders-cancel}
use Rattle.texts.proofs.text.path_law.Goals as goal

pub returns : goal.returns
returns c = record { folder = joined-keeps_folder; name = joined-has_name; beginning = folder-begins; cancel = joined-cancels; folders = folders-cancel }
