use Rattle.device_lines.proofs.RereadWords.{kept-words_read_back, kept-words_stay}
use Rattle.device_lines.proofs.RereadLaw.{cicc-lines_reread, ptxas-lines_reread, cudafe-lines_reread}
use Rattle.device_lines.proofs.laws.reread.Goals as goal

pub returns : goal.returns
returns c = record {
  items = kept-words_read_back;
  words = kept-words_stay;
  cicc = cicc-lines_reread;
  ptxas = ptxas-lines_reread;
  cudafe = cudafe-lines_reread;
}
