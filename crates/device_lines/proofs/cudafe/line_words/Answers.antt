use Rattle.std.proofs.Common.{append_assoc}
use Rattle.device_lines.proofs.cudafe.line_words.Goals as goal

pub returns : goal.returns
returns c =
    simp (append_assoc, c.in_ok-push_str.ensures.ok, c.as_str.ensures, c.in_ok-push_pair.ensures.ok, c.in_ok-words.ensures)
