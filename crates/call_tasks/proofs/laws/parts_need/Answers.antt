use Rattle.call_tasks.proofs.PartLemmas.{standing-needed, likeness-needed}
use Rattle.call_tasks.proofs.laws.parts_need.Goals as goal

pub returns : goal.returns
returns c = record {
  standing = standing-needed;
  likeness = likeness-needed;
}
