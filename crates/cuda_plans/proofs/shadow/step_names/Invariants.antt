use Rattle.std.proofs.Common.{◌≡◌, ◌++◌, map, filter, drop}
use Rattle.texts.specs.DeviceFiles.{is_cicc_word}
use Rattle.compilers.specs.CommandLines.{line_seen}
use Rattle.canonical_names.specs.Shown.{name_shown}
use Rattle.cuda_plans.specs.Shadow.{step_names}
use Rattle.cuda_plans.proofs.shadow.step_names.Given as goal

abbrev pub invariant-loop-name : goal.invariant-loop-name
invariant-loop-name l = map name_shown l.kept.items ++ filter is_cicc_word (map name_shown (drop l.name-index l.name-items)) ≡ step_names l.suffixes (map line_seen l.commands)
