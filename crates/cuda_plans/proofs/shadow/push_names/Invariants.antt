use Rattle.std.proofs.Common.{◌≡◌, ◌++◌, map, drop, string_bytes, filter_map}
use Rattle.canonical_names.specs.Generated.{generated_name}
use Rattle.canonical_names.specs.Shown.{name_shown}
use Rattle.cuda_plans.proofs.shadow.push_names.Given as goal

abbrev pub invariant-loop-word : goal.invariant-loop-word
invariant-loop-word l = map name_shown l.names.items ++ filter_map (generated_name l.suffixes) (map string_bytes (drop l.word-index l.words)) ≡ map name_shown l.initial.names.items ++ filter_map (generated_name l.suffixes) (map string_bytes l.words)
