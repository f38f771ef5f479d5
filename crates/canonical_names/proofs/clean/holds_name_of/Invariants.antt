use Rattle.std.proofs.Common.{◌≡◌, map, drop, string_bytes}
use Rattle.std.specs.List.{list_any, filter_map}
use Rattle.canonical_names.specs.Alike.{holds}
use Rattle.canonical_names.specs.Generated.{generated_name}
use Rattle.canonical_names.proofs.clean.holds_name_of.Given as goal

abbrev pub invariant-loop-word : goal.invariant-loop-word
invariant-loop-word l = list_any (λ n. holds n l.text) (filter_map (generated_name l.suffixes) (map string_bytes (drop l.word-index l.words))) ≡ list_any (λ n. holds n l.text) (filter_map (generated_name l.suffixes) (map string_bytes l.words))
