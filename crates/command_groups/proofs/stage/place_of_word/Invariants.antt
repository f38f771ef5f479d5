use Rattle.std.proofs.Common.{◌≡◌, ◌+◌, map, string_bytes, drop, option_map}
use Rattle.command_groups.specs.Views.{word_place}
use Rattle.command_groups.proofs.stage.place_of_word.Given as goal

-- the place is that of the first such word of those that are left, behind those that were met
abbrev pub invariant-loop-other : goal.invariant-loop-other
invariant-loop-other l = record {
  whole : option_map (λ n. l.place + n) (word_place l.word (map string_bytes (drop l.other-index l.words))) ≡ word_place l.word (map string_bytes l.words);
  place : l.place ≡ l.other-index;
}
