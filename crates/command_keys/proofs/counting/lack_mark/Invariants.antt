use Rattle.std.proofs.Common.{◌≡◌, map, drop}
use Rattle.std.specs.List.{list_all}
use Rattle.texts.specs.Path.{lacks}
use Rattle.command_keys.specs.CountedWords.{mark}
use Rattle.command_keys.specs.Keys.{shown}
use Rattle.command_keys.proofs.counting.lack_mark.Given as goal

abbrev pub invariant-loop-word : goal.invariant-loop-word
invariant-loop-word l = list_all (lacks mark) (map shown (drop l.word-index l.words)) ≡ list_all (lacks mark) (map shown l.words)
