use Rattle.std.proofs.Common.{◌≡◌, ◌++◌, map, option_map}
use Rattle.command_keys.specs.CountedWords.{all_counted}
use Rattle.command_keys.specs.Keys.{shown}
use Rattle.command_keys.proofs.counting.all_counted.Given as goal

abbrev pub invariant-loop-read : goal.invariant-loop-read
invariant-loop-read l =
    option_map (λ rest. l.all.items ++ rest) (all_counted l.cwd (map shown l.reads) (map shown l.products) l.read-iterator.rest.items)
    ≡ all_counted l.cwd (map shown l.reads) (map shown l.products) l.fn.words.items
