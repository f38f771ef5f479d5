use Rattle.std.proofs.Common.{◌≡◌, drop, map, fold, option_map, option_copied}
use Rattle.compilers.specs.Table.{entry_of, longer_match, longest_match}
use Rattle.compilers.proofs.table.TableSearchableArgInfo.search.Given as goal

abbrev pub invariant-loop-row : goal.invariant-loop-row
invariant-loop-row g l =
    fold (longer_match l.word) (option_map entry_of (option_copied l.best)) (map entry_of (drop l.row-index l.row-items)) ≡ longest_match (map entry_of l.self.rows.now) l.word
