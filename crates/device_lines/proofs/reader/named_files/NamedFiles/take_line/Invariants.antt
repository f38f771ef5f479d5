use Rattle.std.proofs.Common.{◌≡◌, length, fold}
use Rattle.compilers.specs.Items.{items}
use Rattle.device_lines.specs.Gathered.{with_files_of}
use Rattle.device_lines.proofs.reader.named_files.NamedFiles.take_line.Given as goal

-- the items of the words that are left complete what the whole line gathers
abbrev pub invariant-loop-word : goal.invariant-loop-word
invariant-loop-word g l =
    fold (with_files_of l.cwd) l.self (items (g.S.SearchableArgInfo.chosen l.table) l.line) ≡ fold (with_files_of l.cwd) l.initial.self (items (g.S.SearchableArgInfo.chosen l.table) l.initial.line)

abbrev pub decreases-loop-word : goal.decreases-loop-word
decreases-loop-word g l = length l.line
