use Rattle.std.proofs.Common.{◌≡◌, ◌++◌, length, false}
use Rattle.rooted_commands.specs.OwnTexts.{own_from}
use Rattle.rooted_commands.proofs.own.with_folder.Given as goal

-- what is written so far, and what comes of the rest, are all
abbrev pub invariant-loop-byte : goal.invariant-loop-byte
invariant-loop-byte l = l.own.items ++ own_from l.root l.folder l.left l.in_name l.rest ≡ own_from l.root l.folder 0 false l.text

abbrev pub decreases-loop-byte : goal.decreases-loop-byte
decreases-loop-byte l = length l.rest
