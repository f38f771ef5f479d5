use Rattle.std.proofs.Common.{◌≡◌, ◌++◌, drop}
use Rattle.command_files.specs.Touched.{below}
use Rattle.command_files.proofs.touched.push_below.Given as goal

-- the numbers so far, and those that are left, are all
abbrev pub invariant-loop-number : goal.invariant-loop-number
invariant-loop-number l = l.needs.items ++ below l.bound (drop l.number-index l.numbers) ≡ l.initial.needs.items ++ below l.bound l.numbers
