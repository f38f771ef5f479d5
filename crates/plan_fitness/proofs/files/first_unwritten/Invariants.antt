use Rattle.std.proofs.Common.{◌≡◌, string_bytes, drop, option_copied}
use Rattle.plan_fitness.specs.Fitness.{first_unwritten, first_unwritten_of}
use Rattle.plan_fitness.specs.Written.{seen}
use Rattle.plan_fitness.proofs.files.first_unwritten.Given as goal

-- what is found in the commands that are left is what is found in all
abbrev pub invariant-loop-number : goal.invariant-loop-number
invariant-loop-number l =
    first_unwritten (string_bytes l.folder) (option_copied l.source) (seen l.written) l.number (drop l.number l.records)
    ≡ first_unwritten_of l.tmp (option_copied l.source) l.records
