use Rattle.std.proofs.Common.{◌≡◌, ◌++◌}
use Rattle.command_files.specs.CommandFiles.{paths_of}
use Rattle.command_files.proofs.files.paths_of.Given as goal

-- the paths so far, and those of the outputs that are left, are all
abbrev pub invariant-loop-file : goal.invariant-loop-file
invariant-loop-file l = l.paths ++ paths_of l.optional l.file-iterator ≡ paths_of l.optional l.outputs
