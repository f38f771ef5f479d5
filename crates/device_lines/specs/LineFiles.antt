-- The files that a line names.
use Rattle.std.specs.Prelude.{ℕ, List, ◌∷◌}
use Rattle.texts.specs.Path.{joined}
use Rattle.compilers.specs.declared.arguments.ParsedArguments.{ParsedArguments}
use Rattle.device_lines.specs.declared.reader.line_files.LineFiles.{LineFiles}

-- the files of a line that was read: its input and the files that count for its outputs are read, its outputs are written
abbrev pub files_of : List ℕ → ParsedArguments → LineFiles
files_of cwd p = record { reads = joined cwd p.input ∷ p.extra_hash_files; outputs = p.outputs }
