-- What an nvcc line is read as, and what is said of nvcc as a compiler.
use Rattle.std.specs.Prelude.{ℕ, List, [], ◌∷◌, ◌++◌, false, Option, Some, None, codes}
use Rattle.compilers.specs.declared.arguments.ParsedArguments.{ParsedArguments}
use Rattle.compilers.specs.declared.compiler.CCompilerKind.TheVariants as kinds
use Rattle.host_lines.specs.declared.gcc.options.ArgData.{ArgData}
use Rattle.compilers.specs.Compiler.{Reading, accepted, cannot_cache, not_compilation}
use Rattle.host_lines.specs.Gcc.{profile_reading}
use Rattle.host_lines.specs.GccLine.{flag_words}
use Rattle.host_lines.specs.GccOptions.{gcc_entries}
use Rattle.compilers.specs.Table.{Entry, longest_match, longer_choice}
use Rattle.host_lines.specs.declared.nvcc.compiler.Nvcc.{Nvcc}
use Rattle.host_lines.specs.NvccOptions.{nvcc_options}
use Rattle.host_lines.specs.NvccEnvironment.{with_added_words}

-- the entry that a word chooses: that of the gcc profile if its text is longer, else nvcc's own
abbrev pub nvcc_chosen : List ℕ → Option (Entry ArgData)
nvcc_chosen word = longer_choice (longest_match gcc_entries word) (longest_match nvcc_options word)

-- arguments whose compilation flag, unless it is empty, is the last common word too
abbrev pub with_flag_word : ParsedArguments → ParsedArguments
with_flag_word p = record p { common_args = p.common_args ++ flag_words p.compilation_flag }

-- the same of a reading, if it accepts the line
abbrev pub reading_with_flag_word : Reading → Reading
reading_with_flag_word (accepted p) = accepted (with_flag_word p)
reading_with_flag_word (cannot_cache text word) = cannot_cache text word
reading_with_flag_word not_compilation = not_compilation

-- what words are read as, at a working directory and in an environment
abbrev pub nvcc_reading : List (List ℕ) → List ℕ → List (List ℕ × List ℕ) → Reading
nvcc_reading words cwd env_vars = reading_with_flag_word (profile_reading nvcc_chosen cwd false kinds.Nvcc (with_added_words env_vars words))

-- a version's text, if it is known and not empty
abbrev pub known_version : Option (List ℕ) → Option (List ℕ)
known_version None = None
known_version (Some []) = None
known_version (Some (c ∷ cs)) = Some (c ∷ cs)

-- two texts joined by `-`, or the one that is there
abbrev pub joined_by_a_dash : Option (List ℕ) → Option (List ℕ) → Option (List ℕ)
joined_by_a_dash None other = other
joined_by_a_dash (Some text) None = Some text
joined_by_a_dash (Some text) (Some other) = Some (text ++ (codes "-" ++ other))

-- nvcc's version, and that of the host compiler after it
abbrev pub nvcc_version : Nvcc → Option (List ℕ)
nvcc_version compiler = joined_by_a_dash (known_version compiler.version) (known_version compiler.host_compiler_version)
