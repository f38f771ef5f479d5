-- The words that gcc's arguments are written back as.
use Rattle.std.specs.Prelude.{ℕ, List, [], ◌∷◌, ◌++◌, if◌then◌else◌, Some, None, codes}
use Rattle.texts.specs.declared.language.Language.{Language}
use Rattle.compilers.specs.declared.arguments.ParsedArguments.{ParsedArguments}
use Rattle.host_lines.specs.GccItems.{name_of_language}

-- the option for the language and its name, if it has one
abbrev pub language_words : Language → List (List ℕ)
language_words language = elim (name_of_language language) [ None ↦ [] | Some name ↦ codes "-x" ∷ name ∷ [] ]

-- the flag that asks for a compilation, if there is one
abbrev pub flag_words : List ℕ → List (List ℕ)
flag_words [] = []
flag_words (byte ∷ bytes) = (byte ∷ bytes) ∷ []

-- the words of a gcc line: the language, the flag that asks for a compilation, `-o` and the output's path; the options of
-- the preprocessor, the unhashed ones, the common ones, and those that name architectures; and the input, after `--` if
-- the line had one
abbrev pub gcc_words : ParsedArguments → List ℕ → List (List ℕ)
gcc_words p obj =
    language_words p.language
    ++ flag_words p.compilation_flag
    ++ (codes "-o" ∷ obj ∷ [])
    ++ p.preprocessor_args
    ++ p.unhashed_args
    ++ p.common_args
    ++ p.arch_args
    ++ (if p.double_dash_input then codes "--" ∷ p.input ∷ [] else p.input ∷ [])
