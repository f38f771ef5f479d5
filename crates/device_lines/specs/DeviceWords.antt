-- The words that the arguments of a device tool and its output are written as.
use Rattle.std.specs.Prelude.{ℕ, List, [], ◌∷◌, ◌++◌, codes}
use Rattle.compilers.specs.declared.arguments.ParsedArguments.{ParsedArguments}

-- the words of a cicc or ptxas line: the common words, the unhashed ones, the input, and the output after `-o`
abbrev pub cicc_words : ParsedArguments → List ℕ → List (List ℕ)
cicc_words p obj = (p.common_args ++ p.unhashed_args) ++ p.input ∷ codes "-o" ∷ obj ∷ []

-- the words of a cudafe++ line: the common words, the unhashed ones, the output as the module id file, and the input
abbrev pub cudafe_words : ParsedArguments → List ℕ → List (List ℕ)
cudafe_words p obj = (p.common_args ++ p.unhashed_args) ++ codes "--module_id_file_name" ∷ obj ∷ p.input ∷ []
