-- Renamings worked out by hand.
use Rattle.std.specs.Prelude.{◌≡◌, ℕ, List, [], ◌∷◌, codes}
use Rattle.canonical_names.specs.Generated.{standard_suffixes}
use Rattle.compilers.specs.OneKernel.{one_kernel_commands, one_kernel_elsewhere_commands, one_kernel_canonical}
use Rattle.canonical_names.specs.Renaming.{renamed, renamed_words}

-- the words of a run of one command, renamed
abbrev pub renames : List (List ℕ) → List (List ℕ)
renames words = renamed_words standard_suffixes [] words

-- of two names that a word refers to, the longer one is replaced first, and the result is replaced once more
abbrev pub LongestReferenceFirst : Type 0
LongestReferenceFirst =
    renames (codes "longname.cudafe1.c" ∷ codes "x_0.cudafe1.c" ∷ codes "-I=longname.cudafe1.c" ∷ []) ≡
    codes "x_0.cudafe1.c" ∷ codes "x_1.cudafe1.c" ∷ codes "-I=x_1.cudafe1.c" ∷ []

-- a reference before its name has appeared stays as it is
abbrev pub EarlyReferenceStays : Type 0
EarlyReferenceStays = renames (codes "-I=k.cudafe1.c" ∷ codes "k.cudafe1.c" ∷ []) ≡ codes "-I=k.cudafe1.c" ∷ codes "x_0.cudafe1.c" ∷ []

-- of several `-Fi` one is left
abbrev pub OneMarkIsLeft : Type 0
OneMarkIsLeft = renames (codes "-Fi-Fik.cpp1.ii" ∷ []) ≡ codes "-Fix_0.cpp1.ii" ∷ []

-- a folder stays the same path, though its text may get shorter
abbrev pub FolderStaysAsAPath : Type 0
FolderStaysAsAPath = renames (codes "//k.cpp4.ii" ∷ []) ≡ codes "/x_0.cpp4.ii" ∷ []

abbrev pub FolderLosesItsDot : Type 0
FolderLosesItsDot = renames (codes "a/./k.cpp4.ii" ∷ []) ≡ codes "a/x_0.cpp4.ii" ∷ []

-- equal names become equal names, and different ones different ones
abbrev pub FirstNameComesAgain : Type 0
FirstNameComesAgain =
    renames (codes "a.cudafe1.c" ∷ codes "b.cudafe1.c" ∷ codes "a.cudafe1.c" ∷ []) ≡ codes "x_0.cudafe1.c" ∷ codes "x_1.cudafe1.c" ∷ codes "x_0.cudafe1.c" ∷ []

abbrev pub SecondNameComesAgain : Type 0
SecondNameComesAgain =
    renames (codes "a.cudafe1.c" ∷ codes "b.cudafe1.c" ∷ codes "b.cudafe1.c" ∷ []) ≡ codes "x_0.cudafe1.c" ∷ codes "x_1.cudafe1.c" ∷ codes "x_1.cudafe1.c" ∷ []

-- the one-kernel dry run, and the same run with other names of its generated files, have the same canonical run
abbrev pub OneKernelIsRenamed : Type 0
OneKernelIsRenamed =
    (renamed standard_suffixes one_kernel_commands ≡ one_kernel_canonical) ×
    (renamed standard_suffixes one_kernel_elsewhere_commands ≡ one_kernel_canonical)

-- a name counts whatever command it appears in
abbrev pub EveryCommandCounts : Type 0
EveryCommandCounts =
    renamed standard_suffixes ((1, codes "/b/gcc", codes "a.cpp1.ii" ∷ []) ∷ (2, codes "/b/cicc", codes "b.cpp1.ii" ∷ []) ∷ []) ≡
    (1, codes "/b/gcc", codes "x_0.cpp1.ii" ∷ []) ∷ (2, codes "/b/cicc", codes "x_1.cpp1.ii" ∷ []) ∷ []

-- a name of one suffix can be the beginning of a name of another: the word then counts as a reference to it
abbrev pub BeginningIsTakenForTheName : Type 0
BeginningIsTakenForTheName =
    renames (codes "a.cudafe1.c" ∷ codes "k.cudafe1.c" ∷ codes "-I=k.cudafe1.cpp" ∷ codes "k.cudafe1.cpp" ∷ []) ≡
    codes "x_0.cudafe1.c" ∷ codes "x_1.cudafe1.c" ∷ codes "-I=x_1.cudafe1.cpp" ∷ codes "x_0.cudafe1.cpp" ∷ []

-- a suffix of the caller's own marks files too: that of the source file renames the source file
abbrev pub SourceFileIsRenamed : Type 0
SourceFileIsRenamed =
    renamed_words (codes ".cu" ∷ standard_suffixes) [] (codes "kernel.cu" ∷ codes "-o" ∷ codes "kernel.cpp1.ii" ∷ [])
    ≡ codes "x_0.cu" ∷ codes "-o" ∷ codes "x_0.cpp1.ii" ∷ []
