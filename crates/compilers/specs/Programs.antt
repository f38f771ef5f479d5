-- The programs of commands, by the stems of their paths.
use Rattle.std.specs.Prelude.{ℕ, List, if◌then◌else◌, Option, Some, None, codes, bytes_eq}
use Rattle.texts.specs.Path.{file_stem_of}
use Rattle.compilers.specs.declared.plans.program.Program.{Program}
use Rattle.compilers.specs.declared.plans.program.Program.TheVariants.{Cicc, Cudafe, Ptxas, Fatbinary, Nvlink, Other}

-- the program of a path's stem; a path without one is that of any other program
abbrev pub program_of : Option (List ℕ) → Program
program_of None = Other
program_of (Some stem) =
    if bytes_eq stem (codes "fatbinary") then Fatbinary else
    (if bytes_eq stem (codes "nvlink") then Nvlink else
    (if bytes_eq stem (codes "cudafe++") then Cudafe else
    (if bytes_eq stem (codes "cicc") then Cicc else
    (if bytes_eq stem (codes "ptxas") then Ptxas else Other))))

abbrev pub program_at : List ℕ → Program
program_at path = program_of (file_stem_of path)
