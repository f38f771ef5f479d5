-- nvhpc's options, and what its lines are read as.
use Rattle.std.specs.Prelude.{ℕ, List, ◌++◌, Bool, Option}
use Rattle.compilers.specs.declared.compiler.CCompilerKind.TheVariants.{Nvhpc}
use Rattle.host_lines.specs.declared.gcc.options.ArgData.{ArgData}
use Rattle.host_lines.specs.declared.gcc.options.ArgData.TheVariants.{PassThrough, PassThroughFlag, PreprocessorArgument, PreprocessorArgumentFlag, PreprocessorArgumentPath, Language, Standard}
use Rattle.texts.specs.Rows.{spaced}
use Rattle.compilers.specs.Table.{Entry, longest_match, longer_choice}
use Rattle.host_lines.specs.GccOptions.{flags, options, joined, either_way, either_way_or_equals, gcc_entries}
use Rattle.compilers.specs.Compiler.{Reading}
use Rattle.host_lines.specs.Gcc.{profile_reading}

-- nvhpc's option table, by form and kind
abbrev pub nvhpc_options : List (Entry ArgData)
nvhpc_options =
    options either_way_or_equals PassThrough (spaced "--gcc-toolchain -Mconcur -Xlinker -acc -cudalib -gpu -mcmodel -mcpu -ta -target -tp")
    ++ options either_way PassThrough (spaced "--linker-options -Xfatbinary -Xnvlink -Xptxas")
    ++ options either_way PreprocessorArgumentPath (spaced "--include-path --system-include-path")
    ++ options either_way PreprocessorArgument (spaced "-Werror")
    ++ options either_way_or_equals PreprocessorArgument (spaced "-Xcompiler")
    ++ flags PreprocessorArgumentFlag (spaced "-Mnostdlib -cuda")
    ++ flags PassThroughFlag (spaced "-acclibs -c++libs -cudaforlibs -fortranlibs -gopt -noswitcherror")
    ++ options joined Standard (spaced "-c++")
    ++ options either_way_or_equals Language (spaced "-x")

-- what a word chooses of gcc's options and nvhpc's: the longer one, and nvhpc's if both are equally long
abbrev pub nvhpc_chosen : List ℕ → Option (Entry ArgData)
nvhpc_chosen word = longer_choice (longest_match gcc_entries word) (longest_match nvhpc_options word)

-- what a line is read as: by whether nvhpc compiles C files as C++, the working directory and the line
abbrev pub nvhpc_reading : Bool → List ℕ → List (List ℕ) → Reading
nvhpc_reading plusplus cwd words = profile_reading nvhpc_chosen cwd plusplus Nvhpc words
