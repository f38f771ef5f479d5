-- nvcc's options beside those of the gcc profile.
use Rattle.std.specs.Prelude.{List, ◌∷◌, ◌++◌, codes}
use Rattle.compilers.specs.declared.table.ArgDisposition.TheVariants.{Separated}
use Rattle.host_lines.specs.declared.gcc.options.ArgData.{ArgData}
use Rattle.host_lines.specs.declared.gcc.options.ArgData.TheVariants.{TooHard, PassThrough, PreprocessorArgument, PreprocessorArgumentFlag, PreprocessorArgumentPath, DepArgumentPath, NeedDepTarget, DoCompilation, Language, ExtraHashFile, Unhashed, UnhashedFlag}
use Rattle.host_lines.specs.GccOptions.{flags, options, joined, either_way, either_way_or_equals}
use Rattle.texts.specs.Rows.{spaced}
use Rattle.compilers.specs.Table.{Entry}

-- the entries, by form and kind; one text contains a space
abbrev pub nvcc_options : List (Entry ArgData)
nvcc_options =
    flags DoCompilation (spaced "--compile --cubin --device-c --device-w --fatbin --optix-ir --ptx -cubin -dc -dw -fatbin -optix-ir -ptx")
    ++ flags PreprocessorArgumentFlag
    (spaced "--expt-extended-lambda --expt-relaxed-constexpr --extended-lambda --no-host-device-initializer-list"
    ++ spaced "-expt-extended-lambda -expt-relaxed-constexpr -extended-lambda -nohdinitlist")
    ++ flags UnhashedFlag (spaced "--keep --save-temps -keep -save-temps")
    ++ flags NeedDepTarget (spaced "--generate-dependencies-with-compile --generate-nonsystem-dependencies-with-compile")
    ++ options Separated DepArgumentPath (spaced "--dependency-output")
    ++ options either_way_or_equals PassThrough
    (codes "--archive-options options"
    ∷ spaced "--compiler-bindir --default-stream --diag-error --diag-suppress --diag-warn --generate-code"
    ++ spaced "--gpu-architecture --gpu-code --linker-options --maxrregcount --nvlink-options --ptxas-options"
    ++ spaced "-Xarchive -Xlinker -Xnvlink -Xptxas -arch -ccbin -code -default-stream -diag-error -diag-suppress"
    ++ spaced "-diag-warn -gencode -maxrregcount")
    ++ options either_way_or_equals PreprocessorArgument (spaced "--Werror --compiler-options --relocatable-device-code -Werror -Xcompiler -rdc")
    ++ options either_way_or_equals PreprocessorArgumentPath (spaced "--include-path --system-include -isystem")
    ++ options either_way_or_equals ExtraHashFile (spaced "--options-file")
    ++ options either_way_or_equals Unhashed (spaced "--keep-dir --threads -keep-dir")
    ++ options either_way_or_equals Language (spaced "--x -x")
    ++ options either_way TooHard (spaced "--fdevice-time-trace --time -fdevice-time-trace -time")
    ++ options joined TooHard (spaced "--fdevice-time-trace= --time= -fdevice-time-trace= -time=")
    ++ options either_way Unhashed (spaced "-t")
    ++ options joined Unhashed (spaced "-t=")
