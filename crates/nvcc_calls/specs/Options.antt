-- nvcc 13's options: every name that nvcc takes, and what it does with a value.
use Rattle.std.specs.Prelude.{ℕ, List, [], ◌∷◌, ◌++◌, map, Some, None, codes}
use Rattle.texts.specs.Rows.{spaced}
use Rattle.compilers.specs.declared.table.ArgDisposition.{ArgDisposition}
use Rattle.compilers.specs.declared.table.ArgDisposition.TheVariants.{Concatenated, CanBeSeparated}
use Rattle.compilers.specs.Table.{Entry}
use Rattle.nvcc_calls.specs.declared.options.Purpose.{Purpose}
use Rattle.nvcc_calls.specs.declared.options.Purpose.TheVariants.{Define, Dependencies, DependencyFile, DependencyPhonies, DependencyTarget, File, Forward, Include, Keep, KeepDirectory, Language, OptimizationInfo, Output, OutputDirectory, Passes, Phase, Plain, PreInclude, Quoted, TargetDirectory, Threads, Undefine, Unquoted}
use Rattle.nvcc_calls.specs.declared.reason.Reason.TheVariants.{Cleans, DrivePrefix, Jobserver, Links, Measures, OtherPhase, Prints, StandardInput, TemporaryFiles}

-- entries of one purpose: names that take no value; names that take one as the next word, or after `=`, whose byte is
-- 61; and names that take one in these two ways or right behind them
abbrev pub flags : Purpose → List (List ℕ) → List (Entry Purpose)
flags purpose names = map (λ name. record { text = name; kind = purpose; form = None }) names

abbrev pub options : ArgDisposition → Purpose → List (List ℕ) → List (Entry Purpose)
options form purpose names = map (λ name. record { text = name; kind = purpose; form = Some form }) names

abbrev pub valued : Purpose → List (List ℕ) → List (Entry Purpose)
valued purpose names = options (CanBeSeparated (Some 61)) purpose names

abbrev pub joined : Purpose → List (List ℕ) → List (Entry Purpose)
joined purpose names =
    options (CanBeSeparated None) purpose names
    ++ options (Concatenated None) purpose (map (λ name. name ++ 61 ∷ []) names)

-- the entries of an option with a long name, which takes a value in two ways, and a short one, which takes it in three
abbrev pub long_and_short : Purpose → List ℕ → List ℕ → List (Entry Purpose)
long_and_short purpose long short = valued purpose (long ∷ []) ++ joined purpose (short ∷ [])

-- the entries, by purpose
abbrev pub nvcc_entries : List (Entry Purpose)
nvcc_entries =
    -- flags that nvcc keeps to itself or passes on
    flags Plain
    (spaced "--allow-unsupported-compiler -allow-unsupported-compiler --compile-as-tools-patch -astoolspatch --debug -g --device-debug -G"
    ++ spaced "--disable-warnings -w --display-error-number -err-no --dlink-time-opt -dlto --dont-use-profile -noprof --expt-extended-lambda"
    ++ spaced "-expt-extended-lambda --expt-relaxed-constexpr -expt-relaxed-constexpr --extended-lambda -extended-lambda --extensible-whole-program"
    ++ spaced "-ewp --extra-device-vectorization -extra-device-vectorization --fdevice-syntax-only -fdevice-syntax-only --force-cl-env-setup"
    ++ spaced "-force-cl-env-setup --gen-opt-lto -gen-opt-lto --generate-line-info -lineinfo --keep-device-functions -keep-device-functions --lto"
    ++ spaced "-lto --m64 -m64 --no-align-double --no-compress -no-compress --no-device-link -nodlink --no-display-error-number -no-err-no"
    ++ spaced "--no-exceptions -noeh --no-host-device-initializer-list -nohdinitlist --no-host-device-move-forward -nohdmoveforward --profile -pg"
    ++ spaced "--relocatable-ptx -reloc-ptx --resource-usage -res-usage --restrict -restrict --shared -shared --source-in-ptx -src-in-ptx"
    ++ spaced "--use-local-env -use-local-env --use_fast_math -use_fast_math --Wdefault-stream-launch -Wdefault-stream-launch"
    ++ spaced "--Wext-lambda-captures-this -Wext-lambda-captures-this --Wmissing-launch-bounds -Wmissing-launch-bounds --Wno-deprecated-declarations"
    ++ spaced "-Wno-deprecated-declarations --Wno-deprecated-gpu-targets -Wno-deprecated-gpu-targets --Wreorder -Wreorder")
    -- flags that have nvcc forward words that it doesn't know
    ++ flags Forward
    (spaced "--forward-unknown-opts -forward-unknown-opts --forward-unknown-to-host-compiler -forward-unknown-to-host-compiler"
    ++ spaced "--forward-unknown-to-host-linker -forward-unknown-to-host-linker")
    -- options whose values nvcc passes on without quotes
    ++ valued Unquoted
    (spaced "--archive-options -Xarchive --archiver-binary -arbin --brief-diagnostics -brief-diag --cicc-options -Xcicc --compiler-bindir -ccbin"
    ++ spaced "--compiler-options -Xcompiler --compress-mode -compress-mode --cudadevrt -cudadevrt --cudafe-options -Xcudafe --cudart -cudart"
    ++ spaced "--default-stream -default-stream --device-entity-has-hidden-visibility -device-entity-has-hidden-visibility --device-stack-protector"
    ++ spaced "-device-stack-protector --diag-error -diag-error --diag-suppress -diag-suppress --diag-warn -diag-warn --dopt -dopt --entries -e"
    ++ spaced "--fatbin-options -Xfatbin --fmad -fmad --frandom-seed -frandom-seed --ftemplate-backtrace-limit -ftemplate-backtrace-limit"
    ++ spaced "--ftemplate-depth -ftemplate-depth --ftz -ftz --jump-table-density -jtd --libdevice-directory -ldir --library --linker-options"
    ++ spaced "-Xlinker --machine -m --maxrregcount -maxrregcount --nvlink-options -Xnvlink --Ofast-compile -Ofc --optimize --prec-div -prec-div"
    ++ spaced "--prec-sqrt -prec-sqrt --ptxas-options -Xptxas --qpp-config -qpp-config --relocatable-device-code -rdc --run-args -run-args"
    ++ spaced "--sanitize -sanitize --split-compile -split-compile --split-compile-extended -split-compile-extended --static-global-template-stub"
    ++ spaced "-static-global-template-stub --std -std --Werror -Werror")
    ++ joined Unquoted (spaced "-l -O")
    -- options whose values nvcc puts in quotes, or reads itself
    ++ valued Quoted (spaced "--generate-code -gencode --gpu-architecture -arch --gpu-code -code --include-path --library-path --system-include -isystem")
    ++ joined Quoted (spaced "-L")
    -- options that a normal form spells in its own way
    ++ long_and_short Define (codes "--define-macro") (codes "-D")
    ++ long_and_short Undefine (codes "--undefine-macro") (codes "-U")
    ++ joined Include (spaced "-I")
    ++ valued PreInclude (spaced "--pre-include -include")
    ++ valued OptimizationInfo (spaced "--optimization-info -opt-info")
    ++ valued TargetDirectory (spaced "--target-directory -target-dir")
    -- the phases that are split, and the file that is made
    ++ flags Phase (spaced "--compile -c --cubin -cubin --device-c -dc --device-w -dw --fatbin -fatbin --optix-ir -optix-ir --ptx -ptx")
    ++ valued Output (spaced "--output-file -o")
    ++ valued OutputDirectory (spaced "--output-directory -odir")
    ++ valued Language (spaced "--x -x")
    -- words that don't reach nvcc again
    ++ flags Keep (spaced "--keep -keep --save-temps -save-temps")
    ++ valued KeepDirectory (spaced "--keep-dir -keep-dir")
    ++ long_and_short Threads (codes "--threads") (codes "-t")
    -- the dependency file
    ++ flags Dependencies (spaced "--generate-dependencies-with-compile -MD --generate-nonsystem-dependencies-with-compile -MMD")
    ++ flags DependencyPhonies (spaced "--generate-dependency-targets -MP")
    ++ valued DependencyFile (spaced "--dependency-output -MF")
    ++ valued DependencyTarget (spaced "--dependency-target-name -MT")
    -- files with further words
    ++ valued File (spaced "--options-file -optf")
    -- options that leave the call to nvcc
    ++ flags (Passes Prints) (spaced "--dryrun -dryrun --help -h --list-gpu-arch -arch-ls --list-gpu-code -code-ls --verbose -v --version -V")
    ++ flags (Passes Cleans) (spaced "--clean-targets -clean")
    ++ flags (Passes Links) (spaced "--augment-host-linker-script -aug-hls --device-link -dlink --lib -lib --link -link --relocatable-link -r --run -run")
    ++ valued (Passes Links) (spaced "--host-linker-script -hls")
    ++ flags (Passes OtherPhase) (spaced "--cuda -cuda --generate-dependencies -M --generate-nonsystem-dependencies -MM --ltoir -ltoir --preprocess -E")
    ++ valued (Passes Measures) (spaced "--fdevice-time-trace -fdevice-time-trace --time -time")
    ++ flags (Passes TemporaryFiles) (spaced "--objdir-as-tempdir -objtemp")
    ++ flags (Passes Jobserver) (spaced "--jobserver -jobserver")
    ++ valued (Passes DrivePrefix) (spaced "--dependency-drive-prefix -ddp --drive-prefix -dp --input-drive-prefix -idp")
    ++ flags (Passes StandardInput) (spaced "-")
