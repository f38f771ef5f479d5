-- Lines of nvcc and nvhpc, worked out by hand and computed. The working directory of nvcc's is `/w`.
use Rattle.std.specs.Prelude.{◌≡◌, ℕ, List, [], ◌∷◌, ◌++◌, false, Some, None, Result, Ok, Err, map, codes, Option, refl}
use Rattle.texts.specs.declared.fault.Fault.{Fault}
use Rattle.texts.specs.declared.fault.Fault.TheVariants.{KeepDirValue, ThreadsValue, NoPreprocess, MissingOutput, NoFileName}
use Rattle.texts.specs.declared.language.Language.{Language}
use Rattle.texts.specs.declared.language.Language.TheVariants.{C, Cxx, Cuda, Ptx}
use Rattle.texts.specs.Rows.{spaced, Gives}
use Rattle.compilers.specs.declared.arguments.ParsedArguments.{ParsedArguments}
use Rattle.compilers.specs.declared.command.SingleCompileCommand.{SingleCompileCommand}
use Rattle.compilers.specs.Compiler.{accepted, not_compilation, Reading, cannot_cache}
use Rattle.host_lines.specs.GccExamples.{compiled}
use Rattle.host_lines.specs.KeepThreads.{keep_of, threads_of}
use Rattle.host_lines.specs.Nvhpc.{nvhpc_reading}
use Rattle.host_lines.specs.Preprocess.{nvcc_dependency_words, nvcc_preprocess, nvhpc_preprocess}
use Rattle.std.specs.Str.{chars}
use Rattle.std.specs.Char.{encode_utf8}
use Rattle.compilers.specs.declared.command.Cacheable.{Cacheable}
use Rattle.compilers.specs.declared.compiler.Places.{Places}
use Prim.Native.String.{String}
use Rattle.host_lines.specs.declared.nvcc.command.NvccCompileCommand.{NvccCompileCommand}
use Rattle.host_lines.specs.Nvcc.{nvcc_reading, nvcc_version}
use Rattle.host_lines.specs.NvccEnvironment.{prepended_name, appended_name}
use Rattle.host_lines.specs.NvccCommand.{nvcc_written, dry_runs}
use Rattle.compilers.specs.declared.compiler.NvccHostCompiler.TheVariants as host

-- what the words for kept files say, at the working directory `/w`
abbrev pub KeepWordsTaken : Type 0
KeepWordsTaken = Gives (keep_of (codes "/w")) (
    -- the directory is joined to the working directory, and alone it keeps nothing
    (spaced "-keep -keep-dir out", Ok ([], Some (codes "/w/out")))
    ∷ (spaced "-keep-dir out", Ok ([], None))
    -- the option that keeps files can be the directory
    ∷ (spaced "-keep-dir -keep", Ok ([], None))
    -- no directory, a missing one, and an empty one
    ∷ (spaced "-keep", Ok ([], Some (codes "/w")))
    ∷ (spaced "-keep-dir", Err KeepDirValue)
    ∷ (codes "-keep" ∷ codes "-keep-dir" ∷ [] ∷ [], Ok ([], Some (codes "/w/")))
    -- the directory's option can be the directory
    ∷ (spaced "-keep -keep-dir -keep-dir", Ok ([], Some (codes "/w/-keep-dir")))
    -- the last directory counts, and other words stay
    ∷ (spaced "--keep-dir a -g --save-temps -keep-dir /b -c", Ok (spaced "-g -c", Some (codes "/b")))
    ∷ (spaced "--threads -keep", Ok (spaced "--threads", Some (codes "/w")))
    ∷ [])

-- what the words for threads say
abbrev pub ThreadWordsTaken : Type 0
ThreadWordsTaken = Gives threads_of (
    -- a missing number, and the last of several
    (spaced "--threads", Err ThreadsValue)
    ∷ (spaced "-t1 -t=2 -t3 --threads 1 --threads 2", Ok ([], 2))
    ∷ (spaced "--threads 4 -t2", Ok ([], 2))
    -- the word `-té=1`: the bytes 195 and 169 are `é`, and the number is read from the middle of it
    ∷ ((45 ∷ 116 ∷ 195 ∷ 169 ∷ 61 ∷ 49 ∷ []) ∷ [], Ok ([], 1))
    -- what isn't a number counts as 1
    ∷ (spaced "--threads --threads", Ok ([], 1))
    ∷ (spaced "-t++7", Ok ([], 1))
    -- a number may begin with a plus or with zeros
    ∷ (spaced "-t+7", Ok ([], 7))
    ∷ (spaced "-t=007 -g", Ok (spaced "-g", 7))
    -- the greatest number, and one more
    ∷ (spaced "-t18446744073709551615", Ok ([], 18446744073709551615))
    ∷ (spaced "-t18446744073709551616", Ok ([], 1))
    -- `=` anywhere in a joined number
    ∷ (spaced "-t12= -t123 -t4=5", Ok ([], 123))
    ∷ [])

-- the words of the commands that preprocess a line's input
abbrev pub words_of_commands : Result (List SingleCompileCommand) Fault → Result (List (List (List ℕ))) Fault
words_of_commands (Ok commands) = Ok (map (λ c. c.arguments) commands)
words_of_commands (Err fault) = Err fault

-- the arguments of a line that compiles and writes a dependency file
abbrev pub with_dependencies : Language → List (List ℕ) → ParsedArguments
with_dependencies language common = record (compiled (codes "foo.c") language (codes "foo.o")) {
  common_args = common;
  dependency_args = spaced "-MD -MF foo.o.d -MT foo.o";
}

-- the commands that preprocess inputs, and the words for their dependencies
pub record LinesPreprocessed : Type 0 where
  pub nvcc_makes_two_commands :
      words_of_commands (nvcc_preprocess host.Gcc (codes "nvcc") (with_dependencies Cuda (spaced "-fabc -c")) (codes "/w") []) ≡
      Ok (spaced "-fabc -c -x cu foo.c -M -MF foo.o.d -MT foo.o" ∷ spaced "-fabc -c -x cu foo.c -E -Xcompiler=-P" ∷ [])
  pub nvhpc_makes_two_commands :
      words_of_commands (nvhpc_preprocess (codes "nvc++") (with_dependencies Cxx (spaced "-fabc")) (codes "/w") []) ≡
      Ok (spaced "-fabc -x c++ foo.c -M -MF foo.o.d -MT foo.o" ∷ spaced "-fabc -x c++ foo.c -E" ∷ [])
  -- a repeated value is left out too
  pub a_repeated_value_goes : nvcc_dependency_words (spaced "-MF a -MT a") ≡ spaced "-MF a -MT"
  -- words are compared after they are replaced
  pub replaced_words_are_alike :
      nvcc_dependency_words
      (spaced "--generate-nonsystem-dependencies-with-compile -MP -MMD -MM --generate-dependencies-with-compile") ≡
      spaced "-MM -MP -M"
  pub one_command_without_dependencies :
      words_of_commands (nvcc_preprocess host.Nvhpc (codes "nvcc") (compiled (codes "a.c") Cuda (codes "a.o")) (codes "/w") []) ≡
      Ok ((codes "-x" ∷ codes "cu" ∷ codes "a.c" ∷ codes "-E" ∷ [] ∷ []) ∷ [])
  pub nvhpc_preprocesses_no_cuda :
      nvhpc_preprocess (codes "nvc++") (compiled (codes "a.cu") Cuda (codes "a.o")) (codes "/w") [] ≡
      Err (NoPreprocess (codes "CUDA compilation not supported by nvhpc"))
  pub nvcc_preprocesses_no_ptx :
      nvcc_preprocess host.Msvc (codes "nvcc") (compiled (codes "a.ptx") Ptx (codes "a.o")) (codes "/w") [] ≡
      Err (NoPreprocess (codes "PCH not supported by nvcc"))

-- what lines of nvhpc are read as, at the working directory `.`
abbrev pub NvhpcLinesRead : Type 0
NvhpcLinesRead = Gives (nvhpc_reading false (codes ".")) (
    -- options of gcc's table and of nvhpc's: a value in its option's word becomes a word of its own if the
    -- option's text is long
    (
      spaced "-c foo.cpp -fabc -I include-file -o foo.o --include-path include-file"
          ++ spaced "-isystem /system/include/file -gpu=ccnative -Werror an_error",
      accepted (record (compiled (codes "foo.cpp") Cxx (codes "foo.o")) {
        preprocessor_args = spaced "-Iinclude-file --include-path include-file -isystem /system/include/file -Werror an_error";
        common_args = spaced "-fabc -gpu ccnative";
      }),
    )
    -- `=` is a part of a value whose option takes none
    ∷ (
      spaced "-c foo.c --include-path=inc",
      accepted (record (compiled (codes "foo.c") C (codes "foo.o")) { preprocessor_args = spaced "--include-path =inc" }),
    )
    -- `-acc` takes the flag for the compilation as its value
    ∷ (spaced "-acc -c foo.c", not_compilation)
    -- a flag takes no value: with one it is an unknown flag
    ∷ (
      spaced "-c foo.c -save-temps=obj",
      accepted (record (compiled (codes "foo.c") C (codes "foo.o")) { common_args = spaced "-save-temps=obj" }),
    )
    -- of two entries with the same text nvhpc's counts; its value may be joined
    ∷ (
      spaced "-x=c++ -c foo.c -Xlinker=-s",
      accepted (record (compiled (codes "foo.c") Cxx (codes "foo.o")) { common_args = spaced "-Xlinker -s" }),
    )
    ∷ [])

-- what a line is read as in an environment that adds nothing
abbrev pub read : List (List ℕ) → Reading
read words = nvcc_reading words (codes "/w") []

-- the arguments of `-c foo.cu -o foo.o`
abbrev pub lone_object : ParsedArguments
lone_object = record (compiled (codes "foo.cu") Cuda (codes "foo.o")) { common_args = spaced "-c" }

-- what the line `-c foo.c -o foo.o` is read as in an environment
abbrev pub c_line_in : List (List ℕ × List ℕ) → Reading
c_line_in env_vars = nvcc_reading (spaced "-c foo.c -o foo.o") (codes "/w") env_vars

-- the environment adds `-x cu` before a line and a word with a space after it; if the first text doesn't split, it
-- adds nothing; and of two variables of a name the first is read
abbrev pub EnvironmentAddsWords : Type 0
EnvironmentAddsWords =
    (c_line_in ((prepended_name, codes "-x cu") ∷ (appended_name, codes "-DX=\"a b\"") ∷ [])
    ≡ accepted (record (compiled (codes "foo.c") Cuda (codes "foo.o")) { preprocessor_args = codes "-DX=a b" ∷ []; common_args = spaced "-c" }))
    × (c_line_in ((prepended_name, codes "\"a") ∷ (appended_name, codes "-DX=\"a b\"") ∷ [])
    ≡ accepted (record (compiled (codes "foo.c") C (codes "foo.o")) { preprocessor_args = codes "-DX=a b" ∷ []; common_args = spaced "-c" }))
    × (c_line_in ((appended_name, codes "-DA") ∷ (codes "NVCC", codes "-DB") ∷ (appended_name, codes "-DC") ∷ [])
    ≡ accepted (record (compiled (codes "foo.c") C (codes "foo.o")) { preprocessor_args = spaced "-DA"; common_args = spaced "-c" }))

pub environment_adds_words : EnvironmentAddsWords
unfolding chars encode_utf8
environment_adds_words = (refl, refl, refl)

-- what lines are read as
abbrev pub LinesAreRead : Type 0
LinesAreRead = Gives read (
    -- a single CUDA file is compiled without a flag, and an option may take the flag as its value
    (spaced "foo.cu", accepted (record (compiled (codes "foo.cu") Cuda (codes "foo.o")) { compilation_flag = [] }))
    ∷ (
      spaced "-Werror -c foo.cu",
      accepted (record (compiled (codes "foo.cu") Cuda (codes "foo.o")) { compilation_flag = []; preprocessor_args = spaced "-Werror -c" }),
    )
    -- `-t` takes each word that begins with it; `--time` does too, and refuses; the option for the language refuses as `-x`
    ∷ (
      spaced "-c foo.cu -target=x -save-temps=obj",
      accepted (record lone_object { common_args = spaced "-save-temps=obj -c"; unhashed_args = spaced "-target=x" }),
    )
    ∷ (spaced "-c foo.cu -threads 4", cannot_cache (codes "multiple input files") None)
    ∷ (spaced "-c foo.cu --timeout=3", cannot_cache (codes "--time") None)
    ∷ (spaced "-c foo.cu --x=foo", cannot_cache (codes "-x") None)
    ∷ [])

-- the folder for temporary files, and the canonical input
abbrev pub places : Places
places = record { temp_dir = codes "/t"; canonical_input = codes "/w/foo.cu" }

-- arguments written back, for gcc as the host compiler and in an empty environment
abbrev pub write : ParsedArguments → Result (NvccCompileCommand × Cacheable) Fault
write p = nvcc_written (codes "nvcc") p (codes "/w") [] host.Gcc places

-- the words of a command, its output's file name, and the words of its second dry run
abbrev pub words_written : Result (NvccCompileCommand × Cacheable) Fault → Result (List (List ℕ) × List ℕ × List (List ℕ)) Fault
words_written (Ok c) = Ok (c.0.arguments, c.0.output_file_name, (dry_runs c.0).1.arguments)
words_written (Err fault) = Err fault

-- what a line is read and written back as; nothing if it isn't accepted
abbrev pub written_back : List (List ℕ) → Option (Result (List (List ℕ) × List ℕ × List (List ℕ)) Fault)
written_back words = elim (read words) [ accepted p ↦ Some (words_written (write p)) | cannot_cache text word ↦ None | not_compilation ↦ None ]

-- words, an output's file name, and the same words as a second dry run has them
abbrev pub words_of : String → String → Option (Result (List (List ℕ) × List ℕ × List (List ℕ)) Fault)
words_of words name = Some (Ok (spaced words, codes name, spaced words ++ spaced "--keep-dir /t --dryrun --keep"))

abbrev pub WordsAreWritten : Type 0
WordsAreWritten = Gives written_back (
    -- under `-c` the output is written as given, and else joined to the working directory
    (spaced "-c foo.cu -o foo.o", words_of "-x cu -o foo.o -c /w/foo.cu" "foo.o")
    ∷ (spaced "-ptx foo.cu -o foo.ptx", words_of "-x cu -o /w/foo.ptx -ptx /w/foo.cu" "foo.ptx")
    ∷ (spaced "foo.cu", words_of "-x cu -o /w/foo.o /w/foo.cu" "foo.o")
    -- lines that are read and not written: an option of keep or thread words that `--threads` took for its value, and
    -- an output without a file name
    ∷ (spaced "-c foo.cu --threads -keep-dir", Some (Err KeepDirValue))
    ∷ (spaced "-c foo.cu --threads -keep", Some (Err ThreadsValue))
    ∷ (spaced "-c foo.cu -o ..", Some (Err NoFileName))
    ∷ [])

-- what is refused first of several: a missing directory, then a missing number, then a missing output
abbrev pub RefusalsHaveAnOrder : Type 0
RefusalsHaveAnOrder = Gives (λ (unhashed : List (List ℕ)). write (record lone_object { outputs = []; unhashed_args = unhashed })) (
    (spaced "--threads -keep-dir", Err KeepDirValue)
    ∷ (spaced "-keep --threads", Err ThreadsValue)
    ∷ ([], Err (MissingOutput Cuda))
    ∷ [])

-- two versions, nvcc's own and the host compiler's, are joined, one stands alone, and an empty one counts for none
abbrev pub VersionsAreJoined : Type 0
VersionsAreJoined = Gives (λ (versions : Option (List ℕ) × Option (List ℕ)). nvcc_version (record { host_compiler = host.Gcc; host_compiler_version = versions.1; version = versions.0 })) (
    ((Some (codes "12.4"), Some (codes "13")), Some (codes "12.4-13"))
    ∷ ((Some [], Some (codes "13")), Some (codes "13"))
    ∷ ((Some (codes "12.4"), None), Some (codes "12.4"))
    ∷ ((Some [], None), None)
    ∷ [])
