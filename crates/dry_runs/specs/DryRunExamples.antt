-- Dry runs worked out by hand.
use Rattle.std.specs.Prelude.{◌≡◌, ℕ, List, [], ◌∷◌, ◌++◌, Some, None, Result, Ok, Err, encode_utf8_all, if◌then◌else◌, codes, map, bytes_eq}
use Rattle.texts.specs.declared.fault.Fault.{Fault}
use Rattle.texts.specs.declared.fault.Fault.TheVariants.{NotUtf8, BadShell, EmptyCommand, NoPath, NotFound}
use Rattle.compilers.specs.CommandLines.{CommandLine}
use Rattle.dry_runs.specs.Environment.{Variable, expanded}
use Rattle.dry_runs.specs.DryRun.{LookUp, dry_run_of}
use Rattle.dry_runs.specs.FirstDir.{first_dir}
use Rattle.dry_runs.specs.declared.limit.LimitedFault.{LimitedFault}
use Rattle.dry_runs.specs.declared.limit.LimitedFault.TheVariants as limited
use Rattle.dry_runs.specs.Limit.{dry_run_within}
use Rattle.dry_runs.specs.Parsed.{both_parsed, both_parsed_within, parsed_of, parsed_within, resolved, bad_line}
use Rattle.compilers.specs.OneKernel.{one_kernel, one_kernel_commands, one_kernel_elsewhere, one_kernel_elsewhere_commands, one_kernel_in_temporary, one_kernel_in_temporary_commands}

-- what a dry run says
abbrev pub Said : Type 0
Said = Result (List CommandLine × List Variable) Fault

-- a first run that is read at `/w`
abbrev pub first_run : List ℕ → Said
first_run bytes = dry_run_of 1 bytes (codes "/w") first_dir

-- the environment of a run that sets `PATH` alone
abbrev path_b : List Variable
path_b = (codes "PATH", codes "/b") ∷ []

-- a look-up that lacks a program
abbrev pub lacking : List ℕ → LookUp
lacking missing exe path cwd = if bytes_eq exe missing then None else first_dir exe path cwd

-- the one-kernel dry run, read whole
abbrev pub OneKernelIsRead : Type 0
OneKernelIsRead = first_run one_kernel ≡ Ok (one_kernel_commands, path_b)

-- unmarked lines are passed over, but have their numbers; a carriage return before a newline goes, and the last line needs no newline
abbrev pub LastLineNeedsNoNewline : Type 0
LastLineNeedsNoNewline =
    first_run (codes "kernel.cu\r\n#$ PATH=/b\r\n#$ gcc -D__NVCC__ -c x.cpp")
    ≡ Ok ((2, codes "/b/gcc", codes "-D__NVCC__" ∷ codes "-c" ∷ codes "x.cpp" ∷ []) ∷ [], path_b)

-- a run without lines, and one whose only line lacks the blank of the mark
abbrev pub NothingIsRead : Type 0
NothingIsRead = (first_run [] ≡ Ok ([], [])) × (first_run (codes "#$\n") ≡ Ok ([], []))

-- a line that is no text refuses the run, also where it is unmarked
abbrev pub UnmarkedLineIsNotText : Type 0
UnmarkedLineIsNotText = first_run (codes "kernel" ++ 255 ∷ 10 ∷ []) ≡ Err (NotUtf8 1 0)

-- an open quote
abbrev pub QuoteIsOpen : Type 0
QuoteIsOpen = first_run (codes "#$ gcc \"a\n") ≡ Err (BadShell 1 0)

-- a comment, and nothing at all, hold no word
abbrev pub CommentIsNoCommand : Type 0
CommentIsNoCommand = (first_run (codes "#$ # note\n") ≡ Err (EmptyCommand 1 0)) × (first_run (codes "#$ \n") ≡ Err (EmptyCommand 1 0))

-- a command before any line that sets `PATH`, in the first run and in the second; two blanks make no environment line
abbrev pub NoPathIsSet : Type 0
NoPathIsSet =
    (first_run (codes "#$ gcc\n") ≡ Err (NoPath 1 0))
    × (dry_run_of 2 (codes "#$ gcc\n") (codes "/w") first_dir ≡ Err (NoPath 2 0))
    × (first_run (codes "#$  PATH=/b\n") ≡ Err (NoPath 1 0))

-- a name with a digit assigns nothing, so its line is a command, which is looked up
abbrev pub DigitMakesACommand : Type 0
DigitMakesACommand = dry_run_of 1 (codes "#$ PATH=/b\n#$ A1=x\n") (codes "/w") (lacking (codes "A1=x")) ≡ Err (NotFound (codes "A1=x"))

-- an empty `PATH` is set, but holds no program
abbrev pub PathIsEmpty : Type 0
PathIsEmpty = first_run (codes "#$ PATH=\n#$ gcc\n") ≡ Err (NotFound (codes "gcc"))

-- the first bad line decides, whatever is wrong with a later one; and it counts that the whole run is bad, not what stood before
abbrev pub FirstBadLineDecides : Type 0
FirstBadLineDecides =
    (first_run (codes "#$ gcc\n" ++ 255 ∷ 10 ∷ []) ≡ Err (NoPath 1 0))
    × (first_run (255 ∷ 10 ∷ codes "#$ gcc\n") ≡ Err (NotUtf8 1 0))
    × (first_run (one_kernel ++ codes "#$ x" ++ 255 ∷ 10 ∷ []) ≡ Err (NotUtf8 1 8))

-- the one-kernel dry run with a look-up that lacks one of its programs
abbrev pub ProgramsAreMissing : Type 0
ProgramsAreMissing =
    let programs = codes "gcc" ∷ codes "cudafe++" ∷ codes "cicc" ∷ codes "ptxas" ∷ codes "fatbinary" ∷ [] in
    map {B = Said} (λ p. dry_run_of 1 one_kernel (codes "/w") (lacking p)) programs ≡ map (λ p. Err (NotFound p)) programs

-- an empty word is a program too
abbrev pub EmptyProgramIsLookedUp : Type 0
EmptyProgramIsLookedUp =
    (first_run (codes "#$ PATH=/b\n#$ \"\" x\n") ≡ Ok ((1, codes "/b/", codes "x" ∷ []) ∷ [], path_b))
    × (first_run (codes "#$ PATH=/\n#$ \"\" x\n") ≡ Ok ((1, codes "/", codes "x" ∷ []) ∷ [], (codes "PATH", codes "/") ∷ []))

-- at the end of a text no character follows a reference, so it does not count
abbrev pub ReferenceAtTheEndStays : Type 0
ReferenceAtTheEndStays = expanded ((codes "TOP", codes "/u") ∷ []) (codes "gcc -L$TOP") ≡ codes "gcc -L$TOP"

-- where one reference counts, all are expanded, within longer names too
abbrev pub OneReferenceExpandsAll : Type 0
OneReferenceExpandsAll = expanded ((codes "TOP", codes "/u") ∷ []) (codes "$TOP/gcc -L$TOPX") ≡ codes "/u/gcc -L/uX"

-- a letter of any script goes on with the name, and a hyphen ends it
abbrev pub LetterFollowsAReference : Type 0
LetterFollowsAReference =
    (expanded ((codes "TOP", codes "/u") ∷ []) (encode_utf8_all (codes "gcc $TOPé")) ≡ encode_utf8_all (codes "gcc $TOPé"))
    × (expanded ((codes "TOP", codes "/u") ∷ []) (codes "gcc $TOP-") ≡ codes "gcc /u-")

-- of two values the first is expanded, and the environment keeps both
abbrev pub FirstValueIsExpanded : Type 0
FirstValueIsExpanded =
    first_run (codes "#$ PATH=/b\n#$ TOP=/u\n#$ TOP=/v\n#$ gcc $TOP/x\n")
    ≡ Ok ((3, codes "/b/gcc", codes "/u/x" ∷ []) ∷ [], path_b ++ (codes "TOP", codes "/u") ∷ (codes "TOP", codes "/v") ∷ [])

-- a reference in a value is expanded only where its own line comes later
abbrev pub ValuesAreExpandedInOrder : Type 0
ValuesAreExpandedInOrder =
    (first_run (codes "#$ PATH=/b\n#$ A=$B/x\n#$ B=/u\n#$ gcc $A/y\n")
    ≡ Ok ((3, codes "/b/gcc", codes "/u/x/y" ∷ []) ∷ [], path_b ++ (codes "A", codes "$B/x") ∷ (codes "B", codes "/u") ∷ []))
    × (first_run (codes "#$ PATH=/b\n#$ B=/u\n#$ A=$B/x\n#$ gcc $A/y\n")
    ≡ Ok ((3, codes "/b/gcc", codes "$B/x/y" ∷ []) ∷ [], path_b ++ (codes "B", codes "/u") ∷ (codes "A", codes "$B/x") ∷ []))

-- the first `PATH` counts for every command, and a program with a folder counts from the working directory
abbrev pub FirstPathCounts : Type 0
FirstPathCounts =
    first_run (codes "#$ PATH=/b\n#$ PATH=/c\n#$ gcc\n#$ ./gcc\n")
    ≡ Ok ((2, codes "/b/gcc", []) ∷ (3, codes "/w/./gcc", []) ∷ [], path_b ++ (codes "PATH", codes "/c") ∷ [])

-- the one-kernel dry run with other names of its generated files, and with these in the folder `/t`
abbrev pub OtherNamesAreRead : Type 0
OtherNamesAreRead =
    (first_run one_kernel_elsewhere ≡ Ok (one_kernel_elsewhere_commands, path_b))
    × (first_run one_kernel_in_temporary ≡ Ok (one_kernel_in_temporary_commands, path_b))

-- one carriage return right before a newline goes, and a last line without a newline keeps its own, which is no blank
abbrev pub LastLineKeepsItsReturn : Type 0
LastLineKeepsItsReturn = first_run (codes "#$ PATH=/b\r\n#$ gcc x\r") ≡ Ok ((1, codes "/b/gcc", codes "x\r" ∷ []) ∷ [], path_b)

-- behind a byte order mark the first line is unmarked, so here `PATH` isn't set
abbrev pub ByteOrderMarkUnmarks : Type 0
ByteOrderMarkUnmarks = first_run (239 ∷ 187 ∷ 191 ∷ codes "#$ PATH=/b\n#$ gcc\n") ≡ Err (NoPath 1 1)

-- the value of an environment line isn't expanded, and neither is `PATH` where it is searched
abbrev pub ValuesAreKeptAsTheyStand : Type 0
ValuesAreKeptAsTheyStand =
    first_run (codes "#$ TOP=/u\n#$ PATH=$TOP/bin:/b\n#$ gcc x\n")
    ≡ Ok ((2, codes "$TOP/bin/gcc", codes "x" ∷ []) ∷ [], (codes "TOP", codes "/u") ∷ (codes "PATH", codes "$TOP/bin:/b") ∷ [])

-- a `PATH` whose first folder is empty holds no program
abbrev pub FirstFolderIsEmpty : Type 0
FirstFolderIsEmpty = first_run (codes "#$ PATH=:/b\n#$ gcc\n") ≡ Err (NotFound (codes "gcc"))

-- a program with a folder needs a `PATH` before it too
abbrev pub FolderNeedsAPathToo : Type 0
FolderNeedsAPathToo = first_run (codes "#$ ./gcc\n#$ PATH=/b\n") ≡ Err (NoPath 1 0)

-- a name that is set twice, as nvcc 13 does, stands twice in the environment, and its first value counts
abbrev pub NameIsSetTwice : Type 0
NameIsSetTwice =
    first_run (codes "#$ _TARGET_DIR_=\n#$ _TARGET_DIR_=targets/x86_64-linux\n#$ PATH=/b\n#$ gcc $_TARGET_DIR_/x\n")
    ≡ Ok ((3, codes "/b/gcc", codes "/x" ∷ []) ∷ [], (codes "_TARGET_DIR_", []) ∷ (codes "_TARGET_DIR_", codes "targets/x86_64-linux") ∷ path_b)

-- what becomes of a reference right before a character
abbrev pub before : ℕ → List ℕ
before c = expanded ((codes "TOP", codes "/u") ∷ []) (codes "$TOP" ++ encode_utf8_all (c ∷ []))

-- `²` and `·` go on with no name
abbrev pub OtherCharactersEndAName : Type 0
OtherCharactersEndAName = let cs = 178 ∷ 183 ∷ [] in map before cs ≡ map (λ c. codes "/u" ++ encode_utf8_all (c ∷ [])) cs

-- a name goes on with `ⓐ`, `Ⅷ`, `‿`, a combining accent, an enclosing circle, and the joiner U+200D
abbrev pub WordCharactersGoOn : Type 0
WordCharactersGoOn = let cs = 9424 ∷ 8551 ∷ 8255 ∷ 769 ∷ 8413 ∷ 8205 ∷ [] in map before cs ≡ map (λ c. codes "$TOP" ++ encode_utf8_all (c ∷ [])) cs

-- Dry runs that are parsed, or read within a limit.

-- two commands and a line that is bad whatever is found, and a third command
abbrev pub open_quote : List ℕ
open_quote = codes "#$ PATH=/b:/c\n#$ cicc x\n#$ ./gcc\n#$ 'open\n#$ ptxas\n"

-- the commands before the bad line, each with its question, and the fault of that line
abbrev pub CommandsBeforeABadLine : Type 0
CommandsBeforeABadLine =
    parsed_of 1 open_quote ≡ record {
      commands = (1, codes "/b:/ccicc", codes "x" ∷ []) ∷ (2, codes "/b:/c./gcc", []) ∷ [];
      env = (codes "PATH", codes "/b:/c") ∷ [];
      fault = Some (BadShell 1 3);
    }

-- a program that isn't found comes before the bad line behind it, at the line of its command
abbrev pub MissingProgramIsFirst : Type 0
MissingProgramIsFirst =
    (resolved (lacking (codes "./gcc")) (codes "/w") (parsed_of 1 open_quote) ≡ Err (NotFound (codes "./gcc")))
    × (bad_line (lacking (codes "./gcc")) (codes "/w") (parsed_of 1 open_quote) ≡ Some 2)
    × (bad_line (lacking []) (codes "/w") (parsed_of 1 open_quote) ≡ Some 3)

-- a run that counts 8,208 bytes: `PATH` and `/b` eight, `/bgcc` and `x` eight, and each line 4,096 more
abbrev gcc_run : List ℕ
gcc_run = codes "#$ PATH=/b\n#$ gcc x\n"

-- each command counts the value of `PATH`
abbrev pub PathCounts : Type 0
PathCounts = (parsed_within 8208 1 gcc_run ≡ Ok (parsed_of 1 gcc_run)) × (parsed_within 8207 1 gcc_run ≡ Err (limited.TooLong 1 1))

-- each of two runs has the whole limit, and the first one that exceeds it decides
abbrev pub EachRunHasTheLimit : Type 0
EachRunHasTheLimit =
    (both_parsed_within 8208 gcc_run gcc_run ≡ Ok (both_parsed gcc_run gcc_run))
    × (both_parsed_within 8207 gcc_run gcc_run ≡ Err (limited.TooLong 1 1))
    × (both_parsed_within 8207 [] gcc_run ≡ Err (limited.TooLong 2 1))

-- a first run that is read at `/w` within a limit
abbrev pub first_within : ℕ → List ℕ → Result (List CommandLine × List Variable) LimitedFault
first_within limit bytes = dry_run_within limit 1 bytes (codes "/w") first_dir

-- `PATH` and `/b` hold eight bytes, and `/b/gcc` seven, not the four of `gcc`. Each line counts 4,096 more
abbrev pub AllThatIsHeldCounts : Type 0
AllThatIsHeldCounts =
    (first_within 8207 (codes "#$ PATH=/b\n#$ gcc\n") ≡ Ok ((1, codes "/b/gcc", []) ∷ [], (codes "PATH", codes "/b") ∷ []))
    × (first_within 8206 (codes "#$ PATH=/b\n#$ gcc\n") ≡ Err (limited.TooLong 1 1))
    × (first_within 4103 (codes "#$ PATH=/b\n#$ gcc\n") ≡ Err (limited.TooLong 1 0))

-- the variables hold twenty bytes, and the command nine. Expanding makes eleven bytes more, `gcc $B$B$B.`, and then five, `gcc .`
abbrev pub TextsOnTheWayCount : Type 0
TextsOnTheWayCount =
    (first_within 16429 (codes "#$ PATH=/b\n#$ A=$B$B$B\n#$ B=\n#$ gcc $A.\n")
    ≡ Ok ((3, codes "/b/gcc", codes "." ∷ []) ∷ [], (codes "PATH", codes "/b") ∷ (codes "A", codes "$B$B$B") ∷ (codes "B", []) ∷ []))
    × (first_within 16428 (codes "#$ PATH=/b\n#$ A=$B$B$B\n#$ B=\n#$ gcc $A.\n") ≡ Err (limited.TooLong 1 3))

-- a bad line ends the reading, and a line that exceeds the limit does too: the first one decides
abbrev pub FirstOfBothDecides : Type 0
FirstOfBothDecides =
    (first_within 4103 (255 ∷ 10 ∷ codes "#$ PATH=/b\n") ≡ Err (limited.Fault (NotUtf8 1 0)))
    × (first_within 4103 (codes "#$ PATH=/b\n" ++ 255 ∷ 10 ∷ []) ≡ Err (limited.TooLong 1 0))

-- lines without the mark count nothing
abbrev pub UnmarkedLinesAreFree : Type 0
UnmarkedLinesAreFree = first_within 0 (codes "nvcc warning : deprecated\n") ≡ Ok ([], [])
