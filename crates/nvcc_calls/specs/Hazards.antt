-- Why nvcc makes a call whose line could be split: a plan of it would make something else.
use Rattle.std.specs.Prelude.{◌≡◌, ℕ, List, [], ◌∷◌, fold, map, Bool, true, false, not, ◌==◌, ◌&&◌, ◌||◌, nat_eq, nat_le, Option, Some, None, refl, codes, bytes_eq}
use Rattle.std.specs.List.{list_any, list_all, starts_with}
use Rattle.std.specs.Option.{option_or}
use Rattle.texts.specs.Extension.{last_part, with_extension}
use Rattle.texts.specs.Rows.{spaced}
use Rattle.canonical_names.specs.Alike.{holds}
use Rattle.canonical_names.specs.Generated.{standard_suffixes}
use Rattle.nvcc_calls.specs.declared.asked.Asked.{Asked}
use Rattle.nvcc_calls.specs.declared.settling.Call.{Call}
use Rattle.nvcc_calls.specs.declared.reason.Reason.{Reason}
use Rattle.nvcc_calls.specs.declared.reason.Reason.TheVariants.{GeneratedName, DirectoryName, ToolFile, HostFile, KeptName, OpenFile}
use Rattle.nvcc_calls.specs.Asked.{nothing_asked, reason_unless}
use Rattle.nvcc_calls.specs.NormalForm.{extension_of_phase, has_extension}
use Rattle.compilers.specs.Calls.{NvccOf}
use Rattle.nvcc_calls.specs.ToolWords.{begins_with_one, may_name_file}

-- whether a text may be changed where generated files get canonical names: it contains one of their suffixes. In all other
-- texts there is no name of such a file
abbrev pub may_be_renamed : List ℕ → Bool
may_be_renamed text = list_any (λ suffix. holds suffix text) standard_suffixes

-- whether a shell leaves the name of a directory as it is in double quotes. nvcc writes it there without a backslash
abbrev pub is_plain_directory : List ℕ → Bool
is_plain_directory path =
    list_all (λ byte. nat_le 32 byte && not (byte == 36) && not (byte == 92) && not (byte == 96) && not (byte == 127)) path

-- whether a word has each command of the host compiler write a dependency file, or its times to one: no record has it, and nothing orders those who write it
abbrev pub host_options : List (List ℕ)
host_options = spaced "-Xcompiler= --compiler-options= -Wp,"

abbrev pub writes_file : List ℕ → Bool
writes_file word = begins_with_one host_options word && list_any (λ part. holds part word) (spaced "=-M ,-M -dependencies =-time= ,-time=")

-- whether a word asks nvcc to keep generated files
abbrev pub asks_to_keep : List ℕ → Bool
asks_to_keep word = list_any (bytes_eq word) (spaced "--keep -keep --save-temps -save-temps")

-- whether an output may have the name of a kept file: the input's stem and a `.` begin it, and it hasn't the extension of
-- what the phase makes
abbrev pub is_kept_name : Call → Bool
is_kept_name call =
    starts_with nat_eq (last_part call.output) (with_extension (last_part call.input) [])
    && not (has_extension (extension_of_phase call.flag) call.output)

-- whether a text names a file that is open when nvcc begins, as standard input is. Two dry runs and the commands would each read it,
-- and of those that read a pipe, the first takes all. A text tells by such a file's name: not a link to it, nor a name below `/dev`
abbrev pub names_open_file : List ℕ → Bool
names_open_file text =
    holds (codes "/dev/stdin") text || holds (codes "/dev/fd/") text || (holds (codes "/proc/") text && holds (codes "/fd/") text)

-- whether a call uses such a file: as its input, as its output, or in an option. A dependency file may be one, since one command writes it
abbrev pub uses_open_file : Asked → Call → Bool
uses_open_file asked normal =
    list_any names_open_file asked.kept || names_open_file normal.input || names_open_file normal.output

-- whether the names of a call may be changed where generated files get canonical names
abbrev pub is_renamed : NvccOf → Call → Bool
is_renamed call normal =
    list_any may_be_renamed normal.words || may_be_renamed call.cwd || may_be_renamed call.tmp || may_be_renamed call.nvcc

-- why nvcc makes the call, if it does: its directories, the words, and what the line asks for
abbrev pub hazard_of : NvccOf → Asked → Call → Option Reason
hazard_of call asked normal =
    fold option_or (reason_unless (is_plain_directory call.cwd && is_plain_directory call.tmp) DirectoryName)
    (reason_unless (not (is_renamed call normal)) GeneratedName
    ∷ reason_unless (not (list_any may_name_file normal.words)) ToolFile
    ∷ reason_unless (not (list_any writes_file normal.words)) HostFile
    ∷ reason_unless (not (list_any asks_to_keep normal.words && is_kept_name normal)) KeptName
    ∷ reason_unless (not (uses_open_file asked normal)) OpenFile
    ∷ [])

-- Worked examples: the reason at a working directory, for a line that asks for some words alone, by a call's flag, output and words.
abbrev pub reason_at : List ℕ → List (List ℕ) → List ℕ → List ℕ → List (List ℕ) → Option Reason
reason_at cwd kept flag output words =
    hazard_of (record { cwd = cwd; tmp = codes "/t"; nvcc = codes "nvcc"; words = [] }) (record nothing_asked { kept = kept })
    (record { flag = flag; input = codes "sub/dev.cu"; output = output; words = words })

-- words that name a generated file, or no such file; a file for ptxas, and one for fatbinary; a dependency file of an object, and an open one
pub words_of_objects :
    map (reason_at (codes "/w") [] (codes "-c") (codes "k.o"))
    (spaced "-DN=a.cpp1.ii" ∷ spaced "-DN=a.ii -I/x.cpp1 sub/dev.cu" ∷ spaced "-Xptxas=-optf,p.txt" ∷ spaced "-Xfatbin=--image=file=a"
    ∷ spaced "-Xcompiler=-MD,-MF,k.d" ∷ spaced "-MD -MF /dev/fd/3" ∷ spaced "-Xcompiler=-Wa,--MD,a.d" ∷ [])
    ≡ Some GeneratedName ∷ None ∷ Some ToolFile ∷ Some ToolFile ∷ Some HostFile ∷ None ∷ None ∷ []
words_of_objects = refl

pub folders :
    map (λ cwd. reason_at cwd [] (codes "-c") (codes "k.o") []) (spaced "/w/a.cudafe1.cpp.d /w$x")
    ≡ Some GeneratedName ∷ Some DirectoryName ∷ []
folders = refl

-- an assembler's file has one writer
pub shared_files :
    map writes_file (spaced "-Xcompiler=-fPIC,-MMD -Wp,-MD,k.d --compiler-options=--write-dependencies=k.d -Xcompiler=-Wa,--MD,a.d -DN=-MD -Xcompiler=-g,-time=t -Xcompiler=-time")
    ≡ true ∷ true ∷ true ∷ false ∷ false ∷ true ∷ false ∷ []
shared_files = refl

pub kept_files :
    map (λ output. reason_at (codes "/w") [] (codes "-c") output (spaced "--keep")) (spaced "o/dev.sm_80.cubin dev.cu.o")
    ≡ Some KeptName ∷ None ∷ []
kept_files = refl

pub standard_input : list_all names_open_file (spaced "/dev/stdin ../dev/stdin /dev/fd/63 /proc/self/fd/0 /proc/9/fd/3") ≡ true
standard_input = refl

pub usual_files : list_any names_open_file (spaced "/dev/null /dev/stdout /w/fd/k.cu /proc/cpuinfo stdin") ≡ false
usual_files = refl

pub open_header : reason_at (codes "/w") (spaced "-Xcompiler=-include,/dev/fd/3") (codes "-c") (codes "k.o") [] ≡ Some OpenFile
open_header = refl

pub open_product : reason_at (codes "/w") [] (codes "-ptx") (codes "/dev/fd/3") [] ≡ Some OpenFile
open_product = refl
