-- The normal form of a line: nvcc's reading of it, and the words that say the same in fewer ways.
use Rattle.std.specs.Prelude.{◌≡◌, ℕ, List, [], ◌∷◌, ◌++◌, Bool, true, false, not, ◌==◌, ◌&&◌, ◌||◌, fold, length, map, nat_le, is_some, is_none, unwrap_or, if◌then◌else◌, Option, Some, None, Result, Ok, Err, refl, codes, nat_eq, bytes_eq}
use Rattle.std.specs.List.{list_any, list_all}
use Rattle.std.specs.Option.{option_or, option_map_or}
use Rattle.std.specs.Str.{chars}
use Rattle.std.specs.Cmp.Lexicographic.{pointwise}
use Rattle.texts.specs.Path.{joined}
use Rattle.texts.specs.Extension.{last_part, extension_of, with_extension}
use Rattle.texts.specs.ObjectFlags.{makes_objects}
use Rattle.texts.specs.Results.{and_then}
use Rattle.texts.specs.Rows.{spaced}
use Rattle.texts.specs.Variables.{first_value}
use Rattle.compilers.specs.declared.arguments.ParsedArguments.{ParsedArguments}
use Rattle.compilers.specs.Outputs.{entry_at}
use Rattle.host_lines.specs.Gcc.{profile_reading}
use Rattle.host_lines.specs.GccOptions.{gcc_entries}
use Rattle.compilers.specs.Compiler.{Reading, accepted, cannot_cache, not_compilation}
use Rattle.compilers.specs.Table.{longest_of_two}
use Rattle.host_lines.specs.NvccOptions.{nvcc_options}
use Rattle.host_lines.specs.NvccEnvironment.{prepended_name, appended_name, with_added_words}
use Rattle.compilers.specs.declared.compiler.CCompilerKind.TheVariants as kinds
use Rattle.nvcc_calls.specs.declared.asked.Asked.{Asked}
use Rattle.nvcc_calls.specs.declared.settling.Call.{Call}
use Rattle.nvcc_calls.specs.declared.reason.Reason.{Reason}
use Rattle.nvcc_calls.specs.declared.reason.Reason.TheVariants.{Links, SeveralPhases, NoInput, SeveralInputs, NotSource, HostSource, StandardOutput, HiddenName, UnknownOption, MissingValue, OptionsFile, DependencyWords, ShellCharacter, VariableQuotes, OtherReading}
use Rattle.nvcc_calls.specs.Words.{is_unexpanded, is_cut_at_spaces, is_usual_name}
use Rattle.nvcc_calls.specs.Asked.{asked_of, reason_unless}
use Rattle.nvcc_calls.specs.declared.verdict.Verdict.{Verdict}
use Rattle.nvcc_calls.specs.declared.verdict.Verdict.TheVariants.{Split, Pass}

-- the first of some texts, and the empty text if there is none
abbrev pub first_of : List (List ℕ) → List ℕ
first_of [] = []
first_of (t ∷ ts) = t

-- the value of an option, and the empty text if it isn't given
abbrev pub value_of : Option (List ℕ) → List ℕ
value_of option = unwrap_or option []

-- whether texts differ
abbrev pub differ : List (List ℕ) → Bool
differ texts = not (list_all (bytes_eq (first_of texts)) texts)

-- whether the file name of a path is empty or begins with `.`: nvcc names what it makes of such a source, and the
-- dependency file of such an output, in a way of its own
abbrev pub begins_with_dot : List ℕ → Bool
begins_with_dot [] = true
begins_with_dot (c ∷ cs) = c == 46

abbrev pub is_hidden : List ℕ → Bool
is_hidden path = begins_with_dot (last_part path)

-- the phase and the input
abbrev pub phase_of : Asked → List ℕ
phase_of a = first_of a.phases

abbrev pub input_of : Asked → List ℕ
input_of a = first_of a.inputs

abbrev pub has_extension : List ℕ → List ℕ → Bool
has_extension extension path = option_map_or (bytes_eq extension) (extension_of path) false

-- whether nvcc compiles an input as CUDA, and whether as C or C++: by the language that is named, else by the extension
abbrev pub is_among : List (List ℕ) → List ℕ → Bool
is_among texts text = list_any (bytes_eq text) texts

abbrev pub is_cuda : Asked → Bool
is_cuda a =
    if is_some a.language then bytes_eq (value_of a.language) (codes "cu")
    else has_extension (codes "cu") (input_of a)

abbrev pub is_host : Asked → Bool
is_host a =
    if is_some a.language then is_among (spaced "c c++") (value_of a.language)
    else option_map_or (is_among (spaced "c cc cpp cxx")) (extension_of (input_of a)) false

-- the extension that nvcc gives to what a phase makes
abbrev pub extension_of_phase : List ℕ → List ℕ
extension_of_phase flag =
    if makes_objects flag then codes "o"
    else if is_among (spaced "-ptx --ptx") flag then codes "ptx"
    else if is_among (spaced "-cubin --cubin") flag then codes "cubin"
    else if is_among (spaced "-fatbin --fatbin") flag then codes "fatbin"
    else codes "optixir"

-- the output. One without a name has the input's file name with the phase's extension, in
-- the folder for outputs or the working directory
abbrev pub default_output : List ℕ → List ℕ → List ℕ → List ℕ
default_output directory input flag = joined directory (with_extension (last_part input) (extension_of_phase flag))

abbrev pub output_of : Asked → List ℕ
output_of a = if is_some a.output then value_of a.output else default_output (value_of a.directory) (input_of a) (phase_of a)

-- examples: an object, and PTX in a folder
pub default_outputs :
    default_output [] (codes "sub/k.x.cu") (codes "-dc") ∷ default_output (codes "od") (codes "k.cu") (codes "-ptx") ∷ []
    ≡ spaced "k.x.o od/k.ptx"
default_outputs = refl

-- whether a dependency file is asked for in a usual way: by one flag, with a name or a plain one beside the object, for
-- the object
abbrev pub names_usual_file : Asked → Bool
names_usual_file a =
    if is_some a.output then is_some a.dependency_file || not (is_hidden (value_of a.output)) else makes_objects (phase_of a)

-- the target in a dependency file, if the line names it or the output
abbrev pub names_target : Asked → Bool
names_target a = is_some a.dependency_target || is_some a.output

abbrev pub target_of : Asked → List ℕ
target_of a = if is_some a.dependency_target then value_of a.dependency_target else value_of a.output

-- whether a dependency file has another name than its target. A target without a name is an object
abbrev pub is_other_file : Asked → List ℕ → Bool
is_other_file a file =
    is_usual_name file && not (bytes_eq file (target_of a)) && (names_target a || not (has_extension (codes "o") file))

-- whether the dependency file and its target have usual names, and not one name: sccache's reader drops a value that repeats
-- another. A file without a name has the extension `d`
abbrev pub names_two_files : Asked → Bool
names_two_files a =
    (not (names_target a) || is_usual_name (target_of a))
    && (if is_some a.dependency_file then is_other_file a (value_of a.dependency_file) else not (has_extension (codes "d") (target_of a)))

abbrev pub has_usual_dependencies : Asked → Bool
has_usual_dependencies a =
    if length a.dependencies == 0 then is_none a.dependency_file && is_none a.dependency_target && (length a.phonies == 0)
    else not (differ a.dependencies) && is_none a.directory && names_usual_file a && names_two_files a

-- why an input's language, or an output that is `-` or the empty text, leaves a line's call to nvcc
abbrev pub language_reason : Asked → Option Reason
language_reason a =
    if is_cuda a then None
    else if is_host a then reason_unless (makes_objects (phase_of a)) HostSource
    else Some NotSource

abbrev pub output_reason : Asked → Option Reason
output_reason a =
    if is_some a.output then reason_unless (not (length (value_of a.output) == 0) && not (bytes_eq (value_of a.output) (codes "-"))) StandardOutput
    else reason_unless (not (is_hidden (input_of a))) HiddenName

-- why a line's call is left to nvcc, in order: what an item says; unknown words that nvcc doesn't forward; phases; inputs;
-- the input's language; the output; the dependency file
abbrev pub reason_of : Asked → Option Reason
reason_of a =
    fold option_or a.refusal
    (reason_unless ((length a.unknown == 0) || not (length a.forwards == 0)) UnknownOption
    ∷ reason_unless (not (length a.phases == 0)) Links
    ∷ reason_unless (not (differ a.phases)) SeveralPhases
    ∷ reason_unless (not (length a.inputs == 0)) NoInput
    ∷ reason_unless (nat_le (length a.inputs) 1) SeveralInputs
    ∷ language_reason a
    ∷ output_reason a
    ∷ reason_unless (has_usual_dependencies a) DependencyWords
    ∷ [])

-- words with an option's value behind them, if it is given: in the option's word, or as the next word
abbrev pub with_joined : List ℕ → Option (List ℕ) → List (List ℕ) → List (List ℕ)
with_joined name None words = words
with_joined name (Some value) words = words ++ (name ++ value) ∷ []

abbrev pub with_next : List ℕ → Option (List ℕ) → List (List ℕ) → List (List ℕ)
with_next name None words = words
with_next name (Some value) words = words ++ name ∷ value ∷ []

-- words with those of the options of which only the last value is kept
abbrev pub with_last_values : Asked → List (List ℕ) → List (List ℕ)
with_last_values a words =
    with_next (codes "-MT") a.dependency_target
    (with_next (codes "-MF") a.dependency_file
    (with_joined (codes "--keep-dir=") a.keep_directory
    (with_joined (codes "--threads=") a.threads
    (with_joined (codes "-x=") a.language
    (with_joined (codes "--output-directory=") a.directory words)))))

-- nvcc's reading of a line, with the line's normal form: the phase, `-o` and the output, the other options in their
-- order, those of which only the last value is kept, and the input
abbrev pub normal_words : Asked → List ℕ → List (List ℕ)
normal_words a output = with_last_values a (phase_of a ∷ codes "-o" ∷ output ∷ a.kept) ++ input_of a ∷ []

abbrev pub unless_refused : Option Reason → Call → Result Call Reason
unless_refused None call = Ok call
unless_refused (Some reason) call = Err reason

abbrev pub settled : Asked → Result Call Reason
settled a =
    unless_refused (reason_of a)
    (record { flag = phase_of a; input = input_of a; output = output_of a; words = normal_words a (output_of a) })

-- what words ask for, given the options files by name and text, unless nvcc's shell may expand one
abbrev pub asked_by : List (List ℕ × List ℕ) → List (List ℕ) → Result Asked Reason
asked_by files words = if list_all is_unexpanded words then Ok (asked_of files words) else Err ShellCharacter

-- nvcc's reading of a line, given the options files, or why its call is left to nvcc
abbrev pub nvcc_call : List (List ℕ × List ℕ) → List (List ℕ) → Result Call Reason
nvcc_call files words = and_then (asked_by files words) settled

-- examples: of two values the last counts, and comes once
abbrev pub object_call : List ℕ → List (List ℕ) → Call
object_call output words = record { flag = codes "-c"; input = codes "k.cu"; output = output; words = words }

pub last_values_count :
    map (nvcc_call []) (spaced "-c k.cu -o a.o --output-file=b.o" ∷ spaced "-MF a.d -MT s -MD -MT t -g -MF b.d -c k.cu" ∷ [])
    ≡ Ok (object_call (codes "b.o") (spaced "-c -o b.o k.cu")) ∷ Ok (object_call (codes "k.o") (spaced "-c -o k.o -MD -g -MF b.d -MT t k.cu")) ∷ []
last_values_count = refl

-- examples: the words of a file count where it is named, no value comes from behind it, and it may neither name another nor be missing
pub words_of_files :
    map (nvcc_call ((codes "f", codes "-DA=2 -o k.o\n") ∷ (codes "g", codes "-arch") ∷ (codes "h", codes "-optf f") ∷ []))
    (spaced "-DA=1 -o j.o --options-file f -DA=3 -c k.cu" ∷ spaced "-c k.cu -optf=g sm_80" ∷ spaced "-c k.cu -optf h" ∷ spaced "-c k.cu -optf i" ∷ [])
    ≡ Ok (object_call (codes "k.o") (spaced "-c -o k.o -DA=1 -DA=2 -DA=3 k.cu")) ∷ Err MissingValue ∷ Err OptionsFile ∷ Err OptionsFile ∷ []
unfolding chars lib.Utf8.encode
words_of_files = refl

-- The verdict on a line: its normal form, if sccache's reader reads that as nvcc does, or why the call goes to nvcc.

-- whether two calls are one
abbrev pub same_call : Call → Call → Bool
same_call a b =
    bytes_eq a.flag b.flag && bytes_eq a.input b.input && bytes_eq a.output b.output && pointwise (pointwise nat_eq) a.words b.words

-- what sccache's reader answers to words, at a working directory, over the gcc profile's options and its own of nvcc
abbrev pub sccache_reading : List ℕ → List (List ℕ) → Reading
sccache_reading cwd words = profile_reading (longest_of_two gcc_entries nvcc_options) cwd false kinds.Nvcc words

-- whether words are read as a call by nvcc
abbrev pub is_call : Result Call Reason → Call → Bool
is_call (Ok read) call = same_call read call
is_call (Err reason) call = false

-- whether sccache's reader reads a call's words as nvcc does: the same input, output and compilation flag
abbrev pub makes : ParsedArguments → List ℕ → Bool
makes p path = option_map_or (λ file. bytes_eq file.path path) (entry_at (codes "obj") p.outputs) false

abbrev pub agrees : Reading → Call → Bool
agrees (accepted p) call =
    bytes_eq p.input call.input && bytes_eq p.compilation_flag call.flag && makes p call.output
agrees (cannot_cache text word) call = false
agrees not_compilation call = false

-- whether a call's words are a normal form: nvcc reads them as this call again, and sccache's reader agrees
abbrev pub is_normal : Call → Bool
is_normal call = is_call (nvcc_call [] call.words) call && agrees (sccache_reading [] call.words) call

abbrev pub judged : Result Call Reason → Verdict
judged (Ok call) = if is_normal call then Split call else Pass OtherReading
judged (Err reason) = Pass reason

-- whether nvcc cuts the value of the first variable of a name at its spaces, as a shell does
abbrev pub is_plain : List ℕ → List (List ℕ × List ℕ) → Bool
is_plain name variables = option_map_or is_cut_at_spaces (first_value name variables) true

-- what a line asks for in an environment, or why its call goes to nvcc whatever it asks for
abbrev pub line_asked : List (List ℕ) → List (List ℕ × List ℕ) → List (List ℕ × List ℕ) → Result Asked Reason
line_asked words variables files =
    if is_plain prepended_name variables && is_plain appended_name variables then asked_by files (with_added_words variables words)
    else Err VariableQuotes

-- the verdict on a line, by what it asks for
abbrev pub verdict : List (List ℕ) → List (List ℕ × List ℕ) → List (List ℕ × List ℕ) → Verdict
verdict words variables files = judged (and_then (line_asked words variables files) settled)

-- the names of the options files that a line names in an environment, in their order
abbrev pub file_names : List (List ℕ) → List (List ℕ × List ℕ) → List (List ℕ)
file_names words variables = (asked_of [] (with_added_words variables words)).files
