-- What a line asks nvcc for, item by item, as nvcc reads it.
use Rattle.std.specs.Prelude.{◌≡◌, ℕ, List, [], ◌∷◌, ◌++◌, Bool, not, ◌&&◌, ◌==◌, length, is_some, if◌then◌else◌, Option, Some, None, fold, refl, codes, bytes_eq}
use Rattle.std.specs.Option.{option_or, option_map_or}
use Rattle.std.specs.List.{list_all}
use Rattle.host_lines.specs.GccOptions.{gcc_entries}
use Rattle.host_lines.specs.NvccOptions.{nvcc_options}
use Rattle.compilers.specs.Table.{Entry, longest_match, longest_of_two}
use Rattle.compilers.specs.Items.{Item, raw, unknown_flag, flag, with_value, faulty, items}
use Rattle.nvcc_calls.specs.declared.asked.Asked.{Asked}
use Rattle.nvcc_calls.specs.declared.options.Purpose.{Purpose}
use Rattle.nvcc_calls.specs.declared.options.Purpose.TheVariants.{Define, Dependencies, DependencyFile, DependencyPhonies, DependencyTarget, File, Forward, Include, Keep, KeepDirectory, Language, OptimizationInfo, Output, OutputDirectory, Passes, Phase, PreInclude, Quoted, TargetDirectory, Threads, Undefine, Unquoted}
use Rattle.nvcc_calls.specs.declared.reason.Reason.{Reason}
use Rattle.nvcc_calls.specs.declared.reason.Reason.TheVariants.{UnknownOption, MissingValue, BadValue, OptionsFile, ShellCharacter}
use Rattle.nvcc_calls.specs.Options.{nvcc_entries}
use Rattle.nvcc_calls.specs.Words.{has_no_operator, is_number, is_language, is_joinable, is_unexpanded, equals_word, words_of_file}

-- a line that asks for nothing
abbrev pub nothing_asked : Asked
nothing_asked = record {
  refusal = None;
  phases = [];
  inputs = [];
  output = None;
  directory = None;
  language = None;
  threads = None;
  keep_directory = None;
  dependencies = [];
  phonies = [];
  dependency_file = None;
  dependency_target = None;
  files = [];
  forwards = [];
  unknown = [];
  kept = [];
  options = [];
}

-- the name of an option without the `=` of its longer spelling, so both spellings of `-O3` have one name
abbrev pub bare_name : List ℕ → List ℕ
bare_name text =
    if bytes_eq text (codes "-O=") then codes "-O" else
    if bytes_eq text (codes "-L=") then codes "-L" else
    if bytes_eq text (codes "-l=") then codes "-l" else text

-- a reason, unless all is well
abbrev pub reason_unless : Bool → Reason → Option Reason
reason_unless is_well reason = if is_well then None else Some reason

-- why an option with this value leaves the call to nvcc. If the value is empty, the last word may be an option without its value
abbrev pub value_refusal : List ℕ → Purpose → Option Reason
value_refusal value (Passes reason) = Some reason
value_refusal value Unquoted = if length value == 0 then Some BadValue else reason_unless (has_no_operator value) ShellCharacter
value_refusal value Quoted = reason_unless (not (length value == 0)) BadValue
value_refusal value Define = reason_unless (is_joinable value) BadValue
value_refusal value Undefine = reason_unless (is_joinable value) BadValue
value_refusal value Include = reason_unless (is_joinable value) BadValue
value_refusal value Language = reason_unless (is_language value) BadValue
value_refusal value Threads = reason_unless (is_number value) BadValue
value_refusal value File = Some OptionsFile
value_refusal value _ = None

-- a refusal, unless there was one before
abbrev pub with_refusal : Option Reason → Asked → Asked
with_refusal reason a = record a { refusal = option_or a.refusal reason }

-- an option that a plan of the line has to keep, by name and value, and its words in a normal form. It does by itself what phases, outputs,
-- kept files, dependency files and threads are about. A flag has the empty value
abbrev pub with_kept : List ℕ → List ℕ → List (List ℕ) → Asked → Asked
with_kept name value words a = record a { options = a.options ++ (name, value) ∷ []; kept = a.kept ++ words }

-- a flag
abbrev pub with_flag : Asked → List ℕ → Purpose → Asked
with_flag a text Phase = record a { phases = a.phases ++ text ∷ [] }
with_flag a text Keep = record a { kept = a.kept ++ text ∷ [] }
with_flag a text Dependencies = record a { dependencies = a.dependencies ++ text ∷ []; kept = a.kept ++ text ∷ [] }
with_flag a text DependencyPhonies = record a { phonies = a.phonies ++ text ∷ []; kept = a.kept ++ codes "-MP" ∷ [] }
with_flag a text Forward = with_kept text [] (text ∷ []) (record a { forwards = a.forwards ++ text ∷ [] })
with_flag a text (Passes reason) = with_kept text [] (text ∷ []) (with_refusal (Some reason) a)
with_flag a text _ = with_kept text [] (text ∷ []) a

-- what an option adds by its value, beside a reason to leave the call to nvcc. An option of which only the last value counts has a place of its own
abbrev pub with_valued : List ℕ → List ℕ → Purpose → Asked → Asked
with_valued text value Output a = record a { output = Some value }
with_valued text value OutputDirectory a = record a { directory = Some value }
with_valued text value Language a = record a { language = Some value }
with_valued text value Threads a = record a { threads = Some value }
with_valued text value KeepDirectory a = record a { keep_directory = Some value }
with_valued text value DependencyFile a = record a { dependency_file = Some value }
with_valued text value DependencyTarget a = record a { dependency_target = Some value }
with_valued text value File a = record a { files = a.files ++ value ∷ [] }
with_valued text value Define a = with_kept (codes "-D") value ((codes "-D" ++ value) ∷ []) a
with_valued text value Undefine a = with_kept (codes "-U") value ((codes "-U" ++ value) ∷ []) a
with_valued text value Include a = with_kept (codes "-I") value ((codes "-I" ++ value) ∷ []) a
with_valued text value PreInclude a = with_kept (codes "-include") value (codes "-include" ∷ value ∷ []) a
with_valued text value OptimizationInfo a = with_kept (codes "--optimization-info") value ((codes "--optimization-info=" ++ value) ∷ []) a
with_valued text value TargetDirectory a = with_kept (codes "--target-directory") value ((codes "--target-directory=" ++ value) ∷ []) a
with_valued text value _ a = with_kept (bare_name text) value (equals_word text value ∷ []) a

-- an option with its value
abbrev pub with_option : Asked → List ℕ → List ℕ → Purpose → Asked
with_option a text value purpose = with_valued text value purpose (with_refusal (value_refusal value purpose) a)

-- whether sccache's reader has an option for a word
pub is_known_to_sccache : List ℕ → Bool
is_known_to_sccache word = is_some (longest_of_two gcc_entries nvcc_options word)

pub known_entries : (word : List ℕ) → is_some (longest_of_two gcc_entries nvcc_options word) ≡ is_known_to_sccache word
unfolding is_known_to_sccache
known_entries word = refl

-- whether a word that nvcc forwards may stay where it is: a shell reads it as one word, sccache's reader has no option for
-- it, and doesn't take it for the end of the options
abbrev pub is_forwardable : List ℕ → Bool
is_forwardable word = has_no_operator word && not (is_known_to_sccache word) && not (bytes_eq word (codes "--"))

-- one more item. The call is left to nvcc if nvcc doesn't know a word and couldn't forward it where it is
abbrev pub with_item : Asked → Item Purpose → Asked
with_item a (raw word) = record a { inputs = a.inputs ++ word ∷ [] }
with_item a (unknown_flag word) =
    with_refusal (reason_unless (is_forwardable word) UnknownOption) (record a { unknown = a.unknown ++ word ∷ []; kept = a.kept ++ word ∷ [] })
with_item a (flag text purpose) = with_flag a text purpose
with_item a (with_value text purpose value form) = with_option a text value purpose
with_item a faulty = with_refusal (Some MissingValue) a

-- the entry that a word chooses
abbrev pub nvcc_entry : List ℕ → Option (Entry Purpose)
nvcc_entry word = longest_match nvcc_entries word

-- what words ask for, after what others asked for, if they name no options file
abbrev pub asked_after : Asked → List (List ℕ) → Asked
asked_after a words = fold with_item a (items nvcc_entry words)

-- the words of an options file, if they are certain: nvcc reads them where the file is named, as a line of their own, so that no
-- option in the file has its value behind it. A file that names another leaves the call to nvcc
abbrev pub with_file_words : Asked → List (List ℕ) → Asked
with_file_words a words = if list_all is_unexpanded words then asked_after a words else with_refusal (Some ShellCharacter) a

-- one more item of a line, given the options files by name and text
abbrev pub with_line_item : List (List ℕ × List ℕ) → Asked → Item Purpose → Asked
with_line_item files a (with_value text File name form) = option_map_or (with_file_words a) (words_of_file files name) (with_option a text name File)
with_line_item files a i = with_item a i

-- what a line asks for, after what others asked for
abbrev pub line_asked_after : List (List ℕ × List ℕ) → Asked → List (List ℕ) → Asked
line_asked_after files a words = fold (with_line_item files) a (items nvcc_entry words)

-- what a line asks for, given the options files
abbrev pub asked_of : List (List ℕ × List ℕ) → List (List ℕ) → Asked
asked_of files words = line_asked_after files nothing_asked words
