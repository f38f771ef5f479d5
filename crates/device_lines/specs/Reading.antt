-- How the lines of device tools are read: cicc, cudafe++ and ptxas share this.
use Rattle.std.specs.Prelude.{ℕ, ◌-◌, List, [], ◌∷◌, ◌++◌, Bool, true, false, ◌&&◌, ◌||◌, if◌then◌else◌, nat_lt, nat_le, Option, Some, None, length, map, position, filter, codes, slice_index_or, option_map, option_to_list}
use Rattle.std.specs.List.{filter_map, flat_map, list_any, remove}
use Rattle.std.specs.Option.{option_or}
use Rattle.texts.specs.declared.language.Language.{Language}
use Rattle.texts.specs.declared.language.Language.TheVariants.{Ptx, Cubin}
use Rattle.compilers.specs.declared.outputs.ArtifactDescriptor.{ArtifactDescriptor}
use Rattle.compilers.specs.declared.table.ArgDisposition.TheVariants.{Separated}
use Rattle.compilers.specs.declared.arguments.ParsedArguments.{ParsedArguments}
use Rattle.compilers.specs.Arguments.{plain_arguments}
use Rattle.texts.specs.DeviceFiles.{is_cicc_word, is_ptxas_word}
use Rattle.texts.specs.Lists.{last_of}
use Rattle.texts.specs.Path.{joined}
use Rattle.compilers.specs.Outputs.{entries_from}
use Rattle.compilers.specs.Compiler.{Reading, accepted, not_compilation}
use Rattle.compilers.specs.Table.{Entry, longest_match}
use Rattle.compilers.specs.Items.{Item, raw, unknown_flag, items, words_of, kind_of, text_of, value_of}
use Rattle.device_lines.specs.declared.options.ArgData.{ArgData}
use Rattle.device_lines.specs.declared.options.ArgData.TheVariants.{Output, PassThrough, UnhashedFlag, GenModuleIdFileFlag, ModuleIdFileName, UnhashedPassThrough, UnhashedOutput}

-- an option without a value, and one whose value is the next word
abbrev pub plain_flag : List ℕ → ArgData → Entry ArgData
plain_flag text kind = record { text = text; kind = kind; form = None }

abbrev pub separated : List ℕ → ArgData → Entry ArgData
separated text kind = record { text = text; kind = kind; form = Some Separated }

-- whether a word ends like the input of the tool that writes this kind of file
abbrev pub is_input_word : Language → List ℕ → Bool
is_input_word Ptx word = is_cicc_word word
is_input_word Cubin word = is_ptxas_word word
is_input_word _ word = false

-- the position that is `offset` words from the end, if the line is that long
abbrev pub place_from_end : ℕ → ℕ → Option ℕ
place_from_end offset count = if nat_lt 0 offset && nat_le offset count then Some (count - offset) else None

-- the position of the input: of the first word that ends like it, else by the offset from the end
abbrev pub input_place : Language → ℕ → List (List ℕ) → Option ℕ
input_place language offset words = option_or (position (is_input_word language) words) (place_from_end offset (length words))

-- the kinds whose words are common, and those whose words are unhashed
abbrev pub is_common_kind : Option ArgData → Bool
is_common_kind (Some PassThrough) = true
is_common_kind (Some GenModuleIdFileFlag) = true
is_common_kind (Some ModuleIdFileName) = true
is_common_kind _ = false

abbrev pub is_unhashed_kind : Option ArgData → Bool
is_unhashed_kind (Some UnhashedFlag) = true
is_unhashed_kind (Some UnhashedPassThrough) = true
is_unhashed_kind (Some UnhashedOutput) = true
is_unhashed_kind _ = false

-- whether an item is an unknown flag; whether it is a raw word
abbrev pub is_unknown : Item ArgData → Bool
is_unknown (unknown_flag word) = true
is_unknown _ = false

abbrev pub is_raw : Item ArgData → Bool
is_raw (raw word) = true
is_raw _ = false

-- each item, and whether an unknown flag comes right before it
abbrev pub beside : Bool → List (Item ArgData) → List (Bool × Item ArgData)
beside after_unknown [] = []
beside after_unknown (i ∷ is) = (after_unknown, i) ∷ beside (is_unknown i) is

-- common items are unknown flags, options of a common kind, and raw words right after an unknown flag
abbrev pub is_common : Bool × Item ArgData → Bool
is_common p = is_unknown p.1 || is_common_kind (kind_of p.1) || (is_raw p.1 && p.0)

abbrev pub common_items : List (Item ArgData) → List (Item ArgData)
common_items is = map (λ p. p.1) (filter is_common (beside false is))

-- unhashed items are the options of an unhashed kind
abbrev pub unhashed_items : List (Item ArgData) → List (Item ArgData)
unhashed_items is = filter (λ i. is_unhashed_kind (kind_of i)) is

-- an output at a path
abbrev pub made_at : Bool → List ℕ → ArtifactDescriptor
made_at optional path = record { path = path; optional = optional }

-- the output that an item of a kind names: the main one, or one under the option's text
abbrev pub output_of_kind : List ℕ → Option ArgData → Item ArgData → Option (List ℕ × ArtifactDescriptor)
output_of_kind cwd (Some Output) i = Some (codes "obj", made_at false (joined cwd (value_of i)))
output_of_kind cwd (Some UnhashedOutput) i = option_map (λ text. (text, made_at false (joined cwd (value_of i)))) (text_of i)
output_of_kind cwd _ i = None

abbrev pub output_of : List ℕ → Item ArgData → Option (List ℕ × ArtifactDescriptor)
output_of cwd i = output_of_kind cwd (kind_of i) i

-- the module id path that an item names
abbrev pub module_id_of_kind : Option ArgData → List ℕ → Option (List ℕ)
module_id_of_kind (Some ModuleIdFileName) value = Some value
module_id_of_kind _ value = None

abbrev pub module_id_of : Item ArgData → Option (List ℕ)
module_id_of i = module_id_of_kind (kind_of i) (value_of i)

-- whether an item says that the tool writes the module id file
abbrev pub is_generating_kind : Option ArgData → Bool
is_generating_kind (Some GenModuleIdFileFlag) = true
is_generating_kind _ = false

abbrev pub is_generating : Item ArgData → Bool
is_generating i = is_generating_kind (kind_of i)

-- the module id path of a line: the last one that it names
abbrev pub module_id : List (Item ArgData) → Option (List ℕ)
module_id is = last_of (filter_map module_id_of is)

-- if the tool writes the module id file, that file is an optional output, recorded after all others
abbrev pub module_id_output : List ℕ → Bool → Option (List ℕ) → List (List ℕ × ArtifactDescriptor)
module_id_output cwd false id = []
module_id_output cwd true id = option_to_list (option_map (λ path. (codes "--module_id_file_name", made_at true (joined cwd path))) id)

-- else the tool reads it, and its contents affect the output
abbrev pub module_id_file : List ℕ → Bool → Option (List ℕ) → List (List ℕ)
module_id_file cwd true id = []
module_id_file cwd false id = option_to_list (option_map (joined cwd) id)

-- the outputs of a line's items: the last of each key
abbrev pub outputs_of : List ℕ → List (Item ArgData) → List (List ℕ × ArtifactDescriptor)
outputs_of cwd is = entries_from (filter_map (output_of cwd) is ++ module_id_output cwd (list_any is_generating is) (module_id is))

-- what the items of a line and its input are read as
abbrev pub reading_of_items : List ℕ → Language → List ℕ → List (Item ArgData) → ParsedArguments
reading_of_items cwd language input is = record (plain_arguments input language (outputs_of cwd is)) {
  common_args = flat_map words_of (common_items is);
  unhashed_args = flat_map words_of (unhashed_items is);
  extra_dist_files = module_id_file cwd (list_any is_generating is) (module_id is);
  extra_hash_files = module_id_file cwd (list_any is_generating is) (module_id is);
}

-- what a line is read as over a table, with its input at a position: the input is cut out, and the other words are read as
-- items
abbrev pub reading_around : (List ℕ → Option (Entry ArgData)) → List ℕ → Language → List (List ℕ) → ℕ → ParsedArguments
reading_around chosen cwd language words place = reading_of_items cwd language (slice_index_or words place []) (items chosen (remove words place))

-- what a line is read as over a table; nothing if it has no input
abbrev pub reading : (List ℕ → Option (Entry ArgData)) → List ℕ → Language → ℕ → List (List ℕ) → Option ParsedArguments
reading chosen cwd language offset words = option_map (reading_around chosen cwd language words) (input_place language offset words)

-- the same as a reader's answer: a line without an input is no compilation
abbrev pub reading_as_answer : Option ParsedArguments → Reading
reading_as_answer None = not_compilation
reading_as_answer (Some arguments) = accepted arguments

abbrev pub line_reading : (List ℕ → Option (Entry ArgData)) → List ℕ → Language → ℕ → List (List ℕ) → Reading
line_reading chosen cwd language offset words = reading_as_answer (reading chosen cwd language offset words)

-- the same over a list of options
abbrev pub tool_reading : List (Entry ArgData) → List ℕ → Language → ℕ → List (List ℕ) → Reading
tool_reading options cwd language offset words = line_reading (longest_match options) cwd language offset words
