-- What one more item changes in what a gcc command line asks for: a step of the reader.
use Rattle.std.specs.Prelude.{ℕ, List, [], ◌∷◌, ◌++◌, true, Some}
use Rattle.std.specs.Option.{option_or}
use Rattle.host_lines.specs.declared.gcc.options.ArgData.{ArgData}
use Rattle.host_lines.specs.declared.gcc.options.ArgData.TheVariants.{DepArgumentPath, DepTarget, NeedDepTarget, DoCompilation, Output, Language, ExtraHashFile}
use Rattle.host_lines.specs.declared.gcc.gathered.Gathered.{Gathered}
use Rattle.texts.specs.Path.{joined}
use Rattle.compilers.specs.Items.{Item, raw, unknown_flag, flag, with_value, faulty, normal_form, value_words}
use Rattle.host_lines.specs.GccItems.{Asked, Destination, inputs, common, preprocessor, unhashed, architectures, dependencies, nowhere, destination_of_kind, language_named, written_form}

-- what the items ask for, as the code has it
abbrev pub asked_by : Gathered → Asked
asked_by g = record {
  inputs = g.inputs;
  double_dash_input = g.double_dash_input;
  language = g.language;
  compilation_flag = g.compilation_flag;
  obj = g.obj;
  dependency_file = g.dependency_file;
  target_needed = g.target_needed;
  target = g.target;
  common_args = g.common_args;
  preprocessor_args = g.preprocessor_args;
  arch_args = g.arch_args;
  unhashed_args = g.unhashed_args;
  dependency_args = g.dependency_args;
  extra_hash_files = g.extra_hash_files;
}

-- words, put last in a list
abbrev pub with_words : Destination → List (List ℕ) → Asked → Asked
with_words inputs words a = record a { inputs = a.inputs ++ words }
with_words common words a = record a { common_args = a.common_args ++ words }
with_words preprocessor words a = record a { preprocessor_args = a.preprocessor_args ++ words }
with_words unhashed words a = record a { unhashed_args = a.unhashed_args ++ words }
with_words architectures words a = record a { arch_args = a.arch_args ++ words }
with_words dependencies words a = record a { dependency_args = a.dependency_args ++ words }
with_words nowhere words a = a

-- what an option says besides its words, by its text, value and kind
abbrev pub with_note : List ℕ → Asked → List ℕ → List ℕ → ArgData → Asked
with_note cwd a text value ExtraHashFile = record a { extra_hash_files = a.extra_hash_files ++ joined cwd value ∷ [] }
with_note cwd a text value NeedDepTarget = record a { target_needed = true }
with_note cwd a text value DepArgumentPath = record a { dependency_file = Some value }
with_note cwd a text value DepTarget = record a { target = Some (text ∷ value ∷ []) }
with_note cwd a text value DoCompilation = record a { compilation_flag = Some text }
with_note cwd a text value Output = record a { obj = Some value }
with_note cwd a text value Language = record a { language = option_or (language_named value) a.language }
with_note cwd a text value _ = a

-- an option's text, value and words, by its kind
abbrev pub with_option : List ℕ → Asked → List ℕ → List ℕ → List (List ℕ) → ArgData → Asked
with_option cwd a text value words kind = with_words (destination_of_kind kind) words (with_note cwd a text value kind)

-- an item; a faulty one asks for nothing
abbrev pub with_item : List ℕ → Asked → Item ArgData → Asked
with_item cwd a (raw word) = with_words inputs (word ∷ []) a
with_item cwd a (unknown_flag word) = with_words common (word ∷ []) a
with_item cwd a (flag text kind) = with_option cwd a text [] (text ∷ []) kind
with_item cwd a (with_value text kind value form) = with_option cwd a text value (value_words text value (normal_form (written_form (Some text)) form)) kind
with_item cwd a faulty = a
