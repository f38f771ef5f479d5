-- What a gcc command line asks for, item by item.
use Rattle.std.specs.Prelude.{ℕ, List, [], ◌∷◌, Bool, true, false, ◌==◌, if◌then◌else◌, map, filter, fold, length, Option, Some, None, is_some, option_to_list, codes, bytes_eq}
use Rattle.std.specs.List.{flat_map, list_any}
use Rattle.std.specs.Option.{option_and_then, option_or}
use Rattle.std.specs.Map.{lookup}
use Rattle.texts.specs.declared.language.Language.{Language}
use Rattle.texts.specs.declared.language.Language.TheVariants.{C, Cxx, ObjectiveC, ObjectiveCxx, Cuda}
use Rattle.compilers.specs.declared.items.NormalizedDisposition.{NormalizedDisposition}
use Rattle.compilers.specs.declared.items.NormalizedDisposition.TheVariants as normal
use Rattle.host_lines.specs.declared.gcc.options.ArgData.{ArgData}
use Rattle.host_lines.specs.declared.gcc.options.ArgData.TheVariants.{TooHard, TooHardFlag, PassThrough, PassThroughFlag, PreprocessorArgument, PreprocessorArgumentFlag, PreprocessorArgumentPath, DepArgumentPath, DepTarget, NeedDepTarget, DoCompilation, Output, Language as LanguageOption, Arch, Standard, ExtraHashFile, Unhashed, UnhashedFlag}
use Rattle.texts.specs.Path.{joined}
use Rattle.compilers.specs.Table.{Entry}
use Rattle.compilers.specs.Items.{Item, raw, unknown_flag, flag, with_value, faulty, item, option, said_of, last_item, separate_item, items, normalized, words_of, text_of}

module _ {T : Type 0} where
  -- whether an item is the unknown flag `--`
  abbrev pub is_double_dash : Item T → Bool
  is_double_dash (unknown_flag word) = bytes_eq word (codes "--")
  is_double_dash _ = false

module _ {T : Type 0} (chosen : List ℕ → Option (Entry T)) where
  -- the items of a line over a table, of which the first unknown flag `--` is taken out, and each word after it is
  -- a raw item
  abbrev pub items_to_dashes : List (List ℕ) → List (Item T)
  items_to_dashes [] = []
  items_to_dashes (w ∷ []) = elim (said_of w (chosen w)) [ item i ↦ if is_double_dash i then [] else i ∷ [] | option e ↦ last_item e ∷ [] ]
  items_to_dashes (w ∷ x ∷ rest) = elim (said_of w (chosen w)) [
    | item i ↦ if is_double_dash i then map raw (x ∷ rest) else i ∷ items_to_dashes (x ∷ rest)
    | option e ↦ separate_item e x ∷ items_to_dashes rest
  ]

  -- whether an item of a line is the unknown flag `--`
  abbrev pub has_double_dash : List (List ℕ) → Bool
  has_double_dash line = list_any is_double_dash (items chosen line)

-- the language that the option for it names
abbrev pub language_named : List ℕ → Option Language
language_named name = lookup (bytes_eq name) (
    (codes "c", C) ∷ (codes "c++", Cxx) ∷ (codes "objective-c", ObjectiveC) ∷ (codes "objective-c++", ObjectiveCxx)
    ∷ (codes "cu", Cuda) ∷ (codes "cuda", Cuda) ∷ [])

-- the name that the option for the language has for it
abbrev pub name_of_language : Language → Option (List ℕ)
name_of_language C = Some (codes "c")
name_of_language Cxx = Some (codes "c++")
name_of_language ObjectiveC = Some (codes "objective-c")
name_of_language ObjectiveCxx = Some (codes "objective-c++")
name_of_language Cuda = Some (codes "cu")
name_of_language _ = None

-- the text that an option refuses with, of its text, value and kind
abbrev pub refusal_of_option : List ℕ → List ℕ → ArgData → Option (List ℕ)
refusal_of_option text value TooHard = Some text
refusal_of_option text value TooHardFlag = Some text
refusal_of_option text value LanguageOption = if is_some (language_named value) then None else Some (codes "-x")
refusal_of_option text value _ = None

-- the text that an item refuses with
abbrev pub refusal_of : Item ArgData → Option (List ℕ)
refusal_of (raw word) = None
refusal_of (unknown_flag word) = None
refusal_of (flag text kind) = refusal_of_option text [] kind
refusal_of (with_value text kind value form) = refusal_of_option text value kind
refusal_of faulty = Some (codes "argument parse")

-- the text of the first item that refuses
abbrev pub first_refusal : List (Item ArgData) → Option (List ℕ)
first_refusal [] = None
first_refusal (i ∷ is) = option_or (refusal_of i) (first_refusal is)

-- the lists that words go to
pub data Destination : Type 0 where
  inputs : Destination
  common : Destination
  preprocessor : Destination
  unhashed : Destination
  architectures : Destination
  dependencies : Destination
  nowhere : Destination

-- the list that an option's words go to
abbrev pub destination_of_kind : ArgData → Destination
destination_of_kind PassThrough = common
destination_of_kind PassThroughFlag = common
destination_of_kind PreprocessorArgument = preprocessor
destination_of_kind PreprocessorArgumentFlag = preprocessor
destination_of_kind PreprocessorArgumentPath = preprocessor
destination_of_kind DepArgumentPath = dependencies
destination_of_kind NeedDepTarget = dependencies
destination_of_kind Arch = architectures
destination_of_kind Standard = common
destination_of_kind ExtraHashFile = common
destination_of_kind Unhashed = unhashed
destination_of_kind UnhashedFlag = unhashed
destination_of_kind _ = nowhere

abbrev pub destination_of : Item ArgData → Destination
destination_of (raw word) = inputs
destination_of (unknown_flag word) = common
destination_of (flag text kind) = destination_of_kind kind
destination_of (with_value text kind value form) = destination_of_kind kind
destination_of faulty = nowhere

-- whether two lists are the same one; `nowhere` is none
abbrev pub same_list : (list other : Destination) → Bool
same_list inputs inputs = true
same_list common common = true
same_list preprocessor preprocessor = true
same_list unhashed unhashed = true
same_list architectures architectures = true
same_list dependencies dependencies = true
same_list _ _ = false

-- how an item is written that may be written both ways: in one word if its option's text has two bytes
abbrev pub written_form : Option (List ℕ) → NormalizedDisposition
written_form None = normal.Separated
written_form (Some text) = if length text == 2 then normal.Concatenated else normal.Separated

-- the words of the items that go to a list, in the order of the items
abbrev pub words_to : Destination → List (Item ArgData) → List (List ℕ)
words_to list is = flat_map (λ i. words_of (normalized (written_form (text_of i)) i)) (filter (λ i. same_list list (destination_of i)) is)

-- whether a kind is this one, of the kinds whose items say something besides their words
abbrev pub is_kind : ArgData → ArgData → Bool
is_kind ExtraHashFile ExtraHashFile = true
is_kind NeedDepTarget NeedDepTarget = true
is_kind DepArgumentPath DepArgumentPath = true
is_kind DepTarget DepTarget = true
is_kind DoCompilation DoCompilation = true
is_kind Output Output = true
is_kind LanguageOption LanguageOption = true
is_kind _ _ = false

-- what an option of such a kind says, of its text and value, and nothing for any other item
abbrev pub said_of_kind : {B : Type 0} → ArgData → (List ℕ → List ℕ → B) → Item ArgData → Option B
said_of_kind saying say (flag text kind) = if is_kind saying kind then Some (say text []) else None
said_of_kind saying say (with_value text kind value form) = if is_kind saying kind then Some (say text value) else None
said_of_kind saying say _ = None

-- what the last item says of those that say something
abbrev pub last_said : {A B : Type 0} → (A → Option B) → List A → Option B
last_said say is = fold (λ before i. option_or (say i) before) None is

-- the paths of files whose contents are part of a cache key, below the working directory
abbrev pub hash_files : List ℕ → List (Item ArgData) → List (List ℕ)
hash_files cwd is = flat_map (λ i. option_to_list (said_of_kind ExtraHashFile (λ text value. joined cwd value) i)) is

-- what an item says: the text of a flag that asks for a compilation, the language that an option names, the path of
-- an output or a dependency file, the two words of a target, and that a target is needed
abbrev pub flag_said : Item ArgData → Option (List ℕ)
flag_said = said_of_kind DoCompilation (λ text value. text)

abbrev pub language_said : Item ArgData → Option Language
language_said i = option_and_then language_named (said_of_kind LanguageOption (λ text value. value) i)

abbrev pub output_said : Item ArgData → Option (List ℕ)
output_said = said_of_kind Output (λ text value. value)

abbrev pub dependency_file_said : Item ArgData → Option (List ℕ)
dependency_file_said = said_of_kind DepArgumentPath (λ text value. value)

abbrev pub target_said : Item ArgData → Option (List (List ℕ))
target_said = said_of_kind DepTarget (λ text value. text ∷ value ∷ [])

abbrev pub needs_target_item : Item ArgData → Bool
needs_target_item i = is_some (said_of_kind NeedDepTarget (λ text value. text) i)

-- what the items of a line ask for: the words that are no options, and whether `--` stood before some of them; the
-- language that an option names; the flag that asks for a compilation; the paths of the file that is made and of the
-- dependency file; whether that needs a target, and the two words that name it; and the words of each list
pub record Asked : Type 0 where
  pub inputs : List (List ℕ)
  pub double_dash_input : Bool
  pub language : Option Language
  pub compilation_flag : Option (List ℕ)
  pub obj : Option (List ℕ)
  pub dependency_file : Option (List ℕ)
  pub target_needed : Bool
  pub target : Option (List (List ℕ))
  pub common_args : List (List ℕ)
  pub preprocessor_args : List (List ℕ)
  pub arch_args : List (List ℕ)
  pub unhashed_args : List (List ℕ)
  pub dependency_args : List (List ℕ)
  pub extra_hash_files : List (List ℕ)

-- what the items of a line ask for, of the working directory, whether `--` stands there, and the items
abbrev pub asked_of : List ℕ → Bool → List (Item ArgData) → Asked
asked_of cwd dashes is = record {
  inputs = words_to inputs is;
  double_dash_input = dashes;
  language = last_said language_said is;
  compilation_flag = last_said flag_said is;
  obj = last_said output_said is;
  dependency_file = last_said dependency_file_said is;
  target_needed = list_any needs_target_item is;
  target = last_said target_said is;
  common_args = words_to common is;
  preprocessor_args = words_to preprocessor is;
  arch_args = words_to architectures is;
  unhashed_args = words_to unhashed is;
  dependency_args = words_to dependencies is;
  extra_hash_files = hash_files cwd is;
}
