-- Lines that are read, written back and read again: the law, and its premises.
use Rattle.std.specs.Prelude.{◌≡◌, ℕ, ◌≤◌, List, ◌++◌, Bool, true, Option, Some, Ok, IfSome, length, filter}
use Rattle.std.specs.List.{AllByRecursion, flat_map, remove}
use Rattle.texts.specs.declared.language.Language.{Language}
use Rattle.texts.specs.declared.language.Language.TheVariants.{Ptx, CudaFE, Cubin}
use Rattle.compilers.specs.declared.arguments.ParsedArguments.{ParsedArguments}
use Rattle.compilers.specs.declared.command.SingleCompileCommand.{SingleCompileCommand}
use Rattle.compilers.specs.declared.command.Cacheable.{Cacheable}
use Rattle.texts.specs.Path.{is_absolute_path}
use Rattle.compilers.specs.Table.{Entry, longest_match}
use Rattle.compilers.specs.Items.{Item, faulty, items, words_of}
use Rattle.compilers.specs.WordsLaw.{is_whole}
use Rattle.device_lines.specs.declared.options.ArgData.{ArgData}
use Rattle.device_lines.specs.Cicc.{cicc_options}
use Rattle.device_lines.specs.CudaFE.{cudafe_options}
use Rattle.device_lines.specs.Ptxas.{ptxas_options}
use Rattle.device_lines.specs.Reading.{is_input_word, common_items, unhashed_items, input_place, reading}
use Rattle.compilers.specs.Command.{written}
use Rattle.device_lines.specs.DeviceWords.{cicc_words, cudafe_words}

module _ {T : Type 0} where
  -- whether no value that an item has is both joined to its option and empty: it is faulty or whole
  abbrev pub is_filled : Item T → Bool
  is_filled faulty = true
  is_filled i = is_whole i

  -- no item of a list has a value that is both joined and empty
  abbrev pub AllFilled : List (Item T) → Type 0
  AllFilled is = AllByRecursion (λ i. is_filled i ≡ true) is

module _ (chosen : List ℕ → Option (Entry ArgData)) where
  -- the common words and the unhashed words of a line from which the input was cut out
  abbrev pub common_words : List (List ℕ) → List (List ℕ)
  common_words line = flat_map words_of (common_items (items chosen line))

  abbrev pub unhashed_words : List (List ℕ) → List (List ℕ)
  unhashed_words line = flat_map words_of (unhashed_items (items chosen line))

  -- a line's common words and then its unhashed ones are read as the items that they were written for
  abbrev pub KeptWordsReadBack : Type 0
  KeptWordsReadBack =
      (line : List (List ℕ)) → AllFilled (items chosen line) → items chosen (common_words line ++ unhashed_words line)
      ≡ common_items (items chosen line) ++ unhashed_items (items chosen line)

  -- and as a line they have the same common words and the same unhashed ones
  abbrev pub KeptWordsStay : Type 0
  KeptWordsStay =
      (line : List (List ℕ)) → AllFilled (items chosen line)
      → (common_words (common_words line ++ unhashed_words line) ≡ common_words line)
      × (unhashed_words (common_words line ++ unhashed_words line) ≡ unhashed_words line)

-- at most one word of a line ends like the input of the tool that writes this kind of file
abbrev pub AtMostOneInputWord : Language → List (List ℕ) → Type 0
AtMostOneInputWord language words = length (filter (is_input_word language) words) ≤ 1

-- no option of a line has an empty value joined to it; the input doesn't belong to an option
abbrev pub NoEmptyValue : List (Entry ArgData) → Language → ℕ → List (List ℕ) → Type 0
NoEmptyValue options language offset words =
    IfSome (input_place language offset words) (λ place. AllFilled (items (longest_match options) (remove words place)))

-- a line rereads: if it can be read and written back, the words of the command that it is written back as are read, at the
-- same working directory, as the same arguments
abbrev pub Rereads : List (Entry ArgData) → Language → ℕ → (ParsedArguments → List ℕ → List (List ℕ)) → List ℕ → List (List ℕ) → Type 0
Rereads options language offset words_to_write cwd words =
    (arguments : ParsedArguments) (executable : List ℕ) (env_vars : List (List ℕ × List ℕ)) (command : SingleCompileCommand × Cacheable) →
    reading (longest_match options) cwd language offset words ≡ Some arguments →
    written words_to_write executable arguments cwd env_vars ≡ Ok command →
    reading (longest_match options) cwd language offset command.0.arguments ≡ Some arguments

-- cicc's lines reread at an absolute working directory, if at most one word has the input's suffix
abbrev pub CiccLinesReread : Type 0
CiccLinesReread =
    (cwd : List ℕ) (words : List (List ℕ)) → is_absolute_path cwd ≡ true → AtMostOneInputWord Ptx words → Rereads cicc_options Ptx 3 cicc_words cwd words

-- so do ptxas's, if also no option has an empty value joined to it
abbrev pub PtxasLinesReread : Type 0
PtxasLinesReread =
    (cwd : List ℕ) (words : List (List ℕ)) → is_absolute_path cwd ≡ true → AtMostOneInputWord Cubin words
    → NoEmptyValue ptxas_options Cubin 3 words → Rereads ptxas_options Cubin 3 cicc_words cwd words

-- cudafe++'s lines reread at every absolute working directory
abbrev pub CudaFELinesReread : Type 0
CudaFELinesReread = (cwd : List ℕ) (words : List (List ℕ)) → is_absolute_path cwd ≡ true → Rereads cudafe_options CudaFE 1 cudafe_words cwd words

-- The same without one premise, for each tool and each of its premises. None of these holds.

-- ptxas's lines, even with an empty value that is joined to its option
abbrev pub PtxasLinesRereadWithEmptyValues : Type 0
PtxasLinesRereadWithEmptyValues =
    (cwd : List ℕ) (words : List (List ℕ)) → is_absolute_path cwd ≡ true → AtMostOneInputWord Cubin words → Rereads ptxas_options Cubin 3 cicc_words cwd words

-- cicc's and ptxas's lines, even with several words that have the input's suffix
abbrev pub CiccLinesRereadWithSeveralInputs : Type 0
CiccLinesRereadWithSeveralInputs = (cwd : List ℕ) (words : List (List ℕ)) → is_absolute_path cwd ≡ true → Rereads cicc_options Ptx 3 cicc_words cwd words

abbrev pub PtxasLinesRereadWithSeveralInputs : Type 0
PtxasLinesRereadWithSeveralInputs =
    (cwd : List ℕ) (words : List (List ℕ)) → is_absolute_path cwd ≡ true
    → NoEmptyValue ptxas_options Cubin 3 words → Rereads ptxas_options Cubin 3 cicc_words cwd words

-- each tool's lines, at any working directory
abbrev pub CiccLinesRereadAnywhere : Type 0
CiccLinesRereadAnywhere = (cwd : List ℕ) (words : List (List ℕ)) → AtMostOneInputWord Ptx words → Rereads cicc_options Ptx 3 cicc_words cwd words

abbrev pub PtxasLinesRereadAnywhere : Type 0
PtxasLinesRereadAnywhere =
    (cwd : List ℕ) (words : List (List ℕ)) → AtMostOneInputWord Cubin words
    → NoEmptyValue ptxas_options Cubin 3 words → Rereads ptxas_options Cubin 3 cicc_words cwd words

abbrev pub CudaFELinesRereadAnywhere : Type 0
CudaFELinesRereadAnywhere = (cwd : List ℕ) (words : List (List ℕ)) → Rereads cudafe_options CudaFE 1 cudafe_words cwd words
