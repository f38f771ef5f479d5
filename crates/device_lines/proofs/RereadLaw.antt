-- A line that is written back is read as the same arguments.
use Rattle.std.proofs.Common.{◌≡◌, ℕ, List, [], ◌∷◌, ◌++◌, Bool, true, false, Option, Some, None, Ok, refl, ap, sym, ◌∙◌, subst, append_assoc, append-nil, length, filter, codes, bytes_eq, IfSome, option_map, arith}
use Rattle.std.proofs.Math.Bool.{or-false}
use Rattle.std.proofs.Math.Seq.{get_or-append_seam}
use Rattle.std.specs.List.{AllByRecursion, filter_map, flat_map, list_any, remove, slice_index_or}
use Rattle.std.proofs.lemmas.Grind.{flat_map-append}
use Rattle.std.proofs.lemmas.List.Elements.{filter-append, filter_map-append}
use Rattle.std.proofs.lemmas.List.Folds.{list_any-append}
use Rattle.texts.specs.declared.language.Language.{Language}
use Rattle.texts.specs.declared.language.Language.TheVariants.{CudaFE, Ptx, Cubin}
use Rattle.compilers.specs.declared.outputs.ArtifactDescriptor.{ArtifactDescriptor}
use Rattle.compilers.specs.declared.arguments.ParsedArguments.{ParsedArguments}
use Rattle.compilers.specs.declared.command.SingleCompileCommand.{SingleCompileCommand}
use Rattle.compilers.specs.declared.command.Cacheable.{Cacheable}
use Rattle.compilers.specs.declared.table.ArgDisposition.TheVariants.{Separated}
use Rattle.texts.specs.Path.{is_absolute_path, joined}
use Rattle.compilers.specs.Outputs.{entry_at}
use Rattle.compilers.specs.Table.{Entry, longest_match}
use Rattle.compilers.specs.Items.{Item, with_value, items, words_of, kind_of}
use Rattle.device_lines.specs.declared.options.ArgData.{ArgData}
use Rattle.device_lines.specs.declared.options.ArgData.TheVariants.{Output}
use Rattle.device_lines.specs.Cicc.{cicc_options}
use Rattle.device_lines.specs.CudaFE.{cudafe_options}
use Rattle.device_lines.specs.Ptxas.{ptxas_options}
use Rattle.device_lines.specs.Reading.{is_input_word, is_unhashed_kind, is_unknown, is_common, common_items, unhashed_items, made_at, output_of, module_id_of, is_generating, module_id, module_id_output, outputs_of, reading_of_items, input_place, reading}
use Rattle.compilers.specs.declared.command.Cacheable.TheVariants.{Yes}
use Rattle.compilers.specs.Command.{single_command, written, written_to}
use Rattle.device_lines.specs.DeviceWords.{cicc_words, cudafe_words}
use Rattle.device_lines.specs.Reread.{is_filled, AllFilled, common_words, unhashed_words, Rereads, CiccLinesReread, PtxasLinesReread, CudaFELinesReread}
use Rattle.device_lines.proofs.RereadWords.{common_after, all-append, Silent, common-kind, other-kind, unhashed-kind, common-again, all-unhashed_silent, kept-all, common-whole, unhashed-whole, kept-read, common-none_unhashed, unhashed-again}
use Rattle.device_lines.proofs.RereadOutputs.{IsOther, is_other, value-from, same-entries}
use Rattle.device_lines.proofs.RereadPlaces.{NonePass, rest-none, third-last, host-words, last-place, cut-rest, joined-away, joined-twice}
use Rattle.device_lines.proofs.RereadItems.{entry_fits, item_fits, plain-filled, all-fit, HasGoodWords, items-words}

-- what is picked of items: where only common items give something, the common ones suffice; where none of them does,
-- they give nothing; and so of unhashed items
module _ {Y : Type 0} (h : Item ArgData → Option Y) where
  picked-common : ((b : Bool) (i : Item ArgData) → is_common (b, i) ≡ false → h i ≡ None) → (b : Bool) (is : List (Item ArgData)) → filter_map h (common_after b is) ≡ filter_map h is
  picked-common other b [] = refl
  picked-common other b (i ∷ is) = grind (arith, (picked-common other (is_unknown i) is))

  picked-no_common : ((b : Bool) (i : Item ArgData) → is_common (b, i) ≡ true → h i ≡ None) → (b : Bool) (is : List (Item ArgData)) → filter_map h (common_after b is) ≡ []
  picked-no_common none b [] = refl
  picked-no_common none b (i ∷ is) = grind (arith, common_after, (picked-no_common none (is_unknown i) is))

  picked-no_unhashed : ((i : Item ArgData) → is_unhashed_kind (kind_of i) ≡ true → h i ≡ None) → (is : List (Item ArgData)) → filter_map h (unhashed_items is) ≡ []
  picked-no_unhashed none [] = refl
  picked-no_unhashed none (i ∷ is) = grind (arith, (picked-no_unhashed none is))

generating-common : (b : Bool) (is : List (Item ArgData)) → list_any is_generating (common_after b is) ≡ list_any is_generating is
generating-common b [] = refl
generating-common b (i ∷ is) = grind (arith, other-kind, (generating-common (is_unknown i) is))

generating-no_unhashed : (is : List (Item ArgData)) → list_any is_generating (unhashed_items is) ≡ false
generating-no_unhashed [] = refl
generating-no_unhashed (i ∷ is) = grind (arith, unhashed-kind, (generating-no_unhashed is))

-- the outputs of unhashed items are those of all items under other keys than `obj`
outputs-unhashed : (cwd : List ℕ) (is : List (Item ArgData)) → AllByRecursion (λ i. item_fits i ≡ true) is → filter_map (output_of cwd) (unhashed_items is) ≡ filter (is_other (codes "obj")) (filter_map (output_of cwd) is)
outputs-unhashed cwd [] fit = refl
outputs-unhashed cwd (i ∷ is) fit = grind (arith, is_other, item_fits, (outputs-unhashed cwd is fit.1))

module _ (cwd : List ℕ) (P : List ℕ → Type 0) (nothing : P []) (chosen : List ℕ → Option (Entry ArgData)) where
  -- a file at the path of a word of which P holds
  abbrev AtGoodPath : ArtifactDescriptor → Type 0
  AtGoodPath d = (value : List ℕ) × P value × (d ≡ made_at false (joined cwd value))

  good-outputs : (is : List (Item ArgData)) → AllByRecursion (λ i. item_fits i ≡ true) is → AllByRecursion (HasGoodWords chosen P) is → AllByRecursion (λ a. bytes_eq (codes "obj") a.0 ≡ true → AtGoodPath a.1) (filter_map (output_of cwd) is)
  good-outputs [] fit good = tt
  good-outputs (i ∷ is) fit good = grind (arith, (good-outputs is fit.1 good.1))

-- the module id file isn't recorded under `obj`
module_id-other : (cwd : List ℕ) (generates : Bool) (id : Option (List ℕ)) → AllByRecursion (IsOther (codes "obj")) (module_id_output cwd generates id)
module_id-other cwd generates id = grind arith

-- the items that are kept, and an output
module _ (cwd : List ℕ) (is : List (Item ArgData)) (text path : List ℕ) where
  abbrev kept : List (Item ArgData)
  kept = common_items is ++ unhashed_items is

  abbrev again : List (Item ArgData)
  again = kept ++ with_value text Output path Separated ∷ []

  common-same : common_items again ≡ common_items is
  common-same =
      let tail = unhashed_items is ++ with_value text Output path Separated ∷ [] in
      ap common_items (append_assoc (common_items is) (unhashed_items is) (with_value text Output path Separated ∷ []))
      ∙ common-again false false is tail (all-append Silent (unhashed_items is) (with_value text Output path Separated ∷ []) (all-unhashed_silent is) ((λ b. refl), tt))

  unhashed-same : unhashed_items again ≡ unhashed_items is
  unhashed-same = simp (filter-append, append-nil, common-none_unhashed, unhashed-again)

  ids-same : filter_map module_id_of again ≡ filter_map module_id_of is
  ids-same = grind (arith, filter_map-append, append-nil, picked-no_unhashed, unhashed-kind, picked-common, other-kind)

  generating-same : list_any is_generating again ≡ list_any is_generating is
  generating-same = simp (list_any-append, or-false, generating-no_unhashed, generating-common)

  outputs-again : filter_map (output_of cwd) again ≡ filter_map (output_of cwd) (unhashed_items is) ++ (codes "obj", made_at false (joined cwd path)) ∷ []
  outputs-again = grind (arith, filter_map-append, picked-no_common, common-kind)

  outputs-same : (obj : ArtifactDescriptor) → AllByRecursion (λ i. item_fits i ≡ true) is → made_at false (joined cwd path) ≡ obj → entry_at (codes "obj") (outputs_of cwd is) ≡ Some obj → outputs_of cwd again ≡ outputs_of cwd is
  outputs-same obj fit at found = grind (arith, is_other, outputs-again, outputs-unhashed, generating-same, ids-same, same-entries, module_id-other)

  arguments-same : (language : Language) (input : List ℕ) (obj : ArtifactDescriptor) → AllByRecursion (λ i. item_fits i ≡ true) is → made_at false (joined cwd path) ≡ obj → entry_at (codes "obj") (outputs_of cwd is) ≡ Some obj → reading_of_items cwd language input again ≡ reading_of_items cwd language input is
  arguments-same language input obj fit at found = grind (arith, outputs-same, common-same, unhashed-same, generating-same, ids-same)

-- the empty word is no input by its end
empty-none : (language : Language) → is_input_word language [] ≡ false
empty-none language = grind arith

-- what holds of all words of all items of a list holds of their words
all-words : (P : List ℕ → Type 0) (is : List (Item ArgData)) → AllByRecursion (λ i. AllByRecursion P (words_of i)) is → AllByRecursion P (flat_map words_of is)
all-words P [] h = tt
all-words P (i ∷ is) h = all-append P (words_of i) (flat_map words_of is) h.0 (all-words P is h.1)

all-both : {X : Type 0} (P Q : X → Type 0) (xs : List X) → AllByRecursion P xs → AllByRecursion Q xs → AllByRecursion (λ x. P x × Q x) xs
all-both P Q [] h k = tt
all-both P Q (x ∷ xs) h k = ((h.0, k.0), all-both P Q xs h.1 k.1)

-- a line over options that suit the law: it is written with its output after the option `text`
module _ (options : List (Entry ArgData)) (language : Language) (cwd text : List ℕ) (root : is_absolute_path cwd ≡ true) (suit : AllByRecursion (λ e. entry_fits e ≡ true) options) (reads : (path : List ℕ) → items (longest_match options) (text ∷ path ∷ []) ≡ with_value text Output path Separated ∷ []) where
  abbrev Away : List ℕ → Type 0
  Away word = is_input_word language word ≡ false

  abbrev words_kept : List (List ℕ) → List (List ℕ)
  words_kept line = common_words (longest_match options) line ++ unhashed_words (longest_match options) line

  abbrev arguments_of : List (List ℕ) → List ℕ → ParsedArguments
  arguments_of line input = reading_of_items cwd language input (items (longest_match options) line)

  -- a line without its input, no word of which is an input by its end, and no option of which lacks its value
  abbrev IsGood : List (List ℕ) → Type 0
  IsGood line = AllFilled (items (longest_match options) line) × NonePass (is_input_word language) line

  abbrev HasOutput : List (List ℕ) → ArtifactDescriptor → Type 0
  HasOutput line obj = entry_at (codes "obj") (outputs_of cwd (items (longest_match options) line)) ≡ Some obj

  line-fits : (line : List (List ℕ)) → AllByRecursion (λ i. item_fits i ≡ true) (items (longest_match options) line)
  line-fits line = all-fit options suit line

  kept-none : (line : List (List ℕ)) → IsGood line → NonePass (is_input_word language) (words_kept line)
  kept-none line good =
      let is = items (longest_match options) line in
      let both = all-both (λ i. is_filled i ≡ true) (HasGoodWords (longest_match options) Away) is good.0 (items-words (longest_match options) Away line good.1) in
      let each =
      kept-all (λ i. (is_filled i ≡ true) × HasGoodWords (longest_match options) Away i) (λ i. AllByRecursion Away (words_of i))
      (λ b i h e. h.1 (common-whole b i h.0 e)) (λ i h e. h.1 (unhashed-whole i h.0 e)) is both in
      subst (AllByRecursion Away) (flat_map-append words_of (common_items is) (unhashed_items is)) (all-words Away (common_items is ++ unhashed_items is) each)

  output-path : (line : List (List ℕ)) (obj : ArtifactDescriptor) → IsGood line → HasOutput line obj → AtGoodPath cwd Away (empty-none language) (longest_match options) obj
  output-path line obj good found =
      let is = items (longest_match options) line in
      value-from (codes "obj") (AtGoodPath cwd Away (empty-none language) (longest_match options)) (filter_map (output_of cwd) is) (module_id_output cwd (list_any is_generating is) (module_id is)) obj
      (good-outputs cwd Away (empty-none language) (longest_match options) is (line-fits line) (items-words (longest_match options) Away line good.1))
      (module_id-other cwd (list_any is_generating is) (module_id is)) found

  path-settled : (line : List (List ℕ)) (obj : ArtifactDescriptor) → IsGood line → HasOutput line obj → made_at false (joined cwd obj.path) ≡ obj
  path-settled line obj good found = grind (arith, joined-twice, (output-path line obj good found))

  -- the written words without the input
  items-again : (line : List (List ℕ)) (input : List ℕ) (obj : ArtifactDescriptor) → IsGood line → HasOutput line obj → arguments_of (words_kept line ++ text ∷ obj.path ∷ []) input ≡ arguments_of line input
  items-again line input obj good found =
      let is = items (longest_match options) line in
      ap (reading_of_items cwd language input) (kept-read (longest_match options) line (text ∷ obj.path ∷ []) good.0 ∙ ap (λ t. (common_items is ++ unhashed_items is) ++ t) (reads obj.path))
      ∙ arguments-same cwd is text obj.path language input obj (line-fits line) (path-settled line obj good found) found

  -- the words that a line is written as are read as its arguments
  abbrev WrittenReads : ℕ → (ParsedArguments → List ℕ → List (List ℕ)) → Type 0
  WrittenReads offset words_to_write =
      (line : List (List ℕ)) (input : List ℕ) (obj : ArtifactDescriptor) → IsGood line → HasOutput line obj → reading (longest_match options) cwd language offset (words_to_write (arguments_of line input) obj.path) ≡ Some (arguments_of line input)

  whole-line : (offset : ℕ) (words_to_write : ParsedArguments → List ℕ → List (List ℕ)) → WrittenReads offset words_to_write → (words : List (List ℕ)) → ((place : ℕ) → input_place language offset words ≡ Some place → IsGood (remove words place)) → Rereads options language offset words_to_write cwd words
  whole-line offset words_to_write again words good p executable env_vars command at put =
      elim (input_place language offset words)
      as (λ o. input_place language offset words ≡ o → option_map (λ place. arguments_of (remove words place) (slice_index_or words place [])) o ≡ Some p → reading (longest_match options) cwd language offset command.0.arguments ≡ Some p) [
        | None ↦ λ _ never. let none : None ≡ Some p = never in cc
        | Some place ↦ λ found is.
            let same : arguments_of (remove words place) (slice_index_or words place []) ≡ p = cc in
            subst (λ q. written words_to_write executable q cwd env_vars ≡ Ok command → reading (longest_match options) cwd language offset command.0.arguments ≡ Some q) same
            (one (remove words place) (slice_index_or words place []) (good place found)) put
      ] refl at where
        one : (line : List (List ℕ)) (input : List ℕ) → IsGood line → written words_to_write executable (arguments_of line input) cwd env_vars ≡ Ok command → reading (longest_match options) cwd language offset command.0.arguments ≡ Some (arguments_of line input)
        one line input fine done =
            elim (entry_at (codes "obj") (arguments_of line input).outputs)
            as (λ o. entry_at (codes "obj") (arguments_of line input).outputs ≡ o → written_to words_to_write executable (arguments_of line input) cwd env_vars o ≡ Ok command → reading (longest_match options) cwd language offset command.0.arguments ≡ Some (arguments_of line input)) [
              | None ↦ λ _ never. cc
              | Some obj ↦ λ found is.
                  let same : (single_command executable (words_to_write (arguments_of line input) obj.path) cwd env_vars, Yes) ≡ command = cc in
                  subst (λ (c : SingleCompileCommand × Cacheable). reading (longest_match options) cwd language offset c.0.arguments ≡ Some (arguments_of line input)) same (again line input obj fine found)
            ] refl done

  -- a line with its input as the third last word
  written-third_last : is_input_word language text ≡ false → WrittenReads 3 (λ p obj. (p.common_args ++ p.unhashed_args) ++ p.input ∷ text ∷ obj ∷ [])
  written-third_last other line input obj good found =
      let front = words_kept line in
      let words = front ++ input ∷ text ∷ obj.path ∷ [] in
      let place = third-last language front input text obj.path (kept-none line good) other ((grind (arith, joined-away, (output-path line obj good found)))) in
      ap (option_map (λ at. arguments_of (remove words at) (slice_index_or words at []))) place ∙ ap Some ((λ i. arguments_of (cut-rest front input (text ∷ obj.path ∷ []) i) (get_or-append_seam front input (text ∷ obj.path ∷ []) [] i)) ∙ items-again line input obj good found)

  -- a line with its input as the last word
  written-last : ((words : List (List ℕ)) (input : List ℕ) → input_place language 1 (words ++ input ∷ []) ≡ Some (length words)) → WrittenReads 1 (λ p obj. (p.common_args ++ p.unhashed_args) ++ text ∷ obj ∷ p.input ∷ [])
  written-last last line input obj good found =
      let front = words_kept line ++ text ∷ obj.path ∷ [] in
      let words = front ++ input ∷ [] in
      let rest : remove words (length front) ≡ front = cut-rest front input [] ∙ append-nil front in
      ap (reading (longest_match options) cwd language 1) (sym (append_assoc (words_kept line) (text ∷ obj.path ∷ []) (input ∷ [])))
      ∙ (ap (option_map (λ at. arguments_of (remove words at) (slice_index_or words at []))) (last front input)
      ∙ ap Some ((λ i. arguments_of (rest i) (get_or-append_seam front input [] [] i)) ∙ items-again line input obj good found))

pub cicc-lines_reread : CiccLinesReread
cicc-lines_reread cwd words root few =
    let written = written-third_last cicc_options Ptx cwd (codes "-o") root (refl, (refl, (refl, (refl, (refl, (refl, (refl, tt))))))) (λ path. refl) refl in
    whole-line cicc_options Ptx cwd (codes "-o") root (refl, (refl, (refl, (refl, (refl, (refl, (refl, tt))))))) (λ path. refl) 3 cicc_words written words
    (λ place found. (plain-filled cicc_options (refl, (refl, (refl, (refl, (refl, (refl, (refl, tt))))))) (remove words place), rest-none Ptx 3 words place few found))

pub ptxas-lines_reread : PtxasLinesReread
ptxas-lines_reread cwd words root few filled =
    let written = written-third_last ptxas_options Cubin cwd (codes "-o") root (refl, (refl, (refl, tt))) (λ path. refl) refl in
    whole-line ptxas_options Cubin cwd (codes "-o") root (refl, (refl, (refl, tt))) (λ path. refl) 3 cicc_words written words
    (λ place found. (subst (λ o. IfSome o (λ at. AllFilled (items (longest_match ptxas_options) (remove words at)))) found filled, rest-none Cubin 3 words place few found))

pub cudafe-lines_reread : CudaFELinesReread
cudafe-lines_reread cwd words root =
    let written = written-last cudafe_options CudaFE cwd (codes "--module_id_file_name") root (refl, (refl, (refl, (refl, tt)))) (λ path. refl) last-place in
    whole-line cudafe_options CudaFE cwd (codes "--module_id_file_name") root (refl, (refl, (refl, (refl, tt)))) (λ path. refl) 1 cudafe_words written words
    (λ place found. (plain-filled cudafe_options (refl, (refl, (refl, (refl, tt)))) (remove words place), rest-none CudaFE 1 words place (host-words words) found))
