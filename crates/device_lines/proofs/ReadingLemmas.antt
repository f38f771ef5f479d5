-- What a loop over the items gathers is what the reading's filters say, and where the input is in a line of strings.
use Rattle.std.proofs.Common.{◌≡◌, arith, ℕ, List, [], ◌∷◌, ◌++◌, Bool, true, false, cond, not, ◌||◌, Some, None, map, length, refl, sym, ◌∙◌, append_assoc, append-nil, filter, String, Global, string_bytes, option_to_list}
use Rattle.std.specs.List.{filter_map, cons_option, flat_map, list_any, fold, position, prefix_len}
use Rattle.std.specs.Option.{option_or}
use Rattle.std.proofs.lemmas.List.{length-map}
use Rattle.std.proofs.lemmas.List.Sums.{fold-append}
use Rattle.texts.specs.declared.language.Language.{Language}
use Rattle.compilers.specs.Outputs.{with_entry}
use Rattle.compilers.specs.Items.{Item, words_of, kind_of}
use Rattle.device_lines.specs.declared.options.ArgData.{ArgData}
use Rattle.device_lines.specs.declared.reader.gathered.Gathered.{Gathered}
use Rattle.device_lines.specs.declared.reader.named_files.NamedFiles.{NamedFiles}
use Rattle.device_lines.specs.Reading.{is_input_word, input_place, place_from_end, is_common, beside, is_unhashed_kind, output_of, outputs_of, module_id, module_id_of, module_id_file, is_generating, reading_of_items}
use Rattle.device_lines.specs.Gathered.{no_files, nothing_gathered, with_files_of, with_item, all_outputs, reading_of_gathered}
use Rattle.texts.specs.Lists.{latest}

-- words put after those so far, where a test says so
kept_words : (b : Bool) (so_far words rest : List (List ℕ)) → cond b (so_far ++ words) so_far ++ rest ≡ so_far ++ cond b (words ++ rest) rest
kept_words true so_far words rest = append_assoc so_far words rest
kept_words false so_far words rest = refl

-- the words of a list of items with one in front, where a test says so
flat_map-cond : {X : Type 0} (f : X → List (List ℕ)) (b : Bool) (x : X) (xs : List X) → flat_map f (cond b (x ∷ xs) xs) ≡ cond b (f x ++ flat_map f xs) (flat_map f xs)
flat_map-cond f b x xs = grind arith

map-cond : {X Y : Type 0} (f : X → Y) (b : Bool) (x : X) (xs : List X) → map f (cond b (x ∷ xs) xs) ≡ cond b (f x ∷ map f xs) (map f xs)
map-cond f b x xs = grind arith

module _ (cwd : List ℕ) where
  common-gathered : (is : List (Item ArgData)) (g : Gathered) → (fold (with_item cwd) g is).common ≡ g.common ++ flat_map words_of (map (λ p. p.1) (filter is_common (beside g.after_unknown is)))
  common-gathered [] g = sym (append-nil g.common)
  common-gathered (i ∷ is) g = simp (kept_words, map-cond, flat_map-cond, (common-gathered is (with_item cwd g i)))

  unhashed-gathered : (is : List (Item ArgData)) (g : Gathered) → (fold (with_item cwd) g is).unhashed ≡ g.unhashed ++ flat_map words_of (filter (λ i. is_unhashed_kind (kind_of i)) is)
  unhashed-gathered [] g = sym (append-nil g.unhashed)
  unhashed-gathered (i ∷ is) g = simp (kept_words, flat_map-cond, (unhashed-gathered is (with_item cwd g i)))

  files-gathered : (is : List (Item ArgData)) (g : Gathered) → (fold (with_item cwd) g is).files ≡ fold (with_files_of cwd) g.files is
  files-gathered [] g = refl
  files-gathered (i ∷ is) g = files-gathered is (with_item cwd g i)

  outputs-named : (is : List (Item ArgData)) (f : NamedFiles) → (fold (with_files_of cwd) f is).outputs ≡ fold with_entry f.outputs (filter_map (output_of cwd) is)
  outputs-named [] f = refl
  outputs-named (i ∷ is) f = outputs-named is (with_files_of cwd f i) ∙ (elim (output_of cwd i) as (λ o. fold with_entry (fold with_entry f.outputs (option_to_list o)) (filter_map (output_of cwd) is) ≡ fold with_entry f.outputs (cons_option o (filter_map (output_of cwd) is))) [ None ↦ refl | Some e ↦ refl ])

  module_id-named : (is : List (Item ArgData)) (f : NamedFiles) → (fold (with_files_of cwd) f is).module_id ≡ fold (λ _ x. Some x) f.module_id (filter_map module_id_of is)
  module_id-named [] f = refl
  module_id-named (i ∷ is) f = module_id-named is (with_files_of cwd f i) ∙ (elim (module_id_of i) as (λ o. fold (λ _ x. Some x) (latest f.module_id o) (filter_map module_id_of is) ≡ fold (λ _ x. Some x) f.module_id (cons_option o (filter_map module_id_of is))) [ None ↦ refl | Some x ↦ refl ])

  makes-named : (is : List (Item ArgData)) (f : NamedFiles) → (fold (with_files_of cwd) f is).makes_module_id ≡ f.makes_module_id || list_any is_generating is
  makes-named [] f = elim f.makes_module_id as (λ b. b ≡ b || false) [ true ↦ refl | false ↦ refl ]
  makes-named (i ∷ is) f = makes-named is (with_files_of cwd f i) ∙ (elim f.makes_module_id as (λ b. (b || is_generating i) || list_any is_generating is ≡ b || (is_generating i || list_any is_generating is)) [ true ↦ refl | false ↦ refl ])

  -- the files of all items are those that the reading has
  pub files-named : (is : List (Item ArgData)) → let f = fold (with_files_of cwd) no_files is in
      (all_outputs cwd f ≡ outputs_of cwd is) × (module_id_file cwd f.makes_module_id f.module_id ≡ module_id_file cwd (list_any is_generating is) (module_id is))
  files-named is = (
    rw (outputs-named is no_files, makes-named is no_files, module_id-named is no_files, fold-append with_entry [] (filter_map (output_of cwd) is)) refl,
    rw (makes-named is no_files, module_id-named is no_files) refl,
  )

  pub reading-gathered : (language : Language) (input : List ℕ) (is : List (Item ArgData)) → reading_of_gathered cwd language input (fold (with_item cwd) nothing_gathered is) ≡ reading_of_items cwd language input is
  reading-gathered language input is = grind (arith, files-gathered, files-named, common-gathered, unhashed-gathered)

prefix_len-map : {A B : Type 0} (p : B → Bool) (f : A → B) (xs : List A) → prefix_len p (map f xs) ≡ prefix_len (λ x. p (f x)) xs
prefix_len-map p f [] = refl
prefix_len-map p f (x ∷ xs) = rw (prefix_len-map p f xs) refl

-- the place of the first mapped element that passes
pub position-map : {A B : Type 0} (p : B → Bool) (f : A → B) (xs : List A) → position p (map f xs) ≡ position (λ x. p (f x)) xs
position-map p f xs = rw (prefix_len-map (λ x. not (p x)) f xs, length-map xs f) refl

-- the place of the input, in a line of strings
pub input_place-strings : (language : Language) (offset : ℕ) (words : List (String Global)) → input_place language offset (map string_bytes words) ≡ option_or (position (λ word. is_input_word language (string_bytes word)) words) (place_from_end offset (length words))
input_place-strings language offset words = rw (position-map (is_input_word language) string_bytes words, length-map words string_bytes) refl
