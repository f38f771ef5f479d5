-- A gcc command line read item by item.
use Rattle.std.proofs.Common.{◌≡◌, ℕ, Bool, true, false, cond, ◌||◌, List, [], ◌∷◌, ◌++◌, map, fold, Option, Some, None, Result, Ok, Err, arith, refl, ap, sym, ◌∙◌, append_assoc, append-nil}
use Rattle.std.specs.List.{list_any}
use Rattle.std.specs.Option.{option_or}
use Rattle.std.proofs.Math.Bool.{or-false, or-true}
use Rattle.host_lines.specs.declared.gcc.options.ArgData.{ArgData}
use Rattle.compilers.specs.Table.{Entry}
use Rattle.compilers.specs.Items.{Item, raw, Said, item, option, said_of, separate_item, Completes}
use Rattle.host_lines.specs.GccItems.{Asked, is_double_dash, items_to_dashes, has_double_dash, first_refusal, refusal_of, words_to, inputs, common, preprocessor, unhashed, architectures, dependencies, hash_files, language_said, flag_said, output_said, dependency_file_said, target_said, needs_target_item}
use Rattle.host_lines.specs.GccSteps.{with_item}
use Rattle.host_lines.specs.Gcc.{unless_refused}
use Rattle.compilers.proofs.ItemLemmas.{items-completed}

-- the last thing said, after another
abbrev said_after : {A B : Type 0} → (A → Option B) → Option B → List A → Option B
said_after say before is = fold (λ so_far i. option_or (say i) so_far) before is

-- what a line asks for whose first items asked for this, of the items that are left
abbrev pub added : List ℕ → Asked → Bool → List (Item ArgData) → Asked
added cwd g dashes is = record {
  inputs = g.inputs ++ words_to inputs is;
  double_dash_input = g.double_dash_input || dashes;
  language = said_after language_said g.language is;
  compilation_flag = said_after flag_said g.compilation_flag is;
  obj = said_after output_said g.obj is;
  dependency_file = said_after dependency_file_said g.dependency_file is;
  target_needed = g.target_needed || list_any needs_target_item is;
  target = said_after target_said g.target is;
  common_args = g.common_args ++ words_to common is;
  preprocessor_args = g.preprocessor_args ++ words_to preprocessor is;
  arch_args = g.arch_args ++ words_to architectures is;
  unhashed_args = g.unhashed_args ++ words_to unhashed is;
  dependency_args = g.dependency_args ++ words_to dependencies is;
  extra_hash_files = g.extra_hash_files ++ hash_files cwd is;
}

-- one more item
item-added : (cwd : List ℕ) (g : Asked) (dashes : Bool) (i : Item ArgData) (is : List (Item ArgData)) → added cwd (with_item cwd g i) dashes is ≡ added cwd g dashes (i ∷ is)
item-added cwd g dashes i is = grind (arith, append_assoc)

-- what a line asks for whose first items asked for this, of the words that are left
abbrev pub gathering_after : (List ℕ → Option (Entry ArgData)) → List ℕ → Asked → List (List ℕ) → Result Asked (List ℕ)
gathering_after chosen cwd g line =
    let is = items_to_dashes chosen line in
    unless_refused (first_refusal is) (added cwd g (has_double_dash chosen line) is)

-- the words after `--`
first_refusal-raw : (line : List (List ℕ)) → first_refusal (map raw line) ≡ None
first_refusal-raw [] = refl
first_refusal-raw (w ∷ line) = first_refusal-raw line

added-raw : (cwd : List ℕ) (g : Asked) (line : List (List ℕ)) → added cwd g true (map raw line) ≡ record g { inputs = g.inputs ++ line; double_dash_input = true }
added-raw cwd g [] = rw (append-nil g.inputs, append-nil g.common_args, append-nil g.preprocessor_args, append-nil g.arch_args, append-nil g.unhashed_args, append-nil g.dependency_args, append-nil g.extra_hash_files, or-true g.double_dash_input, or-false g.target_needed) refl
added-raw cwd g (w ∷ line) =
    sym (item-added cwd g true (raw w) (map raw line)) ∙ added-raw cwd (with_item cwd g (raw w)) line
    ∙ ap (λ (ws : List (List ℕ)). record g { inputs = ws; double_dash_input = true }) (append_assoc g.inputs (w ∷ []) line)

module _ (chosen : List ℕ → Option (Entry ArgData)) where
  -- the items of a line that an item begins
  abbrev begun : Item ArgData → List (List ℕ) → List (Item ArgData)
  begun i after = cond (is_double_dash i) (map raw after) (i ∷ items_to_dashes chosen after)

  next_begun : (s : Said ArgData) (x : List ℕ) (rest : List (List ℕ)) (i : Item ArgData) (after : List (List ℕ)) → Completes s (x ∷ rest) i after → (elim s as (λ _. List (Item ArgData)) [ item j ↦ cond (is_double_dash j) (map raw (x ∷ rest)) (j ∷ items_to_dashes chosen (x ∷ rest)) | option e ↦ separate_item e x ∷ items_to_dashes chosen rest ]) ≡ begun i after
  next_begun s x rest i after h = grind arith

  items_to_dashes-completed : (w : List ℕ) (before : List (List ℕ)) (i : Item ArgData) (after : List (List ℕ)) → Completes (said_of w (chosen w)) before i after → items_to_dashes chosen (w ∷ before) ≡ begun i after
  items_to_dashes-completed w before i after h = grind (arith, next_begun)

  has_double_dash-completed : (w : List ℕ) (before : List (List ℕ)) (i : Item ArgData) (after : List (List ℕ)) → Completes (said_of w (chosen w)) before i after → has_double_dash chosen (w ∷ before) ≡ (is_double_dash i || has_double_dash chosen after)
  has_double_dash-completed w before i after h = ap (list_any is_double_dash) (items-completed chosen w before i after h)

  module _ (cwd : List ℕ) (g : Asked) (w : List ℕ) (before : List (List ℕ)) (i : Item ArgData) (after : List (List ℕ)) (h : Completes (said_of w (chosen w)) before i after) where
    -- what a line asks for that an item begins which is no `--`
    begun_by : is_double_dash i ≡ false → gathering_after chosen cwd g (w ∷ before) ≡ unless_refused (option_or (refusal_of i) (first_refusal (items_to_dashes chosen after))) (added cwd g (has_double_dash chosen after) (i ∷ items_to_dashes chosen after))
    begun_by other = grind (arith, items_to_dashes-completed, has_double_dash-completed)

    -- an item that doesn't refuse is taken
    pub after_item : is_double_dash i ≡ false → refusal_of i ≡ None → gathering_after chosen cwd g (w ∷ before) ≡ gathering_after chosen cwd (with_item cwd g i) after
    after_item other none = grind (arith, begun_by, item-added)

    -- an item that refuses decides
    pub after_refusal : (text : List ℕ) → is_double_dash i ≡ false → refusal_of i ≡ Some text → gathering_after chosen cwd g (w ∷ before) ≡ Err text
    after_refusal text other some = grind (arith, begun_by)

    -- after `--` each word is an input
    pub after_dashes : is_double_dash i ≡ true → gathering_after chosen cwd g (w ∷ before) ≡ Ok (record g { inputs = g.inputs ++ after; double_dash_input = true })
    after_dashes dashes = grind (arith, items_to_dashes-completed, has_double_dash-completed, first_refusal-raw, added-raw)
