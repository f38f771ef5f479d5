-- In the plans of shadow runs cicc stands beside the step that makes its input.
use Rattle.std.proofs.Common.{◌≡◌, ℕ, List, [], ◌∷◌, ◌++◌, ◌&&◌, ◌||◌, Bool, true, false, not, cond, eqb-true, Option, Some, None, inl, inr, map, filter, refl, sym, ap, subst, ◌∙◌, nat_eq, arith, codes, option_map, option_and_then, bytes_eq}
use Rattle.std.specs.List.{Contains, list_any, list_all, find, starts_with, filter_map, cons_option}
use Rattle.std.specs.Cmp.Lexicographic.{pointwise}
use Rattle.std.proofs.lemmas.Bool.{false≢true, and_parts, or_cases, ltb-true, or_from, or_left, or_right}
use Rattle.std.proofs.lemmas.List.Elements.{Contains-append_left, filter-append}
use Rattle.std.proofs.lemmas.List.Folds.{list_any-append}
use Rattle.std.proofs.lemmas.List.Sorted.{Contains-permutation}
use Rattle.std.proofs.lemmas.Slice.Eq.{bytes_eq-Decides}
use Rattle.compilers.specs.declared.compiler.NvccHostCompiler.{NvccHostCompiler}
use Rattle.texts.specs.DeviceFiles.{is_cicc_word}
use Rattle.texts.specs.Lists.{is_some_and, first_word, word_after}
use Rattle.texts.specs.Path.{joined, is_bare, file_name_of, file_stem_of}
use Rattle.compilers.specs.CommandLines.{CommandLine, program_of, words_of_command}
use Rattle.canonical_names.specs.CanonicalNames.{AreSuffixes, word_by_all, command_by_all}
use Rattle.canonical_names.specs.Generated.{core_of, generated_name, begins_with_dash}
use Rattle.canonical_names.specs.Renaming.{canonical_file, canonical_name, rank, names_of_run}
use Rattle.canonical_names.specs.Appearances.{appearances}
use Rattle.cuda_plans.specs.Shadow.{is_plain_output, step_names, is_step_shadow}
use Rattle.canonical_names.proofs.AlikeLemmas.{dash-unmarked, mapped-member, same-tests}
use Rattle.canonical_names.proofs.AppearanceLemmas.{names-tested}
use Rattle.canonical_names.proofs.CleanLemmas.{clean-run_is_a_map}
use Rattle.canonical_names.proofs.CanonicalLemmas.{canonical-at, no-member, head-member, tail-member, member-cases, find-found, rank-apart, bytes_eq-itself, eqb-turned}
use Rattle.cuda_plans.proofs.FileLemmas.{bare-relative}
use Rattle.cuda_plans.proofs.ShadowLemmas.{test-kept, class-by_end, plain-class, plain-word, bare-canonical, canonical-file_name, renamed-cicc, file-end, plain-outputs_stay_apart}
use Rattle.cuda_plans.proofs.ShadowRankLemmas.{shadow-is_step_shadow, shadow-parts, cicc-joined_name, step-names_keep_rank}
use Rattle.canonical_names.proofs.SuffixLemmas.{each-member, any-member}
use Rattle.compilers.specs.declared.plans.plan.Reason.TheVariants.{NoCiccGroup}
use Rattle.command_groups.specs.Fate.{device, device_or, PlacedCommand, place_of, places, fates}
use Rattle.command_groups.specs.Merge.{MergedCommand, of_run, is_taken, is_nvcc_stem, is_host_stem, selected, is_in_order, put_in_order, in_order, merged}
use Rattle.command_groups.specs.MergeLaws.{InOrder}
use Rattle.command_groups.specs.Plan.{PlanSetting, staged_commands}
use Rattle.cuda_plans.specs.ShadowLaws.{writes, is_step_to, planned_command, IsFedBy, HasFate, StandTogether, ShadowsStandTogether}
use Rattle.command_groups.specs.Stage.{ProgramKind, linker, cudafe, cicc, ptxas, other, kind_of_optional_stem, has_word, without_first_word, cicc_edit, edited_by, device_compiling, preprocessing, host_compiling, foreign, StagedCommand, staged, stage_by, opens, defines_cuda, is_for_cuda, preprocess_word, device_name, opened_name, cicc_input, kind_of_program}
use Rattle.command_groups.proofs.FateLemmas.{same_text, equal_texts, fates_staged, placed_staged}
use Rattle.command_groups.proofs.MergeLemmas.{merged_is_in_order, merged_are_the_selected}
use Rattle.command_groups.proofs.OpenerLemmas.{filter_holds, filter_member, opener, opener_place, fate_settled}
use Rattle.command_groups.proofs.PlanLemmas.{all_staged_in_order}

-- Sorted lists of which at most one element passes a test.
module _ (test : MergedCommand → Bool) where
  put_out : (c : MergedCommand) (ds : List MergedCommand) → test c ≡ false → filter test (put_in_order c ds) ≡ filter test ds
  put_out c [] h = ap (λ b. cond b (c ∷ []) []) h
  put_out c (d ∷ ds) h = grind (arith, (put_out c ds h))

  put_in : (c : MergedCommand) (ds : List MergedCommand) → test c ≡ true → filter test ds ≡ [] → filter test (put_in_order c ds) ≡ c ∷ []
  put_in c [] h k = ap (λ b. cond b (c ∷ []) []) h
  put_in c (d ∷ ds) h k =
      elim (is_in_order c d) as (λ r. filter test (cond r (c ∷ d ∷ ds) (d ∷ put_in_order c ds)) ≡ c ∷ []) [
        | true ↦ ap (λ b. cond b (c ∷ filter test (d ∷ ds)) (filter test (d ∷ ds))) h ∙ ap (λ t. c ∷ t) k
        | false ↦ elim (test d) as (λ b. cond b (d ∷ filter test ds) (filter test ds) ≡ [] → cond b (d ∷ filter test (put_in_order c ds)) (filter test (put_in_order c ds)) ≡ c ∷ [])
            [ true ↦ λ e. cc | false ↦ λ e. put_in c ds h e ] k
      ]

  sort_none : (cs : List MergedCommand) → filter test cs ≡ [] → filter test (in_order cs) ≡ []
  sort_none [] h = refl
  sort_none (c ∷ cs) h =
      elim (test c) as (λ b. test c ≡ b → cond b (c ∷ filter test cs) (filter test cs) ≡ [] → filter test (put_in_order c (in_order cs)) ≡ [])
      [ true ↦ λ e k. cc | false ↦ λ e k. put_out c (in_order cs) e ∙ sort_none cs k ] refl h

  sort_one : (cs : List MergedCommand) (x : MergedCommand) → filter test cs ≡ x ∷ [] → filter test (in_order cs) ≡ x ∷ []
  sort_one [] x h = cc
  sort_one (c ∷ cs) x h =
      elim (test c) as (λ b. test c ≡ b → cond b (c ∷ filter test cs) (filter test cs) ≡ x ∷ [] → filter test (put_in_order c (in_order cs)) ≡ x ∷ []) [
        | true ↦ λ e k.
            let is : c ≡ x = cc in
            let rest : filter test cs ≡ [] = cc in
            put_in c (in_order cs) e (sort_none cs rest) ∙ ap (λ z. z ∷ []) is
        | false ↦ λ e k. put_out c (in_order cs) e ∙ sort_one cs x k
      ] refl h

filter_mapped : {A B : Type 0} (test : B → Bool) (f : A → B) (xs : List A) → filter test (map f xs) ≡ map f (filter (λ x. test (f x)) xs)
filter_mapped test f [] = refl
filter_mapped test f (x ∷ xs) = grind (arith, (filter_mapped test f xs))

kept_member : {A : Type 0} (test : A → Bool) (xs : List A) (x : A) → Contains xs x → test x ≡ true → Contains (filter test xs) x
kept_member test [] x h k = h
kept_member test (y ∷ ys) x h k =
    elim (member-cases y ys x h) as (λ _. Contains (filter test (y ∷ ys)) x) [
      | inl is ↦ subst (λ ws. Contains ws x) (sym (ap (λ b. cond b (y ∷ filter test ys) (filter test ys)) (ap test is ∙ k))) (subst (λ z. Contains (z ∷ filter test ys) x) (sym is) (head-member x (filter test ys)))
      | inr more ↦ elim (test y) as (λ b. Contains (cond b (y ∷ filter test ys) (filter test ys)) x) [ true ↦ tail-member y (filter test ys) x (kept_member test ys x more k) | false ↦ kept_member test ys x more k ]
    ]

-- Programs and stages.

abbrev kind_by : Bool → Bool → Bool → Bool → Bool → ProgramKind
kind_by ci pt cu nv fa = cond (fa || nv) linker (cond cu cudafe (cond ci cicc (cond pt ptxas other)))

abbrev is_own : Bool → Bool → Bool → Bool → Bool → Bool
is_own ci pt cu nv fa = ci || (pt || (cu || (nv || (fa || false))))

own_opens : (ci pt cu nv fa : Bool) → is_own ci pt cu nv fa ≡ true → (compiler : NvccHostCompiler) (words : List (List ℕ)) → opens (stage_by (kind_by ci pt cu nv fa) compiler words) ≡ None
own_opens ci pt cu nv fa h compiler words = grind (arith, false≢true)

host_program : (stem : Option (List ℕ)) → is_some_and is_host_stem stem ≡ true → kind_of_optional_stem stem ≡ other
host_program stem h = grind (arith, false≢true)

host_opens : (test : List ℕ → Bool) (a b : Bool) (o : Option (List ℕ)) → is_some_and test (opens (cond (not a) foreign (cond b (preprocessing o) host_compiling))) ≡ ((a && b) && is_some_and test o)
host_opens test a b o = grind arith

-- Words that begin with `-`.

no_dash_equal : (t text : List ℕ) → begins_with_dash text ≡ false → bytes_eq (45 ∷ t) text ≡ false
no_dash_equal t text h = grind (arith, eqb-turned)

no_dash_start : (t text : List ℕ) → begins_with_dash text ≡ false → starts_with nat_eq text (45 ∷ t) ≡ false
no_dash_start t text h = grind (arith, eqb-turned)

no_dash_macro : (text : List ℕ) → begins_with_dash text ≡ false → defines_cuda text ≡ false
no_dash_macro text h = simp (or_from, no_dash_start)

-- Members.

after_member : (t : List ℕ) (words : List (List ℕ)) (v : List ℕ) → word_after t words ≡ Some v → Contains words v
after_member t [] v h = cc
after_member t (w ∷ ws) v h =
    elim (bytes_eq t w) as (λ b. cond b (first_word ws) (word_after t ws) ≡ Some v → Contains (w ∷ ws) v)
    [ true ↦ λ k. tail-member w ws v (first_member ws v k) | false ↦ λ k. tail-member w ws v (after_member t ws v k) ] h where
      first_member : (ws : List (List ℕ)) (v : List ℕ) → first_word ws ≡ Some v → Contains ws v
      first_member [] v k = cc
      first_member (x ∷ xs) v k = let is : x ≡ v = cc in subst (λ z. Contains (x ∷ xs) z) is (head-member x xs)

words_name : (suffixes words : List (List ℕ)) (word x : List ℕ) → Contains words word → generated_name suffixes word ≡ Some x → list_any (bytes_eq x) (filter_map (generated_name suffixes) words) ≡ true
words_name suffixes [] word x h e = absurd (no-member word h)
words_name suffixes (w ∷ ws) word x h e =
    let rest = filter_map (generated_name suffixes) ws in
    elim (member-cases w ws word h) as (λ _. list_any (bytes_eq x) (cons_option (generated_name suffixes w) rest) ≡ true) [
      | inl is ↦ ap (λ o. list_any (bytes_eq x) (cons_option o rest)) (ap (generated_name suffixes) is ∙ e) ∙ or_left (bytes_eq x x) (list_any (bytes_eq x) rest) (bytes_eq-itself x)
      | inr more ↦ more_any (generated_name suffixes w) (words_name suffixes ws word x more e)
    ] where
      more_any : (o : Option (List ℕ)) → list_any (bytes_eq x) (filter_map (generated_name suffixes) ws) ≡ true → list_any (bytes_eq x) (cons_option o (filter_map (generated_name suffixes) ws)) ≡ true
      more_any None k = k
      more_any (Some y) k = or_right (bytes_eq x y) (list_any (bytes_eq x) (filter_map (generated_name suffixes) ws)) k

run_name : (suffixes : List (List ℕ)) (commands : List CommandLine) (c : CommandLine) (word x : List ℕ) → Contains commands c → Contains (words_of_command c) word → generated_name suffixes word ≡ Some x → list_any (bytes_eq x) (appearances suffixes commands) ≡ true
run_name suffixes [] c word x h among e = absurd (no-member c h)
run_name suffixes (d ∷ ds) c word x h among e =
    let front = filter_map (generated_name suffixes) (words_of_command d) in
    let rest = appearances suffixes ds in
    elim (member-cases d ds c h) as (λ _. list_any (bytes_eq x) (front ++ rest) ≡ true) [
      | inl is ↦
          list_any-append (bytes_eq x) front rest
          ∙ or_left (list_any (bytes_eq x) front) (list_any (bytes_eq x) rest) (words_name suffixes (words_of_command d) word x (subst (λ z. Contains (words_of_command z) word) (sym is) among) e)
      | inr more ↦ list_any-append (bytes_eq x) front rest ∙ or_right (list_any (bytes_eq x) front) (list_any (bytes_eq x) rest) (run_name suffixes ds c word x more among e)
    ]

name_known : (suffixes : List (List ℕ)) → AreSuffixes suffixes → (commands : List CommandLine) (c : CommandLine) (word : List ℕ) → Contains commands c → Contains (words_of_command c) word →
    begins_with_dash word ≡ false → is_cicc_word word ≡ true → Contains (names_of_run suffixes commands) word
name_known suffixes lawful commands c word h among dash ends =
    let names = names_of_run suffixes commands in
    let e : generated_name suffixes word ≡ Some word = ap (option_map (λ (_ : List ℕ). core_of word)) (plain-class suffixes lawful names word dash ends) ∙ ap Some (dash-unmarked word dash).whole in
    any-member word names (names-tested (bytes_eq word) suffixes commands ∙ run_name suffixes commands c word word h among e)

-- Words of a run whose words are renamed by its names.
module _ (suffixes : List (List ℕ)) (lawful : AreSuffixes suffixes) (names : List (List ℕ)) where
  abbrev new : List ℕ → List ℕ
  new word = word_by_all suffixes names word

  any_kept : (test : List ℕ → Bool) → ((rest : List ℕ) → test (45 ∷ 70 ∷ rest) ≡ false) → ((text : List ℕ) → begins_with_dash text ≡ false → test text ≡ false) → (words : List (List ℕ)) → list_any test (map new words) ≡ list_any test words
  any_kept test marked plain [] = refl
  any_kept test marked plain (w ∷ ws) = ap (λ b. b || list_any test (map new ws)) (test-kept suffixes lawful names test marked plain w) ∙ ap (λ b. test w || b) (any_kept test marked plain ws)

  cuda_kept : (words : List (List ℕ)) → is_for_cuda (map new words) ≡ is_for_cuda words
  cuda_kept words = any_kept defines_cuda (λ rest. refl) no_dash_macro words

  step_kept : (compiler : NvccHostCompiler) (words : List (List ℕ)) → has_word (preprocess_word compiler) (map new words) ≡ has_word (preprocess_word compiler) words
  step_kept compiler words = grind (arith, any_kept, no_dash_equal)

  first_kept : (words : List (List ℕ)) → first_word (map new words) ≡ option_map new (first_word words)
  first_kept words = grind arith

  output_kept : (words : List (List ℕ)) → word_after (codes "-o") (map new words) ≡ option_map new (word_after (codes "-o") words)
  output_kept [] = refl
  output_kept (w ∷ ws) =
      ap (λ b. cond b (first_word (map new ws)) (word_after (codes "-o") (map new ws))) (test-kept suffixes lawful names (bytes_eq (codes "-o")) (λ rest. refl) (no_dash_equal (codes "o")) w)
      ∙ (elim (bytes_eq (codes "-o") w) as (λ b. cond b (first_word (map new ws)) (word_after (codes "-o") (map new ws)) ≡ option_map new (cond b (first_word ws) (word_after (codes "-o") ws)))
      [ true ↦ first_kept ws | false ↦ output_kept ws ])

  -- the first input of cicc
  input_kept : (words : List (List ℕ)) (name : List ℕ) → find is_cicc_word words ≡ Some name → is_cicc_word (new name) ≡ true → find is_cicc_word (map new words) ≡ Some (new name)
  input_kept [] name h k = cc
  input_kept (w ∷ ws) name h k =
      elim (is_cicc_word w) as (λ b. is_cicc_word w ≡ b → cond b (Some w) (find is_cicc_word ws) ≡ Some name → cond (is_cicc_word (new w)) (Some (new w)) (find is_cicc_word (map new ws)) ≡ Some (new name)) [
        | true ↦ λ e m.
            let is : w ≡ name = cc in
            ap (λ b. cond b (Some (new w)) (find is_cicc_word (map new ws))) (ap (λ z. is_cicc_word (new z)) is ∙ k) ∙ ap (λ z. Some (new z)) is
        | false ↦ λ e m. ap (λ b. cond b (Some (new w)) (find is_cicc_word (map new ws))) (not_cicc w e) ∙ input_kept ws name m k
      ] refl h where
        not_cicc : (w : List ℕ) → is_cicc_word w ≡ false → is_cicc_word (word_by_all suffixes names w) ≡ false
        not_cicc w e =
            elim (is_cicc_word (word_by_all suffixes names w)) as (λ b. is_cicc_word (word_by_all suffixes names w) ≡ b → b ≡ false)
            [ true ↦ λ k. absurd (false≢true (sym e ∙ renamed-cicc suffixes lawful names w k)) | false ↦ λ _. refl ] refl

without_kept : (t : List ℕ) → is_cicc_word t ≡ false → (words : List (List ℕ)) → find is_cicc_word (without_first_word t words) ≡ find is_cicc_word words
without_kept t h [] = refl
without_kept t h (w ∷ ws) = grind (arith, bytes_eq-Decides, (without_kept t h ws))

edit_kept : (flag : List ℕ) (words : List (List ℕ)) → cicc_input (cicc_edit flag words) ≡ cicc_input words
edit_kept flag words = grind (arith, without_kept)

found_known : (n : List ℕ) (names : List (List ℕ)) → list_any (bytes_eq n) names ≡ true → find (bytes_eq n) names ≡ Some n
found_known n [] h = absurd (false≢true h)
found_known n (m ∷ ms) h =
    elim (bytes_eq n m) as (λ b. bytes_eq n m ≡ b → (b || list_any (bytes_eq n) ms) ≡ true → cond b (Some m) (find (bytes_eq n) ms) ≡ Some n)
    [ true ↦ λ e _. ap Some (sym ((bytes_eq-Decides n m).0 e)) | false ↦ λ _ k. found_known n ms k ] refl h

written : (path : List ℕ) (o : Option (List ℕ)) → is_some_and (bytes_eq path) o ≡ true → o ≡ Some path
written path o h = grind (arith, false≢true, bytes_eq-Decides)

own_program : (stem : Option (List ℕ)) → is_some_and is_nvcc_stem stem ≡ true → (compiler : NvccHostCompiler) (words : List (List ℕ)) → opens (stage_by (kind_of_optional_stem stem) compiler words) ≡ None
own_program stem h compiler words = grind (arith, false≢true, own_opens)

-- Below, the second run shadows the first, and a step feeds a cicc command.
module _ (suffixes : List (List ℕ)) (lawful : AreSuffixes suffixes) (s : PlanSetting) (first second : List CommandLine) (cicc_line step : CommandLine) (name : List ℕ)
    (shadow : is_step_shadow suffixes first second s.tmp ≡ true) (fed : IsFedBy suffixes s first second cicc_line step name) where
  abbrev ones : List (List ℕ)
  ones = names_of_run suffixes first

  abbrev twos : List (List ℕ)
  twos = names_of_run suffixes second

  abbrev path : List ℕ
  path = joined s.tmp name

  abbrev file : List ℕ
  file = canonical_file (rank (codes ".cpp1.ii") ones name) (codes ".cpp1.ii")

  abbrev is_file : List ℕ → Bool
  is_file t = bytes_eq t file

  abbrev renamed_two : CommandLine → CommandLine
  renamed_two c = command_by_all suffixes twos c

  abbrev firsts : List CommandLine
  firsts = map (command_by_all suffixes ones) first

  abbrev seconds : List CommandLine
  seconds = map (command_by_all suffixes twos) second

  abbrev all : List StagedCommand
  all = staged_commands s firsts seconds

  abbrev fed_one : StagedCommand
  fed_one = planned_command suffixes s 1 first cicc_line

  abbrev fed_by : StagedCommand
  fed_by = planned_command suffixes s 2 second step

  name_ends : is_cicc_word name ≡ true
  name_ends = (find-found is_cicc_word (words_of_command cicc_line) name fed.input).1

  path_ends : is_cicc_word path ≡ true
  path_ends = cicc-joined_name s.tmp name name_ends

  path_dash : begins_with_dash path ≡ false
  path_dash = grind (arith, false≢true, bare-relative, eqb-true)

  ranks : rank (codes ".cpp1.ii") ones name ≡ rank (codes ".cpp1.ii") twos path
  ranks = step-names_keep_rank suffixes lawful first second s.tmp shadow name fed.input_is_bare name_ends

  step_stands : Contains second step
  step_stands = filter_member (is_step_to s.host_compiler path) second step fed.one_step

  step_writes : word_after (codes "-o") (words_of_command step) ≡ Some path
  step_writes = grind (arith, written, and_parts, filter_holds)

  path_known : Contains twos path
  path_known = name_known suffixes lawful second step path step_stands (after_member (codes "-o") (words_of_command step) path step_writes) path_dash path_ends

  plain_each : (c : CommandLine) → Contains second c → is_plain_output (word_after (codes "-o") (words_of_command c)) ≡ true
  plain_each c h =
      each-member (λ command. is_plain_output (word_after (codes "-o") (words_of_command command))) second c (shadow-parts (step_names suffixes first) (step_names suffixes second) s.tmp second shadow).2 h

  -- what a word opens once it is renamed
  opened_file : (r : Option (List ℕ)) → is_some_and is_file (option_and_then device_name r) ≡ true → r ≡ Some file
  opened_file None h = absurd (false≢true h)
  opened_file (Some m) h =
      elim (is_cicc_word m) as (λ b. is_some_and is_file (cond b (Some m) None) ≡ true → Some m ≡ Some file)
      [ true ↦ λ e. ap Some (same_text m file e) | false ↦ λ e. absurd (false≢true e) ] h

  file_opens : is_some_and is_file (device_name file) ≡ true
  file_opens = ap (λ b. is_some_and is_file (cond b (Some file) None)) (file-end suffixes lawful ones (rank (codes ".cpp1.ii") ones name)) ∙ bytes_eq-itself file

  path_file : file_name_of (word_by_all suffixes twos path) ≡ Some file
  path_file =
      ap file_name_of (plain-word suffixes lawful twos path path_dash path_ends)
      ∙ canonical-file_name suffixes lawful twos path (codes ".cpp1.ii") lawful.input
      ∙ ap (λ r. Some (canonical_file r (codes ".cpp1.ii"))) (sym ranks)

  output_is : (c : CommandLine) → Contains second c → (o : Option (List ℕ)) → word_after (codes "-o") (words_of_command c) ≡ o →
      is_some_and is_file (option_and_then device_name (option_and_then file_name_of (option_map (word_by_all suffixes twos) o))) ≡ is_some_and (bytes_eq path) o
  output_is c h None e = refl
  output_is c h (Some v) e =
      same-tests (is_some_and is_file (option_and_then device_name (file_name_of (word_by_all suffixes twos v)))) (bytes_eq path v)
      (λ t.
      let found = plain-outputs_stay_apart suffixes lawful twos v (rank (codes ".cpp1.ii") ones name) (sym (ap is_plain_output e) ∙ plain_each c h) (opened_file (file_name_of (word_by_all suffixes twos v)) t) in
      let known = name_known suffixes lawful second c v h (after_member (codes "-o") (words_of_command c) v e) found.0 found.1 in
      equal_texts path v (rank-apart (codes ".cpp1.ii") twos path v path_known known path_ends found.1 (sym ranks ∙ sym found.2)))
      (λ t.
      subst (λ z. is_some_and is_file (option_and_then device_name (file_name_of (word_by_all suffixes twos z))) ≡ true) (same_text path v t)
      (ap (λ r. is_some_and is_file (option_and_then device_name r)) path_file ∙ file_opens))

  -- a command of the second run opens the group exactly if it is a step that writes the path
  abbrev opens_file : MergedCommand → Bool
  opens_file m = opener file (staged s.host_compiler s.flag m)

  step_test : (c : CommandLine) → Contains second c → (is_taken is_host_stem (program_of c) && opens_file (of_run 2 (renamed_two c))) ≡ is_step_to s.host_compiler path c
  step_test c h =
      let words = words_of_command c in
      let news = map (word_by_all suffixes twos) words in
      let steps = has_word (preprocess_word s.host_compiler) words in
      elim (is_taken is_host_stem (program_of c)) as (λ b. is_taken is_host_stem (program_of c) ≡ b → (b && opens_file (of_run 2 (renamed_two c))) ≡ ((b && (is_for_cuda words && steps)) && writes path c)) [
        | true ↦ λ e.
            ap (λ kind. is_some_and is_file (opens (stage_by kind s.host_compiler (edited_by kind s.flag news)))) (host_program (file_stem_of (program_of c)) e)
            ∙ host_opens is_file (is_for_cuda news) (has_word (preprocess_word s.host_compiler) news) (opened_name news)
            ∙ ap (λ b. (b && has_word (preprocess_word s.host_compiler) news) && is_some_and is_file (opened_name news)) (cuda_kept suffixes lawful twos words)
            ∙ ap (λ b. (is_for_cuda words && b) && is_some_and is_file (opened_name news)) (step_kept suffixes lawful twos s.host_compiler words)
            ∙ ap (λ o. (is_for_cuda words && steps) && is_some_and is_file (option_and_then device_name (option_and_then file_name_of o))) (output_kept suffixes lawful twos words)
            ∙ ap (λ b. (is_for_cuda words && steps) && b) (output_is c h (word_after (codes "-o") words) refl)
        | false ↦ λ _. refl
      ] refl

  steps_filter : (part : List CommandLine) → ((c : CommandLine) → Contains part c → Contains second c) →
      filter opens_file (map (of_run 2) (selected is_host_stem (map renamed_two part))) ≡ map (λ c. of_run 2 (renamed_two c)) (filter (is_step_to s.host_compiler path) part)
  steps_filter [] within = refl
  steps_filter (c ∷ cs) within =
      let more = steps_filter cs (λ d h. within d (tail-member c cs d h)) in
      let test = step_test c (within c (head-member c cs)) in
      let m = of_run 2 (renamed_two c) in
      let chosen = selected is_host_stem (map renamed_two cs) in
      let rest = filter opens_file (map (of_run 2) chosen) in
      let kept = filter (is_step_to s.host_compiler path) cs in
      elim (is_taken is_host_stem (program_of c)) as (λ b. is_taken is_host_stem (program_of c) ≡ b → filter opens_file (map (of_run 2) (cond b (renamed_two c ∷ chosen) chosen)) ≡ map (λ c. of_run 2 (renamed_two c)) (cond (is_step_to s.host_compiler path c) (c ∷ kept) kept)) [
        | true ↦ λ e.
            let same : opens_file m ≡ is_step_to s.host_compiler path c = sym (ap (λ b. b && opens_file m) e) ∙ test in
            ap (λ b. cond b (m ∷ rest) rest) same
            ∙ (elim (is_step_to s.host_compiler path c) as (λ b. cond b (m ∷ rest) rest ≡ map (λ c. of_run 2 (renamed_two c)) (cond b (c ∷ kept) kept))
            [ true ↦ ap (λ t. m ∷ t) more | false ↦ more ])
        | false ↦ λ e.
            let none : is_step_to s.host_compiler path c ≡ false = sym test ∙ ap (λ b. b && opens_file m) e in
            more ∙ sym (ap (λ b. map (λ c. of_run 2 (renamed_two c)) (cond b (c ∷ kept) kept)) none)
      ] refl

  own_filter : (cs : List CommandLine) → filter opens_file (map (of_run 1) (selected is_nvcc_stem cs)) ≡ []
  own_filter [] = refl
  own_filter (c ∷ cs) =
      let chosen = selected is_nvcc_stem cs in
      let rest = filter opens_file (map (of_run 1) chosen) in
      elim (is_taken is_nvcc_stem (program_of c)) as (λ b. is_taken is_nvcc_stem (program_of c) ≡ b → filter opens_file (map (of_run 1) (cond b (c ∷ chosen) chosen)) ≡ []) [
        | true ↦ λ e.
            let none : opens_file (of_run 1 c) ≡ false =
            ap (is_some_and is_file) (own_program (file_stem_of (program_of c)) e s.host_compiler (edited_by (kind_of_program (program_of c)) s.flag (words_of_command c))) in
            ap (λ b. cond b (of_run 1 c ∷ rest) rest) none ∙ own_filter cs
        | false ↦ λ _. own_filter cs
      ] refl

  -- so one command opens it
  abbrev own : List MergedCommand
  own = map (of_run 1) (selected is_nvcc_stem firsts)

  abbrev hosts : List MergedCommand
  hosts = map (of_run 2) (selected is_host_stem seconds)

  one_opener : filter (opener file) all ≡ fed_by ∷ []
  one_opener =
      let some : filter opens_file (own ++ hosts) ≡ of_run 2 (renamed_two step) ∷ [] =
      filter-append opens_file own hosts ∙ ap (λ t. t ++ filter opens_file hosts) (own_filter firsts) ∙ steps_filter second (λ c h. h) ∙ ap (map (λ c. of_run 2 (renamed_two c))) fed.one_step in
      filter_mapped (opener file) (staged s.host_compiler s.flag) (merged firsts seconds)
      ∙ ap (map (staged s.host_compiler s.flag)) (sort_one opens_file (own ++ hosts) (of_run 2 (renamed_two step)) some)

  in_line : InOrder (map (λ t. t.command) all)
  in_line = all_staged_in_order s (merged firsts seconds) (merged_is_in_order firsts seconds)

  step_opens : opener file fed_by ≡ true
  step_opens = filter_holds (opener file) all fed_by one_opener

  cicc_stage : fed_one.stage ≡ device_compiling (Some file)
  cicc_stage =
      let words = words_of_command cicc_line in
      let news = map (word_by_all suffixes ones) words in
      let is : word_by_all suffixes ones name ≡ file =
      plain-word suffixes lawful ones name fed.input_is_no_option name_ends ∙ bare-canonical suffixes lawful ones name (codes ".cpp1.ii") fed.input_is_bare in
      let ends : is_cicc_word (word_by_all suffixes ones name) ≡ true = ap is_cicc_word is ∙ file-end suffixes lawful ones (rank (codes ".cpp1.ii") ones name) in
      ap (λ stem. stage_by (kind_of_optional_stem stem) s.host_compiler (edited_by (kind_of_optional_stem stem) s.flag news)) fed.cicc_is_cicc
      ∙ ap device_compiling (edit_kept s.flag news ∙ input_kept suffixes lawful ones words name fed.input ends ∙ ap Some is)

  cicc_placed : (names : List (List ℕ)) (before : List PlacedCommand) → list_any (bytes_eq file) names ≡ true → place_of names before fed_one.stage ≡ device file
  cicc_placed names before h = ap (place_of names before) cicc_stage ∙ ap (device_or NoCiccGroup) (found_known file names h)

  cicc_behind : (c : StagedCommand) → opener file c ≡ false → is_in_order c.command fed_by.command ≡ true → c ≡ fed_one → ⊥
  cicc_behind c e h is = grind (arith, or_cases, ltb-true, eqb-true, and_parts)

  step_placed : (names : List (List ℕ)) (before : List PlacedCommand) → list_any (bytes_eq file) names ≡ true → place_of names before fed_by.stage ≡ device file
  step_placed names before h = opener_place file fed_by.stage step_opens names before

  step_behind : (c : StagedCommand) → opener file c ≡ false → is_in_order c.command fed_by.command ≡ true → c ≡ fed_by → ⊥
  step_behind c e h is = false≢true (sym e ∙ ap (opener file) is ∙ step_opens)

  stand : (c : StagedCommand) → Contains all c → Contains (map (λ (p : PlacedCommand). p.staged) (fates all)) c
  stand c h = subst (λ ts. Contains ts c) (sym (fates_staged (places all) ∙ placed_staged [] [] all)) h

  cicc_among : Contains all fed_one
  cicc_among =
      let line = command_by_all suffixes ones cicc_line in
      mapped-member (staged s.host_compiler s.flag) (merged firsts seconds) (of_run 1 line)
      (Contains-permutation (own ++ hosts) (merged firsts seconds) (of_run 1 line) (merged_are_the_selected firsts seconds)
      (Contains-append_left own hosts (of_run 1 line)
      (mapped-member (of_run 1) (selected is_nvcc_stem firsts) line
      (kept_member (λ c. is_taken is_nvcc_stem (program_of c)) firsts line (mapped-member (command_by_all suffixes ones) first cicc_line fed.cicc_stands) (ap (is_some_and is_nvcc_stem) fed.cicc_is_cicc)))))

  name_is : canonical_name suffixes ones name ≡ file
  name_is =
      canonical-at suffixes ones name (codes ".cpp1.ii") (class-by_end suffixes lawful ones (codes ".cpp1.ii") name lawful.input name_ends)
      ∙ bare-canonical suffixes lawful ones name (codes ".cpp1.ii") fed.input_is_bare

  abbrev Together : List CommandLine → List CommandLine → List ℕ → Type 0
  Together one two n = HasFate (staged_commands s one two) fed_one (device n) × HasFate (staged_commands s one two) fed_by (device n)

  as_mapped : Together firsts seconds file
  as_mapped = (
    record { stands = stand fed_one cicc_among; goes = fate_settled file fed_by fed_one cicc_placed cicc_behind all in_line one_opener },
    record { stands = stand fed_by (filter_member (opener file) all fed_by one_opener); goes = fate_settled file fed_by fed_by step_placed step_behind all in_line one_opener },
  )

  pub step_shadows_stand_together : StandTogether suffixes s first second cicc_line step name
  step_shadows_stand_together = grind (arith, clean-run_is_a_map, name_is, as_mapped)

pub shadows_stand_together : ShadowsStandTogether
shadows_stand_together suffixes lawful s first second cicc_line step name shadow fed =
    step_shadows_stand_together suffixes lawful s first second cicc_line step name (shadow-is_step_shadow suffixes lawful first second s.tmp shadow) fed
