-- What orders of a split leave.
use Rattle.std.proofs.Common.{◌≡◌, ℕ, zero, suc, ◌+◌, ◌<◌, ◌≤◌, Bool, true, false, cond, ◌||◌, ◌==◌, List, [], ◌∷◌, refl, ap, sym, ◌∙◌, length, length-append, bytes_eq, arith}
use Rattle.std.specs.Prelude.{nat_lt}
use Rattle.std.specs.List.{range_with_len}
use Rattle.std.proofs.lemmas.Bool.{or_parts, eq-eqb, eqb-true, lt-ltb, ltb-true}
use Rattle.command_files.specs.Order.{own_order, IsOrder, Contents, Effect, contents_after, AllStayWithin}
use Rattle.compilers.specs.declared.plans.plan.NvccGeneratedSubcommand.{NvccGeneratedSubcommand}
use Rattle.command_files.specs.declared.steps.Step.{Step}
use Rattle.command_files.specs.PlanNeeds.{step_needs}
use Rattle.command_files.proofs.NeedLemmas.{length-needs_behind}
use Rattle.command_files.proofs.OrderLemmas.{fails, orders_agree, runs_agree}
use Rattle.early_starts.specs.declared.split.Places.{Places}
use Rattle.early_starts.specs.declared.split.Split.{Split}
use Rattle.early_starts.specs.LateTexts.{placeholder}
use Rattle.early_starts.specs.LatePlans.{final_step, compiler_step, assembler_step, whole_steps, late_steps, records_of, whole_needs, late_needs, is_own, with_placeholder, with_moved, with_included, SplitEffects, late_effects, Ignores, MovesItsFile, HalvesDoTheSame, LateOrdersAgree, LateRunsAgree}
use Rattle.early_starts.proofs.LateNeedLemmas.{late-needs-hold}

pub late-orders-agree : LateOrdersAgree
late-orders-agree places s front order effects contents is within =
    orders_agree (records_of (late_steps places s front)) (late_needs places s front) order effects contents (late-needs-hold places s front) is within

pub late-runs-agree : LateRunsAgree
late-runs-agree places s front ran effects contents is within =
    runs_agree (records_of (late_steps places s front)) (late_needs places s front) ran effects contents (late-needs-hold places s front) is within

-- one range behind another
after_ranges : (effects : ℕ → Effect) (a m r : ℕ) (contents : Contents)
    → contents_after effects (range_with_len a (m + r)) contents ≡ contents_after effects (range_with_len (a + m) r) (contents_after effects (range_with_len a m) contents)
after_ranges effects a zero r contents =
    let none : zero + r ≡ r = omega arith in
    let same : a ≡ a + zero = omega arith in
    ap (λ n. contents_after effects (range_with_len a n) contents) none ∙ ap (λ n. contents_after effects (range_with_len n r) contents) same
after_ranges effects a (suc m) r contents =
    let first : suc m + r ≡ suc (m + r) = omega arith in
    let same : (a + 1) + m ≡ a + suc m = omega arith in
    ap (λ n. contents_after effects (range_with_len a n) contents) first
    ∙ after_ranges effects (a + 1) m r (effects a contents)
    ∙ ap (λ n. contents_after effects (range_with_len n r) (contents_after effects (range_with_len (a + 1) m) (effects a contents))) same

-- all behind the first ones
after_first : (effects : ℕ → Effect) (count r : ℕ) (contents : Contents)
    → contents_after effects (range_with_len 0 (count + r)) contents ≡ contents_after effects (range_with_len count r) (contents_after effects (range_with_len 0 count) contents)
after_first effects count r contents =
    let same : 0 + count ≡ count = omega arith in
    after_ranges effects 0 count r contents ∙ ap (λ n. contents_after effects (range_with_len n r) (contents_after effects (range_with_len 0 count) contents)) same

module _ (places : Places) (s : Split) where
  own : List ℕ → Bool
  own file = is_own places s file

  -- a command that ignores the files of a split does the same with a placeholder
  ignored_at : (effect : Effect) → Ignores places s effect → (contents : Contents) (file : List ℕ) → effect (with_placeholder places s contents) file ≡ with_placeholder places s (effect contents) file
  ignored_at effect ignores contents file =
      elim (is_own places s file) as (λ b. is_own places s file ≡ b → effect (with_placeholder places s contents) file ≡ with_placeholder places s (effect contents) file) [
        | true ↦ λ e.
            ignores.leaves (with_placeholder places s contents) file e
            ∙ ap (cond (bytes_eq file s.read) (placeholder s.is_linked places.included)) (sym (ignores.leaves contents file e))
        | false ↦ λ e.
            ignores.elsewhere (with_placeholder places s contents) contents (λ other k. read_apart other k contents) file e
            ∙ sym (read_apart file e (effect contents))
      ] refl
    where
      read_apart : (other : List ℕ) → is_own places s other ≡ false → (c : Contents) → with_placeholder places s c other ≡ c other
      read_apart other k c =
          ap (λ b. cond b (placeholder s.is_linked places.included) (c other))
          (or_parts (bytes_eq other s.read) (bytes_eq other places.fatbin_file || (bytes_eq other places.text_file || bytes_eq other places.included)) k).0

  module _ (count : ℕ) (effects : ℕ → Effect) (split : SplitEffects) where
    in_front : (n : ℕ) → n < count → late_effects places s count effects split n ≡ effects n
    in_front n h =
        ap (λ b. cond b (effects n) (cond (n == count) split.fatbinary (cond (n == count + 1) split.compiler (λ contents. split.assembler (with_included places s contents))))) (lt-ltb n count h)

    behind : (n : ℕ) → count ≤ n → late_effects places s count effects split n ≡ cond (n == count) split.fatbinary (cond (n == count + 1) split.compiler (λ contents. split.assembler (with_included places s contents)))
    behind n h =
        ap (λ b. cond b (effects n) (cond (n == count) split.fatbinary (cond (n == count + 1) split.compiler (λ contents. split.assembler (with_included places s contents)))))
        (fails (nat_lt n count) (λ t. let less : n < count = ltb-true n count t in omega (arith, h, less)))

    other_number : (n m : ℕ) → m < n → (n == m) ≡ false
    other_number n m h = fails (n == m) (λ t. let same : n ≡ m = eqb-true n m t in omega (arith, h, same))

    fatbinary_is : late_effects places s count effects split count ≡ split.fatbinary
    fatbinary_is =
        behind count (omega arith)
        ∙ ap (λ b. cond b split.fatbinary (cond (count == count + 1) split.compiler (λ contents. split.assembler (with_included places s contents)))) (eq-eqb count count refl)

    compiler_is : late_effects places s count effects split (count + 1) ≡ split.compiler
    compiler_is =
        behind (count + 1) (omega arith)
        ∙ ap (λ b. cond b split.fatbinary (cond (count + 1 == count + 1) split.compiler (λ contents. split.assembler (with_included places s contents)))) (other_number (count + 1) count (omega arith))
        ∙ ap (λ b. cond b split.compiler (λ contents. split.assembler (with_included places s contents))) (eq-eqb (count + 1) (count + 1) refl)

    assembler_is : late_effects places s count effects split ((count + 1) + 1) ≡ (λ contents. split.assembler (with_included places s contents))
    assembler_is =
        behind ((count + 1) + 1) (omega arith)
        ∙ ap (λ b. cond b split.fatbinary (cond ((count + 1) + 1 == count + 1) split.compiler (λ contents. split.assembler (with_included places s contents)))) (other_number ((count + 1) + 1) count (omega arith))
        ∙ ap (λ b. cond b split.compiler (λ contents. split.assembler (with_included places s contents))) (other_number ((count + 1) + 1) (count + 1) (omega arith))

    module _ (ignore : (n : ℕ) → n < count → Ignores places s (effects n)) where
      -- the commands in front leave what they leave in the plan
      front_same : (a m : ℕ) → a + m ≤ count → (contents : Contents)
          → contents_after (late_effects places s count effects split) (range_with_len a m) (with_placeholder places s contents)
          ≡ with_placeholder places s (contents_after effects (range_with_len a m) contents)
      front_same a zero h contents = refl
      front_same a (suc m) h contents =
          let there : a < count = omega (arith, h) in
          ap (contents_after (late_effects places s count effects split) (range_with_len (a + 1) m))
          ((λ i. in_front a there i (with_placeholder places s contents)) ∙ (λ i file. ignored_at (effects a) (ignore a there) contents file i))
          ∙ front_same (a + 1) m (omega (arith, h)) (effects a contents)

      -- and then the split leaves what fatbinary and the compile leave
      module _ (moves : MovesItsFile places s (effects count) split.fatbinary) (contents : Contents) where
        abbrev whole : Contents
        whole = contents_after effects (range_with_len 0 count) contents

        abbrev late : ℕ → Effect
        late = late_effects places s count effects split

        before_compile : contents_after effects (range_with_len 0 (count + 1)) contents ≡ effects count whole
        before_compile = after_first effects count 1 contents

        last_three : contents_after late (range_with_len count 3) (with_placeholder places s whole) ≡ split.assembler (with_included places s (split.compiler (with_moved places s (effects count whole))))
        last_three =
            (λ i. assembler_is i (compiler_is i (fatbinary_is i (with_placeholder places s whole))))
            ∙ (λ i. split.assembler (with_included places s (split.compiler (λ file. moves whole file i))))

        products : HalvesDoTheSame places s (effects (count + 1)) split (contents_after effects (range_with_len 0 (count + 1)) contents)
            → (file : List ℕ) → is_own places s file ≡ false
            → contents_after late (range_with_len 0 (count + 3)) (with_placeholder places s contents) file ≡ contents_after effects (range_with_len 0 (count + 2)) contents file
        products halves file e =
            ap (λ (c : Contents). c file) (after_first late count 3 (with_placeholder places s contents))
            ∙ ap (λ (c : Contents). contents_after late (range_with_len count 3) c file) (front_same 0 count (omega arith) contents)
            ∙ ap (λ (c : Contents). c file) last_three
            ∙ ap (λ (c : Contents). split.assembler (with_included places s (split.compiler (with_moved places s c))) file) (sym before_compile)
            ∙ halves file e
            ∙ ap (λ (c : Contents). effects (count + 1) c file) before_compile
            ∙ sym (ap (λ (c : Contents). c file) (after_first effects count 2 contents))

pub late-products :
    (places : Places) (s : Split) (front : List Step) (fatbinary compile : NvccGeneratedSubcommand)
    (order : List ℕ) (effects : ℕ → Effect) (split : SplitEffects) (contents : Contents)
    → IsOrder (late_needs places s front) order
    → AllStayWithin (records_of (late_steps places s front)) (late_needs places s front) (late_effects places s (length front) effects split)
    → ((n : ℕ) → n < length front → Ignores places s (effects n))
    → MovesItsFile places s (effects (length front)) split.fatbinary
    → HalvesDoTheSame places s (effects (length front + 1)) split (contents_after effects (range_with_len 0 (length front + 1)) contents)
    → (file : List ℕ) → is_own places s file ≡ false
    → contents_after (late_effects places s (length front) effects split) order (with_placeholder places s contents) file
    ≡ contents_after effects (own_order (whole_needs front fatbinary compile)) contents file
late-products places s front fatbinary compile order effects split contents is within ignore moves halves file e =
    let late : ℕ → Effect = late_effects places s (length front) effects split in
    let first : Contents = with_placeholder places s contents in
    let same : (file : List ℕ) → contents_after late order first file ≡ contents_after late (own_order (late_needs places s front)) first file =
    (late-orders-agree places s front order late first is within).leaves in
    let three : length (late_needs places s front) ≡ length front + 3 =
    length-needs_behind step_needs [] (late_steps places s front) ∙ length-append front (final_step s.fatbinary ∷ compiler_step s ∷ assembler_step places s ∷ []) in
    let two : length (whole_needs front fatbinary compile) ≡ length front + 2 =
    length-needs_behind step_needs [] (whole_steps front fatbinary compile) ∙ length-append front (final_step fatbinary ∷ final_step compile ∷ []) in
    same file
    ∙ ap (λ n. contents_after late (range_with_len 0 n) first file) three
    ∙ products places s (length front) effects split ignore moves contents halves file e
    ∙ sym (ap (λ n. contents_after effects (range_with_len 0 n) contents file) two)
