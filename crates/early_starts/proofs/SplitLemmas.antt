-- The words and the records of a split.
use Rattle.std.proofs.Common.{◌≡◌, inl, inr, ℕ, zero, suc, ◌+◌, ◌-◌, Bool, true, false, cond, ◌&&◌, ◌==◌, List, [], ◌∷◌, ◌++◌, Some, None, refl, ap, sym, subst, ◌∙◌, map, length, get_or, append_assoc, append-nil, length-append, unwrap_or, bytes_eq, codes, arith}
use Rattle.std.specs.Option.{is_some, option_and_then}
use Rattle.std.proofs.lemmas.Bool.{false≢true, and_parts, eq-eqb, eqb-true}
use Rattle.std.proofs.lemmas.List.{map-append}
use Rattle.std.proofs.lemmas.Option.{option_and_then_some}
use Rattle.std.proofs.lemmas.Slice.Eq.{bytes_eq-Decides}
use Rattle.texts.proofs.EqualityLemmas.{lists}
use Rattle.texts.specs.Equality.{words_eq}
use Rattle.texts.specs.Path.{joined}
use Rattle.compilers.specs.declared.plans.plan.NvccGeneratedSubcommand.{NvccGeneratedSubcommand}
use Rattle.compilers.specs.Listed.{listed_group, listed_from, listed}
use Rattle.command_files.specs.declared.files.CommandFiles.{CommandFiles}
use Rattle.command_files.specs.declared.steps.Role.{Role as PlanRole}
use Rattle.command_files.specs.declared.steps.Role.TheVariants as roles
use Rattle.command_files.specs.declared.steps.Step.{Step}
use Rattle.command_files.specs.PlanNeeds.{is_host_compiler, role_of, step_of, step_in, preprocesses}
use Rattle.compilers.specs.Programs.{program_at}
use Rattle.command_files.proofs.OrderLemmas.{fails}
use Rattle.early_starts.specs.Overlaps.{files_of}
use Rattle.early_starts.specs.declared.split.Places.{Places}
use Rattle.early_starts.specs.declared.split.Split.{Split}
use Rattle.early_starts.specs.declared.words.Half.{Half}
use Rattle.early_starts.specs.declared.words.Half.TheVariants.{Compiler, Assembler}
use Rattle.early_starts.specs.declared.words.Role.TheVariants as words
use Rattle.early_starts.specs.declared.words.Role.{Role}
use Rattle.early_starts.specs.LateWords.{has_halves, late_words, next_before, role_behind, word_of, words_behind}
use Rattle.early_starts.specs.Splits.{checked, assembler_files, cut, embedded, has_records, is_only, split_of, split_with, stub_of, words_of}
use Rattle.early_starts.specs.LatePlans.{final_step, EndsPlan, IsWordOf, AreWordsOf, CompilersWords, AssemblersWords, HalvesTouch}

-- Words.

compilers-word : (role : Role) (text_file word : List ℕ) → IsWordOf (codes "-S") text_file word (word_of Compiler role word text_file)
compilers-word words.Phase text_file word = inr (inl refl)
compilers-word words.Language text_file word = inl refl
compilers-word words.Source text_file word = inl refl
compilers-word words.Product text_file word = inr (inr refl)
compilers-word words.Kept text_file word = inl refl
compilers-word words.Unknown text_file word = inl refl

assemblers-word : (role : Role) (text_file word : List ℕ) → IsWordOf (codes "assembler") text_file word (word_of Assembler role word text_file)
assemblers-word words.Phase text_file word = inl refl
assemblers-word words.Language text_file word = inr (inl refl)
assemblers-word words.Source text_file word = inr (inr refl)
assemblers-word words.Product text_file word = inl refl
assemblers-word words.Kept text_file word = inl refl
assemblers-word words.Unknown text_file word = inl refl

module _ (half : Half) (other text_file : List ℕ) (is : (role : Role) (word : List ℕ) → IsWordOf other text_file word (word_of half role word text_file)) where
  count-behind : (before : List ℕ) (ws : List (List ℕ)) → length (words_behind half text_file before ws) ≡ length ws
  count-behind before [] = refl
  count-behind before (w ∷ ws) = ap suc (count-behind (next_before before w) ws)

  each-behind : (before : List ℕ) (ws : List (List ℕ)) (n : ℕ) → IsWordOf other text_file (get_or ws n []) (get_or (words_behind half text_file before ws) n [])
  each-behind before [] n = inl refl
  each-behind before (w ∷ ws) zero = is (role_behind before w) w
  each-behind before (w ∷ ws) (suc n) = each-behind (next_before before w) ws n

  are-words : (ws late : List (List ℕ)) → late_words half text_file ws ≡ Some late → AreWordsOf other text_file ws late
  are-words ws late e =
      let same : words_behind half text_file [] ws ≡ late = given (has_halves ws) e in
      subst (AreWordsOf other text_file ws) same (record { count = count-behind [] ws; each = each-behind [] ws })
    where
      given : (b : Bool) → cond b (Some (words_behind half text_file [] ws)) None ≡ Some late → words_behind half text_file [] ws ≡ late
      given true k = ap (λ o. unwrap_or o []) k
      given false k = absurd (false≢true (ap is_some k))

pub compilers-words : CompilersWords
compilers-words text_file ws late e = are-words Compiler (codes "-S") text_file (λ role word. compilers-word role text_file word) ws late e

pub assemblers-words : AssemblersWords
assemblers-words text_file ws late e = are-words Assembler (codes "assembler") text_file (λ role word. assemblers-word role text_file word) ws late e

-- Records.

only : (path : List ℕ) (paths : List (List ℕ)) → is_only path paths ≡ true → paths ≡ path ∷ []
only path [] e = absurd (false≢true e)
only path (p ∷ []) e = ap (λ q. q ∷ []) (sym ((bytes_eq-Decides path p).0 e))
only path (p ∷ q ∷ ps) e = absurd (false≢true e)

same-words : (some others : List (List ℕ)) → words_eq some others ≡ true → some ≡ others
same-words some others e = (lists bytes_eq bytes_eq-Decides some others).0 e

-- a split that has its records
record Has (text_file : List ℕ) (files : CommandFiles) (s : Split) : Type 0 where
  has : has_records text_file files s ≡ true

has-records : (text_file : List ℕ) (files : CommandFiles) (other s : Split) → checked text_file files other ≡ Some s → Has text_file files s
has-records text_file files other s e = by (has_records text_file files other) refl e
  where
    by : (b : Bool) → has_records text_file files other ≡ b → cond b (Some other) None ≡ Some s → Has text_file files s
    by true t k = record { has = subst (λ x. has_records text_file files x ≡ true) (ap (λ o. unwrap_or o other) k) t }
    by false t k = absurd (false≢true (ap is_some k))

split-has-records : (places : Places) (fatbinary compile : NvccGeneratedSubcommand) (s : Split) → split_of places fatbinary compile ≡ Some s → Has places.text_file (files_of compile) s
split-has-records places fatbinary compile s e =
    option_and_then_some (λ file. option_and_then (λ ws. split_with places.text_file fatbinary compile ws file) (words_of places fatbinary.args compile.args)) (embedded fatbinary.args) s e
    (λ file _ k. option_and_then_some (λ ws. split_with places.text_file fatbinary compile ws file) (words_of places fatbinary.args compile.args) s k
    (λ ws _ m. option_and_then_some
    (λ stub. checked places.text_file (files_of compile) (cut fatbinary compile ws (joined fatbinary.cwd file) stub)) (stub_of (files_of compile).reads) s m
    (λ stub _ c. has-records places.text_file (files_of compile) (cut fatbinary compile ws (joined fatbinary.cwd file) stub) s c)))

pub halves-touch : HalvesTouch
halves-touch places fatbinary compile s e =
    let files : CommandFiles = files_of compile in
    let a : Bool = words_eq (files_of s.compiler).reads files.reads in
    let b : Bool = is_only places.text_file (files_of s.compiler).writes in
    let c : Bool = is_only places.text_file (files_of s.assembler).reads in
    let d : Bool = words_eq (files_of s.assembler).writes files.writes in
    let all : ((a && b) && c ≡ true) × (d ≡ true) = and_parts ((a && b) && c) d (split-has-records places fatbinary compile s e).has in
    let three : (a && b ≡ true) × (c ≡ true) = and_parts (a && b) c all.0 in
    let two : (a ≡ true) × (b ≡ true) = and_parts a b three.0 in
    let reads : (files_of s.compiler).reads ≡ files.reads = same-words (files_of s.compiler).reads files.reads two.0 in
    let writes : (files_of s.compiler).writes ≡ places.text_file ∷ [] = only places.text_file (files_of s.compiler).writes two.1 in
    let read : (files_of s.assembler).reads ≡ places.text_file ∷ [] = only places.text_file (files_of s.assembler).reads three.1 in
    let written : (files_of s.assembler).writes ≡ files.writes = same-words (files_of s.assembler).writes files.writes all.1 in
    record {
      reads =
          append_assoc (files_of s.compiler).reads (s.stub ∷ s.read ∷ []) (assembler_files places s).reads
          ∙ (λ i. reads i ++ s.stub ∷ s.read ∷ (read i ++ places.fatbin_file ∷ []));
      writes = λ i. writes i ++ (written i ++ places.included ∷ []);
    }

-- Plans.

listed-append : (group : ℕ) (groups : List (List NvccGeneratedSubcommand)) (last : List NvccGeneratedSubcommand)
    → listed_from group (groups ++ last ∷ []) ≡ listed_from group groups ++ listed_group (group + length groups) 0 last
listed-append group [] last = let same : group ≡ group + zero = omega arith in append-nil (listed_group group 0 last) ∙ ap (λ n. listed_group n 0 last) same
listed-append group (g ∷ gs) last =
    let same : (group + 1) + length gs ≡ group + suc (length gs) = omega arith in
    ap (λ rest. listed_group group 0 g ++ rest) (listed-append (group + 1) gs last ∙ ap (λ n. listed_from (group + 1) gs ++ listed_group n 0 last) same)
    ∙ sym (append_assoc (listed_group group 0 g) (listed_from (group + 1) gs) (listed_group (group + suc (length gs)) 0 last))

last-is-final : (count before : ℕ) (compiles : Bool) → count ≡ suc before + 1 → role_of count (suc before) compiles ≡ roles.Final
last-is-final count before compiles e =
    let none : (suc before == 0) ≡ false = fails (suc before == 0) (λ t. let zero_is : suc before ≡ 0 = eqb-true (suc before) 0 t in omega (arith, zero_is)) in
    let one : count - suc before ≡ 1 = omega (arith, e) in
    let last : PlanRole = cond (count - suc before == 1) roles.Final (cond compiles roles.DeviceStep roles.Plain) in
    ap (λ b. cond b (cond compiles roles.FrontStep roles.Plain) last) none
    ∙ ap (λ b. cond b roles.Final (cond compiles roles.DeviceStep roles.Plain)) (eq-eqb (count - suc before) 1 one)

abbrev with-role : NvccGeneratedSubcommand → PlanRole → Step
with-role c role = record { files = files_of c; role = role; preprocesses = preprocesses c.args }

final-steps : (count before : ℕ) (c : NvccGeneratedSubcommand) → count ≡ suc before + 1 → step_of count (suc before) c ≡ final_step c
final-steps count before c e = ap (with-role c) (last-is-final count before (is_host_compiler (program_at c.exe)) e)

pub ends-plan : EndsPlan
ends-plan plan first groups fatbinary compile e =
    let count : ℕ = length plan.groups in
    let number : 0 + suc (length groups) ≡ suc (length groups) = omega arith in
    let size : count ≡ suc (length groups) + 1 = ap length e ∙ length-append (first ∷ groups) ((fatbinary ∷ compile ∷ []) ∷ []) in
    let front : List Step = map (step_in count) (listed (first ∷ groups)) in
    ap (λ gs. map (step_in count) (listed gs)) e
    ∙ ap (map (step_in count)) (listed-append 0 (first ∷ groups) (fatbinary ∷ compile ∷ []))
    ∙ map-append (step_in count) (listed (first ∷ groups)) (listed_group (0 + suc (length groups)) 0 (fatbinary ∷ compile ∷ []))
    ∙ ap (λ n. front ++ map (step_in count) (listed_group n 0 (fatbinary ∷ compile ∷ []))) number
    ∙ (λ i. front ++ final-steps count (length groups) fatbinary size i ∷ final-steps count (length groups) compile size i ∷ [])
