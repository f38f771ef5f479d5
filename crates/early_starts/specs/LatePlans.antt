-- Plans whose last host compile begins before its fatbin is there.
use Rattle.std.specs.Prelude.{◌≡◌, ℕ, ◌+◌, ◌<◌, ◌==◌, List, [], ◌∷◌, ◌++◌, Bool, true, false, ◌||◌, nat_lt, if◌then◌else◌, Some, ◌⊎◌, map, filter, length, get_or, codes, bytes_eq, option_and_then}
use Rattle.std.specs.List.{range_with_len}
use Rattle.compilers.specs.declared.plans.plan.NvccGeneratedSubcommand.{NvccGeneratedSubcommand}
use Rattle.compilers.specs.declared.plans.plan.Plan.{Plan}
use Rattle.compilers.specs.Listed.{listed}
use Rattle.command_files.specs.declared.files.CommandFiles.{CommandFiles}
use Rattle.command_files.specs.declared.steps.Role.TheVariants as roles
use Rattle.command_files.specs.declared.steps.Step.{Step}
use Rattle.command_files.specs.Files.{Files, must_follow}
use Rattle.command_files.specs.Order.{needs_by, needs_at, own_order, is_in, IsOrder, IsRun, Contents, Effect, contents_after, AllStayWithin, DoesTheSame, Hold}
use Rattle.command_files.specs.PlanNeeds.{record_of, preprocesses, step_needs, step_in, plan_steps}
use Rattle.early_starts.specs.Overlaps.{files_of}
use Rattle.early_starts.specs.declared.split.Places.{Places}
use Rattle.early_starts.specs.declared.split.Split.{Split}
use Rattle.early_starts.specs.declared.words.Half.TheVariants.{Compiler, Assembler}
use Rattle.early_starts.specs.LateTexts.{assembler_text, placeholder}
use Rattle.early_starts.specs.LateWords.{late_words}
use Rattle.early_starts.specs.Splits.{split_of, compiler_files, assembler_files}

-- Its commands, as what needs and orders depend on.

-- a command of the final group
abbrev pub final_step : NvccGeneratedSubcommand → Step
final_step c = record { files = files_of c; role = roles.Final; preprocesses = preprocesses c.args }

-- a plan whose last commands are fatbinary's and a host compile, behind others
abbrev pub whole_steps : List Step → NvccGeneratedSubcommand → NvccGeneratedSubcommand → List Step
whole_steps front fatbinary compile = front ++ final_step fatbinary ∷ final_step compile ∷ []

-- The same with a split in place of both. The assembler needs all before it, as a final command does. The compiler needs only what its
-- files make it need.
abbrev pub compiler_step : Split → Step
compiler_step s = record { files = compiler_files s; role = roles.Plain; preprocesses = false }

abbrev pub assembler_step : Places → Split → Step
assembler_step places s = record { files = assembler_files places s; role = roles.Final; preprocesses = false }

abbrev pub late_steps : Places → Split → List Step → List Step
late_steps places s front = front ++ final_step s.fatbinary ∷ compiler_step s ∷ assembler_step places s ∷ []

abbrev pub records_of : List Step → List Files
records_of steps = map record_of (map (λ s. s.files) steps)

abbrev pub whole_needs : List Step → NvccGeneratedSubcommand → NvccGeneratedSubcommand → List (List ℕ)
whole_needs front fatbinary compile = needs_by step_needs (whole_steps front fatbinary compile)

abbrev pub late_needs : Places → Split → List Step → List (List ℕ)
late_needs places s front = needs_by step_needs (late_steps places s front)

-- a plan whose final group has these two has such steps
abbrev pub EndsPlan : Type 0
EndsPlan =
    (plan : Plan) (first : List NvccGeneratedSubcommand) (groups : List (List NvccGeneratedSubcommand)) (fatbinary compile : NvccGeneratedSubcommand)
    → plan.groups ≡ (first ∷ groups) ++ (fatbinary ∷ compile ∷ []) ∷ []
    → plan_steps plan ≡ whole_steps (map (step_in (length plan.groups)) (listed (first ∷ groups))) fatbinary compile

-- Words, records and needs.

-- the words of a half are those of the compile, one by one, but for the phase, the language, and the assembler text in place of a file
abbrev pub IsWordOf : List ℕ → List ℕ → List ℕ → List ℕ → Type 0
IsWordOf other text_file word late = (late ≡ word) ⊎ ((late ≡ other) ⊎ (late ≡ text_file))

pub record AreWordsOf (other text_file : List ℕ) (words late : List (List ℕ)) : Type 0 where
  pub count : length late ≡ length words
  pub each : (n : ℕ) → IsWordOf other text_file (get_or words n []) (get_or late n [])

abbrev pub CompilersWords : Type 0
CompilersWords = (text_file : List ℕ) (words late : List (List ℕ)) → late_words Compiler text_file words ≡ Some late → AreWordsOf (codes "-S") text_file words late

abbrev pub AssemblersWords : Type 0
AssemblersWords = (text_file : List ℕ) (words late : List (List ℕ)) → late_words Assembler text_file words ≡ Some late → AreWordsOf (codes "assembler") text_file words late

-- both halves touch what the compile touches, by its words and theirs, and besides the files that a split adds and the two that no words name
pub record Touch (files : CommandFiles) (places : Places) (s : Split) : Type 0 where
  pub reads :
      (compiler_files s).reads ++ (assembler_files places s).reads
      ≡ files.reads ++ s.stub ∷ s.read ∷ places.text_file ∷ places.fatbin_file ∷ []
  pub writes : (compiler_files s).writes ++ (assembler_files places s).writes ≡ places.text_file ∷ files.writes ++ places.included ∷ []

abbrev pub HalvesTouch : Type 0
HalvesTouch =
    (places : Places) (fatbinary compile : NvccGeneratedSubcommand) (s : Split) → split_of places fatbinary compile ≡ Some s → Touch (files_of compile) places s

-- each command but the halves needs what it needs in the plan
abbrev pub OthersNeedTheSame : Type 0
OthersNeedTheSame =
    (places : Places) (s : Split) (front : List Step) (fatbinary compile : NvccGeneratedSubcommand) (n : ℕ)
    → n < length front + 1
    → needs_at (late_needs places s front) n ≡ needs_at (whole_needs front fatbinary compile) n

-- the assembler needs all: what the compile needs in the plan, and the compiler
abbrev pub AssemblerNeedsAll : Type 0
AssemblerNeedsAll =
    (places : Places) (s : Split) (front : List Step) → needs_at (late_needs places s front) (length front + 2) ≡ range_with_len 0 (length front + 2)

-- Orders.

-- needs of a split hold the needs of files, so what is said of orders, of commands that overlap, and of schedules is said of it
abbrev pub LateNeedsHold : Type 0
LateNeedsHold = (places : Places) (s : Split) (front : List Step) → Hold must_follow (records_of (late_steps places s front)) (late_needs places s front)

-- the files of a split: what the compiler reads in place of the fatbin, and those that it adds
abbrev pub is_own : Places → Split → List ℕ → Bool
is_own places s file = bytes_eq file s.read || (bytes_eq file places.fatbin_file || (bytes_eq file places.text_file || bytes_eq file places.included))

-- contents with the placeholder, which stands there before anything runs, and with fatbinary's text elsewhere
abbrev pub with_placeholder : Places → Split → Contents → Contents
with_placeholder places s contents = λ file. if bytes_eq file s.read then placeholder s.is_linked places.included else contents file

abbrev pub with_moved : Places → Split → Contents → Contents
with_moved places s contents =
    λ file. if bytes_eq file s.read then placeholder s.is_linked places.included else
    (if bytes_eq file places.fatbin_file then contents s.read else contents file)

-- contents with what the assembler includes, which is written right before it starts
abbrev pub with_included : Places → Split → Contents → Contents
with_included places s contents =
    λ file. if bytes_eq file places.included then option_and_then (assembler_text s.is_linked) (contents places.fatbin_file) else contents file

-- what the commands of a split do: fatbinary, gcc -S, and gcc as an assembler
pub record SplitEffects : Type 0 where
  pub fatbinary : Effect
  pub compiler : Effect
  pub assembler : Effect

-- what all do, given the number of those in front, and what each command of the plan does
abbrev pub late_effects : Places → Split → ℕ → (ℕ → Effect) → SplitEffects → ℕ → Effect
late_effects places s count effects split n =
    if nat_lt n count then effects n else
    (if n == count then split.fatbinary else
    (if n == count + 1 then split.compiler else (λ contents. split.assembler (with_included places s contents))))

-- Three premises of what the commands do.

-- a command in front leaves the files of a split as they are, and what it leaves elsewhere doesn't depend on them
pub record Ignores (places : Places) (s : Split) (effect : Effect) : Type 0 where
  pub leaves : (contents : Contents) (file : List ℕ) → is_own places s file ≡ true → effect contents file ≡ contents file
  pub elsewhere :
      (one other : Contents)
      → ((file : List ℕ) → is_own places s file ≡ false → one file ≡ other file)
      → (file : List ℕ) → is_own places s file ≡ false → effect one file ≡ effect other file

-- fatbinary does the same with another name for one of its files, and doesn't look at what stands there
abbrev pub MovesItsFile : Places → Split → Effect → Effect → Type 0
MovesItsFile places s whole moved = (contents : Contents) (file : List ℕ) → moved (with_placeholder places s contents) file ≡ with_moved places s (whole contents) file

-- The halves do what the compile does, but for the files of the split: the first with a placeholder in place of fatbinary's text, and the
-- second with that text's assembler text. `tests/late.sh` tries this.
abbrev pub HalvesDoTheSame : Places → Split → Effect → SplitEffects → Contents → Type 0
HalvesDoTheSame places s whole split contents =
    (file : List ℕ) → is_own places s file ≡ false → split.assembler (with_included places s (split.compiler (with_moved places s contents))) file ≡ whole contents file

-- every order by the needs of a split does what its own order does, and so does every run that stops early
abbrev pub LateOrdersAgree : Type 0
LateOrdersAgree =
    (places : Places) (s : Split) (front : List Step) (order : List ℕ) (effects : ℕ → Effect) (contents : Contents)
    → IsOrder (late_needs places s front) order
    → AllStayWithin (records_of (late_steps places s front)) (late_needs places s front) effects
    → DoesTheSame (records_of (late_steps places s front)) effects contents order (own_order (late_needs places s front))

abbrev pub LateRunsAgree : Type 0
LateRunsAgree =
    (places : Places) (s : Split) (front : List Step) (ran : List ℕ) (effects : ℕ → Effect) (contents : Contents)
    → IsRun (late_needs places s front) ran
    → AllStayWithin (records_of (late_steps places s front)) (late_needs places s front) effects
    → DoesTheSame (records_of (late_steps places s front)) effects contents ran (filter (is_in ran) (own_order (late_needs places s front)))

-- it leaves in every file but those of the split what the plan's own order leaves
abbrev pub LateProducts : Type 0
LateProducts =
    (places : Places) (s : Split) (front : List Step) (fatbinary compile : NvccGeneratedSubcommand)
    (order : List ℕ) (effects : ℕ → Effect) (split : SplitEffects) (contents : Contents)
    → IsOrder (late_needs places s front) order
    → AllStayWithin (records_of (late_steps places s front)) (late_needs places s front) (late_effects places s (length front) effects split)
    → ((n : ℕ) → n < length front → Ignores places s (effects n))
    → MovesItsFile places s (effects (length front)) split.fatbinary
    → HalvesDoTheSame places s (effects (length front + 1)) split (contents_after effects (range_with_len 0 (length front + 1)) contents)
    → (file : List ℕ) → is_own places s file ≡ false
    → contents_after (late_effects places s (length front) effects split) order (with_placeholder places s contents) file
    ≡ contents_after effects (own_order (whole_needs front fatbinary compile)) contents file
