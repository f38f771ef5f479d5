-- `==` on the records says whether they are equal.
use Rattle.std.proofs.Common.{◌≡◌, ℕ, Bool, ◌&&◌, List, [], ◌∷◌, Vec, String, Global, map, refl, string_bytes, nat_eq, ap, eqb-true, eq-eqb, rules, arith}
use Rattle.std.specs.Option.{option_eq}
use Rattle.std.specs.Bool.{Decides, beq}
use Rattle.std.specs.Cmp.Lexicographic.{pointwise}
use Rattle.std.specs.Ordering.{on, eq_of_both}
use Rattle.std.proofs.lemmas.Bool.Decides.{Decides-and, Decides-like}
use Rattle.std.proofs.lemmas.Slice.Eq.{bytes_eq-Decides}
use denote.Enum.Bare.{sameb, same_true, true_same}
use Rattle.texts.specs.contracts.language.Language as language
use Rattle.texts.specs.declared.language.Language.{Language}
use Rattle.texts.specs.Equality.{TellsEqual}
use Rattle.texts.proofs.EqualityLemmas.{bools, lists, pairs, same_variables, variables, options}
use Rattle.texts.proofs.ListLemmas.{pointwise-texts}
use Rattle.compilers.specs.contracts.arguments.ColorMode as color
use Rattle.compilers.specs.contracts.command.Cacheable as cacheable
use Rattle.compilers.specs.contracts.plans.plan.Reason as reason
use Rattle.compilers.specs.declared.arguments.ColorMode.{ColorMode}
use Rattle.compilers.specs.declared.arguments.ParsedArguments.{ParsedArguments}
use Rattle.compilers.specs.declared.outputs.ArtifactDescriptor.{ArtifactDescriptor}
use Rattle.compilers.specs.declared.command.Cacheable.{Cacheable}
use Rattle.compilers.specs.declared.command.SingleCompileCommand.{SingleCompileCommand}
use Rattle.compilers.specs.declared.dry_run.DryRun.{DryRun}
use Rattle.compilers.specs.declared.plans.plan.Reason.{Reason}
use Rattle.compilers.specs.declared.plans.plan.NvccGeneratedSubcommand.{NvccGeneratedSubcommand}
use Rattle.compilers.specs.declared.plans.plan.Dropped.{Dropped}
use Rattle.compilers.specs.declared.plans.plan.Plan.{Plan}
use Rattle.compilers.specs.CommandLines.{CommandLine, line_seen}

-- numbers, and enums without fields
numbers : TellsEqual nat_eq
numbers a b = (eqb-true a b, eq-eqb a b)

languages : (a b : Language) → Decides (sameb language.the_type a b) (a ≡ b)
languages a b = (same_true language.the_type (search rules) a b, true_same language.the_type a b)

colors : (a b : ColorMode) → Decides (sameb color.the_type a b) (a ≡ b)
colors a b = (same_true color.the_type (search rules) a b, true_same color.the_type a b)

marks : (a b : Cacheable) → Decides (sameb cacheable.the_type a b) (a ≡ b)
marks a b = (same_true cacheable.the_type (search rules) a b, true_same cacheable.the_type a b)

pub reasons : (a b : Reason) → Decides (sameb reason.the_type a b) (a ≡ b)
reasons a b = (same_true reason.the_type (search rules) a b, true_same reason.the_type a b)

-- files that commands make
pub artifacts : (a b : ArtifactDescriptor) → Decides (pointwise nat_eq a.path b.path && beq a.optional b.optional) (a ≡ b)
artifacts a b = grind (arith, Decides-like, Decides-and, bytes_eq-Decides, bools)

-- commands
pub commands : (a b : SingleCompileCommand) → Decides (pointwise nat_eq a.executable b.executable && (pointwise (pointwise nat_eq) a.arguments b.arguments && (same_variables a.env_vars b.env_vars && (pointwise nat_eq a.cwd b.cwd && beq a.share_jobserver b.share_jobserver)))) (a ≡ b)
commands a b = grind (arith, Decides-like, same_variables, Decides-and, bytes_eq-Decides, lists, variables, bools)

-- the test of outputs
abbrev pub same_outputs : List (List ℕ × ArtifactDescriptor) → List (List ℕ × ArtifactDescriptor) → Bool
same_outputs = pointwise (eq_of_both (on (λ (p : List ℕ × ArtifactDescriptor). p.0) (pointwise nat_eq)) (on (λ (p : List ℕ × ArtifactDescriptor). p.1) (λ a b. pointwise nat_eq a.path b.path && beq a.optional b.optional)))

pub outputs : TellsEqual same_outputs
outputs = lists _ (pairs (pointwise nat_eq) (λ a b. pointwise nat_eq a.path b.path && beq a.optional b.optional) bytes_eq-Decides artifacts)

-- arguments
abbrev same_arguments : ParsedArguments → ParsedArguments → Bool
same_arguments a b = pointwise nat_eq a.input b.input && (same_outputs a.outputs b.outputs && (beq a.double_dash_input b.double_dash_input && (sameb language.the_type a.language b.language && (pointwise nat_eq a.compilation_flag b.compilation_flag && (option_eq (pointwise nat_eq) a.depfile b.depfile && (pointwise (pointwise nat_eq) a.dependency_args b.dependency_args && (pointwise (pointwise nat_eq) a.preprocessor_args b.preprocessor_args && (pointwise (pointwise nat_eq) a.common_args b.common_args && (pointwise (pointwise nat_eq) a.arch_args b.arch_args && (pointwise (pointwise nat_eq) a.unhashed_args b.unhashed_args && (pointwise (pointwise nat_eq) a.extra_dist_files b.extra_dist_files && (pointwise (pointwise nat_eq) a.extra_hash_files b.extra_hash_files && (beq a.uses_external_assembler b.uses_external_assembler && (beq a.msvc_show_includes b.msvc_show_includes && (beq a.msvc_explicit_language b.msvc_explicit_language && (beq a.profile_generate b.profile_generate && (sameb color.the_type a.color_mode b.color_mode && (beq a.suppress_rewrite_includes_only b.suppress_rewrite_includes_only && (option_eq (pointwise nat_eq) a.too_hard_for_preprocessor_cache_mode b.too_hard_for_preprocessor_cache_mode)))))))))))))))))))

pub arguments : (a b : ParsedArguments) → Decides (same_arguments a b) (a ≡ b)
arguments a b =
    Decides-like (same_arguments a b)
    (λ e. λ i. record { input = e.0 i; outputs = e.1.0 i; double_dash_input = e.1.1.0 i; language = e.1.1.1.0 i; compilation_flag = e.1.1.1.1.0 i; depfile = e.1.1.1.1.1.0 i; dependency_args = e.1.1.1.1.1.1.0 i; preprocessor_args = e.1.1.1.1.1.1.1.0 i; common_args = e.1.1.1.1.1.1.1.1.0 i; arch_args = e.1.1.1.1.1.1.1.1.1.0 i; unhashed_args = e.1.1.1.1.1.1.1.1.1.1.0 i; extra_dist_files = e.1.1.1.1.1.1.1.1.1.1.1.0 i; extra_hash_files = e.1.1.1.1.1.1.1.1.1.1.1.1.0 i; uses_external_assembler = e.1.1.1.1.1.1.1.1.1.1.1.1.1.0 i; msvc_show_includes = e.1.1.1.1.1.1.1.1.1.1.1.1.1.1.0 i; msvc_explicit_language = e.1.1.1.1.1.1.1.1.1.1.1.1.1.1.1.0 i; profile_generate = e.1.1.1.1.1.1.1.1.1.1.1.1.1.1.1.1.0 i; color_mode = e.1.1.1.1.1.1.1.1.1.1.1.1.1.1.1.1.1.0 i; suppress_rewrite_includes_only = e.1.1.1.1.1.1.1.1.1.1.1.1.1.1.1.1.1.1.0 i; too_hard_for_preprocessor_cache_mode = e.1.1.1.1.1.1.1.1.1.1.1.1.1.1.1.1.1.1.1 i })
    (λ e. (ap (λ x. x.input) e, (ap (λ x. x.outputs) e, (ap (λ x. x.double_dash_input) e, (ap (λ x. x.language) e, (ap (λ x. x.compilation_flag) e, (ap (λ x. x.depfile) e, (ap (λ x. x.dependency_args) e, (ap (λ x. x.preprocessor_args) e, (ap (λ x. x.common_args) e, (ap (λ x. x.arch_args) e, (ap (λ x. x.unhashed_args) e, (ap (λ x. x.extra_dist_files) e, (ap (λ x. x.extra_hash_files) e, (ap (λ x. x.uses_external_assembler) e, (ap (λ x. x.msvc_show_includes) e, (ap (λ x. x.msvc_explicit_language) e, (ap (λ x. x.profile_generate) e, (ap (λ x. x.color_mode) e, (ap (λ x. x.suppress_rewrite_includes_only) e, ap (λ x. x.too_hard_for_preprocessor_cache_mode) e))))))))))))))))))))
    (Decides-and (pointwise nat_eq a.input b.input) _ (bytes_eq-Decides a.input b.input)
    (Decides-and (same_outputs a.outputs b.outputs) _ (outputs a.outputs b.outputs)
    (Decides-and (beq a.double_dash_input b.double_dash_input) _ (bools a.double_dash_input b.double_dash_input)
    (Decides-and (sameb language.the_type a.language b.language) _ (languages a.language b.language)
    (Decides-and (pointwise nat_eq a.compilation_flag b.compilation_flag) _ (bytes_eq-Decides a.compilation_flag b.compilation_flag)
    (Decides-and (option_eq (pointwise nat_eq) a.depfile b.depfile) _ (options (pointwise nat_eq) bytes_eq-Decides a.depfile b.depfile)
    (Decides-and (pointwise (pointwise nat_eq) a.dependency_args b.dependency_args) _ (lists (pointwise nat_eq) bytes_eq-Decides a.dependency_args b.dependency_args)
    (Decides-and (pointwise (pointwise nat_eq) a.preprocessor_args b.preprocessor_args) _ (lists (pointwise nat_eq) bytes_eq-Decides a.preprocessor_args b.preprocessor_args)
    (Decides-and (pointwise (pointwise nat_eq) a.common_args b.common_args) _ (lists (pointwise nat_eq) bytes_eq-Decides a.common_args b.common_args)
    (Decides-and (pointwise (pointwise nat_eq) a.arch_args b.arch_args) _ (lists (pointwise nat_eq) bytes_eq-Decides a.arch_args b.arch_args)
    (Decides-and (pointwise (pointwise nat_eq) a.unhashed_args b.unhashed_args) _ (lists (pointwise nat_eq) bytes_eq-Decides a.unhashed_args b.unhashed_args)
    (Decides-and (pointwise (pointwise nat_eq) a.extra_dist_files b.extra_dist_files) _ (lists (pointwise nat_eq) bytes_eq-Decides a.extra_dist_files b.extra_dist_files)
    (Decides-and (pointwise (pointwise nat_eq) a.extra_hash_files b.extra_hash_files) _ (lists (pointwise nat_eq) bytes_eq-Decides a.extra_hash_files b.extra_hash_files)
    (Decides-and (beq a.uses_external_assembler b.uses_external_assembler) _ (bools a.uses_external_assembler b.uses_external_assembler)
    (Decides-and (beq a.msvc_show_includes b.msvc_show_includes) _ (bools a.msvc_show_includes b.msvc_show_includes)
    (Decides-and (beq a.msvc_explicit_language b.msvc_explicit_language) _ (bools a.msvc_explicit_language b.msvc_explicit_language)
    (Decides-and (beq a.profile_generate b.profile_generate) _ (bools a.profile_generate b.profile_generate)
    (Decides-and (sameb color.the_type a.color_mode b.color_mode) _ (colors a.color_mode b.color_mode)
    (Decides-and (beq a.suppress_rewrite_includes_only b.suppress_rewrite_includes_only) (option_eq (pointwise nat_eq) a.too_hard_for_preprocessor_cache_mode b.too_hard_for_preprocessor_cache_mode) (bools a.suppress_rewrite_includes_only b.suppress_rewrite_includes_only)
    (options (pointwise nat_eq) bytes_eq-Decides a.too_hard_for_preprocessor_cache_mode b.too_hard_for_preprocessor_cache_mode))))))))))))))))))))

-- commands of groups
abbrev same_command : NvccGeneratedSubcommand → NvccGeneratedSubcommand → Bool
same_command a b = pointwise nat_eq a.exe b.exe && (pointwise (pointwise nat_eq) a.args b.args && (pointwise nat_eq a.cwd b.cwd && (same_variables a.env_vars b.env_vars && sameb cacheable.the_type a.cacheable b.cacheable)))

pub subcommands : (a b : NvccGeneratedSubcommand) → Decides (same_command a b) (a ≡ b)
subcommands a b = grind (arith, Decides-like, Decides-and, bytes_eq-Decides, lists, same_variables, variables, marks)

-- dropped commands
abbrev same_dropped : Dropped → Dropped → Bool
same_dropped a b = nat_eq a.line b.line && (nat_eq a.run b.run && (pointwise nat_eq a.exe b.exe && (pointwise (pointwise nat_eq) a.args b.args && sameb reason.the_type a.reason b.reason)))

pub dropped : (a b : Dropped) → Decides (same_dropped a b) (a ≡ b)
dropped a b = grind (arith, Decides-like, Decides-and, numbers, bytes_eq-Decides, lists, reasons)

-- groups and plans
pub groups : TellsEqual (pointwise (pointwise same_command))
groups = lists (pointwise same_command) (lists same_command subcommands)

pub dropped_commands : TellsEqual (pointwise same_dropped)
dropped_commands = lists same_dropped dropped

pub plans : (a b : Plan) → Decides (pointwise (pointwise same_command) a.groups b.groups && pointwise same_dropped a.dropped b.dropped) (a ≡ b)
plans a b = grind (arith, Decides-like, groups, dropped, Decides-and, dropped_commands)

-- lists of command lines, as code compares them
pub pointwise-lines : (xs ys : List (ℕ × String Global × Vec (String Global) Global)) →
    pointwise (λ x y. (nat_eq x.0 y.0 && pointwise nat_eq (string_bytes x.1) (string_bytes y.1)) && pointwise (λ u v. pointwise nat_eq (string_bytes u) (string_bytes v)) x.2.items y.2.items) xs ys
    ≡ pointwise (eq_of_both (eq_of_both (on (λ (c : CommandLine). c.0) nat_eq) (on (λ (c : CommandLine). c.1) (pointwise nat_eq))) (on (λ (c : CommandLine). c.2) (pointwise (pointwise nat_eq)))) (map line_seen xs) (map line_seen ys)
pointwise-lines [] [] = refl
pointwise-lines [] (y ∷ ys) = refl
pointwise-lines (x ∷ xs) [] = refl
pointwise-lines (x ∷ xs) (y ∷ ys) = simp (pointwise-texts, (pointwise-lines xs ys))

-- the test of command lines
abbrev same_line : CommandLine → CommandLine → Bool
same_line = eq_of_both (eq_of_both (on (λ (c : CommandLine). c.0) nat_eq) (on (λ (c : CommandLine). c.1) (pointwise nat_eq))) (on (λ (c : CommandLine). c.2) (pointwise (pointwise nat_eq)))

lines_told : TellsEqual same_line
lines_told a b = grind (arith, Decides-like, Decides-and, bytes_eq-Decides, lists)

-- the test of commands, and that of dry runs
pub command_lines : TellsEqual (pointwise same_line)
command_lines = lists same_line lines_told

pub dry_runs : (a b : DryRun) → Decides (pointwise same_line a.commands b.commands && same_variables a.env b.env) (a ≡ b)
dry_runs a b = grind (arith, Decides-like, same_variables, Decides-and, command_lines, variables)
