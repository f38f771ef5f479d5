-- A plan's data has no float and nests no deeper than a text that is read may.
use Rattle.std.proofs.Common.{◌≡◌, ℕ, ◌+◌, ◌≤◌, List, [], ◌∷◌, false, refl, arith, string_bytes}
use Rattle.std.proofs.lemmas.Bool.{or_from}
use Rattle.compilers.specs.declared.plans.origins.Origin.{Origin}
use Rattle.compilers.specs.declared.plans.plan.NvccGeneratedSubcommand.{NvccGeneratedSubcommand}
use Rattle.compilers.specs.declared.plans.plan.Dropped.{Dropped}
use Rattle.compilers.specs.Listed.{Listed, listed}
use Rattle.command_files.specs.declared.files.CommandFiles.{CommandFiles}
use Rattle.command_files.specs.CommandFiles.{files_of_words}
use Rattle.command_files.specs.Order.{needs_at}
use Rattle.serde_json.specs.Data.{string, depth, items_depth}
use Rattle.serde_json.specs.View.{items_of, view}
use Rattle.serde_json.specs.Read.{max_depth}
use Rattle.serde_json.specs.Written.{has_float, items_have_float}
use Rattle.command_files.specs.Numbered.{numbered}
use Rattle.plan_json.specs.Values.{count_data}
use Rattle.plan_json.proofs.ValueLemmas.{items_within, items_float_free, texts_float_free, exact_text, text_reads_back}
use Rattle.plan_json.specs.Json.{variable_data, command_data, Known, origin_at, command_at, dropped_data, Described, known_of, data_of}
use Rattle.std.proofs.lemmas.Result.{IfOk-weaker}
use Rattle.plan_json.proofs.json.json_text.Goals as goal

command_within : (id group : ℕ) (origin : Origin) (needs : List ℕ) (files : CommandFiles) (c : NvccGeneratedSubcommand) → depth (command_data id group origin needs files c) ≤ 3
command_within id group origin needs files c =
    omega (
      arith,
      items_within 0 string (λ x. omega arith) c.args,
      items_within 1 variable_data (λ x. omega arith) c.env_vars,
      items_within 0 count_data (λ x. omega arith) needs,
      items_within 0 string (λ x. omega arith) files.reads,
      items_within 0 string (λ x. omega arith) files.writes,
      items_within 0 string (λ x. omega arith) files.may_write,
    )

commands_within : (known : Known) (id : ℕ) (commands : List Listed) → items_depth (items_of (numbered (command_at known) id commands)) ≤ 3
commands_within known id [] = omega arith
commands_within known id (l ∷ commands) =
    let c = l.command in
    omega (
      arith,
      command_within id l.group (origin_at known.origins id) (needs_at known.needs id) (files_of_words c.exe c.args c.cwd) c,
      commands_within known (id + 1) commands,
    )

dropped_within : (d : Dropped) → depth (dropped_data d) ≤ 3
dropped_within d = omega (arith, items_within 0 string (λ x. omega arith) d.args)

plan_within : (d : Described) → depth (data_of d) ≤ max_depth
plan_within d =
    omega (arith, commands_within (known_of d.planned) 0 (listed d.planned.plan.groups), items_within 3 dropped_data dropped_within d.planned.plan.dropped)

command_float_free : (id group : ℕ) (origin : Origin) (needs : List ℕ) (files : CommandFiles) (c : NvccGeneratedSubcommand) → has_float (command_data id group origin needs files c) ≡ false
command_float_free id group origin needs files c = simp (or_from, texts_float_free, (items_float_free variable_data (λ x. refl) c.env_vars), (items_float_free count_data (λ x. refl) needs))

commands_float_free : (known : Known) (id : ℕ) (commands : List Listed) → items_have_float (items_of (numbered (command_at known) id commands)) ≡ false
commands_float_free known id [] = refl
commands_float_free known id (l ∷ commands) = simp (or_from, command_float_free, (commands_float_free known (id + 1) commands))

plan_float_free : (d : Described) → has_float (data_of d) ≡ false
plan_float_free d = simp (or_from, commands_float_free, items_float_free)

pub returns-clause-text : goal.returns-clause-text
returns-clause-text c =
    let d : Described = record { cwd = c.args.cwd.now; tmp = c.args.tmp.now; flag = c.args.flag.now; planned = c.args.planned.now } in
    IfOk-weaker c.to_string.result _ _ (λ text written. exact_text (data_of d) (view c.in_ok-value.value) (string_bytes text) (plan_float_free d) c.in_ok-value.ensures written) c.to_string.ensures.text

pub returns-clause-reads_back : goal.returns-clause-reads_back
returns-clause-reads_back c =
    let d : Described = record { cwd = c.args.cwd.now; tmp = c.args.tmp.now; flag = c.args.flag.now; planned = c.args.planned.now } in
    IfOk-weaker c.to_string.result _ _ (λ text written. text_reads_back (data_of d) (view c.in_ok-value.value) (string_bytes text) (plan_within d) c.in_ok-value.ensures written) c.to_string.ensures.reads_back
