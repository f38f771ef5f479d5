-- A plan as a Ninja file.
use Rattle.std.specs.Prelude.{ℕ, Bool, ◌+◌, List, [], ◌∷◌, ◌++◌, map, get_or, ◌==◌, ◌&&◌, if◌then◌else◌, codes, encode_utf8_all, Result, Ok, Err, chars}
use Rattle.std.specs.List.{flat_map, list_all}
use Rattle.compilers.specs.declared.command.Cacheable.{Cacheable}
use Rattle.compilers.specs.declared.command.Cacheable.TheVariants.{Yes, No}
use Rattle.texts.specs.Numeral.{numeral}
use Rattle.texts.specs.Shell.Quoting.{written}
use Rattle.compilers.specs.declared.plans.plan.NvccGeneratedSubcommand.{NvccGeneratedSubcommand}
use Rattle.compilers.specs.declared.plans.plan.Dropped.{Dropped}
use Rattle.compilers.specs.declared.plans.plan.Plan.{Plan}
use Rattle.compilers.specs.Listed.{Listed, listed}
use Rattle.compilers.specs.Reasons.{reason_name}
use Rattle.command_files.specs.Order.{needs_at}
use Rattle.command_files.specs.PlanNeeds.{plan_needs}
use Rattle.plan_texts.specs.declared.refusal.Refusal.{Refusal}
use Rattle.plan_texts.specs.declared.refusal.Refusal.TheVariants.{Unheld}
use Rattle.plan_texts.specs.declared.format.Format.TheVariants.{Ninja}
use Rattle.plan_texts.specs.Judging.{holds_text, and_then, judged_commands}
use Rattle.plan_texts.specs.CommandText.{command_text}
use Rattle.plan_texts.specs.Description.{description}
use Rattle.plan_texts.specs.Script.{unless_refused}

-- a text as a variable's value. `$` is doubled
abbrev pub escaped_char : ℕ → List ℕ
escaped_char c = if c == 36 then 36 ∷ 36 ∷ [] else c ∷ []

abbrev pub escaped : List ℕ → List ℕ
escaped text = encode_utf8_all (flat_map escaped_char (chars text))

-- the path of a command's stamp, a file that is touched once the command is done, given its group and its place there
abbrev pub stamp_path : List ℕ → ℕ → ℕ → List ℕ
stamp_path tmp group place = tmp ++ (codes "/zigrunk." ++ (numeral group ++ (codes "." ++ numeral place)))

-- the path in a Ninja file, in which the variable `tmp` names the temporary directory
abbrev pub stamp_text : ℕ → ℕ → List ℕ
stamp_text group place = stamp_path (codes "${tmp}") group place

-- what runs a program: whatever one variable names at that time, and for a program whose outputs a cache may serve what
-- another one names
abbrev pub runner : Cacheable → List ℕ
runner Yes = codes "${ZIGRUNK_RUNNER-} ${ZIGRUNK_LAUNCHER-} "
runner No = codes "${ZIGRUNK_RUNNER-} "

-- the command that touches a stamp
abbrev pub touch : List ℕ → ℕ → ℕ → List ℕ
touch tmp group place = codes " && touch " ++ written (stamp_path tmp group place ∷ [])

-- what an edge runs: a command, and then `touch`
abbrev pub edge_command : List ℕ → ℕ → ℕ → NvccGeneratedSubcommand → List ℕ
edge_command tmp group place c = command_text (runner c.cacheable) c ++ touch tmp group place

-- the line that says what an edge runs
abbrev pub edge_line : List ℕ → List ℕ
edge_line text = codes "\n  line = " ++ (escaped text ++ 10 ∷ [])

-- the line that says what Ninja prints meanwhile, in place of that
abbrev pub description_line : List ℕ → List ℕ
description_line text = codes "  description = " ++ (escaped text ++ 10 ∷ [])

-- an edge: its stamp, the stamps that it needs, what it runs, and its description
abbrev pub edge : List ℕ → List ℕ → Listed → List ℕ
edge tmp needs l =
    codes "build " ++ (stamp_text l.group l.place ++ (codes ": run" ++ (needs
    ++ (edge_line (edge_command tmp l.group l.place l.command) ++ description_line (description l.command)))))

-- where each command is, in plan order: the number of its group, and its place there
abbrev pub places_of : List Listed → List (ℕ × ℕ)
places_of commands = map (λ l. (l.group, l.place)) commands

abbrev pub plan_places : Plan → List (ℕ × ℕ)
plan_places plan = places_of (listed plan.groups)

-- where the command with a number is. Each command has a place
abbrev pub place_at : List (ℕ × ℕ) → ℕ → ℕ × ℕ
place_at places n = get_or places n (0, 0)

-- the stamps of the commands with these numbers, each after a space
abbrev pub stamp_at : List (ℕ × ℕ) → ℕ → List ℕ
stamp_at places n = 32 ∷ stamp_text (place_at places n).0 (place_at places n).1

abbrev pub stamps_at : List (ℕ × ℕ) → List ℕ → List ℕ
stamps_at places numbers = flat_map (stamp_at places) numbers

-- the edges of commands from a number on, given what each command needs
abbrev pub edges_from : List ℕ → List (ℕ × ℕ) → List (List ℕ) → ℕ → List Listed → List ℕ
edges_from tmp places needs number [] = []
edges_from tmp places needs number (l ∷ commands) =
    edge tmp (stamps_at places (needs_at needs number)) l ++ edges_from tmp places needs (number + 1) commands

abbrev pub plan_edges : List ℕ → Plan → List ℕ
plan_edges tmp plan = edges_from tmp (plan_places plan) (plan_needs plan) 0 (listed plan.groups)

-- the reason and the words of a dropped command
abbrev pub comment_words : Dropped → List ℕ
comment_words d = codes " " ++ (reason_name d.reason ++ (codes " " ++ (written (d.exe ∷ d.args) ++ 10 ∷ [])))

-- a dropped command, as a comment
abbrev pub comment : Dropped → List ℕ
comment d = codes "# dropped line " ++ (numeral d.line ++ (codes " run " ++ (numeral d.run ++ comment_words d)))

-- the lines behind the directory's: Ninja keeps its own files there too, and the rule. The status of a command that fails
-- goes to a file beside its stamp
abbrev pub rule : List ℕ
rule = codes "\nbuilddir = ${tmp}\nrule run\n  command = ${line} || { code=$$?; echo $$code > ${out}.status; exit $$code; }\n"

-- the first lines: the temporary directory, and the rule
abbrev pub head : List ℕ → List ℕ
head tmp = codes "tmp = " ++ (escaped tmp ++ rule)

-- the Ninja file of a plan
abbrev pub graph : List ℕ → Plan → List ℕ
graph tmp plan = head tmp ++ (plan_edges tmp plan ++ flat_map comment plan.dropped)

-- ---- what a Ninja file can't represent

-- whether a comment can represent a dropped command
abbrev pub holds_dropped : Dropped → Bool
holds_dropped d = holds_text Ninja d.exe && list_all (holds_text Ninja) d.args

-- why a file can't represent the temporary directory or the dropped commands, if it can't
abbrev pub judged_rest : List ℕ → List Dropped → Result (Unit {0}) Refusal
judged_rest tmp dropped = if holds_text Ninja tmp && list_all holds_dropped dropped then Ok tt else Err Unheld

-- the Ninja file of a plan, or why there is none
abbrev pub ninja_answer : List ℕ → Plan → Result (List ℕ) Refusal
ninja_answer tmp plan = unless_refused (and_then (judged_rest tmp plan.dropped) (judged_commands Ninja (listed plan.groups))) (graph tmp plan)
