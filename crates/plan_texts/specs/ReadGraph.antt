-- What Ninja reads in a written file, its values and its edges, and what a POSIX shell reads in what an edge runs.
use Rattle.std.specs.Prelude.{◌≡◌, ℕ, List, [], ◌∷◌, ◌++◌, map, drop, Bool, true, false, ◌==◌, if◌then◌else◌, Option, Some, None, Ok, codes, encode_utf8_all, refl, option_map, option_and_then, unwrap_or}
use Rattle.std.specs.List.{AllByRecursion}
use Rattle.std.specs.Str.{IsUtf8, chars}
use Rattle.texts.specs.Posix.{Word, Operator}
use Rattle.compilers.specs.declared.plans.plan.Dropped.{Dropped}
use Rattle.compilers.specs.declared.plans.plan.NvccGeneratedSubcommand.{NvccGeneratedSubcommand}
use Rattle.compilers.specs.declared.plans.plan.Plan.{Plan}
use Rattle.compilers.specs.Listed.{Listed, listed}
use Rattle.command_files.specs.Numbered.{numbered}
use Rattle.command_files.specs.Order.{needs_at}
use Rattle.command_files.specs.PlanNeeds.{plan_needs}
use Rattle.plan_texts.specs.CommandText.{command_text}
use Rattle.plan_texts.specs.Graph.{escaped, stamp_path, touch, edge_command, plan_places, place_at, ninja_answer}
use Rattle.plan_texts.specs.ReadBack.{IsOfTexts, shell_tokens, command_tokens, in_front}

-- what an edge of a Ninja file runs, with words in the place of both expansions: the command, and then `touch` with the stamp
abbrev pub EdgesReadBack : Type 0
EdgesReadBack =
    (runner : List (List ℕ)) (tmp : List ℕ) (group place : ℕ) (c : NvccGeneratedSubcommand) → AllByRecursion IsUtf8 runner → IsUtf8 tmp → IsOfTexts c →
    shell_tokens (command_text (in_front runner) c ++ touch tmp group place)
    ≡ Some (command_tokens runner c ++ Operator (codes "&&") ∷ Word (codes "touch") ∷ Word (chars (stamp_path tmp group place)) ∷ [])

-- ---- values

-- The characters of a value's rest, given whether a `$` comes right before it. Only a second `$` may follow a `$` here. Ninja
-- has other forms, as `${tmp}`, but no written value has one.
abbrev pub value_from : Bool → List ℕ → Option (List ℕ)
value_from false [] = Some []
value_from true [] = None
value_from false (c ∷ cs) = if c == 36 then value_from true cs else option_map (λ read. c ∷ read) (value_from false cs)
value_from true (c ∷ cs) = if c == 36 then option_map (λ read. 36 ∷ read) (value_from false cs) else None

-- the value of a text
abbrev pub value_of : List ℕ → Option (List ℕ)
value_of text = option_map encode_utf8_all (value_from false (chars text))

-- Ninja reads a written value of a variable as the original text
abbrev pub ValuesReadBack : Type 0
ValuesReadBack = (text : List ℕ) → IsUtf8 text → value_of (escaped text) ≡ Some text

-- ---- edges

-- the parts of a text between occurrences of a byte
abbrev pub onto_first : ℕ → List (List ℕ) → List (List ℕ)
onto_first c [] = (c ∷ []) ∷ []
onto_first c (part ∷ parts) = (c ∷ part) ∷ parts

abbrev pub parts_at : ℕ → List ℕ → List (List ℕ)
parts_at byte [] = [] ∷ []
parts_at byte (c ∷ cs) = if c == byte then [] ∷ parts_at byte cs else onto_first c (parts_at byte cs)

-- what follows a beginning, if a text begins so
abbrev pub behind : List ℕ → List ℕ → Option (List ℕ)
behind [] text = Some text
behind (b ∷ beginning) [] = None
behind (b ∷ beginning) (c ∷ text) = if c == b then behind beginning text else None

-- an edge: the file that it makes, the files that it needs, and what it runs
pub record Edge : Type 0 where
  pub output : List ℕ
  pub needs : List (List ℕ)
  pub command : List ℕ

-- a file's path: `${tmp}` names the temporary directory
abbrev pub path_of : List ℕ → List ℕ → List ℕ
path_of tmp text = unwrap_or (option_map (λ rest. tmp ++ rest) (behind (codes "${tmp}") text)) text

-- the value of a line that begins so
abbrev pub value_behind : List ℕ → List ℕ → Option (List ℕ)
value_behind beginning line = option_and_then value_of (behind beginning line)

-- The output and the needs on an edge's first line. After `:` come the rule's name and the needs, each after a space.
abbrev pub head_parts : List ℕ → List (List ℕ) → Option (List ℕ × List (List ℕ))
head_parts tmp [] = None
head_parts tmp (output ∷ []) = None
head_parts tmp (output ∷ needs ∷ []) = option_map (λ rest. (path_of tmp output, map (path_of tmp) (drop 1 (parts_at 32 rest)))) (behind (codes " run") needs)
head_parts tmp (output ∷ needs ∷ part ∷ parts) = None

abbrev pub head_of : List ℕ → List ℕ → Option (List ℕ × List (List ℕ))
head_of tmp line = option_and_then (λ text. head_parts tmp (parts_at 58 text)) (behind (codes "build ") line)

-- an edge's first line, and then its second one, before the edges of further lines
abbrev pub with_edge : List ℕ × List (List ℕ) → Option (List ℕ) → Option (List Edge) → Option (List Edge)
with_edge head None edges = None
with_edge head (Some command) edges = option_map (λ es. record { output = head.0; needs = head.1; command = command } ∷ es) edges

-- The edges of lines, given the first line of an edge if it comes right before them. Other lines have no edges: variables,
-- the rule, and comments.
abbrev pub edges_from : List ℕ → Option (List ℕ × List (List ℕ)) → List (List ℕ) → Option (List Edge)
edges_from tmp None [] = Some []
edges_from tmp (Some head) [] = None
edges_from tmp None (line ∷ lines) = edges_from tmp (head_of tmp line) lines
edges_from tmp (Some head) (line ∷ lines) = with_edge head (value_behind (codes "  line = ") line) (edges_from tmp None lines)

-- the edges of a file, whose first line names the temporary directory
abbrev pub edges_of_lines : List (List ℕ) → Option (List Edge)
edges_of_lines [] = None
edges_of_lines (line ∷ lines) = option_and_then (λ tmp. edges_from tmp None lines) (value_behind (codes "tmp = ") line)

abbrev pub edges_of : List ℕ → Option (List Edge)
edges_of text = edges_of_lines (parts_at 10 text)

-- ---- the edges of a plan

-- the stamp of the command with a number
abbrev pub path_at : List ℕ → List (ℕ × ℕ) → ℕ → List ℕ
path_at tmp places n = stamp_path tmp (place_at places n).0 (place_at places n).1

-- The edge of the command with a number: it makes the command's stamp, and it needs the stamps of the commands that the
-- command needs.
abbrev pub edge_at : List ℕ → List (ℕ × ℕ) → List (List ℕ) → ℕ → Listed → Edge
edge_at tmp places needs n l = record {
  output = stamp_path tmp l.group l.place;
  needs = map (path_at tmp places) (needs_at needs n);
  command = edge_command tmp l.group l.place l.command;
}

-- the edges of a plan's commands
abbrev pub edges_of_plan : List ℕ → Plan → List Edge
edges_of_plan tmp plan = numbered (edge_at tmp (plan_places plan) (plan_needs plan)) 0 (listed plan.groups)

-- all texts of a dropped command are UTF-8
pub record IsDroppedText (d : Dropped) : Type 0 where
  pub exe : IsUtf8 d.exe
  pub args : AllByRecursion IsUtf8 d.args

-- Ninja reads a written file as an edge for each command of the plan, and no others. An edge needs exactly what its command needs
abbrev pub GraphsReadBack : Type 0
GraphsReadBack =
    (tmp : List ℕ) (plan : Plan) (text : List ℕ) →
    IsUtf8 tmp → AllByRecursion (λ l. IsOfTexts l.command) (listed plan.groups) → AllByRecursion IsDroppedText plan.dropped →
    ninja_answer tmp plan ≡ Ok text → edges_of text ≡ Some (edges_of_plan tmp plan)

-- ---- Worked examples.

pub one_dollar : value_from false (codes "a$b") ≡ None
one_dollar = refl

pub one_edge :
    edges_of (codes "tmp = /t\nrule run\nbuild ${tmp}/b: run ${tmp}/a\n  line = x $$y\n# build\n") ≡
    Some (record { output = codes "/t/b"; needs = codes "/t/a" ∷ []; command = codes "x $y" } ∷ [])
unfolding chars lib.Utf8.encode
one_edge = refl

pub edge_without_a_command : edges_of (codes "tmp = /t\nbuild ${tmp}/b: run\n") ≡ None
unfolding chars
edge_without_a_command = refl
