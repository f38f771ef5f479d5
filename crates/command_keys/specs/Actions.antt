-- The key of a command that others may take for theirs: all that what it makes depends on, with marks in place of roots.
use Rattle.std.specs.Prelude.{◌≡◌, ℕ, List, [], ◌∷◌, ◌++◌, nat_le, length, map, Bool, not, ◌&&◌, if◌then◌else◌, Option, Some, None, refl, codes}
use Rattle.std.specs.List.{flat_map, list_all, list_any}
use Rattle.std.specs.Option.{is_some}
use Rattle.texts.specs.Path.{lacks}
use Rattle.compilers.specs.declared.plans.program.Program.{Program}
use Rattle.compilers.specs.declared.plans.program.Program.TheVariants.{Ptxas}
use Rattle.command_keys.specs.declared.actions.Action.{Action}
use Rattle.command_keys.specs.CountedWords.{Files, counted_words}
use Rattle.command_keys.specs.Keys.{Command, Ended, is_plain, is_plain_variable, key_of_text, most_roots, renamed_command, shown, shown_variable, texts_of}
use Rattle.command_keys.specs.Marks.{are_told, parts, renamed}
use Rattle.command_keys.specs.WordTable.{shows_names}

-- the digest of a tool, a command of it without its program, the paths and digests of the files that it reads, the paths of those that it may write
pub record Shared : Type 0 where
  pub tool : List ℕ
  pub command : Command
  pub inputs : List (List ℕ × List ℕ)
  pub outputs : List (List ℕ)

abbrev pub shared_of : Action → Shared
shared_of action = record {
  tool = action.tool.now;
  command = (map shown action.words.now, map shown_variable action.variables.now);
  inputs = map shown_variable action.inputs.now;
  outputs = map shown action.outputs.now;
}

abbrev pub cwd_of : Action → List ℕ
cwd_of action = action.cwd.now

-- what ends a text behind NUL, beside those of a command: an input's path `3`, its digest `4`, an output `5`, the tool `6`
abbrev pub path_end : ℕ
path_end = 51

abbrev pub digest_end : ℕ
digest_end = 52

abbrev pub output_end : ℕ
output_end = 53

abbrev pub tool_end : ℕ
tool_end = 54

abbrev pub texts_of_input : List ℕ × List ℕ → List Ended
texts_of_input input = (input.0, path_end) ∷ (input.1, digest_end) ∷ []

-- the texts of an action, in order
abbrev pub texts_of_action : Shared → List Ended
texts_of_action action =
    (action.tool, tool_end) ∷ texts_of action.command ++ flat_map texts_of_input action.inputs ++ map (λ output. (output, output_end)) action.outputs

-- the key of an action
abbrev pub action_key : List (List ℕ) → Shared → List ℕ
action_key roots action = flat_map (key_of_text roots) (texts_of_action action)

-- whether all its texts lack NUL
abbrev pub is_plain_action : Shared → Bool
is_plain_action action = lacks 0 action.tool && is_plain action.command && list_all is_plain_variable action.inputs && list_all (lacks 0) action.outputs

abbrev pub paths_of : List (List ℕ × List ℕ) → List (List ℕ)
paths_of inputs = map (λ input. input.0) inputs

abbrev pub files_in : List ℕ → Shared → Files
files_in cwd action = record { cwd = cwd; reads = paths_of action.inputs; products = action.outputs }

-- Whether what a command makes depends on nothing but what an action has: no name of a file reaches it, a cache knows all its words, and it reads
-- no file that isn't an input.
abbrev pub may_be_shared : Program → List ℕ → Shared → Bool
may_be_shared tool cwd action = not (list_any (shows_names tool) action.command.0) && is_some (counted_words tool action.command.0 (files_in cwd action))

-- the key of an action that may be shared, if no text of it contains NUL and there are letters for all roots
abbrev pub key_of_action : List (List ℕ) → Program → List ℕ → Shared → Option (List ℕ)
key_of_action roots tool cwd action =
    if (nat_le (length roots) most_roots && is_plain_action action) && may_be_shared tool cwd action then Some (action_key roots action) else None

-- an action with each of some roots replaced by the one that has its number in other roots
abbrev pub renamed_action : List (List ℕ) → List (List ℕ) → Shared → Shared
renamed_action roots others action = record {
  tool = renamed roots others action.tool;
  command = renamed_command roots others action.command;
  inputs = map (λ i. (renamed roots others i.0, renamed roots others i.1)) action.inputs;
  outputs = map (renamed roots others) action.outputs;
}

-- whether an action that is renamed so has the other roots exactly where it had the old ones
abbrev pub is_free_action : List (List ℕ) → List (List ℕ) → Shared → Bool
is_free_action roots others action = list_all (λ text. are_told others (parts roots text.0)) (texts_of_action action)

-- Examples: an action of ptxas and its key; none if names reach what it makes, or if it reads what is no input.
abbrev pub example : List (List ℕ) → Shared
example words = record {
  tool = codes "d";
  command = (words, []);
  inputs = (codes "/t/k.ptx", codes "e") ∷ [];
  outputs = codes "/t/k.cubin" ∷ [];
}

pub key_of_ptxas :
    key_of_action (codes "/t" ∷ []) Ptxas (codes "/w") (example (codes "/t/k.ptx" ∷ codes "-o" ∷ codes "/t/k.cubin" ∷ []))
    ≡ Some (codes "d" ++ 0 ∷ 54 ∷ 0 ∷ 65 ∷ codes "/k.ptx" ++ 0 ∷ 48 ∷ codes "-o" ++ 0 ∷ 48 ∷ 0 ∷ 65 ∷ codes "/k.cubin" ++ 0 ∷ 48
    ∷ 0 ∷ 65 ∷ codes "/k.ptx" ++ 0 ∷ 51 ∷ codes "e" ++ 0 ∷ 52 ∷ 0 ∷ 65 ∷ codes "/k.cubin" ++ 0 ∷ 53 ∷ [])
key_of_ptxas = refl

pub names_are_not_shared : key_of_action [] Ptxas (codes "/w") (example (codes "-lineinfo" ∷ codes "/t/k.ptx" ∷ [])) ≡ None
names_are_not_shared = refl

pub other_files_are_not_shared : key_of_action [] Ptxas (codes "/w") (example (codes "/t/j.ptx" ∷ [])) ≡ None
other_files_are_not_shared = refl
