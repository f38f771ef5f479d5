-- The laws of actions' keys, for all actions and all roots.
use Rattle.std.specs.Prelude.{◌≡◌, ℕ, List, true}
use Rattle.command_keys.specs.Actions.{Shared, action_key, is_free_action, is_plain_action, renamed_action}

-- Actions with one key differ only in their roots: if the tool, a word, a variable, an input or an output differs otherwise, so does the key.
abbrev pub EqualActionsRename : Type 0
EqualActionsRename =
    (roots others : List (List ℕ)) (action other : Shared) → is_plain_action action ≡ true → is_plain_action other ≡ true →
    action_key roots action ≡ action_key others other → other ≡ renamed_action roots others action

-- an action with other roots in place of its own has the same key, if they occur nowhere else in it
abbrev pub RenamedActionsAreEqual : Type 0
RenamedActionsAreEqual =
    (roots others : List (List ℕ)) (action : Shared) → is_free_action roots others action ≡ true →
    action_key others (renamed_action roots others action) ≡ action_key roots action
