-- The laws of keys, for all commands and all roots.
use Rattle.std.specs.Prelude.{◌≡◌, ◌≤◌, ℕ, List, true, Some, length}
use Rattle.command_keys.specs.Keys.{Command, command_key, is_plain, renamed_command, are_free}
use Rattle.command_keys.specs.KeyReading.{restored}
use Rattle.command_keys.specs.Marks.{begins_with, root_at, root_of}

-- a key is read back as its command
abbrev pub KeysReadBack : Type 0
KeysReadBack = (roots : List (List ℕ)) (command : Command) → is_plain command ≡ true → restored roots (command_key roots command) ≡ command

-- commands with one key differ only in their roots
abbrev pub EqualKeysRename : Type 0
EqualKeysRename =
    (roots others : List (List ℕ)) (command other : Command) → is_plain command ≡ true → is_plain other ≡ true →
    command_key roots command ≡ command_key others other → other ≡ renamed_command roots others command

-- a command with other roots in place of its own has the same key, if they occur nowhere else in it
abbrev pub RenamedKeysAreEqual : Type 0
RenamedKeysAreEqual =
    (roots others : List (List ℕ)) (command : Command) → are_free roots others command ≡ true →
    command_key others (renamed_command roots others command) ≡ command_key roots command

-- the root that counts is the innermost, wherever it is in the list: a text begins with it, and with no longer one
abbrev pub InnermostCounts : Type 0
InnermostCounts =
    (roots : List (List ℕ)) (text : List ℕ) (number other : ℕ) → root_at roots text ≡ Some number →
    (begins_with text (root_of roots number) ≡ true)
    × (begins_with text (root_of roots other) ≡ true → length (root_of roots other) ≤ length (root_of roots number))
