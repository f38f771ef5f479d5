-- How an action's key is read back.
use Rattle.std.specs.Prelude.{ℕ, ◌==◌, List, [], ◌∷◌, map, false, if◌then◌else◌, get_or}
use Rattle.command_keys.specs.Actions.{Shared, digest_end, output_end, path_end, tool_end}
use Rattle.command_keys.specs.KeyReading.{read_from}
use Rattle.command_keys.specs.Keys.{Ended, name_end, value_end, word_end}
use Rattle.command_keys.specs.Marks.{text_of}

-- the texts with an end
abbrev pub ended : ℕ → List Ended → List (List ℕ)
ended end [] = []
ended end (text ∷ texts) = if text.1 == end then text.0 ∷ ended end texts else ended end texts

-- pairs of the texts of two lists
abbrev pub paired : List (List ℕ) → List (List ℕ) → List (List ℕ × List ℕ)
paired [] others = []
paired (one ∷ ones) [] = []
paired (one ∷ ones) (other ∷ others) = (one, other) ∷ paired ones others

-- the action of texts
abbrev pub action_of : List Ended → Shared
action_of texts = record {
  tool = get_or (ended tool_end texts) 0 [];
  command = (ended word_end texts, paired (ended name_end texts) (ended value_end texts));
  inputs = paired (ended path_end texts) (ended digest_end texts);
  outputs = ended output_end texts;
}

-- the action that a key is of, with these roots
abbrev pub restored_action : List (List ℕ) → List ℕ → Shared
restored_action roots key = action_of (map (λ text. (text_of roots text.0, text.1)) (read_from false key))
