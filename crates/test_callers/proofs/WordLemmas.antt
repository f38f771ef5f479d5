-- Words and their characters.
use Rattle.std.proofs.Common.{◌≡◌, [], ◌∷◌, List, map, string_bytes, encode_utf8_all, String, refl, chars}
use Rattle.std.proofs.lemmas.Str.{encodes-chars, IsUtf8-string_bytes}

-- words are the characters that they hold, encoded again
pub same_bytes : {Z : Type 0} (words : List (String Z)) → map string_bytes words ≡ map encode_utf8_all (map chars (map string_bytes words))
same_bytes [] = refl
same_bytes (word ∷ words) = cc (encodes-chars (string_bytes word) (IsUtf8-string_bytes word), same_bytes words)
