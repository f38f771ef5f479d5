use Rattle.std.proofs.Common.{◌≡◌, ◌++◌, map, drop, take, string_bytes}
use Rattle.canonical_names.specs.Renaming.{renamed_words, seen_after}
use Rattle.canonical_names.proofs.remap.remap_generated_filenames.Given as goal

abbrev pub invariant-loop-word : goal.invariant-loop-word
invariant-loop-word l = record {
  words : l.words ++ renamed_words l.renames.0 l.renames.1 (map string_bytes (drop l.word-index l.args)) ≡ renamed_words l.initial.renames.0 l.initial.renames.1 (map string_bytes l.args);
  suffixes : l.renames.0 ≡ l.initial.renames.0;
  left : seen_after l.renames.0 l.renames.1 (map string_bytes (drop l.word-index l.args)) ≡ seen_after l.initial.renames.0 l.initial.renames.1 (map string_bytes l.args);
  seen : l.renames.1 ≡ seen_after l.initial.renames.0 l.initial.renames.1 (take l.word-index (map string_bytes l.args));
}
