use Rattle.std.proofs.Common.{◌≡◌, ◌++◌, map, string_bytes}
use Rattle.canonical_names.specs.Renaming.{renamed_words, seen_after}
use Rattle.canonical_names.proofs.remap.remap_words.Given as goal

abbrev pub invariant-loop-word : goal.invariant-loop-word
invariant-loop-word l = record {
  suffixes : l.renames.0 ≡ l.initial.renames.0;
  words : map string_bytes l.renamed.items ++ renamed_words l.initial.renames.0 l.renames.1 (map string_bytes l.word-iterator.rest.items) ≡ renamed_words l.initial.renames.0 l.initial.renames.1 (map string_bytes l.fn.words.items);
  names : seen_after l.initial.renames.0 l.renames.1 (map string_bytes l.word-iterator.rest.items) ≡ seen_after l.initial.renames.0 l.initial.renames.1 (map string_bytes l.fn.words.items);
}
