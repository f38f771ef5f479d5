use Rattle.command_keys.proofs.WordLemmas.{all-words_count, unknown-words_refuse, equal-keys_have_the_words}
use Rattle.command_keys.proofs.laws.words.Goals as goal

pub returns : goal.returns
returns c = record { all = all-words_count; unknown = unknown-words_refuse; told = equal-keys_have_the_words }
