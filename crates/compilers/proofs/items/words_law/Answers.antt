use Rattle.compilers.proofs.WordsLemmas.{lines-are_their_parts, whole_items-are_their_parts, words-are_those_read, words-read_back, lists-read_back, lines-hold_read_items, whole-lines_are_kept}
use Rattle.compilers.proofs.items.words_law.Goals as goal

pub returns : goal.returns
returns g c =
    record {
      parts = λ table. lines-are_their_parts (g.S.SearchableArgInfo.chosen table);
      placed = λ table. whole_items-are_their_parts (g.S.SearchableArgInfo.chosen table);
      read = λ table. lines-hold_read_items (g.S.SearchableArgInfo.chosen table);
      written = λ table. words-are_those_read (g.S.SearchableArgInfo.chosen table);
      reread = λ table. words-read_back (g.S.SearchableArgInfo.chosen table);
      lists = λ table. lists-read_back (g.S.SearchableArgInfo.chosen table);
      lines = λ table. whole-lines_are_kept (g.S.SearchableArgInfo.chosen table);
    }
