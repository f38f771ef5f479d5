-- The files that commands read and write, and which command must follow which because of them.
use Rattle.std.specs.Prelude.{ℕ, List, Bool, ◌||◌, bytes_eq}
use Rattle.std.specs.List.{list_any}

-- the record of a command: the paths of the files that it reads, and of those that it writes
pub record Files : Type 0 where
  pub reads : List (List ℕ)
  pub writes : List (List ℕ)

-- whether a file is among files, and whether two lists share one
abbrev pub is_among : List (List ℕ) → List ℕ → Bool
is_among files file = list_any (bytes_eq file) files

abbrev pub share : List (List ℕ) → List (List ℕ) → Bool
share some others = list_any (is_among others) some

-- whether a command touches a file
abbrev pub touches : Files → List ℕ → Bool
touches f file = is_among f.reads file || is_among f.writes file

-- the three kinds of needs: a later command reads what an earlier one writes, writes what it reads, or writes what it writes
abbrev pub reads_written : Files → Files → Bool
reads_written earlier later = share earlier.writes later.reads

abbrev pub writes_read : Files → Files → Bool
writes_read earlier later = share earlier.reads later.writes

abbrev pub writes_written : Files → Files → Bool
writes_written earlier later = share earlier.writes later.writes

-- whether a later command needs an earlier one: either writes a file that the other reads or writes
abbrev pub must_follow : Files → Files → Bool
must_follow earlier later = reads_written earlier later || (writes_read earlier later || writes_written earlier later)

-- the same, but for one kind of need
abbrev pub but_reads_written : Files → Files → Bool
but_reads_written earlier later = writes_read earlier later || writes_written earlier later

abbrev pub but_writes_read : Files → Files → Bool
but_writes_read earlier later = reads_written earlier later || writes_written earlier later

abbrev pub but_writes_written : Files → Files → Bool
but_writes_written earlier later = reads_written earlier later || writes_read earlier later
