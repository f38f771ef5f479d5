-- The words of a command that count in its key.
use Rattle.std.specs.Prelude.{◌≡◌, ℕ, zero, suc, ◌-◌, List, [], ◌∷◌, ◌++◌, Bool, true, false, ◌&&◌, length, take, if◌then◌else◌, Option, Some, None, map, codes, refl, option_map, option_and_then, bytes_eq}
use Rattle.std.specs.List.{flat_map, list_all, list_any, position_from}
use Rattle.std.specs.Option.{is_some}
use Rattle.texts.specs.Path.{joined, lacks}
use Rattle.compilers.specs.declared.plans.program.Program.{Program}
use Rattle.compilers.specs.declared.plans.program.Program.TheVariants.{Cicc, Ptxas, Cudafe, Fatbinary, Nvlink, Other}
use Rattle.command_keys.specs.declared.counting.NamedFiles.{NamedFiles}
use Rattle.command_keys.specs.declared.reading.Role.{Role}
use Rattle.command_keys.specs.declared.reading.Role.TheVariants as roles
use Rattle.command_keys.specs.Keys.{shown}
use Rattle.command_keys.specs.ReadWords.{Read, read_words, plain, naming}
use Rattle.command_keys.specs.WordTable.{shows_own_name}

-- a word, and the number of the product whose name it ends in
pub record Counted : Type 0 where
  pub read : Read
  pub product : Option ℕ

abbrev pub as_read : Read → Counted
as_read read = record { read = read; product = None }

-- the files of a command: where it runs, what it reads, and what it writes whose names don't count
pub record Files : Type 0 where
  pub cwd : List ℕ
  pub reads : List (List ℕ)
  pub products : List (List ℕ)

abbrev pub files_of : NamedFiles → Files
files_of files = record { cwd = files.cwd.now; reads = map shown files.reads.now; products = map shown files.products.now }

-- the place of a path among files
abbrev pub place_of : List ℕ → List (List ℕ) → Option ℕ
place_of path files = position_from (λ file. bytes_eq file path) 0 files

-- a word as it counts, by what it is to a key, given the file's path: none if the record doesn't read the file that it names
abbrev pub counted_by : Role → List (List ℕ) → List (List ℕ) → Read → List ℕ → Option Counted
counted_by roles.Counts reads products read path = Some (as_read read)
counted_by roles.Preprocessor reads products read path = Some (as_read read)
counted_by roles.Reads reads products read path = if is_some (place_of path reads) then Some (as_read read) else None
counted_by roles.Names reads products read path = Some (record { read = read; product = place_of path products })

abbrev pub counted : List ℕ → List (List ℕ) → List (List ℕ) → Read → Option Counted
counted cwd reads products read = counted_by read.role reads products read (joined cwd read.name)

-- all of them, or none
abbrev pub all_counted : List ℕ → List (List ℕ) → List (List ℕ) → List Read → Option (List Counted)
all_counted cwd reads products [] = Some []
all_counted cwd reads products (read ∷ rest) =
    option_and_then (λ one. option_map (λ others. one ∷ others) (all_counted cwd reads products rest)) (counted cwd reads products read)

-- the files whose names don't count: none if the product's own name reaches it
abbrev pub unnamed : Program → List (List ℕ) → List (List ℕ) → List (List ℕ)
unnamed tool words products = if list_any (shows_own_name tool) words then [] else products

-- the byte that stands for products' names in a key. No word of a command that has a key contains it
abbrev pub mark : ℕ
mark = 1

-- the words of a command as they count: all of them, in order. None if the table doesn't have one, or if one names a file that the command
-- doesn't read by its record
abbrev pub counted_words : Program → List (List ℕ) → Files → Option (List Counted)
counted_words tool words files =
    if list_all (lacks mark) words
    then option_and_then (all_counted files.cwd files.reads (unnamed tool words files.products)) (read_words tool words) else None

-- so many marks
abbrev pub marks : ℕ → List ℕ
marks zero = []
marks (suc n) = mark ∷ marks n

-- a word's text in a key: in place of a product's name one mark more than its number
abbrev pub front_of : Read → List ℕ
front_of read = take (length read.word - length read.name) read.word

abbrev pub text_by : Read → Option ℕ → List ℕ
text_by read None = read.word
text_by read (Some number) = front_of read ++ marks (suc number)

abbrev pub text_of : Counted → List ℕ
text_of counted = text_by counted.read counted.product

-- whether a word counts: if names don't, what only a preprocessor reads doesn't
abbrev pub is_seen_by : Role → Bool
is_seen_by roles.Counts = true
is_seen_by roles.Preprocessor = false
is_seen_by roles.Reads = true
is_seen_by roles.Names = true

abbrev pub text_seen : Bool → Counted → List (List ℕ)
text_seen true counted = text_of counted ∷ []
text_seen false counted = if is_seen_by counted.read.role then text_of counted ∷ [] else []

-- the texts of words in a key
abbrev pub texts_seen : Bool → List Counted → List (List ℕ)
texts_seen all counted = flat_map (text_seen all) counted

-- Examples: the product's name doesn't count, wherever it is written; with ptxas's -g it does. A value that is no file's name counts though it
-- is written as the product.
abbrev pub files_in : List (List ℕ) → List (List ℕ) → Files
files_in reads products = record { cwd = codes "/w"; reads = reads; products = products }

abbrev pub texts : Program → List (List ℕ) → Files → Option (List (List ℕ))
texts tool words files = option_map (texts_seen false) (counted_words tool words files)

pub product_of_cicc :
    texts Cicc (codes "-arch" ∷ codes "compute_80" ∷ codes "/t/k.ii" ∷ codes "-o" ∷ codes "compute_80" ∷ []) (files_in (codes "/t/k.ii" ∷ []) (codes "/w/compute_80" ∷ []))
    ≡ Some (codes "-arch" ∷ codes "compute_80" ∷ codes "/t/k.ii" ∷ codes "-o" ∷ (1 ∷ []) ∷ [])
product_of_cicc = refl

pub product_for_debuggers :
    texts Ptxas (codes "-g" ∷ codes "/t/k.ptx" ∷ codes "-o" ∷ codes "k.cubin" ∷ []) (files_in (codes "/t/k.ptx" ∷ []) (codes "/w/k.cubin" ∷ []))
    ≡ Some (codes "-g" ∷ codes "/t/k.ptx" ∷ codes "-o" ∷ codes "k.cubin" ∷ [])
product_for_debuggers = refl

pub products_of_fatbinary :
    texts Fatbinary (codes "--create=k.fatbin" ∷ codes "--embedded-fatbin=/t/k.c" ∷ []) (files_in [] (codes "/t/k.c" ∷ codes "/w/k.fatbin" ∷ []))
    ≡ Some ((codes "--create=" ++ 1 ∷ 1 ∷ []) ∷ (codes "--embedded-fatbin=" ++ 1 ∷ []) ∷ [])
products_of_fatbinary = refl

pub read_by_no_record : texts Ptxas (codes "/t/k.ptx" ∷ []) (files_in (codes "/t/j.ptx" ∷ []) []) ≡ None
read_by_no_record = refl

pub words_for_the_preprocessor :
    map (λ all. option_map (texts_seen all) (counted_words Other (codes "-DA" ∷ codes "-O2" ∷ []) (files_in [] []))) (false ∷ true ∷ [])
    ≡ Some (codes "-O2" ∷ []) ∷ Some (codes "-DA" ∷ codes "-O2" ∷ []) ∷ []
words_for_the_preprocessor = refl
