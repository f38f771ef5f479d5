-- The words of a command are all there, in order, and a key tells them.
use Rattle.std.proofs.Common.{◌≡◌, ℕ, zero, suc, ◌-◌, ◌==◌, Bool, true, false, not, cond, ◌&&◌, ◌||◌, List, [], ◌∷◌, ◌++◌, Option, Some, None, option_map, map, filter, take, length, refl, ap, sym, ◌∙◌, subst, arith}
use Rattle.std.specs.Option.{option_and_then, option_or, is_some}
use Rattle.std.specs.List.{flat_map, list_all, list_any}
use Rattle.std.proofs.lemmas.Bool.{false≢true, and_parts, and_from}
use Rattle.std.proofs.lemmas.Option.{none-some, same_Some, option_and_then_some}
use Rattle.texts.specs.Path.{joined, lacks}
use Rattle.compilers.specs.declared.plans.program.Program.{Program}
use Rattle.command_keys.specs.declared.known_words.Meaning.{Meaning}
use Rattle.command_keys.specs.declared.known_words.Meaning.TheVariants as means
use Rattle.command_keys.specs.declared.known_words.Form.{Form}
use Rattle.command_keys.specs.declared.known_words.Form.TheVariants.{Whole, Beginning, Valued}
use Rattle.command_keys.specs.declared.reading.Role.{Role}
use Rattle.command_keys.specs.declared.reading.Role.TheVariants as roles
use Rattle.command_keys.specs.CountedWords.{Counted, Files, mark, marks, all_counted, counted, counted_by, counted_words, front_of, is_seen_by, place_of, text_by, text_of, text_seen, texts_seen, unnamed}
use Rattle.command_keys.specs.Images.{image_name, quotes}
use Rattle.command_keys.specs.KeyReading.{restored}
use Rattle.command_keys.specs.Keys.{command_key, is_plain, key_of}
use Rattle.command_keys.specs.KnownWords.{Row}
use Rattle.command_keys.specs.ReadWords.{Read, behind_text, file_read, image_read, input_read, meant_read, named_read, next_meaning, option_read, read_at_end, read_by, read_from, read_words, row_read, value_read, word_read}
use Rattle.command_keys.specs.WordLaws.{AllWordsCount, UnknownWordsRefuse, EqualKeysHaveTheWords, bare, bare_by, seen}
use Rattle.command_keys.specs.WordTable.{known_word}
use Rattle.command_keys.proofs.KeyLemmas.{keys-read_back}

-- what is read of a word is the word
value-word : (meaning : Meaning) (word : List ℕ) → (value_read meaning word).word ≡ word
value-word means.Counts word = refl
value-word means.Names word = refl
value-word means.OwnName word = refl
value-word means.Preprocessor word = refl
value-word means.File word = refl
value-word means.Image word = refl
value-word means.Refused word = refl

abbrev IsOf : List ℕ → Option Read → Type 0
IsOf word o = (read : Read) → o ≡ Some read → read.word ≡ word

plain-of : (word : List ℕ) (read : Read) → read.word ≡ word → IsOf word (Some read)
plain-of word read is other e = ap (λ r. r.word) (sym (same_Some read other e)) ∙ is

none-of : (word : List ℕ) → IsOf word None
none-of word read e = absurd (none-some read e)

if-of : (word : List ℕ) (b : Bool) (one other : Option Read) → IsOf word one → IsOf word other → IsOf word (cond b one other)
if-of word true one other p q = p
if-of word false one other p q = q

made-of : (word : List ℕ) (make : List ℕ → Read) (o : Option (List ℕ)) → ((name : List ℕ) → (make name).word ≡ word) → IsOf word (option_map make o)
made-of word make None is = none-of word
made-of word make (Some name) is = plain-of word (make name) (is name)

file-of : (text word : List ℕ) → IsOf word (file_read text word)
file-of text word =
    if-of word (list_any quotes word) None (option_map (λ name. record { word = word; name = name; role = roles.Names }) (behind_text text word)) (none-of word)
    (made-of word (λ name. record { word = word; name = name; role = roles.Names }) (behind_text text word) (λ _. refl))

image-of : (text word : List ℕ) → IsOf word (image_read text word)
image-of text word =
    let found : Option (List ℕ) = option_and_then image_name (behind_text text word) in
    if-of word (list_any quotes word) None (option_map (λ name. record { word = word; name = name; role = roles.Reads }) found) (none-of word)
    (made-of word (λ name. record { word = word; name = name; role = roles.Reads }) found (λ _. refl))

named-of : (text : List ℕ) (form : Form) (word : List ℕ) → IsOf word (named_read text form word)
named-of text Whole word = plain-of word _ refl
named-of text Beginning word = file-of text word
named-of text Valued word = plain-of word _ refl

meant-of : (text : List ℕ) (form : Form) (meaning : Meaning) (word : List ℕ) → IsOf word (meant_read text form meaning word)
meant-of text form means.Counts word = plain-of word _ refl
meant-of text form means.Names word = plain-of word _ refl
meant-of text form means.OwnName word = plain-of word _ refl
meant-of text form means.Preprocessor word = plain-of word _ refl
meant-of text form means.File word = named-of text form word
meant-of text form means.Image word = image-of text word
meant-of text form means.Refused word = none-of word

input-of : (tool : Program) (word : List ℕ) → IsOf word (input_read tool word)
input-of tool word = if-of word _ (Some (record { word = word; name = word; role = roles.Reads })) None (plain-of word _ refl) (none-of word)

-- the same with what the next word is the value of
abbrev IsNextOf : List ℕ → Option (Read × Option Meaning) → Type 0
IsNextOf word o = (next : Read × Option Meaning) → o ≡ Some next → next.0.word ≡ word

paired-of : (word : List ℕ) (meaning : Option Meaning) (o : Option Read) → IsOf word o → IsNextOf word (option_map (λ read. (read, meaning)) o)
paired-of word meaning None is next e = absurd (none-some next e)
paired-of word meaning (Some read) is next e = ap (λ n. n.0.word) (sym (same_Some (read, meaning) next e)) ∙ is read refl

by-of : (tool : Program) (row : Option Row) (word : List ℕ) → IsNextOf word (read_by tool row word)
by-of tool None word = paired-of word None (input_read tool word) (input-of tool word)
by-of tool (Some row) word = paired-of word (next_meaning row) (row_read row word) (meant-of row.0 row.1 row.2 word)

word-of : (tool : Program) (option : Option Meaning) (word : List ℕ) → IsNextOf word (word_read tool option word)
word-of tool (Some meaning) word next e = ap (λ n. n.0.word) (sym (same_Some (value_read meaning word, None) next e)) ∙ value-word meaning word
word-of tool None word next e = by-of tool (known_word tool word) word next e

-- all words are read, in order
abbrev words_read : List Read → List (List ℕ)
words_read read = map (λ r. r.word) read

read-more : (word : List ℕ) (words : List (List ℕ)) (next : Option (Read × Option Meaning)) (rest : Read × Option Meaning → Option (List Read)) (read : List Read) →
    IsNextOf word next → ((n : Read × Option Meaning) (others : List Read) → rest n ≡ Some others → words_read others ≡ words) →
    option_and_then (λ n. option_map (λ others. n.0 ∷ others) (rest n)) next ≡ Some read → words_read read ≡ word ∷ words
read-more word words None rest read is more e = absurd (none-some read e)
read-more word words (Some n) rest read is more e =
    elim (rest n) as (λ o. rest n ≡ o → option_map (λ others. n.0 ∷ others) o ≡ Some read → words_read read ≡ word ∷ words) [
      | None ↦ λ _ e. absurd (none-some read e)
      | Some others ↦ λ at e. ap words_read (sym (same_Some (n.0 ∷ others) read e)) ∙ (λ i. is n refl i ∷ more n others at i)
    ] refl e

all-read : (tool : Program) (option : Option Meaning) (words : List (List ℕ)) (read : List Read) → read_from tool option words ≡ Some read → words_read read ≡ words
all-read tool (Some meaning) [] read e = absurd (none-some read e)
all-read tool None [] read e = ap words_read (sym (same_Some [] read e))
all-read tool option (word ∷ words) read e =
    read-more word words (word_read tool option word) (λ n. read_from tool n.1 words) read (word-of tool option word) (λ n others at. all-read tool n.1 words others at) e

-- a word as it counts is the word that was read
abbrev IsCountOf : Read → Option Counted → Type 0
IsCountOf read o = (c : Counted) → o ≡ Some c → c.read ≡ read

count-of : (read : Read) (counted : Counted) → counted.read ≡ read → IsCountOf read (Some counted)
count-of read counted is other e = ap (λ c. c.read) (sym (same_Some counted other e)) ∙ is

counted-of : (role : Role) (reads products : List (List ℕ)) (read : Read) (path : List ℕ) → IsCountOf read (counted_by role reads products read path)
counted-of roles.Counts reads products read path = count-of read _ refl
counted-of roles.Preprocessor reads products read path = count-of read _ refl
counted-of roles.Names reads products read path = count-of read _ refl
counted-of roles.Reads reads products read path =
    elim (is_some (place_of path reads)) as (λ b. IsCountOf read (cond b (Some (record { read = read; product = None })) None)) [
      | true ↦ count-of read _ refl
      | false ↦ λ c e. absurd (none-some c e)
    ]

abbrev counts_read : List Counted → List Read
counts_read counted = map (λ c. c.read) counted

count-more : (read : Read) (rest : List Read) (one : Option Counted) (others : Option (List Counted)) (all : List Counted) → IsCountOf read one →
    ((more : List Counted) → others ≡ Some more → counts_read more ≡ rest) →
    option_and_then (λ c. option_map (λ more. c ∷ more) others) one ≡ Some all → counts_read all ≡ read ∷ rest
count-more read rest None others all is h e = absurd (none-some all e)
count-more read rest (Some c) None all is h e = absurd (none-some all e)
count-more read rest (Some c) (Some more) all is h e = ap counts_read (sym (same_Some (c ∷ more) all e)) ∙ (λ i. is c refl i ∷ h more refl i)

all-counts : (cwd : List ℕ) (reads products : List (List ℕ)) (read : List Read) (all : List Counted) → all_counted cwd reads products read ≡ Some all → counts_read all ≡ read
all-counts cwd reads products [] all e = ap counts_read (sym (same_Some [] all e))
all-counts cwd reads products (one ∷ rest) all e =
    count-more one rest (counted cwd reads products one) (all_counted cwd reads products rest) all
    (counted-of one.role reads products one (joined cwd one.name)) (λ more at. all-counts cwd reads products rest more at) e

-- so the words of a command that has a key are all there; none of them has the mark
map-words : (all : List Counted) → map (λ c. c.read.word) all ≡ words_read (counts_read all)
map-words [] = refl
map-words (c ∷ cs) = ap (λ ws. c.read.word ∷ ws) (map-words cs)

record Parts (tool : Program) (words : List (List ℕ)) (all : List Counted) : Type 0 where
  pub lacking : list_all (lacks mark) words ≡ true
  pub same : map (λ c. c.read.word) all ≡ words

counted-parts : (tool : Program) (words : List (List ℕ)) (files : Files) (all : List Counted) → counted_words tool words files ≡ Some all → Parts tool words all
counted-parts tool words files all e =
    let products = unnamed tool words files.products in
    let each : List Read → Option (List Counted) = all_counted files.cwd files.reads products in
    elim (list_all (lacks mark) words) as (λ b. list_all (lacks mark) words ≡ b → cond b (option_and_then each (read_words tool words)) None ≡ Some all → Parts tool words all) [
      | true ↦ λ is e.
          let same : map (λ c. c.read.word) all ≡ words =
          option_and_then_some each (read_words tool words) all e
          (λ read at counts. map-words all ∙ ap words_read (all-counts files.cwd files.reads products read all counts) ∙ all-read tool None words read at) in
          record { lacking = is; same = same }
      | false ↦ λ _ e. absurd (none-some all e)
    ] refl e

pub all-words_count : AllWordsCount
all-words_count tool words files counted e = (counted-parts tool words files counted e).same

-- a word that can't be read, behind words that can
refuse-more : (next : Option (Read × Option Meaning)) (rest full : Read × Option Meaning → Option (List Read)) (read : List Read) →
    ((n : Read × Option Meaning) (others : List Read) → rest n ≡ Some others → full n ≡ None) →
    option_and_then (λ n. option_map (λ others. n.0 ∷ others) (rest n)) next ≡ Some read →
    option_and_then (λ n. option_map (λ others. n.0 ∷ others) (full n)) next ≡ None
refuse-more None rest full read h e = refl
refuse-more (Some n) rest full read h e =
    elim (rest n) as (λ o. rest n ≡ o → option_map (λ others. n.0 ∷ others) o ≡ Some read → option_map (λ others. n.0 ∷ others) (full n) ≡ None) [
      | None ↦ λ _ e. absurd (none-some read e)
      | Some others ↦ λ at _. ap (option_map (λ others. n.0 ∷ others)) (h n others at)
    ] refl e

refused-from : (tool : Program) (option : Option Meaning) (before : List (List ℕ)) (word : List ℕ) (after : List (List ℕ)) (read : List Read) →
    option_read tool word ≡ None → read_from tool option before ≡ Some read → read_from tool option (before ++ word ∷ after) ≡ None
refused-from tool (Some meaning) [] word after read none e = absurd (none-some read e)
refused-from tool None [] word after read none e = ap (option_and_then (λ n. option_map (λ others. n.0 ∷ others) (read_from tool n.1 after))) none
refused-from tool option (w ∷ ws) word after read none e =
    refuse-more (word_read tool option w) (λ n. read_from tool n.1 ws) (λ n. read_from tool n.1 (ws ++ word ∷ after)) read
    (λ n others at. refused-from tool n.1 ws word after others none at) e

pub unknown-words_refuse : UnknownWordsRefuse
unknown-words_refuse tool before word after files read e unknown unnamed_file =
    let products = unnamed tool (before ++ word ∷ after) files.products in
    let each : List Read → Option (List Counted) = all_counted files.cwd files.reads products in
    let none : option_read tool word ≡ None = ap (λ row. read_by tool row word) unknown ∙ ap (option_map (λ r. (r, None))) unnamed_file in
    let refused : read_words tool (before ++ word ∷ after) ≡ None = refused-from tool None before word after read none e in
    elim (list_all (lacks mark) (before ++ word ∷ after)) as (λ b. cond b (option_and_then each (read_words tool (before ++ word ∷ after))) None ≡ None) [
      | true ↦ ap (option_and_then each) refused
      | false ↦ refl
    ]

-- the texts of words in a key are those of the words that count
texts-seen : (all : Bool) (cs : List Counted) → texts_seen all cs ≡ map text_of (seen all cs)
texts-seen all [] = refl
texts-seen true (c ∷ cs) = ap (λ ts. text_of c ∷ ts) (texts-seen true cs)
texts-seen false (c ∷ cs) =
    elim (is_seen_by c.read.role) as (λ b. cond b (text_of c ∷ []) [] ++ texts_seen false cs ≡ map text_of (cond b (c ∷ seen false cs) (seen false cs))) [
      | true ↦ ap (λ ts. text_of c ∷ ts) (texts-seen false cs)
      | false ↦ texts-seen false cs
    ]

abbrev lack : List Counted → Bool
lack cs = list_all (λ c. lacks mark c.read.word) cs

lack-words : (cs : List Counted) → list_all (lacks mark) (map (λ c. c.read.word) cs) ≡ true → lack cs ≡ true
lack-words [] h = refl
lack-words (c ∷ cs) h =
    let both = and_parts (lacks mark c.read.word) (list_all (lacks mark) (map (λ c. c.read.word) cs)) h in
    and_from (lacks mark c.read.word) (lack cs) both.0 (lack-words cs both.1)

lack-seen : (all : Bool) (cs : List Counted) → lack cs ≡ true → lack (seen all cs) ≡ true
lack-seen all [] h = refl
lack-seen all (c ∷ cs) h =
    let both = and_parts (lacks mark c.read.word) (lack cs) h in
    elim (all || is_seen_by c.read.role) as (λ b. lack (cond b (c ∷ seen all cs) (seen all cs)) ≡ true) [
      | true ↦ and_from (lacks mark c.read.word) (lack (seen all cs)) both.0 (lack-seen all cs both.1)
      | false ↦ lack-seen all cs both.1
    ]

-- marks tell where a product's name was, and its number
lack-take : (n : ℕ) (word : List ℕ) → lacks mark word ≡ true → lacks mark (take n word) ≡ true
lack-take zero word h = refl
lack-take (suc n) [] h = refl
lack-take (suc n) (c ∷ cs) h =
    let both = and_parts (not (c == mark)) (lacks mark cs) h in
    and_from (not (c == mark)) (lacks mark (take n cs)) both.0 (lack-take n cs both.1)

has-mark : (front back : List ℕ) → lacks mark (front ++ mark ∷ back) ≡ false
has-mark [] back = refl
has-mark (c ∷ cs) back = elim (not (c == mark)) as (λ b. (b && lacks mark (cs ++ mark ∷ back)) ≡ false) [
  | true ↦ has-mark cs back
  | false ↦ refl
]

no-mark : (word front back : List ℕ) → lacks mark word ≡ true → word ≡ front ++ mark ∷ back → false ≡ true
no-mark word front back h e = sym (has-mark front back) ∙ ap (lacks mark) (sym e) ∙ h

marks-same : (n m : ℕ) → marks n ≡ marks m → n ≡ m
marks-same zero zero e = refl
marks-same zero (suc m) e = absurd (cc)
marks-same (suc n) zero e = absurd (cc)
marks-same (suc n) (suc m) e = ap suc (marks-same n m (cc))

fronts-same : (f g : List ℕ) (n m : ℕ) → lacks mark f ≡ true → lacks mark g ≡ true → f ++ mark ∷ marks n ≡ g ++ mark ∷ marks m → (f ≡ g) × (n ≡ m)
fronts-same [] [] n m p q e = (refl, marks-same n m (cc))
fronts-same [] (d ∷ ds) n m p q e =
    let first : mark ≡ d = cc in
    absurd (false≢true (subst (λ c. lacks mark (c ∷ ds) ≡ true) (sym first) q))
fronts-same (c ∷ cs) [] n m p q e =
    let first : c ≡ mark = cc in
    absurd (false≢true (subst (λ d. lacks mark (d ∷ cs) ≡ true) first p))
fronts-same (c ∷ cs) (d ∷ ds) n m p q e =
    let first : c ≡ d = cc in
    let rest = fronts-same cs ds n m (and_parts (not (c == mark)) (lacks mark cs) p).1 (and_parts (not (d == mark)) (lacks mark ds) q).1 (cc) in
    ((λ i. first i ∷ rest.0 i), rest.1)

abbrev bare_of : Read → Option ℕ → List ℕ × Option ℕ
bare_of read product = bare (record { read = read; product = product })

read-same : (r s : Read) (p q : Option ℕ) → lacks mark r.word ≡ true → lacks mark s.word ≡ true → text_by r p ≡ text_by s q → bare_of r p ≡ bare_of s q
read-same r s None None hr hs e = ap (λ w. (w, None)) e
read-same r s None (Some m) hr hs e = absurd (false≢true (no-mark r.word (front_of s) (marks m) hr e))
read-same r s (Some n) None hr hs e = absurd (false≢true (no-mark s.word (front_of r) (marks n) hs (sym e)))
read-same r s (Some n) (Some m) hr hs e =
    let both = fronts-same (front_of r) (front_of s) n m (lack-take _ r.word hr) (lack-take _ s.word hs) e in
    λ i. (both.0 i, Some (both.1 i))

bares-same : (cs ds : List Counted) → lack cs ≡ true → lack ds ≡ true → map text_of cs ≡ map text_of ds → map bare cs ≡ map bare ds
bares-same [] [] p q e = refl
bares-same [] (d ∷ ds) p q e = absurd (cc)
bares-same (c ∷ cs) [] p q e = absurd (cc)
bares-same (c ∷ cs) (d ∷ ds) p q e =
    let left = and_parts (lacks mark c.read.word) (lack cs) p in
    let right = and_parts (lacks mark d.read.word) (lack ds) q in
    let first : text_of c ≡ text_of d = cc in
    let rest : map bare cs ≡ map bare ds = bares-same cs ds left.1 right.1 (cc) in
    λ i. read-same c.read d.read c.product d.product left.0 right.0 first i ∷ rest i

-- a key tells its command
key-tells : (roots : List (List ℕ)) (b : Bool) (command : List (List ℕ) × List (List ℕ × List ℕ)) (key : List ℕ) →
    cond (b && is_plain command) (Some (command_key roots command)) None ≡ Some key → restored roots key ≡ command
key-tells roots false command key e = absurd (none-some key e)
key-tells roots true command key e =
    elim (is_plain command) as (λ b. is_plain command ≡ b → cond b (Some (command_key roots command)) None ≡ Some key → restored roots key ≡ command) [
      | true ↦ λ plain e. ap (restored roots) (sym (same_Some (command_key roots command) key e)) ∙ keys-read_back roots command plain
      | false ↦ λ _ e. absurd (none-some key e)
    ] refl e

pub equal-keys_have_the_words : EqualKeysHaveTheWords
equal-keys_have_the_words all tool words others files files' counted counted' roots variables variables' key e e' k k' =
    let parts = counted-parts tool words files counted e in
    let parts' = counted-parts tool others files' counted' e' in
    let lacking : lack counted ≡ true = lack-words counted (ap (list_all (lacks mark)) parts.same ∙ parts.lacking) in
    let lacking' : lack counted' ≡ true = lack-words counted' (ap (list_all (lacks mark)) parts'.same ∙ parts'.lacking) in
    let one = key-tells roots _ (texts_seen all counted, variables) key k in
    let other = key-tells roots _ (texts_seen all counted', variables') key k' in
    let same : texts_seen all counted ≡ texts_seen all counted' = ap (λ c. c.0) (sym one ∙ other) in
    bares-same (seen all counted) (seen all counted') (lack-seen all counted lacking) (lack-seen all counted' lacking')
    (sym (texts-seen all counted) ∙ same ∙ texts-seen all counted')
