-- Clean runs are alike exactly if they have one canonical run. A renamed word has the head and the class that it had.
use Rattle.std.proofs.Common.{◌≡◌, ℕ, ◌++◌, ◌&&◌, Bool, true, false, cond, eqb, List, [], ◌∷◌, Option, Some, None, map, refl, ap, sym, ◌∙◌, nat_eq, codes, arith, ◌-◌, inl, inr, subst, length, take, fold, option_map, bytes_eq, map-id, Contains, find, filter_map, unwrap_or}
use Rattle.std.specs.List.{All, starts_with, list_any, ends_with, flat_map, cons_option}
use Rattle.std.proofs.lemmas.List.Elements.{All-nil, All-contains, Contains-append_left, Contains-push}
use Rattle.std.proofs.Math.Bool.{and-false}
use Rattle.std.proofs.lemmas.Bool.{false≢true}
use Rattle.std.proofs.lemmas.Slice.Eq.{bytes_eq-Decides}
use Rattle.std.proofs.lemmas.List.{map-append}
use Rattle.texts.proofs.PathLaw.{folder-begins}
use Rattle.compilers.specs.CommandLines.{CommandLine, words_of_command}
use Rattle.texts.specs.Lists.{with_name}
use Rattle.texts.specs.Path.{joined, folder_of}
use Rattle.canonical_names.specs.Generated.{head_of, core_of, class_of, class_of_name, begins_with_dash, is_file_mark, generated_name}
use Rattle.canonical_names.specs.Renaming.{canonical_in, canonical_name, names_of_run, canonical_file, rank, seen_after_word, seen_after}
use Rattle.canonical_names.specs.Alike.{core_through, word_through, command_through, IsRenaming}
use Rattle.canonical_names.specs.CanonicalNames.{AreSuffixes, core_by_all, word_by_all, command_by_all, AlikeRunsAgree, OneCanonicalRun}
use Rattle.canonical_names.proofs.CanonicalLemmas.{HasClass, run-all, different-names, folder_and_class-stay, head-member, tail-member, find-found, find-only, two-ends, ends-split, no-member, member-cases, eqb-turned, add, bytes_eq-itself, words-front, class-member, run-names, fold-front}
use Rattle.canonical_names.specs.Appearances.{appearances}
use Rattle.canonical_names.proofs.CleanLemmas.{clean-run_is_a_map}

-- a text has no mark where it doesn't begin with `-Fi`
pub record Unmarked (text : List ℕ) : Type 0 where
  pub no_head : starts_with nat_eq text (codes "-Fi") ≡ false
  pub whole : core_of text ≡ text

pub mark-turned : (a b c : ℕ) → (eqb 45 a && (eqb 70 b && (eqb 105 c && true))) ≡ is_file_mark a b c
mark-turned a b c = grind (arith, eqb-turned)

pub long-unmarked : (a b c : ℕ) (rest : List ℕ) → is_file_mark a b c ≡ false → Unmarked (a ∷ b ∷ c ∷ rest)
long-unmarked a b c rest h = grind (arith, mark-turned)

pub one-unmarked : (a : ℕ) → Unmarked (a ∷ [])
one-unmarked a = record { no_head = and-false (eqb 45 a); whole = refl }

pub two-unmarked : (a b : ℕ) → Unmarked (a ∷ b ∷ [])
two-unmarked a b = record { no_head = ap (λ t. eqb 45 a && t) (and-false (eqb 70 b)) ∙ and-false (eqb 45 a); whole = refl }

core-unmarked : (word : List ℕ) → Unmarked (core_of word)
core-unmarked [] = record { no_head = refl; whole = refl }
core-unmarked (a ∷ []) = one-unmarked a
core-unmarked (a ∷ b ∷ []) = two-unmarked a b
core-unmarked (a ∷ b ∷ c ∷ rest) = grind (arith, long-unmarked, (core-unmarked rest))

pub dash-unmarked : (text : List ℕ) → begins_with_dash text ≡ false → Unmarked text
dash-unmarked text h = grind (arith, one-unmarked, two-unmarked, long-unmarked)

-- a head put before an unmarked text is its head, and the text its core
cond-head : (b : Bool) (text : List ℕ) → Unmarked text → (head_of (cond b (codes "-Fi") [] ++ text) ≡ cond b (codes "-Fi") []) × (core_of (cond b (codes "-Fi") [] ++ text) ≡ text)
cond-head b text u = grind arith

pub dash-canonical : (names : List (List ℕ)) (core class : List ℕ) → begins_with_dash core ≡ false → begins_with_dash (canonical_in names core class) ≡ false
dash-canonical names core class h = grind (arith, (folder-begins core))

-- what is told of a renamed word
told-by : (suffixes : List (List ℕ)) (f : List ℕ → List ℕ) (word text : List ℕ) → Unmarked text → cond (begins_with_dash text) None (class_of_name suffixes text) ≡ class_of suffixes word →
    core_through f (core_of word) (class_of suffixes word) ≡ text → word_through suffixes f word ≡ word_through suffixes (λ n. n) (head_of word ++ text)
told-by suffixes f word text u class core = grind (arith, cond-head)

module _ (suffixes : List (List ℕ)) (lawful : AreSuffixes suffixes) (names : List (List ℕ)) where
  pub not-dash : (word class : List ℕ) (b : Bool) → begins_with_dash (core_of word) ≡ b → cond b None (class_of_name suffixes (core_of word)) ≡ Some class → (begins_with_dash (core_of word) ≡ false) × (class_of_name suffixes (core_of word) ≡ Some class)
  not-dash word class b e h = grind arith

  pub told-word : (word : List ℕ) (o : Option (List ℕ)) → class_of suffixes word ≡ o → word_through suffixes (canonical_name suffixes names) word ≡ word_through suffixes (λ n. n) (head_of word ++ core_by_all names (core_of word) o)
  told-word word None e = grind (arith, told-by, core-unmarked)
  told-word word (Some class) e =
      grind (arith, told-by, dash-unmarked, dash-canonical, ((folder_and_class-stay suffixes lawful names (core_of word) class (not-dash word class (begins_with_dash (core_of word)) refl e).1).1))

  told-words : (words : List (List ℕ)) → map (word_through suffixes (canonical_name suffixes names)) words ≡ map (word_through suffixes (λ n. n)) (map (word_by_all suffixes names) words)
  told-words [] = refl
  told-words (w ∷ ws) = grind (arith, told-word, (told-words ws))

  pub told-run : (commands : List CommandLine) → map (command_through suffixes (canonical_name suffixes names)) commands ≡ map (command_through suffixes (λ n. n)) (map (command_by_all suffixes names) commands)
  told-run [] = refl
  told-run (c ∷ cs) = simp (told-words, (told-run cs))

pub canonical-renaming : (suffixes : List (List ℕ)) → AreSuffixes suffixes → (commands : List CommandLine) → IsRenaming suffixes (names_of_run suffixes commands) (canonical_name suffixes (names_of_run suffixes commands))
canonical-renaming suffixes lawful commands =
    let names = names_of_run suffixes commands in
    let classes : All (HasClass suffixes) names = run-all suffixes [] commands (All-nil (HasClass suffixes)) in
    record {
      one_to_one = different-names suffixes lawful commands;
      keeps_folder = λ n h. let class = All-contains (HasClass suffixes) names n classes h in (folder_and_class-stay suffixes lawful names n class.0 class.1).0;
      keeps_class = λ n h. let class = All-contains (HasClass suffixes) names n classes h in (folder_and_class-stay suffixes lawful names n class.0 class.1).1 ∙ sym class.1;
    }

-- Clean runs that are alike have one canonical run.

-- what is told of a word, and of a command
abbrev pub ToldWord : Type 0
ToldWord = List ℕ × Option (List ℕ) × List ℕ

abbrev pub Told : Type 0
Told = ℕ × List ℕ × List ToldWord

-- tests that hold of the same
pub same-tests : (a b : Bool) → (a ≡ true → b ≡ true) → (b ≡ true → a ≡ true) → a ≡ b
same-tests a b h k = grind arith

-- a name that is added is a member
pub any-member : (x : List ℕ) (seen : List (List ℕ)) → list_any (bytes_eq x) seen ≡ true → Contains seen x
any-member x [] h = absurd (false≢true h)
any-member x (n ∷ seen) h = grind (arith, bytes_eq-Decides, head-member, tail-member, (any-member x seen))

pub added-member : (seen : List (List ℕ)) (x : List ℕ) → Contains (add seen x) x
added-member seen x =
    elim (list_any (bytes_eq x) seen) as (λ t. list_any (bytes_eq x) seen ≡ t → Contains (cond t seen (seen ++ x ∷ [])) x)
    [ true ↦ λ e. any-member x seen e | false ↦ λ _. Contains-push seen x ] refl

-- the names that are told of a run
abbrev pub name_told : ToldWord → Option (List ℕ)
name_told t = option_map (λ (_ : List ℕ). t.2) t.1

abbrev pub names_told : List Told → List (List ℕ)
names_told told = flat_map (λ (c : Told). filter_map name_told c.2) told

module _ (suffixes : List (List ℕ)) (f : List ℕ → List ℕ) where
  one-told : (core : List ℕ) (o : Option (List ℕ)) → option_map (λ (_ : List ℕ). core_through f core o) o ≡ option_map f (option_map (λ (_ : List ℕ). core) o)
  one-told core o = grind arith

  cons-mapped : (o : Option (List ℕ)) (xs : List (List ℕ)) → cons_option (option_map f o) (map f xs) ≡ map f (cons_option o xs)
  cons-mapped o xs = grind arith

  words-told : (words : List (List ℕ)) → filter_map name_told (map (word_through suffixes f) words) ≡ map f (filter_map (generated_name suffixes) words)
  words-told [] = refl
  words-told (w ∷ ws) = simp (one-told, cons-mapped, (words-told ws))

  pub run-told : (commands : List CommandLine) → names_told (map (command_through suffixes f) commands) ≡ map f (appearances suffixes commands)
  run-told [] = refl
  run-told (c ∷ cs) = simp (words-told, map-append, (run-told cs))

-- Below, a renaming of the names of a run.
module _ (suffixes : List (List ℕ)) (lawful : AreSuffixes suffixes) (names : List (List ℕ)) (f : List ℕ → List ℕ) (renaming : IsRenaming suffixes names f) where
  bytes-mapped : (m n : List ℕ) → Contains names m → Contains names n → bytes_eq (f m) (f n) ≡ bytes_eq m n
  bytes-mapped m n hm hn = grind (arith, bytes_eq-Decides, bytes_eq-itself, (renaming.one_to_one m n hm hn))

  pub any-mapped : (x : List ℕ) (part : List (List ℕ)) → Contains names x → ((n : List ℕ) → Contains part n → Contains names n) → list_any (bytes_eq (f x)) (map f part) ≡ list_any (bytes_eq x) part
  any-mapped x [] hx within = refl
  any-mapped x (n ∷ part) hx within =
      simp (bytes-mapped, head-member, (any-mapped x part hx (λ m h. within m (tail-member n part m h))))

  pub add-mapped : (seen : List (List ℕ)) (x : List ℕ) → Contains names x → ((n : List ℕ) → Contains seen n → Contains names n) → add (map f seen) (f x) ≡ map f (add seen x)
  add-mapped seen x hx within = grind (arith, any-mapped, map-append)

  -- names that were added so far are names of the run
  pub within-all : (seen xs : List (List ℕ)) → names ≡ fold add seen xs → (n : List ℕ) → Contains seen n → Contains names n
  within-all seen xs all n h =
      let rest = fold-front seen xs in
      subst (λ ns. Contains ns n) (sym (all ∙ rest.1)) (Contains-append_left seen rest.0 n h)

  pub fold-mapped : (seen xs : List (List ℕ)) → names ≡ fold add seen xs → fold add (map f seen) (map f xs) ≡ map f (fold add seen xs)
  fold-mapped seen [] all = refl
  fold-mapped seen (x ∷ xs) all =
      ap (λ s. fold add s (map f xs)) (add-mapped seen x (within-all (add seen x) xs all x (added-member seen x)) (within-all seen (x ∷ xs) all)) ∙ fold-mapped (add seen x) xs all

  -- ranks under the renaming
  pub class-found : (class y : List ℕ) → Contains suffixes class → ends_with nat_eq y class ≡ true → class_of_name suffixes y ≡ Some class
  class-found class y hc e =
      find-only (ends_with nat_eq y) suffixes class hc e
      (λ z among passes. two-ends suffixes lawful z class (take (length y - length z) y) (take (length y - length class) y) among hc (sym (ends-split y z passes) ∙ ends-split y class e))

  ends-mapped : (class x : List ℕ) → Contains suffixes class → Contains names x → ends_with nat_eq (f x) class ≡ ends_with nat_eq x class
  ends-mapped class x hc hx =
      grind (arith, find-found, (renaming.keeps_class x hx), (class-found class x hc), (class-found class (f x) hc))

  pub rank-mapped : (class n : List ℕ) → Contains suffixes class → Contains names n → (part : List (List ℕ)) → ((m : List ℕ) → Contains part m → Contains names m) → rank class (map f part) (f n) ≡ rank class part n
  rank-mapped class n hc hn [] within = refl
  rank-mapped class n hc hn (x ∷ part) within =
      simp (head-member, bytes-mapped, ends-mapped, (rank-mapped class n hc hn part (λ m h. within m (tail-member x part m h))))

-- a word and a command, renamed by what is told of them
abbrev word_of_told : List (List ℕ) → ToldWord → List ℕ
word_of_told names t = t.0 ++ core_by_all names t.2 t.1

abbrev command_of_told : List (List ℕ) → Told → CommandLine
command_of_told names c = (c.0, c.1, map (word_of_told names) c.2)

-- a run by what is told of it as it is
module _ (suffixes names : List (List ℕ)) where
  core-same : (core : List ℕ) (o : Option (List ℕ)) → core_by_all names (core_through (λ n. n) core o) o ≡ core_by_all names core o
  core-same core o = grind arith

  words-same : (words : List (List ℕ)) → map (word_of_told names) (map (word_through suffixes (λ n. n)) words) ≡ map (word_by_all suffixes names) words
  words-same [] = refl
  words-same (w ∷ ws) = simp (core-same, (words-same ws))

  run-same : (commands : List CommandLine) → map (command_of_told names) (map (command_through suffixes (λ n. n)) commands) ≡ map (command_by_all suffixes names) commands
  run-same [] = refl
  run-same (c ∷ cs) = simp (words-same, (run-same cs))

-- a run by what is told of it through a renaming
module _ (suffixes : List (List ℕ)) (lawful : AreSuffixes suffixes) (names : List (List ℕ)) (f : List ℕ → List ℕ) (renaming : IsRenaming suffixes names f) where
  core-agrees : (seen xs : List (List ℕ)) (word : List ℕ) (o : Option (List ℕ)) → class_of suffixes word ≡ o → names ≡ fold add (with_name seen (option_map (λ (_ : List ℕ). core_of word) o)) xs →
      core_by_all (map f names) (core_through f (core_of word) o) o ≡ core_by_all names (core_of word) o
  core-agrees seen xs word None e all = refl
  core-agrees seen xs word (Some class) e all =
      let core = core_of word in
      let hc = class-member suffixes word class (begins_with_dash core) e in
      let hn : Contains names core = within-all suffixes lawful names f renaming (add seen core) xs all core (added-member seen core) in
      ap (λ d. joined d (canonical_file (rank class (map f names) (f core)) class)) (renaming.keeps_folder core hn)
      ∙ ap (λ k. joined (folder_of core) (canonical_file k class)) (rank-mapped suffixes lawful names f renaming class core hc hn names (λ m h. h))

  words-agree : (seen words xs : List (List ℕ)) → names ≡ fold add (seen_after suffixes seen words) xs → map (word_of_told (map f names)) (map (word_through suffixes f) words) ≡ map (word_by_all suffixes names) words
  words-agree seen [] xs all = refl
  words-agree seen (word ∷ words) xs all =
      let behind = all ∙ words-front suffixes (seen_after_word suffixes seen word) words xs in
      grind (arith, core-agrees, (words-agree (seen_after_word suffixes seen word) words xs all))

  run-agrees : (seen : List (List ℕ)) (commands : List CommandLine) → names ≡ fold (λ seen command. seen_after suffixes seen (words_of_command command)) seen commands →
      map (command_of_told (map f names)) (map (command_through suffixes f) commands) ≡ map (command_by_all suffixes names) commands
  run-agrees seen [] all = refl
  run-agrees seen (command ∷ commands) all =
      grind (arith, words-agree, run-names, (run-agrees (seen_after suffixes seen (words_of_command command)) commands all))

pub alike-runs_agree : AlikeRunsAgree
alike-runs_agree suffixes lawful first second one other (f, renaming, told) =
    let names = names_of_run suffixes first in
    let listed : names ≡ fold add [] (appearances suffixes first) = run-names suffixes [] first in
    let appear : map f (appearances suffixes first) ≡ appearances suffixes second =
    sym (run-told suffixes f first) ∙ ap names_told told ∙ run-told suffixes (λ n. n) second ∙ map-id (appearances suffixes second) in
    let named : map f names ≡ names_of_run suffixes second =
    ap (map f) listed ∙ sym (fold-mapped suffixes lawful names f renaming [] (appearances suffixes first) listed)
    ∙ ap (fold add []) appear ∙ sym (run-names suffixes [] second) in
    clean-run_is_a_map suffixes first one ∙ sym (run-agrees suffixes lawful names f renaming [] first refl)
    ∙ ap (map (command_of_told (map f names))) told
    ∙ ap (λ ns. map (command_of_told ns) (map (command_through suffixes (λ n. n)) second)) named
    ∙ run-same suffixes (names_of_run suffixes second) second ∙ sym (clean-run_is_a_map suffixes second other)

-- Clean runs that have one canonical run are alike.

-- members of a mapped list
pub mapped-member : {A B : Type 0} (f : A → B) (xs : List A) (x : A) → Contains xs x → Contains (map f xs) (f x)
mapped-member f [] x h = absurd (no-member x h)
mapped-member f (y ∷ ys) x h = grind (arith, member-cases, head-member, tail-member, (mapped-member f ys x))

pub member-mapped : {A B : Type 0} (f : A → B) (xs : List A) (y : B) → Contains (map f xs) y → (x : A) × Contains xs x × (f x ≡ y)
member-mapped f [] y h = absurd (no-member y h)
member-mapped f (x ∷ xs) y h =
    elim (member-cases (f x) (map f xs) y h) as (λ _. (z : _) × Contains (x ∷ xs) z × (f z ≡ y))
    [ inl is ↦ (x, head-member x xs, is) | inr more ↦ let found = member-mapped f xs y more in (found.0, tail-member x xs found.0 found.1, found.2) ]

-- what is told, once more, with other names

abbrev word_again : (List ℕ → List ℕ) → ToldWord → ToldWord
word_again g t = (t.0, t.1, core_through g t.2 t.1)

abbrev told_again : (List ℕ → List ℕ) → Told → Told
told_again g c = (c.0, c.1, map (word_again g) c.2)

-- through two maps, one after the other
module _ (suffixes : List (List ℕ)) (g f : List ℕ → List ℕ) where
  core-twice : (core : List ℕ) (o : Option (List ℕ)) → core_through g (core_through f core o) o ≡ core_through (λ n. g (f n)) core o
  core-twice core o = grind arith

  words-twice : (words : List (List ℕ)) → map (word_again g) (map (word_through suffixes f) words) ≡ map (word_through suffixes (λ n. g (f n))) words
  words-twice [] = refl
  words-twice (w ∷ ws) = simp (core-twice, (words-twice ws))

  run-twice : (commands : List CommandLine) → map (told_again g) (map (command_through suffixes f) commands) ≡ map (command_through suffixes (λ n. g (f n))) commands
  run-twice [] = refl
  run-twice (c ∷ cs) = simp (words-twice, (run-twice cs))

-- a map that leaves the names of a run as they are
module _ (suffixes : List (List ℕ)) (lawful : AreSuffixes suffixes) (first : List CommandLine) (g : List ℕ → List ℕ) (still : (n : List ℕ) → Contains (names_of_run suffixes first) n → g n ≡ n) where
  abbrev all_names : List (List ℕ)
  all_names = names_of_run suffixes first

  within : (seen xs : List (List ℕ)) → all_names ≡ fold add seen xs → (n : List ℕ) → Contains seen n → Contains all_names n
  within = within-all suffixes lawful all_names (canonical_name suffixes all_names) (canonical-renaming suffixes lawful first)

  core-still : (seen xs : List (List ℕ)) (core : List ℕ) (o : Option (List ℕ)) → all_names ≡ fold add (with_name seen (option_map (λ (_ : List ℕ). core) o)) xs → core_through g core o ≡ core_through (λ n. n) core o
  core-still seen xs core None all = refl
  core-still seen xs core (Some class) all = still core (within (add seen core) xs all core (added-member seen core))

  words-still : (seen words xs : List (List ℕ)) → all_names ≡ fold add (seen_after suffixes seen words) xs → map (word_through suffixes g) words ≡ map (word_through suffixes (λ n. n)) words
  words-still seen [] xs all = refl
  words-still seen (word ∷ words) xs all =
      let later = filter_map (generated_name suffixes) words ++ xs in
      let behind = all ∙ words-front suffixes (seen_after_word suffixes seen word) words xs in
      ap (λ t. (head_of word, class_of suffixes word, t) ∷ map (word_through suffixes g) words) (core-still seen later (core_of word) (class_of suffixes word) behind)
      ∙ ap (λ t. word_through suffixes (λ n. n) word ∷ t) (words-still (seen_after_word suffixes seen word) words xs all)

  run-still : (seen : List (List ℕ)) (commands : List CommandLine) → all_names ≡ fold (λ seen command. seen_after suffixes seen (words_of_command command)) seen commands →
      map (command_through suffixes g) commands ≡ map (command_through suffixes (λ n. n)) commands
  run-still seen [] all = refl
  run-still seen (command ∷ commands) all =
      grind (arith, words-still, run-names, (run-still (seen_after suffixes seen (words_of_command command)) commands all))

-- Below, two runs of which the same is told through their canonical names.
module _ (suffixes : List (List ℕ)) (lawful : AreSuffixes suffixes) (first second : List CommandLine) where
  abbrev names : List (List ℕ)
  names = names_of_run suffixes first

  abbrev others : List (List ℕ)
  others = names_of_run suffixes second

  abbrev canonical : List ℕ → List ℕ
  canonical = canonical_name suffixes names

  abbrev canonical_other : List ℕ → List ℕ
  canonical_other = canonical_name suffixes others

  -- the second run's name that has a canonical name
  abbrev name_of : List ℕ → List ℕ
  name_of text = unwrap_or (find (λ m. bytes_eq (canonical_other m) text) others) text

  name_of-canonical : (m : List ℕ) → Contains others m → name_of (canonical_other m) ≡ m
  name_of-canonical m h =
      ap (λ o. unwrap_or o (canonical_other m))
      (find-only (λ z. bytes_eq (canonical_other z) (canonical_other m)) others m h ((bytes_eq-Decides (canonical_other m) (canonical_other m)).1 refl)
      (λ z hz e. different-names suffixes lawful second z m hz h ((bytes_eq-Decides (canonical_other z) (canonical_other m)).0 e)))

  -- canonical names of the names, in order
  canonical-names : (commands : List CommandLine) → map (canonical_name suffixes (names_of_run suffixes commands)) (names_of_run suffixes commands) ≡ fold add [] (names_told (map (command_through suffixes (canonical_name suffixes (names_of_run suffixes commands))) commands))
  canonical-names commands =
      let all = names_of_run suffixes commands in
      let listed : all ≡ fold add [] (appearances suffixes commands) = run-names suffixes [] commands in
      let f = canonical_name suffixes all in
      ap (map f) listed ∙ sym (fold-mapped suffixes lawful all f (canonical-renaming suffixes lawful commands) [] (appearances suffixes commands) listed)
      ∙ ap (fold add []) (sym (run-told suffixes f commands))

  -- a name's partner in the second run
  partner : map (command_through suffixes canonical) first ≡ map (command_through suffixes canonical_other) second → (n : List ℕ) → Contains names n → (m : List ℕ) × Contains others m × (canonical_other m ≡ canonical n)
  partner told n h =
      let lists : map canonical names ≡ map canonical_other others = canonical-names first ∙ ap (λ t. fold add [] (names_told t)) told ∙ sym (canonical-names second) in
      member-mapped canonical_other others (canonical n) (subst (λ l. Contains l (canonical n)) lists (mapped-member canonical names n h))

  partner-name : (n : List ℕ) → (p : (m : List ℕ) × Contains others m × (canonical_other m ≡ canonical n)) → name_of (canonical n) ≡ p.0
  partner-name n p = ap name_of (sym p.2) ∙ name_of-canonical p.0 p.1

  partner-renaming : map (command_through suffixes canonical) first ≡ map (command_through suffixes canonical_other) second → IsRenaming suffixes names (λ n. name_of (canonical n))
  partner-renaming told = record {
    one_to_one = λ m n hm hn e.
        let pm = partner told m hm in
        let pn = partner told n hn in
        let equal : pm.0 ≡ pn.0 = sym (partner-name m pm) ∙ e ∙ partner-name n pn in
        different-names suffixes lawful first m n hm hn (sym pm.2 ∙ ap canonical_other equal ∙ pn.2);
    keeps_folder = λ n hn.
        let p = partner told n hn in
        ap folder_of (partner-name n p) ∙ sym ((canonical-renaming suffixes lawful second).keeps_folder p.0 p.1)
        ∙ ap folder_of p.2 ∙ (canonical-renaming suffixes lawful first).keeps_folder n hn;
    keeps_class = λ n hn.
        let p = partner told n hn in
        ap (class_of_name suffixes) (partner-name n p) ∙ sym ((canonical-renaming suffixes lawful second).keeps_class p.0 p.1)
        ∙ ap (class_of_name suffixes) p.2 ∙ (canonical-renaming suffixes lawful first).keeps_class n hn;
  }

pub one-canonical_run : OneCanonicalRun
one-canonical_run suffixes lawful first second one other same =
    let names = names_of_run suffixes first in
    let others = names_of_run suffixes second in
    let canonical = canonical_name suffixes names in
    let canonical_other = canonical_name suffixes others in
    let g = name_of suffixes lawful first second in
    let runs : map (command_by_all suffixes names) first ≡ map (command_by_all suffixes others) second = sym (clean-run_is_a_map suffixes first one) ∙ same ∙ clean-run_is_a_map suffixes second other in
    let told : map (command_through suffixes canonical) first ≡ map (command_through suffixes canonical_other) second =
    told-run suffixes lawful names first ∙ ap (map (command_through suffixes (λ n. n))) runs ∙ sym (told-run suffixes lawful others second) in (
      (λ n. g (canonical n)),
      partner-renaming suffixes lawful first second told,
      sym (run-twice suffixes g canonical first) ∙ ap (map (told_again g)) told ∙ run-twice suffixes g canonical_other second
          ∙ run-still suffixes lawful second (λ n. g (canonical_other n)) (name_of-canonical suffixes lawful first second) [] second refl,
    )
