-- A clean run is renamed once for all.
use Rattle.std.proofs.Common.{◌≡◌, ℕ, zero, suc, ◌++◌, List, [], ◌∷◌, Option, Some, None, map, refl, ap, sym, ◌∙◌, nat_eq, length, fold, drop, option_map, sub-one, arith}
use Rattle.std.specs.List.{Contains, All, AllByRecursion, ends_with}
use Rattle.std.proofs.lemmas.List.Elements.{All-nil, All-contains}
use Rattle.texts.specs.Lists.{with_name}
use Rattle.texts.specs.Path.{joined, folder_of}
use Rattle.compilers.specs.CommandLines.{CommandLine, words_of_command}
use Rattle.compilers.specs.Replacing.{replaced, replaced_past}
use Rattle.canonical_names.specs.Generated.{head_of, core_of, class_of, class_of_name, begins_with_dash}
use Rattle.canonical_names.specs.Renaming.{canonical_file, canonical_name, rank, rewritten, renamed_core, renamed_words, renamed_after, renamed, seen_after_word, seen_after, names_of_run}
use Rattle.canonical_names.specs.Alike.{core_through, IsRenaming}
use Rattle.canonical_names.specs.CanonicalNames.{AreSuffixes, core_by_all, word_by_all, command_by_all, RenamedOnceForAll}
use Rattle.canonical_names.proofs.CountedLemmas.{member-among}
use Rattle.canonical_names.proofs.AlikeLemmas.{told-word, canonical-renaming, ToldWord, added-member, add-mapped, within-all, rank-mapped}
use Rattle.canonical_names.proofs.CanonicalLemmas.{HasClass, run-all, canonical-at, head-member, tail-member, find-found, add, words-front, class-member, run-names, fold-front, rank-found, rank-stable}
use Rattle.canonical_names.proofs.CleanLemmas.{clean-run_is_a_map}
use Rattle.canonical_names.proofs.ReplaceLemmas.{starts-split}
use Rattle.canonical_names.proofs.RewriteLemmas.{rewritten-same}

-- a text that isn't empty, replaced by itself
past-itself : (x : ℕ) (xs : List ℕ) (k : ℕ) (text : List ℕ) → replaced_past k (x ∷ xs) (x ∷ xs) text ≡ drop k text
past-itself x xs zero [] = refl
past-itself x xs (suc k) [] = refl
past-itself x xs (suc k) (c ∷ cs) = past-itself x xs k cs
past-itself x xs zero (c ∷ cs) = grind (arith, sub-one, starts-split, (past-itself x xs (length xs) cs), (past-itself x xs zero cs))

replaced-itself : (front : List ℕ) (x : ℕ) (xs text : List ℕ) → replaced (front ++ x ∷ xs) (front ++ x ∷ xs) text ≡ text
replaced-itself [] x xs text = past-itself x xs zero text
replaced-itself (c ∷ front) x xs text = past-itself c (front ++ x ∷ xs) zero text

-- Below, the names of a run, which get canonical names.
module _ (suffixes : List (List ℕ)) (lawful : AreSuffixes suffixes) (names : List (List ℕ)) (renaming : IsRenaming suffixes names (canonical_name suffixes names)) (classes : All (HasClass suffixes) names) where
  abbrev f : List ℕ → List ℕ
  f = canonical_name suffixes names

  rank-kept : (class n : List ℕ) (seen xs : List (List ℕ)) → names ≡ fold add seen xs → Contains seen n → rank class seen n ≡ rank class names n
  rank-kept class n seen xs all h = grind (arith, rank-found, member-among, (fold-front seen xs))

  -- a canonical name, among canonical names, is its own canonical name
  canonical-again : (seen xs : List (List ℕ)) → names ≡ fold add seen xs → (n : List ℕ) → Contains seen n → canonical_name suffixes (map f seen) (f n) ≡ f n
  canonical-again seen xs all n h =
      let hn : Contains names n = within-all suffixes lawful names f renaming seen xs all n h in
      let class : HasClass suffixes n = All-contains (HasClass suffixes) names n classes hn in
      let hc : Contains suffixes class.0 = (find-found (ends_with nat_eq n) suffixes class.0 class.1).0 in
      let kept : class_of_name suffixes (f n) ≡ Some class.0 = renaming.keeps_class n hn ∙ class.1 in
      canonical-at suffixes (map f seen) (f n) class.0 kept
      ∙ ap (λ d. joined d (canonical_file (rank class.0 (map f seen) (f n)) class.0)) (renaming.keeps_folder n hn)
      ∙ ap (λ k. joined (folder_of n) (canonical_file k class.0)) (rank-mapped suffixes lawful names f renaming class.0 n hc hn seen (within-all suffixes lawful names f renaming seen xs all) ∙ rank-kept class.0 n seen xs all h)
      ∙ sym (canonical-at suffixes names n class.0 class.1)

  -- so no text is changed by them
  name-itself : (n text : List ℕ) → Contains names n → replaced (f n) (f n) text ≡ text
  name-itself n text hn =
      let class : HasClass suffixes n = All-contains (HasClass suffixes) names n classes hn in
      grind (arith, canonical-at, replaced-itself)

  each-again : (seen xs : List (List ℕ)) → names ≡ fold add seen xs → (text : List ℕ) (part : List (List ℕ)) → ((n : List ℕ) → Contains part n → Contains seen n) →
      AllByRecursion (λ m. replaced m (canonical_name suffixes (map f seen) m) text ≡ text) (map f part)
  each-again seen xs all text [] within = tt
  each-again seen xs all text (n ∷ part) within =
      let hn = within n (head-member n part) in (
        ap (λ z. replaced (f n) z text) (canonical-again seen xs all n hn) ∙ name-itself n text (within-all suffixes lawful names f renaming seen xs all n hn),
        each-again seen xs all text part (λ m h. within m (tail-member n part m h)),
      )

  text-again : (seen xs : List (List ℕ)) → names ≡ fold add seen xs → (text : List ℕ) → rewritten suffixes (map f seen) text ≡ text
  text-again seen xs all text = rewritten-same suffixes (map f seen) text (each-again seen xs all text seen (λ n h. h))

  -- what a renamed word is made of
  through : (t : List ℕ) (o : Option (List ℕ)) → core_through (λ n. n) t o ≡ t
  through t o = grind arith

  abbrev new_word : List ℕ → Option (List ℕ) → List ℕ
  new_word word o = head_of word ++ core_by_all names (core_of word) o

  head-again : (word : List ℕ) (o : Option (List ℕ)) → class_of suffixes word ≡ o → head_of (new_word word o) ≡ head_of word
  head-again word o e = sym (ap (λ (t : ToldWord). t.0) (told-word suffixes lawful names word o e))

  class-again : (word : List ℕ) (o : Option (List ℕ)) → class_of suffixes word ≡ o → class_of suffixes (new_word word o) ≡ o
  class-again word o e = sym (ap (λ (t : ToldWord). t.1) (told-word suffixes lawful names word o e)) ∙ e

  core-again : (word : List ℕ) (o : Option (List ℕ)) → class_of suffixes word ≡ o → core_of (new_word word o) ≡ core_through f (core_of word) o
  core-again word o e =
      sym (through (core_of (new_word word o)) (class_of suffixes (new_word word o)))
      ∙ sym (ap (λ (t : ToldWord). t.2) (told-word suffixes lawful names word o e)) ∙ ap (core_through f (core_of word)) e

  -- the new core of a word stays
  core-stays : (seen xs : List (List ℕ)) (word : List ℕ) (o : Option (List ℕ)) → class_of suffixes word ≡ o → names ≡ fold add (with_name seen (option_map (λ (_ : List ℕ). core_of word) o)) xs →
      renamed_core suffixes (map f seen) (core_through f (core_of word) o) o ≡ core_by_all names (core_of word) o
  core-stays seen xs word None e all = text-again seen xs all (core_of word)
  core-stays seen xs word (Some class) e all =
      let core = core_of word in
      let hn : Contains names core = within-all suffixes lawful names f renaming (add seen core) xs all core (added-member seen core) in
      let before : (n : List ℕ) → Contains seen n → Contains names n = λ n h. within-all suffixes lawful names f renaming seen (core ∷ xs) all n h in
      let hc : Contains suffixes class = class-member suffixes word class (begins_with_dash core) e in
      ap (λ d. joined d (canonical_file (rank class (map f seen) (f core)) class)) (renaming.keeps_folder core hn)
      ∙ ap (λ k. joined (folder_of core) (canonical_file k class))
      (rank-mapped suffixes lawful names f renaming class core hc hn seen before ∙ sym (rank-stable class core seen xs) ∙ sym (ap (λ ns. rank class ns core) all))

  seen-again : (seen xs : List (List ℕ)) (word : List ℕ) (o : Option (List ℕ)) → class_of suffixes word ≡ o → names ≡ fold add (with_name seen (option_map (λ (_ : List ℕ). core_of word) o)) xs →
      seen_after_word suffixes (map f seen) (new_word word o) ≡ map f (with_name seen (option_map (λ (_ : List ℕ). core_of word) o))
  seen-again seen xs word o e all =
      let new = new_word word o in
      ap (λ c. with_name (map f seen) (option_map (λ (_ : List ℕ). core_of new) c)) (class-again word o e)
      ∙ ap (λ t. with_name (map f seen) (option_map (λ (_ : List ℕ). t) o)) (core-again word o e) ∙ by-class o all where
        by-class : (o : Option (List ℕ)) → names ≡ fold add (with_name seen (option_map (λ (_ : List ℕ). core_of word) o)) xs →
            with_name (map f seen) (option_map (λ (_ : List ℕ). core_through f (core_of word) o) o) ≡ map f (with_name seen (option_map (λ (_ : List ℕ). core_of word) o))
        by-class None all = refl
        by-class (Some class) all =
            let core = core_of word in
            add-mapped suffixes lawful names f renaming seen core (within-all suffixes lawful names f renaming (add seen core) xs all core (added-member seen core)) (λ n h. within-all suffixes lawful names f renaming seen (core ∷ xs) all n h)

  words-again : (seen words xs : List (List ℕ)) → names ≡ fold add (seen_after suffixes seen words) xs → renamed_words suffixes (map f seen) (map (word_by_all suffixes names) words) ≡ map (word_by_all suffixes names) words
  words-again seen [] xs all = refl
  words-again seen (word ∷ words) xs all =
      let behind = all ∙ words-front suffixes (seen_after_word suffixes seen word) words xs in
      grind (arith, seen-again, (words-again (seen_after_word suffixes seen word) words xs all), head-again, class-again, core-again, core-stays)

  seen-words : (seen words xs : List (List ℕ)) → names ≡ fold add (seen_after suffixes seen words) xs → seen_after suffixes (map f seen) (map (word_by_all suffixes names) words) ≡ map f (seen_after suffixes seen words)
  seen-words seen [] xs all = refl
  seen-words seen (word ∷ words) xs all =
      let behind = all ∙ words-front suffixes (seen_after_word suffixes seen word) words xs in
      grind (arith, seen-again, (seen-words (seen_after_word suffixes seen word) words xs all))

  run-again : (seen : List (List ℕ)) (commands : List CommandLine) → names ≡ fold (λ seen command. seen_after suffixes seen (words_of_command command)) seen commands →
      renamed_after suffixes (map f seen) (map (command_by_all suffixes names) commands) ≡ map (command_by_all suffixes names) commands
  run-again seen [] all = refl
  run-again seen (command ∷ commands) all =
      grind (arith, run-names, words-again, seen-words, (run-again (seen_after suffixes seen (words_of_command command)) commands all))

pub renamed-once : RenamedOnceForAll
renamed-once suffixes lawful commands clean =
    let names = names_of_run suffixes commands in
    let mapped : renamed suffixes commands ≡ map (command_by_all suffixes names) commands = clean-run_is_a_map suffixes commands clean in
    ap (renamed suffixes) mapped
    ∙ run-again suffixes lawful names (canonical-renaming suffixes lawful commands) (run-all suffixes [] commands (All-nil (HasClass suffixes))) [] commands refl
    ∙ sym mapped
