-- What a loop over the words gathers is what the filters say.
use Rattle.std.proofs.Common.{◌≡◌, ◌∙◌, ℕ, List, [], ◌∷◌, ◌++◌, Bool, false, ◌||◌, if◌then◌else◌, cond, Option, Some, None, Result, filter, refl, sym, append_assoc, append-nil, arith}
use Rattle.std.specs.List.{filter_map, cons_option, list_any, fold}
use Rattle.host_lines.specs.declared.nvcc.taking.KeepWords.{KeepWords}
use Rattle.texts.specs.declared.fault.Fault.{Fault}
use Rattle.texts.specs.Lists.{latest}
use Rattle.host_lines.specs.KeepThreads.{takes_value, valued, is_unfinished, words_alone, is_keep_dir, sets_keep, is_no_keep_word, keep_of, is_threads, is_no_thread_word, number_given, threads_answer, threads_of, nothing_kept, with_keep_word, keep_of_gathered}

-- a word put after those so far, where a test says so
kept_word : (b : Bool) (so_far : List (List ℕ)) (p : Bool × List ℕ) (rest : List (Bool × List ℕ)) → cond b (so_far ++ p.1 ∷ []) so_far ++ words_alone rest ≡ so_far ++ words_alone (cond b (p ∷ rest) rest)
kept_word b so_far p rest = grind (arith, append_assoc)

last_given : {X : Type 0} (before next : Option X) (rest : List X) → fold (λ _ x. Some x) (latest before next) rest ≡ fold (λ _ x. Some x) before (cons_option next rest)
last_given before next rest = grind arith

or_assoc : (a b c : Bool) → ((a || b) || c) ≡ (a || (b || c))
or_assoc a b c = grind arith

or_false : (a : Bool) → a ≡ (a || false)
or_false a = grind arith

stay_kept : (words : List (List ℕ)) (k : KeepWords) → (fold with_keep_word k words).stay ≡ k.stay ++ words_alone (filter is_no_keep_word (valued is_keep_dir k.awaits_directory words))
stay_kept [] k = sym (append-nil k.stay)
stay_kept (word ∷ words) k =
    stay_kept words (with_keep_word k word) ∙ kept_word (is_no_keep_word (k.awaits_directory, word)) k.stay (k.awaits_directory, word) (filter is_no_keep_word (valued is_keep_dir (with_keep_word k word).awaits_directory words))

directory_kept : (words : List (List ℕ)) (k : KeepWords) → (fold with_keep_word k words).directory ≡ fold (λ _ x. Some x) k.directory (words_alone (filter (λ p. p.0) (valued is_keep_dir k.awaits_directory words)))
directory_kept [] k = refl
directory_kept (word ∷ words) k = grind (arith, (directory_kept words (with_keep_word k word)))

is_kept_kept : (words : List (List ℕ)) (k : KeepWords) → (fold with_keep_word k words).is_kept ≡ (k.is_kept || list_any sets_keep (valued is_keep_dir k.awaits_directory words))
is_kept_kept [] k = or_false k.is_kept
is_kept_kept (word ∷ words) k = grind (arith, or_assoc, (is_kept_kept words (with_keep_word k word)))

awaits_kept : (words : List (List ℕ)) (k : KeepWords) (before : Option (Bool × List ℕ)) → k.awaits_directory ≡ is_unfinished is_keep_dir before → (fold with_keep_word k words).awaits_directory ≡ is_unfinished is_keep_dir (fold (λ _ p. Some p) before (valued is_keep_dir k.awaits_directory words))
awaits_kept [] k before h = h
awaits_kept (word ∷ words) k before h = awaits_kept words (with_keep_word k word) (Some (k.awaits_directory, word)) refl

pub keep_gathered : (cwd : List ℕ) (words : List (List ℕ)) → keep_of_gathered cwd (fold with_keep_word nothing_kept words) ≡ keep_of cwd words
keep_gathered cwd words =
    rw (stay_kept words nothing_kept, directory_kept words nothing_kept, is_kept_kept words nothing_kept, awaits_kept words nothing_kept None refl) refl

-- the answer, of the words for threads so far and those that are left: the words that stay, the last number, and whether
-- the last word takes the next one as the number
abbrev pub threads_after : List (List ℕ) → Option ℕ → Bool → List (List ℕ) → Result (List (List ℕ) × ℕ) Fault
threads_after stay number awaits [] = threads_answer awaits stay number
threads_after stay number awaits (word ∷ words) =
    threads_after (if is_no_thread_word (awaits, word) then stay ++ word ∷ [] else stay) (latest number (number_given (awaits, word)))
    (takes_value is_threads (awaits, word)) words

thread_words_after : (words stay : List (List ℕ)) (number : Option ℕ) (awaits : Bool) (before : Option (Bool × List ℕ)) → awaits ≡ is_unfinished is_threads before →
    threads_after stay number awaits words ≡ threads_answer (is_unfinished is_threads (fold (λ _ p. Some p) before (valued is_threads awaits words)))
    (stay ++ words_alone (filter is_no_thread_word (valued is_threads awaits words))) (fold (λ _ n. Some n) number (filter_map number_given (valued is_threads awaits words)))
thread_words_after [] stay number awaits before h = rw (append-nil stay, h) refl
thread_words_after (word ∷ words) stay number awaits before h =
    rw (← last_given number (number_given (awaits, word)) (filter_map number_given (valued is_threads (takes_value is_threads (awaits, word)) words)), ← kept_word (is_no_thread_word (awaits, word)) stay (awaits, word) (filter is_no_thread_word (valued is_threads (takes_value is_threads (awaits, word)) words)))
    (thread_words_after words (cond (is_no_thread_word (awaits, word)) (stay ++ word ∷ []) stay) (latest number (number_given (awaits, word))) (takes_value is_threads (awaits, word)) (Some (awaits, word)) refl)

pub threads_gathered : (words : List (List ℕ)) → threads_after [] None false words ≡ threads_of words
threads_gathered words = thread_words_after words [] None false None refl
