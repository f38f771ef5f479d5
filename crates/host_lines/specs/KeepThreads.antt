-- The words of an nvcc line for kept files and for threads: which folder keeps intermediate files, how many commands run at
-- once, and the words without these. Each answer filters the words.
use Rattle.std.specs.Prelude.{ℕ, ◌++◌, ◌+◌, ◌*◌, ◌-◌, ◌^◌, List, [], ◌∷◌, Bool, true, false, not, ◌&&◌, ◌||◌, ◌==◌, nat_eq, nat_lt, if◌then◌else◌, Option, Some, None, unwrap_or, Result, Ok, Err, Vec, String, string_bytes, map, filter, drop, codes, option_map}
use Rattle.std.specs.List.{filter_map, list_any, starts_with}
use Rattle.std.specs.declared.alloc.Global.{Global}
use Rattle.std.specs.Str.{bytes_eq, all_ascii_digits}
use Rattle.texts.specs.declared.fault.Fault.{Fault}
use Rattle.texts.specs.declared.fault.Fault.TheVariants.{KeepDirValue, ThreadsValue}
use Rattle.host_lines.specs.declared.nvcc.taking.KeepWords.{KeepWords}
use Rattle.texts.specs.Path.{joined}
use Rattle.texts.specs.Lists.{last_of}

-- whether a word takes the next one as its value: an option of that kind does, if it isn't a value itself. The flag beside
-- the word says whether it is one
abbrev pub takes_value : (List ℕ → Bool) → Bool × List ℕ → Bool
takes_value takes (is_value, word) = not is_value && takes word

-- each word and whether it is a value: whether the word right before it takes one; the flag tells it of the first word
abbrev pub valued : (List ℕ → Bool) → Bool → List (List ℕ) → List (Bool × List ℕ)
valued takes is_value [] = []
valued takes is_value (word ∷ words) = (is_value, word) ∷ valued takes (takes_value takes (is_value, word)) words

-- whether a word, if there is one, takes a value
abbrev pub is_unfinished : (List ℕ → Bool) → Option (Bool × List ℕ) → Bool
is_unfinished takes None = false
is_unfinished takes (Some p) = takes_value takes p

-- whether the last word of a line takes a value, which is then missing
abbrev pub lacks_value : (List ℕ → Bool) → List (Bool × List ℕ) → Bool
lacks_value takes ps = is_unfinished takes (last_of ps)

-- the words of a list of flags and words
abbrev pub words_alone : List (Bool × List ℕ) → List (List ℕ)
words_alone ps = map (λ p. p.1) ps

-- Words for kept files.

-- an option that takes the keep directory as its value
abbrev pub is_keep_dir : List ℕ → Bool
is_keep_dir word = bytes_eq word (codes "-keep-dir") || bytes_eq word (codes "--keep-dir")

-- an option that sets keep
abbrev pub is_keep : List ℕ → Bool
is_keep word =
    bytes_eq word (codes "-keep") || bytes_eq word (codes "--keep")
    || bytes_eq word (codes "-save-temps") || bytes_eq word (codes "--save-temps")

-- whether a word sets keep: a keep option that isn't a value
abbrev pub sets_keep : Bool × List ℕ → Bool
sets_keep (is_value, word) = not is_value && is_keep word

-- whether a word stays: it is neither a value nor a word for kept files
abbrev pub is_no_keep_word : Bool × List ℕ → Bool
is_no_keep_word (is_value, word) = not is_value && not (is_keep_dir word) && not (is_keep word)

-- the last directory joined to the working directory, or the working directory if there is none
abbrev pub directory_from : List ℕ → Option (List ℕ) → List ℕ
directory_from cwd None = cwd
directory_from cwd (Some directory) = joined cwd directory

-- the words that stay, and the directory if keep is set; or a refusal if a directory is missing
abbrev pub keep_answer : List ℕ → Bool → List (List ℕ) → Bool → Option (List ℕ) → Result (List (List ℕ) × Option (List ℕ)) Fault
keep_answer cwd is_missing stay is_kept directory =
    if is_missing then Err KeepDirValue else Ok (stay, (if is_kept then Some (directory_from cwd directory) else None))

-- what a line's words for kept files say, at a working directory
abbrev pub keep_of : List ℕ → List (List ℕ) → Result (List (List ℕ) × Option (List ℕ)) Fault
keep_of cwd words =
    let ps = valued is_keep_dir false words in
    keep_answer cwd (lacks_value is_keep_dir ps) (words_alone (filter is_no_keep_word ps)) (list_any sets_keep ps) (last_of (words_alone (filter (λ p. p.0) ps)))

-- what the reader has gathered: no words for kept files yet
abbrev pub nothing_kept : KeepWords
nothing_kept = record { stay = []; directory = None; is_kept = false; awaits_directory = false }

-- one more word
abbrev pub with_keep_word : KeepWords → List ℕ → KeepWords
with_keep_word k word = record {
  stay = if is_no_keep_word (k.awaits_directory, word) then k.stay ++ word ∷ [] else k.stay;
  directory = if k.awaits_directory then Some word else k.directory;
  is_kept = k.is_kept || sets_keep (k.awaits_directory, word);
  awaits_directory = takes_value is_keep_dir (k.awaits_directory, word);
}

-- what has been gathered of all words, as an answer
abbrev pub keep_of_gathered : List ℕ → KeepWords → Result (List (List ℕ) × Option (List ℕ)) Fault
keep_of_gathered cwd k = keep_answer cwd k.awaits_directory k.stay k.is_kept k.directory

-- Numbers.

-- a text without the `+` that it may begin with
abbrev pub after_plus : List ℕ → List ℕ
after_plus [] = []
after_plus (c ∷ cs) = if c == 43 then cs else c ∷ cs

-- the number of further digits after those of a number
abbrev pub digits_after : ℕ → List ℕ → ℕ
digits_after n [] = n
digits_after n (c ∷ cs) = digits_after (10 * n + (c - 48)) cs

-- whether a text is one or more ASCII digits whose number is at most 2^64 - 1
abbrev pub is_number : List ℕ → Bool
is_number [] = false
is_number (c ∷ cs) = all_ascii_digits (c ∷ cs) && nat_lt (digits_after 0 (c ∷ cs)) (2 ^ 64)

-- the number in a text, if it is one: an optional `+`, and then the digits
abbrev pub number_of : List ℕ → Option ℕ
number_of text = if is_number (after_plus text) then Some (digits_after 0 (after_plus text)) else None

-- Words for threads.

-- the option that takes the number of threads as its value
abbrev pub is_threads : List ℕ → Bool
is_threads word = bytes_eq word (codes "--threads")

-- a word that begins with `-t`
abbrev pub begins_with_t : List ℕ → Bool
begins_with_t word = starts_with nat_eq word (codes "-t")

-- where the number is in a word that begins with `-t`: after 3 bytes if the word contains `=`, else after 2
abbrev pub joined_number : List ℕ → List ℕ
joined_number word = drop (if list_any (λ c. c == 61) word then 3 else 2) word

-- the number of threads that a word gives, if it is one: that in a value, or in what follows `-t`
abbrev pub number_given : Bool × List ℕ → Option ℕ
number_given (true, word) = number_of word
number_given (false, word) = if begins_with_t word then number_of (joined_number word) else None

-- whether a word stays: it is neither a value nor a word for threads
abbrev pub is_no_thread_word : Bool × List ℕ → Bool
is_no_thread_word (is_value, word) = not is_value && not (is_threads word) && not (begins_with_t word)

-- the words that stay, and the last number, or 1 if there is none; or a refusal if a number's word is missing
abbrev pub threads_answer : Bool → List (List ℕ) → Option ℕ → Result (List (List ℕ) × ℕ) Fault
threads_answer is_missing stay number = if is_missing then Err ThreadsValue else Ok (stay, unwrap_or number 1)

-- what a line's words for threads say
abbrev pub threads_of : List (List ℕ) → Result (List (List ℕ) × ℕ) Fault
threads_of words =
    let ps = valued is_threads false words in
    threads_answer (lacks_value is_threads ps) (words_alone (filter is_no_thread_word ps)) (last_of (filter_map number_given ps))

-- the answers of the two calls, as texts
abbrev pub keep_seen : Result (Vec (String Global) Global × Option (String Global)) Fault → Result (List (List ℕ) × Option (List ℕ)) Fault
keep_seen (Ok p) = Ok (map string_bytes p.0.items, option_map string_bytes p.1)
keep_seen (Err fault) = Err fault

abbrev pub threads_seen : Result (Vec (String Global) Global × ℕ) Fault → Result (List (List ℕ) × ℕ) Fault
threads_seen (Ok p) = Ok (map string_bytes p.0.items, p.1)
threads_seen (Err fault) = Err fault
