-- The entry that a list chooses is a longest match, and so is the longer one of two tables' choices.
use Rattle.std.specs.Prelude.{◌≡◌, ℕ, ◌≤◌, true, false, cond, ◌&&◌, List, [], ◌∷◌, ◌++◌, Option, Some, None, length, All, Contains, fold, is_some, IsSome}
use Rattle.std.proofs.Common.{refl, sym, subst, arith, append_assoc, nat_lt, append-nil}
use Rattle.std.proofs.lemmas.List.Elements.{All-nil, All-push, All-weaker, All-append, Contains-push, Contains-append_left, Contains-append_right}
use Rattle.std.proofs.lemmas.Bool.{false≢true}
use Rattle.std.proofs.lemmas.Bool.Decides.{nat_tests}
use Rattle.compilers.specs.Table.{Entry, matched, is_longer, longer_match, longest_match, longer_choice, IsLongestMatch}

module _ {T : Type 0} (word : List ℕ) where
  -- an entry doesn't match
  abbrev NoMatch : Entry T → Type 0
  NoMatch e = matched e word ≡ None

  -- an entry that matches is no longer than n
  abbrev Within : ℕ → Entry T → Type 0
  Within n e = IsSome (matched e word) → length e.text ≤ n

  -- an entry that doesn't match is within any length
  unmatched_within : (n : ℕ) (e : Entry T) → NoMatch e → Within n e
  unmatched_within n e none some = absurd (false≢true (subst (λ m. is_some m ≡ true) none some))

  all_within : (n : ℕ) (entries : List (Entry T)) → All NoMatch entries → All (Within n) entries
  all_within n = All-weaker NoMatch (Within n) (unmatched_within n)

  all_wider : (m n : ℕ) (entries : List (Entry T)) → m ≤ n → All (Within m) entries → All (Within n) entries
  all_wider m n entries le = All-weaker (Within m) (Within n) (λ f bound some. let at : length f.text ≤ m = bound some in omega arith) entries

  -- of two entries of a list that match, the longer one is a longest match if no other is longer than both
  longer-longest : (es : List (Entry T)) (a b : Entry T) → Contains es a → Contains es b → IsSome (matched a word) → IsSome (matched b word)
      → ((n : ℕ) → length a.text ≤ n → length b.text ≤ n → All (Within n) es)
      → IsLongestMatch es word (cond (nat_lt (length b.text) (length a.text)) (Some a) (Some b))
  longer-longest es a b in_a in_b some_a some_b within =
      elim (nat_lt (length b.text) (length a.text))
      as (λ t. nat_lt (length b.text) (length a.text) ≡ t → IsLongestMatch es word (cond t (Some a) (Some b))) [
        | true ↦ λ lt. let longer : length b.text ≤ length a.text = grind (arith, nat_tests) in (in_a, some_a, within (length a.text) (omega arith) longer)
        | false ↦ λ ge. let shorter : length a.text ≤ length b.text = grind (arith, nat_tests) in (in_b, some_b, within (length b.text) shorter (omega arith))
      ] refl

  -- the choice so far stands if the next entry doesn't match
  after_unmatched : (seen : List (Entry T)) (best : Option (Entry T)) (e : Entry T)
      → NoMatch e → IsLongestMatch seen word best → IsLongestMatch (seen ++ e ∷ []) word best
  after_unmatched seen None e none h = All-push NoMatch seen e h none
  after_unmatched seen (Some b) e none h =
      (Contains-append_left seen (e ∷ []) b h.0, h.1, All-push (Within (length b.text)) seen e h.2 (unmatched_within (length b.text) e none))

  -- a matching entry is chosen if it is longer
  after_matched : (seen : List (Entry T)) (best : Option (Entry T)) (e : Entry T) → IsSome (matched e word)
      → IsLongestMatch seen word best → IsLongestMatch (seen ++ e ∷ []) word (cond (is_longer e best) (Some e) best)
  after_matched seen None e some h =
      (Contains-push seen e, some, All-push (Within (length e.text)) seen e (all_within (length e.text) seen h) (λ _. omega arith))
  after_matched seen (Some b) e some h =
      longer-longest (seen ++ e ∷ []) e b (Contains-push seen e) (Contains-append_left seen (e ∷ []) b h.0) some h.1
      (λ n longer shorter. All-push (Within n) seen e (all_wider (length b.text) n seen shorter h.2) (λ _. longer))

  -- one more entry
  longer_match-longest : (seen : List (Entry T)) (best : Option (Entry T)) (e : Entry T)
      → IsLongestMatch seen word best → IsLongestMatch (seen ++ e ∷ []) word (longer_match word best e)
  longer_match-longest seen best e h =
      elim (matched e word) as (λ m. matched e word ≡ m → IsLongestMatch (seen ++ e ∷ []) word (cond (is_some m && is_longer e best) (Some e) best))
      [ None ↦ λ none. after_unmatched seen best e none h | Some m ↦ λ at. after_matched seen best e (subst (λ o. is_some o ≡ true) (sym at) refl) h ] refl

  -- the entries that are left
  fold-longest : (seen left : List (Entry T)) (best : Option (Entry T)) → IsLongestMatch seen word best
      → IsLongestMatch (seen ++ left) word (fold (longer_match word) best left)
  fold-longest seen [] best h = subst (λ es. IsLongestMatch es word best) (sym (append-nil seen)) h
  fold-longest seen (e ∷ left) best h =
      subst (λ es. IsLongestMatch es word (fold (longer_match word) (longer_match word best e) left)) (append_assoc seen (e ∷ []) left)
      (fold-longest (seen ++ e ∷ []) left (longer_match word best e) (longer_match-longest seen best e h))

  pub longest_match-longest : (entries : List (Entry T)) → IsLongestMatch entries word (longest_match entries word)
  longest_match-longest entries = fold-longest [] entries None (All-nil NoMatch)

  -- two tables
  pub longer_choice-longest : (first second : List (Entry T)) (one other : Option (Entry T)) → IsLongestMatch first word one
      → IsLongestMatch second word other → IsLongestMatch (first ++ second) word (longer_choice one other)
  longer_choice-longest first second None None h k = All-append NoMatch first second h k
  longer_choice-longest first second None (Some b) h k =
      (Contains-append_right first second b k.0, k.1, All-append (Within (length b.text)) first second (all_within (length b.text) first h) k.2)
  longer_choice-longest first second (Some a) None h k =
      (Contains-append_left first second a h.0, h.1, All-append (Within (length a.text)) first second h.2 (all_within (length a.text) second k))
  longer_choice-longest first second (Some a) (Some b) h k =
      longer-longest (first ++ second) a b (Contains-append_left first second a h.0) (Contains-append_right first second b k.0) h.1 k.1
      (λ n of_a of_b. All-append (Within n) first second (all_wider (length a.text) n first of_a h.2) (all_wider (length b.text) n second of_b k.2))
