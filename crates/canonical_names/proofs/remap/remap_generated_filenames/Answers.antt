use Rattle.std.proofs.Common.{◌≡◌, ℕ, ◌+◌, ◌++◌, ◌∷◌, [], ◌∙◌, ap, subst, List, drop, take, drop-cons, add-one, map, string_bytes, inl, inr, arith}
use Rattle.std.proofs.lemmas.Grind.{common_steps}
use Rattle.texts.proofs.ListLemmas.{on-error}
use Rattle.canonical_names.specs.Renaming.{seen_after, seen_after_word, renamed_words, renamed_word}
use Rattle.canonical_names.proofs.RemapLemmas.{seen-step, words-step, beginning-seen}
use Rattle.canonical_names.proofs.remap.remap_generated_filenames.Goals as goal
use Rattle.canonical_names.proofs.remap.remap_generated_filenames.Goals.{After-remap_word, In_ok-new}

-- the words from this one on
front : (c : After-remap_word) → drop c.loop-word.word-index c.args.args.now ≡ c.word-item.result ∷ drop (c.loop-word.word-index + 1) c.args.args.now
front c = grind (arith, common_steps, add-one, drop-cons)

-- the names seen after this word are those seen after one word more
next : (c : After-remap_word) → seen_after_word c.loop-word.renames.0 c.loop-word.renames.1 (string_bytes c.word-item.result)
    ≡ seen_after c.args.renames.now.0 c.args.renames.now.1 (take (c.loop-word.word-index + 1) (map string_bytes c.args.args.now))
next c =
    let first = c.args.renames.now in
    let before = c.loop-word.renames in
    let args = c.args.args.now in
    let i = c.loop-word.word-index in
    ap (λ s. seen_after_word s before.1 (string_bytes c.word-item.result)) c.loop-word.invariant.suffixes
    ∙ seen-step first.0 string_bytes first.1 before.1 args i c.word-item.result (drop (i + 1) args) (front c) c.loop-word.invariant.seen

-- once this word is renamed, its name was seen
after : (c : In_ok-new) → c.remap_word.new.renames ≡ (c.loop-word.renames.0, seen_after_word c.loop-word.renames.0 c.loop-word.renames.1 (string_bytes c.word-item.result))
after c = cc (c.in_ok-new.ensures.names, c.as_str-text.ensures.value)

pub returns-in_err-new-clause-refused : goal.returns-in_err-new-clause-refused
returns-in_err-new-clause-refused c =
    let args = map string_bytes c.args.args.now in
    let i = c.loop-word.word-index in
    let first = c.args.renames.now in
    let before = c.loop-word.renames in
    let lists : before.0 ≡ first.0 = c.loop-word.invariant.suffixes in
    on-error c.from_residual-in_err-new.result (elim (c.in_err-new.ensures.err) as (λ _. (n : ℕ) × (c.remap_word.new.renames ≡ (first.0, seen_after first.0 first.1 (take n args)))) [
      | inl same ↦ beginning-seen first before c.remap_word.new.renames args i lists c.loop-word.invariant.seen same
      | inr more ↦
          beginning-seen first (before.0, seen_after_word before.0 before.1 (string_bytes c.word-item.result)) c.remap_word.new.renames args (i + 1) lists
          (next (goal.at.returns-in_err-new-clause-refused c).After-remap_word)
          (more ∙ ap (λ w. (before.0, seen_after_word before.0 before.1 w)) c.as_str-text.ensures.value)
    ])

pub returns-in_err-push_or_copy-clause-refused : goal.returns-in_err-push_or_copy-clause-refused
returns-in_err-push_or_copy-clause-refused c =
    let at = goal.at.returns-in_err-push_or_copy-clause-refused c in
    let first = c.args.renames.now in
    on-error c.from_residual-in_err-push_or_copy.result
    (beginning-seen first _ c.remap_word.new.renames (map string_bytes c.args.args.now) (c.loop-word.word-index + 1) c.loop-word.invariant.suffixes (next at.After-remap_word) (after at.In_ok-new))

pub loop-word-preserved : goal.loop-word-preserved
loop-word-preserved c =
    let at = goal.at.loop-word-preserved c in
    let args = c.args.args.now in
    let first = c.args.renames.now in
    let before = c.loop-word.renames in
    let word = string_bytes c.word-item.result in
    let rest = map string_bytes (drop (c.loop-word.word-index + 1) args) in
    let left : map string_bytes (drop c.loop-word.word-index args) ≡ word ∷ rest = ap (map string_bytes) (front at.After-remap_word) in
    let seen = after at.In_ok-new in
    let done : c.push_or_copy.new.words ≡ c.loop-word.words ++ renamed_word before.0 before.1 word ∷ [] =
    c.in_ok-push_or_copy.ensures
    ∙ ap (λ t. c.loop-word.words ++ t ∷ []) (c.in_ok-new.ensures.word ∙ ap (renamed_word before.0 before.1) c.as_str-text.ensures.value) in
    record {
      words = rw (seen, done) (words-step before.0 before.1 c.loop-word.words (renamed_words first.0 first.1 (map string_bytes args)) rest word (subst (λ ws. c.loop-word.words ++ renamed_words before.0 before.1 ws ≡ renamed_words first.0 first.1 (map string_bytes args)) left c.loop-word.invariant.words));
      suffixes = ap (λ (r : List (List ℕ) × List (List ℕ)). r.0) seen ∙ c.loop-word.invariant.suffixes;
      left = rw seen (subst (λ ws. seen_after before.0 before.1 ws ≡ seen_after first.0 first.1 (map string_bytes args)) left c.loop-word.invariant.left);
      seen = ap (λ (r : List (List ℕ) × List (List ℕ)). r.1) seen ∙ next at.After-remap_word;
    }
