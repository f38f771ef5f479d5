-- What environment lines and references come to, within a limit or without; and the first line of a text.
use Rattle.std.proofs.Common.{◌≡◌, ℕ, suc, ◌+◌, ◌<◌, Bool, true, false, cond, eqb, eqb-true, not, List, [], ◌∷◌, ◌++◌, Option, Some, None, Bor, refl, ap, sym, ◌∙◌, subst, length, take, drop, get_or, append-nil, arith, is_some, one-add, sub-one, ◌-◌, MatchOption, fold, nat_le, option_map, length-append}
use Rattle.std.specs.List.{position, position_or_len, prefix_len, before_first}
use Rattle.std.specs.Str.Lines.{lines, strip_carriage_return}
use Rattle.std.specs.Cmp.Lexicographic.{pointwise}
use Rattle.std.proofs.lemmas.Bool.{not-true, not_from_false, false_from_ne_true}
use Rattle.std.proofs.lemmas.List.Splits.{slice_split_none, slice_split_first, length-slice_split}
use Rattle.std.proofs.lemmas.List.Sums.{split_at_first, passes_at_first, fails_before_first, prefix_len_is}
use Rattle.std.proofs.lemmas.Str.Pattern.{IsSplitOnceResult, split_once_first}
use Rattle.std.proofs.Math.Seq.{take-length}
use Rattle.memchr.specs.Find.{IsFirstByte, is_byte}
use Rattle.texts.specs.Path.{lacks}
use Rattle.texts.specs.Lists.{rest_after}
use Rattle.compilers.specs.Replacing.{replaced_past, replaced}
use Rattle.texts.specs.Shell.Splitting.{shell_words}
use Rattle.dry_runs.specs.Environment.{refers, Variable, expanded}
use Rattle.dry_runs.specs.Reading.{IsCutAt}
use Rattle.dry_runs.specs.Places.{behind_dollars, refers as refers_by}
use Rattle.dry_runs.specs.declared.set_variables.Reference.{Reference}
use Rattle.dry_runs.specs.Limit.{made, expanded_fitting, expanded_within, words_left}

not-zero : (n : ℕ) → eqb (suc n) 0 ≡ false
not-zero n = grind arith

-- no mark stands before the first one
lacks-before : (mark : ℕ) (bs : List ℕ) → lacks mark (before_first (λ b. eqb b mark) bs) ≡ true
lacks-before mark [] = refl
lacks-before mark (b ∷ bs) =
    elim (eqb b mark)
    as (λ t. eqb b mark ≡ t → lacks mark (take (cond (not t) (1 + prefix_len (λ x. not (eqb x mark)) bs) 0) (b ∷ bs)) ≡ true)
    [ true ↦ λ _. refl | false ↦ λ e. subst (λ n. lacks mark (take n (b ∷ bs)) ≡ true) (sym (one-add (prefix_len (λ x. not (eqb x mark)) bs))) (rw e (lacks-before mark bs)) ] refl

pub cut-once : (mark : ℕ) (bs : List ℕ) (r : Option (Bor (List ℕ) × Bor (List ℕ))) → IsSplitOnceResult mark bs r → mark < 128 → IsCutAt mark bs r
cut-once mark bs None h small =
    subst (λ t. lacks mark t ≡ true) (ap (λ n. take n bs) (split_once_first mark bs None h small) ∙ take-length bs) (lacks-before mark bs)
cut-once mark bs (Some x) h small =
    let at = split_once_first mark bs (Some x) h small in
    let found : get_or bs (position_or_len (λ b. eqb b mark) bs) 0 ≡ mark = eqb-true _ mark (passes_at_first (λ b. eqb b mark) bs 0 at.0) in
    grind (arith, lacks-before, split_at_first)

-- what follows each `$`, past a text without one
pub behind-past : (front rest : List ℕ) → lacks 36 front ≡ true → behind_dollars (front ++ rest) ≡ behind_dollars rest
behind-past [] rest h = refl
behind-past (c ∷ cs) rest h = grind (arith, not-true, (behind-past cs rest))

pub behind-nothing : (text : List ℕ) → lacks 36 text ≡ true → behind_dollars text ≡ []
behind-nothing text h = ap behind_dollars (sym (append-nil text)) ∙ behind-past text [] h

pub behind-cut : (text front after : List ℕ) → text ≡ front ++ 36 ∷ after → lacks 36 front ≡ true → behind_dollars text ≡ after ∷ behind_dollars after
behind-cut text front after is h = ap behind_dollars is ∙ behind-past front (36 ∷ after) h

-- a text refers to a variable where what follows one of its `$` says so
pub refers-behind : (name text : List ℕ) → refers (36 ∷ name) text ≡ refers_by name (behind_dollars text)
refers-behind name [] = refl
refers-behind name (c ∷ cs) = grind (arith, (refers-behind name cs))

pub replaced-past : (name value front rest : List ℕ) → lacks 36 front ≡ true → replaced (36 ∷ name) value (front ++ rest) ≡ front ++ replaced (36 ∷ name) value rest
replaced-past name value [] rest h = refl
replaced-past name value (c ∷ cs) rest h = grind (arith, (replaced-past name value cs rest))

pub replaced-nothing : (name value text : List ℕ) → lacks 36 text ≡ true → replaced (36 ∷ name) value text ≡ text
replaced-nothing name value text h = ap (replaced (36 ∷ name) value) (sym (append-nil text)) ∙ replaced-past name value text [] h ∙ append-nil text

pub replaced-cut : (name value text front after : List ℕ) → text ≡ front ++ 36 ∷ after → lacks 36 front ≡ true → replaced (36 ∷ name) value text ≡ front ++ replaced (36 ∷ name) value (36 ∷ after)
replaced-cut name value text front after is h = ap (replaced (36 ∷ name) value) is ∙ replaced-past name value front (36 ∷ after) h

-- whether a text begins with a name
begins-with : (name text : List ℕ) → pointwise eqb name (take (length name) text) ≡ is_some (rest_after name text)
begins-with [] text = refl
begins-with (c ∷ cs) [] = refl
begins-with (c ∷ cs) (d ∷ ds) = grind (arith, (begins-with cs ds))

-- past a name stands the rest
passed : (name old new text rest : List ℕ) → rest_after name text ≡ Some rest → replaced_past (length name) old new text ≡ replaced_past 0 old new rest
passed [] old new text rest h = let same : text ≡ rest = cc in ap (replaced_past 0 old new) same
passed (c ∷ cs) old new [] rest h = cc
passed (c ∷ cs) old new (d ∷ ds) rest h =
    elim (eqb c d) as (λ b. cond b (rest_after cs ds) None ≡ Some rest → replaced_past (length cs) old new ds ≡ replaced_past 0 old new rest) [ true ↦ λ k. passed cs old new ds rest k | false ↦ λ k. cc ] h

pub replaced-reference : (name value after behind : List ℕ) → Some behind ≡ rest_after name after → replaced (36 ∷ name) value (36 ∷ after) ≡ value ++ replaced (36 ∷ name) value behind
replaced-reference name value after behind h = grind (arith, begins-with, sub-one, passed)

pub replaced-dollar : (name value after : List ℕ) → None ≡ rest_after name after → replaced (36 ∷ name) value (36 ∷ after) ≡ 36 ∷ replaced (36 ∷ name) value after
replaced-dollar name value after h = grind (arith, begins-with)

-- What expanding within a limit makes, and when a text is too long.

-- one more variable, by what follows each `$` of the text
pub fitting-unreferred : (left : ℕ) (env : List Variable) (name value text : List ℕ) → refers_by name (behind_dollars text) ≡ false → fold expanded_fitting (Some (left, text)) ((name, value) ∷ env) ≡ fold expanded_fitting (Some (left, text)) env
fitting-unreferred left env name value text h = rw (refers-behind name text ∙ h) refl

pub fitting-referred : (left : ℕ) (env : List Variable) (name value text : List ℕ) → refers_by name (behind_dollars text) ≡ true → fold expanded_fitting (Some (left, text)) ((name, value) ∷ env) ≡ fold expanded_fitting (made left (replaced (36 ∷ name) value text)) env
fitting-referred left env name value text h = rw (refers-behind name text ∙ h) refl

-- nothing stays nothing
pub fitting-none : (env : List Variable) → fold expanded_fitting None env ≡ None
fitting-none [] = refl
fitting-none (v ∷ env) = fitting-none env

pub fits : (left : ℕ) (text : List ℕ) → nat_le (length text) left ≡ true → made left text ≡ Some (left - length text, text)
fits left text h = rw h refl

pub exceeds : (left : ℕ) (text : List ℕ) → nat_le (length text) left ≡ false → made left text ≡ None
exceeds left text h = rw h refl

longer : (m n left : ℕ) → nat_le m left ≡ false → nat_le (m + n) left ≡ false
longer m n left = grind arith

-- a text whose beginning is too long is too long
pub exceeds-from : (left : ℕ) (front rest whole : List ℕ) → front ++ rest ≡ whole → nat_le (length front) left ≡ false → made left whole ≡ None
exceeds-from left front rest whole is h = grind (arith, exceeds, length-append, longer)

no-text : (t : ℕ × List ℕ) (x y : List ℕ) → None ≡ Some t → x ≡ y
no-text t x y h = cc

-- a text that fits, by what becomes of it
by-length : (n left : ℕ) (env : List Variable) (t : ℕ × List ℕ) (new : List ℕ) → (fold expanded_fitting (Some (n, new)) env ≡ Some t → expanded env new ≡ t.1) → fold expanded_fitting (cond {A = Option (ℕ × List ℕ)} (nat_le (length new) left) (Some (n, new)) None) env ≡ Some t → expanded env new ≡ t.1
by-length n left env t new step = grind (arith, no-text, fitting-none)

-- what is expanded within a limit is what is expanded without one
pub fold-expanded : (left : ℕ) (env : List Variable) (text : List ℕ) (t : ℕ × List ℕ) → fold expanded_fitting (Some (left, text)) env ≡ Some t → expanded env text ≡ t.1
fold-expanded left [] text t h = let same : (left, text) ≡ t = cc in ap (λ (s : ℕ × List ℕ). s.1) same
fold-expanded left (v ∷ env) text t h =
    let new : List ℕ = replaced (36 ∷ v.0) v.1 text in
    grind (arith, by-length, (fold-expanded (left - length new) env new t), (fold-expanded left env text t))

pub within-expanded : (left : ℕ) (env : List Variable) (text : List ℕ) (t : ℕ × List ℕ) → expanded_within left env text ≡ Some t → expanded env text ≡ t.1
within-expanded left env text t = by-length left left env t text (fold-expanded left env text t)

-- the words of a text that is expanded within a limit
pub within-words : (left : ℕ) (env : List Variable) (text : List ℕ) (words : Option (List (List ℕ)) × ℕ) (within : Option (ℕ × List ℕ)) → expanded_within left env text ≡ within → Some words ≡ option_map words_left within → words.0 ≡ shell_words (expanded env text)
within-words left env text words within is h = grind (arith, within-expanded)

pub words-too_long : (left : ℕ) (env : List Variable) (text : List ℕ) → nat_le (length text) left ≡ false → None ≡ option_map words_left (expanded_within left env text)
words-too_long left env text h = rw h (sym (ap (option_map words_left) (fitting-none env)))

pub words-from : (left : ℕ) (env : List Variable) (text : List ℕ) (within : Option (ℕ × List ℕ)) → nat_le (length text) left ≡ true → fold expanded_fitting (Some (left, text)) env ≡ within → option_map words_left within ≡ option_map words_left (expanded_within left env text)
words-from left env text within h is = rw h (sym (ap (option_map words_left) is))

-- what a reference says, by whether there is one
module _ (left : ℕ) (env : List Variable) (from : ℕ) (text : List ℕ) where
  abbrev FirstIs : Option Reference → Type 0
  FirstIs o = MatchOption o
      ((left : ℕ) → fold expanded_fitting (Some (left, text)) (drop from env) ≡ Some (left, text))
      (λ r. (left : ℕ) → fold expanded_fitting (Some (left, text)) (drop from env) ≡ fold expanded_fitting (made left (replaced (36 ∷ r.name.now) r.value.now text)) (drop r.next env))

  pub first-none : (o : Option Reference) → o ≡ None → FirstIs o → fold expanded_fitting (Some (left, text)) (drop from env) ≡ Some (left, text)
  first-none o is h = grind arith

  pub first-some : (o : Option Reference) (r : Reference) → o ≡ Some r → FirstIs o → fold expanded_fitting (Some (left, text)) (drop from env) ≡ fold expanded_fitting (made left (replaced (36 ∷ r.name.now) r.value.now text)) (drop r.next env)
  first-some o r is h = grind arith

-- The first line of what is left of a dry run, and the rest.

abbrev is_newline : ℕ → Bool
is_newline b = eqb b 10

-- the first newline, where a search finds it
pub newline-found : (bs : List ℕ) (r : Option ℕ) → IsFirstByte (is_byte 10) bs r → r ≡ position is_newline bs
newline-found bs None h =
    let all : position_or_len is_newline bs ≡ length bs = prefix_len_is (λ b. not (is_newline b)) bs (length bs) 0 (omega arith) (λ k less. not_from_false _ (false_from_ne_true _ (h k (omega arith) less))) (λ less. absurd (omega (arith, less))) in
    grind arith
newline-found bs (Some k) h = grind (arith, prefix_len_is, not_from_false, false_from_ne_true)

pub lines-at_newline : (bs : List ℕ) (n : ℕ) → position is_newline bs ≡ Some n → lines bs ≡ strip_carriage_return (take n bs) ∷ lines (drop (n + 1) bs)
lines-at_newline bs n e = grind (arith, length-slice_split, slice_split_first)

pub lines-last : (bs : List ℕ) → 0 < length bs → position is_newline bs ≡ None → lines bs ≡ bs ∷ []
lines-last bs some e = grind (arith, slice_split_none, fails_before_first, not-zero)
