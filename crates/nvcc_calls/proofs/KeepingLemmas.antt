-- What the check of a line's options shows.
use Rattle.std.proofs.Common.{◌≡◌, ℕ, true, false, ◌&&◌, List, Option, None, is_none, nat_eq, ap, sym, ◌∙◌, bytes_eq, arith}
use Rattle.std.specs.List.{All}
use Rattle.std.specs.Cmp.Lexicographic.{pointwise}
use Rattle.std.proofs.lemmas.Bool.{false≢true, and_parts}
use Rattle.std.proofs.lemmas.List.Sums.{AllPass-from_list_all}
use Rattle.std.proofs.lemmas.Slice.Eq.{bytes_eq-Decides}
use Rattle.texts.proofs.EqualityLemmas.{lists}
use Rattle.compilers.specs.Table.{Entry}
use Rattle.nvcc_calls.specs.declared.asked.Asked.{Asked}
use Rattle.nvcc_calls.specs.declared.options.Purpose.{Purpose}
use Rattle.nvcc_calls.specs.declared.reason.Reason.{Reason}
use Rattle.nvcc_calls.specs.NormalForm.{phase_of}
use Rattle.nvcc_calls.specs.Options.{nvcc_entries}
use Rattle.nvcc_calls.specs.Keeping.{values_of, same_words, begins_as, same_options, keeps, kept_options, SaysAs}

none-is : (o : Option Reason) → is_none o ≡ true → o ≡ None
none-is o e = grind (arith, false≢true)

words-are : (a b : List (List ℕ)) → same_words a b ≡ true → b ≡ a
words-are a b e = sym ((lists (pointwise nat_eq) bytes_eq-Decides a b).0 e)

-- of options given by name and value
values-are : (options others : List (List ℕ × List ℕ)) (es : List (Entry Purpose)) →
    same_options options others es ≡ true →
    All (λ (e : Entry Purpose). values_of e.text others ≡ values_of e.text options) es
values-are options others es e = grind (arith, AllPass-from_list_all, words-are)

pub keeps-says : (a b : Asked) → keeps a b ≡ true → SaysAs a b
keeps-says a b kept =
    let e = kept_options a b ∙ kept in
    let three = and_parts (begins_as a b) _ e in
    let two = and_parts (is_none b.refusal && bytes_eq (phase_of a) (phase_of b)) (same_words a.unknown b.unknown) three.0 in
    let one = and_parts (is_none b.refusal) (bytes_eq (phase_of a) (phase_of b)) two.0 in
    record {
      accepted = none-is b.refusal one.0;
      phase = sym ((bytes_eq-Decides (phase_of a) (phase_of b)).0 one.1);
      forwarded = words-are a.unknown b.unknown two.1;
      values = values-are a.options b.options nvcc_entries three.1;
    }

-- a line that doesn't begin as another doesn't keep its options
pub not-begun : (a b : Asked) → begins_as a b ≡ false → false ≡ keeps a b
not-begun a b e = sym (ap (λ begins. begins && same_options a.options b.options nvcc_entries) e) ∙ kept_options a b
