-- Whether a line keeps the options of another.
use Rattle.std.specs.Prelude.{◌≡◌, ℕ, List, [], Bool, true, false, ◌&&◌, ◌||◌, nat_eq, filter, map, None, is_none, refl, bytes_eq}
use Rattle.std.specs.List.{All, list_all}
use Rattle.std.specs.Cmp.Lexicographic.{pointwise}
use Rattle.texts.specs.Rows.{spaced}
use Rattle.compilers.specs.Table.{Entry}
use Rattle.nvcc_calls.specs.declared.asked.Asked.{Asked}
use Rattle.nvcc_calls.specs.declared.options.Purpose.{Purpose}
use Rattle.nvcc_calls.specs.Asked.{asked_of}
use Rattle.nvcc_calls.specs.NormalForm.{phase_of}
use Rattle.nvcc_calls.specs.Options.{nvcc_entries}

-- the values of an option, in order
abbrev pub values_of : List ℕ → List (List ℕ × List ℕ) → List (List ℕ)
values_of name options = map (λ option. option.1) (filter (λ option. bytes_eq name option.0) options)

abbrev pub same_words : List (List ℕ) → List (List ℕ) → Bool
same_words = pointwise (pointwise nat_eq)

-- whether a line that asks for `b` keeps what a line that asks for `a` does: nothing in it leaves the call to nvcc, it has the same
-- phase, nvcc forwards the same words, and each of nvcc's options has the same values
abbrev pub begins_as : Asked → Asked → Bool
begins_as a b = is_none b.refusal && bytes_eq (phase_of a) (phase_of b) && same_words a.unknown b.unknown

abbrev pub same_options : List (List ℕ × List ℕ) → List (List ℕ × List ℕ) → List (Entry Purpose) → Bool
same_options options others es = list_all (λ (e : Entry Purpose). same_words (values_of e.text options) (values_of e.text others)) es

unfoldable pub keeps : Asked → Asked → Bool
keeps a b = begins_as a b && same_options a.options b.options nvcc_entries

pub kept_options : (a b : Asked) → (begins_as a b && same_options a.options b.options nvcc_entries) ≡ keeps a b
unfolding keeps
kept_options a b = refl

-- a line that asks for `b` says what a line that asks for `a` does
pub record SaysAs (a b : Asked) : Type 0 where
  pub accepted : b.refusal ≡ None
  pub phase : phase_of b ≡ phase_of a
  pub forwarded : b.unknown ≡ a.unknown
  pub values : All (λ (e : Entry Purpose). values_of e.text b.options ≡ values_of e.text a.options) nvcc_entries

-- examples, of two lines: another order of options, and a value in another place; defines that change places, a lost option, and a new one
abbrev keeps_words : List (List ℕ) → List (List ℕ) → Bool
keeps_words words written = keeps (asked_of [] words) (asked_of [] written)

pub kept_lines :
    (keeps_words (spaced "-DA --threads=2 -O3 -UA -DB -MD -c k.cu") (spaced "-x cu -o k.o -O3 -DA -DB -UA -c k.cu")
    && keeps_words (spaced "-O3 -c k.cu -L. -lm") (spaced "-O=3 -c -L=. k.cu -l=m")) ≡ true
unfolding keeps
kept_lines = refl

pub changed_lines :
    (keeps_words (spaced "-DA -DB -c k.cu") (spaced "-DB -DA -c k.cu") || keeps_words (spaced "-c k.cu -g -DA") (spaced "-c k.cu -DA")
    || keeps_words (spaced "-c k.cu -DA") (spaced "-c k.cu -g -DA")) ≡ false
unfolding keeps
changed_lines = refl
