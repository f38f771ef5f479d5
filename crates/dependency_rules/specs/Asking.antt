-- Which rule the words of a command ask for.
use Rattle.std.specs.Prelude.{◌≡◌, ℕ, List, [], ◌∷◌, length, take, drop, ◌+◌, ◌-◌, Bool, true, false, not, ◌&&◌, ◌||◌, ◌==◌, nat_eq, nat_le, Option, Some, None, if◌then◌else◌, codes, refl, bytes_eq, option_and_then, slice_get}
use Rattle.std.specs.List.{list_all, starts_with}
use Rattle.texts.specs.Lists.{last_of}
use Rattle.texts.specs.Rows.{spaced}
use Rattle.dependency_rules.specs.declared.asking.Listing.{Listing}
use Rattle.dependency_rules.specs.declared.asking.Rule.{Rule}

-- A rule: the source, the file that gets the rule, the target, and what is listed.
pub record RuleOf : Type 0 where
  pub source : List ℕ
  pub file : List ℕ
  pub target : List ℕ
  pub listing : Listing

-- the same, as the code holds it
abbrev pub rule_of : Rule → RuleOf
rule_of rule = record { source = rule.source.now; file = rule.file.now; target = rule.target.now; listing = rule.listing }

-- bytes that every nvcc writes as they are: letters, digits and  _ . / + -
abbrev pub is_letter_or_digit : ℕ → Bool
is_letter_or_digit byte = (nat_le 48 byte && nat_le byte 57) || (nat_le 65 byte && nat_le byte 90) || (nat_le 97 byte && nat_le byte 122)

abbrev pub is_name_byte : ℕ → Bool
is_name_byte byte = is_letter_or_digit byte || byte == 95 || byte == 46 || byte == 47 || byte == 43 || byte == 45

abbrev pub is_plain : List ℕ → Bool
is_plain name = not (length name == 0) && list_all is_name_byte name

-- whether a file is no plain file by its name: what is written there may be read at once
abbrev pub is_device : List ℕ → Bool
is_device file = starts_with nat_eq file (codes "/dev/") || starts_with nat_eq file (codes "/proc/")

-- the rule of these names, if nvcc writes them as they are
abbrev pub rule_for : Listing → List ℕ → List ℕ → List ℕ → Option RuleOf
rule_for listing source file target =
    if is_plain source && is_plain file && is_plain target && not (is_device file)
    then Some (record { source = source; file = file; target = target; listing = listing }) else None

-- the rule that two options with their values ask for: the file and the target, in either order
abbrev pub rule_by : Listing → List ℕ → List ℕ → List ℕ → List ℕ → List ℕ → Option RuleOf
rule_by listing source one first other second =
    if bytes_eq one (codes "-MF") && bytes_eq other (codes "-MT") then rule_for listing source first second else
    if bytes_eq one (codes "-MT") && bytes_eq other (codes "-MF") then rule_for listing source second first else None

-- what a flag lists
abbrev pub listing_of : List ℕ → Bool → Option Listing
listing_of flag targets =
    if bytes_eq flag (codes "-M") then Some (record { of_system = true; targets = targets }) else
    if bytes_eq flag (codes "-MM") then Some (record { of_system = false; targets = targets }) else None

-- what flags list. If there are two, one has to be `-MP`, which asks for targets
abbrev pub listing_by : List (List ℕ) → Option Listing
listing_by [] = None
listing_by (flag ∷ []) = listing_of flag false
listing_by (one ∷ other ∷ []) =
    if bytes_eq one (codes "-MP") then listing_of other true else
    if bytes_eq other (codes "-MP") then listing_of one true else None
listing_by (one ∷ other ∷ third ∷ more) = None

-- the rule that the last four words ask for
abbrev pub rule_at_end : Listing → List ℕ → List (List ℕ) → Option RuleOf
rule_at_end listing source words =
    option_and_then (λ one. option_and_then (λ first. option_and_then (λ other. option_and_then (λ second.
    rule_by listing source one first other second)
    (slice_get words 3)) (slice_get words 2)) (slice_get words 1)) (slice_get words 0)

-- how many words are in front of the first that asks for dependencies
abbrev pub before_flags : List (List ℕ) → ℕ
before_flags [] = 0
before_flags (word ∷ words) = if starts_with nat_eq word (codes "-M") then 0 else 1 + before_flags words

-- the rule that words ask for, given those in front of the last four and these
abbrev pub asked_by : List (List ℕ) → List (List ℕ) → Option RuleOf
asked_by front options =
    option_and_then (λ listing. option_and_then (λ source. rule_at_end listing source options)
    (last_of (take (before_flags front) front))) (listing_by (drop (before_flags front) front))

-- the rule that a command's words ask for:  .. SOURCE -M -MF FILE -MT TARGET  with no further such option but -MP beside -M, or with -MM for -M
abbrev pub asked : List (List ℕ) → Option RuleOf
asked words = asked_by (take (length words - 4) words) (drop (length words - 4) words)

-- examples
abbrev pub usual_rule : Bool → Bool → Option RuleOf
usual_rule of_system targets = Some (record
    { source = codes "k.cu"; file = codes "k.d"; target = codes "k.o"; listing = record { of_system = of_system; targets = targets } })

pub usual_words : asked (spaced "nvcc -c -x cu k.cu -M -MF k.d -MT k.o") ≡ usual_rule true false
usual_words = refl

pub target_first : asked (spaced "k.cu -M -MT k.o -MF k.d") ≡ usual_rule true false
target_first = refl

pub without_system : asked (spaced "k.cu -MM -MF k.d -MT k.o") ≡ usual_rule false false
without_system = refl

pub further_targets : asked (spaced "nvcc k.cu -MP -M -MF k.d -MT k.o") ≡ usual_rule true true
further_targets = refl

pub both : asked (spaced "nvcc k.cu -MM -MP -MF k.d -MT k.o") ≡ usual_rule false true
both = refl

pub one_twice : asked (spaced "nvcc k.cu -MM -MM -MF k.d -MT k.o") ≡ None
one_twice = refl

pub earlier_option : asked (spaced "nvcc -MP k.cu -M -MF k.d -MT k.o") ≡ None
earlier_option = refl

pub standard_output : asked (spaced "nvcc k.cu -M -MF /dev/stdout -MT k.o") ≡ None
standard_output = refl

pub variable_of_make : asked (spaced "nvcc k.cu -M -MF k.d -MT $x") ≡ None
variable_of_make = refl

pub no_source : asked (spaced "-M -MF k.d -MT k.o") ≡ None
no_source = refl
