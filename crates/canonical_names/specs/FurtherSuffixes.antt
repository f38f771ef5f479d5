-- The standard suffixes of generated files, with further ones of a caller.
use Rattle.std.specs.Prelude.{ℕ, List, ◌++◌, if◌then◌else◌, Result, Ok, Err}
use Rattle.texts.specs.declared.fault.Fault.{Fault}
use Rattle.texts.specs.declared.fault.Fault.TheVariants.{BadSuffixes}
use Rattle.canonical_names.specs.Generated.{standard_suffixes}
use Rattle.canonical_names.specs.SuffixRule.{are_suffixes}

-- the suffixes of a call: the standard ones, and the further ones behind them, if together they are a list of suffixes
abbrev pub all_suffixes : List (List ℕ) → Result (List (List ℕ)) Fault
all_suffixes further = if are_suffixes (standard_suffixes ++ further) then Ok (standard_suffixes ++ further) else Err BadSuffixes
