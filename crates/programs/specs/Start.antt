-- What a program was started with.
use Rattle.std.specs.Prelude.{◌≡◌, ℕ, List, [], Option, Some, None, Result, drop, MatchResult}
use Rattle.texts.specs.declared.fault.Fault.TheVariants.{Memory}
use Rattle.programs.specs.declared.stop.Stop.{Stop}
use Rattle.programs.specs.declared.stop.Stop.TheVariants as stops

-- the words of a call: those after the program's name, or none if one isn't UTF-8
abbrev pub words_of_call : Option (List (List ℕ)) → List (List ℕ)
words_of_call (Some words) = drop 1 words
words_of_call None = []

-- the answer is the words of a call, given which words a program may have been started with. Only memory runs out
abbrev pub AreCallWords : (Option (List (List ℕ)) → Type 0) → Result (List (List ℕ)) Stop → Type 0
AreCallWords started answer =
    MatchResult answer
    (λ words. (all : Option (List (List ℕ))) × started all × (words ≡ words_of_call all))
    (λ stop. stop ≡ stops.Fault Memory)
