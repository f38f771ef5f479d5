-- What Ninja prints while it runs a command: the program, and the target that a word names.
use Rattle.std.specs.Prelude.{◌≡◌, ℕ, List, [], ◌∷◌, ◌++◌, Option, Some, None, refl, codes, if◌then◌else◌, bytes_eq}
use Rattle.std.specs.Option.{option_or}
use Rattle.texts.specs.Extension.{last_part}
use Rattle.texts.specs.Lists.{rest_after, first_word}
use Rattle.texts.specs.Rows.{spaced}
use Rattle.compilers.specs.declared.plans.plan.NvccGeneratedSubcommand.{NvccGeneratedSubcommand}

-- the target that a word names by itself: the value of a preprocessor's macro, or that of a device tool's option
abbrev pub target_in : List ℕ → Option (List ℕ)
target_in word =
    option_or (rest_after (codes "-D__CUDA_ARCH__=") word) (option_or (rest_after (codes "-arch=") word) (rest_after (codes "--arch=") word))

-- the target that a word names by itself, or `-arch` with the next word
abbrev pub target_at : List ℕ → List (List ℕ) → Option (List ℕ)
target_at word behind = option_or (target_in word) (if bytes_eq word (codes "-arch") then first_word behind else None)

-- the first target that words name
abbrev pub target_of : List (List ℕ) → Option (List ℕ)
target_of [] = None
target_of (word ∷ words) = option_or (target_at word words) (target_of words)

abbrev pub with_target : List ℕ → Option (List ℕ) → List ℕ
with_target program None = program
with_target program (Some target) = program ++ 32 ∷ target

-- a command's description: its program without the folder, and its target if it has one
abbrev pub description : NvccGeneratedSubcommand → List ℕ
description c = with_target (last_part c.exe) (target_of c.args)

-- examples: a word decides by itself, or the one behind it; the first one counts
pub target_of_cicc : target_of (spaced "--device-c -arch compute_80 k.ii -arch=sm_90") ≡ Some (codes "compute_80")
target_of_cicc = refl

pub target_of_nvlink : target_of (spaced "-m64 --arch=sm_80 -arch") ≡ Some (codes "sm_80")
target_of_nvlink = refl

pub no_target : target_of (spaced "-E -DARCH=1 -arch") ≡ None
no_target = refl
