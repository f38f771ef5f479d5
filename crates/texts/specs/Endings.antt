-- What the number that Unix says of a process tells: an exit code or a signal.
use Rattle.std.proofs.Common.{ℕ, [], ◌∷◌, ◌-◌, ◌/◌, ◌%◌, ◌==◌, Bool, false, ◌||◌, if◌then◌else◌, Option, Some, None, ℤ, pos, negsuc, refl}
use Rattle.texts.specs.Rows.{Gives}
use Rattle.texts.specs.Status.{status_of_code}

-- the number of a process that a signal ended: the signal's own
abbrev pub status_of_signal : ℤ → ℤ
status_of_signal signal = signal

-- a number's low seven bits, in two's complement where it is below 0
abbrev pub low_bits : ℤ → ℕ
low_bits (pos n) = n % 128
low_bits (negsuc n) = 127 - n % 128

-- a number's bits 8 to 15, likewise
abbrev pub code_bits : ℤ → ℕ
code_bits (pos n) = n / 256 % 256
code_bits (negsuc n) = 255 - n / 256 % 256

-- whether a number says success: it is 0
abbrev pub is_success : ℤ → Bool
is_success (pos n) = n == 0
is_success (negsuc n) = false

-- the exit code, in bits 8 to 15, where the low seven bits are 0
abbrev pub code_of_status : ℤ → Option ℤ
code_of_status status = if low_bits status == 0 then Some (pos (code_bits status)) else None

-- the signal, in the low seven bits, where these are neither 0 nor 127
abbrev pub signal_of_status : ℤ → Option ℤ
signal_of_status status = if (low_bits status == 0) || (low_bits status == 127) then None else Some (pos (low_bits status))

-- examples: an exit code below 0 counts by its low byte; a signal leaves no code; a stopped process has none
pub codes_of_statuses : Gives code_of_status (
    (status_of_code (negsuc 1), Some (pos 254))
    ∷ (status_of_signal (pos 9), None)
    ∷ (pos 4991, None)
    ∷ (negsuc 127, Some (pos 255))
    ∷ [])
codes_of_statuses = refl

-- examples: an exit code has no signal, nor has a stopped process; the bit of a core dump doesn't count
pub signals_of_statuses : Gives signal_of_status (
    (status_of_code (negsuc 1), None)
    ∷ (status_of_signal (pos 9), Some (pos 9))
    ∷ (pos 139, Some (pos 11))
    ∷ (pos 4991, None)
    ∷ (negsuc 120, Some (pos 7))
    ∷ [])
signals_of_statuses = refl
