-- In which order nvcc reads what the preprocessors of a plan have written.
use Rattle.std.specs.Prelude.{◌≡◌, ℕ, List, [], ◌∷◌, ◌+◌, ◌++◌, length, Bool, true, false, not, ◌&&◌, ◌||◌, ◌==◌, nat_eq, Option, Some, None, if◌then◌else◌, codes, refl, bytes_eq}
use Rattle.std.specs.List.{list_all, list_any, starts_with}
use Rattle.texts.specs.Rows.{spaced}

-- whether a word says that nvcc has a version whose rules were compared
abbrev pub is_known_version : List ℕ → Bool
is_known_version word =
    bytes_eq word (codes "-D__CUDACC_VER_MAJOR__=11") || bytes_eq word (codes "-D__CUDACC_VER_MAJOR__=12") || bytes_eq word (codes "-D__CUDACC_VER_MAJOR__=13")

abbrev pub is_known : List (List ℕ) → Bool
is_known words = list_any is_known_version words

-- whether a preprocessor's words are those for device code
abbrev pub is_for_device : List (List ℕ) → Bool
is_for_device words = list_any (λ word. starts_with nat_eq word (codes "-D__CUDA_ARCH__=")) words

-- the places, from a number on, of the commands for devices, if `devices` holds, or of the others
abbrev pub passes : Bool → List (List ℕ) → Bool
passes devices words = if devices then is_for_device words else not (is_for_device words)

abbrev pub places_from : Bool → ℕ → List (List (List ℕ)) → List ℕ
places_from devices place [] = []
places_from devices place (words ∷ commands) =
    if passes devices words then place ∷ places_from devices (place + 1) commands else places_from devices (place + 1) commands

-- the places of a plan's preprocessors in nvcc's order: those for devices, and the host's last. None if nvcc has to make the rule
abbrev pub order_by : List ℕ → List ℕ → Option (List ℕ)
order_by devices hosts = if not (length devices == 0) && length hosts == 1 then Some (devices ++ hosts) else None

abbrev pub order_of : List (List (List ℕ)) → Option (List ℕ)
order_of commands = if list_all is_known commands then order_by (places_from true 0 commands) (places_from false 0 commands) else None

-- examples
abbrev pub for_host : List (List ℕ)
for_host = spaced "-E -D__CUDACC_VER_MAJOR__=13 -D__CUDA_ARCH_LIST__=800"

abbrev pub for_device : List (List ℕ)
for_device = spaced "-E -D__CUDA_ARCH__=800 -D__CUDACC_VER_MAJOR__=12"

pub host_last : order_of (for_device ∷ for_host ∷ for_device ∷ []) ≡ Some (0 ∷ 2 ∷ 1 ∷ [])
host_last = refl

pub no_device : order_of (for_host ∷ []) ≡ None
no_device = refl

pub two_hosts : order_of (for_host ∷ for_device ∷ for_host ∷ []) ≡ None
two_hosts = refl

pub unknown_version : order_of (spaced "-E -D__CUDACC_VER_MAJOR__=14" ∷ for_device ∷ []) ≡ None
unknown_version = refl
