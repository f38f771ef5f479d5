-- Whether bytes are UTF-8, as a test.
use Rattle.std.proofs.Common.{◌≡◌, ℕ, List, Some, None, true, false, cond, ap, refl}
use Rattle.std.specs.Str.{IsUtf8, is_utf8}
use Rattle.std.proofs.lemmas.Str.{is_utf8-from_IsUtf8, IsUtf8-from_is_utf8}
use Rattle.rooted_commands.specs.Markers.{if_utf8}

pub when-utf8 : (bs : List ℕ) → IsUtf8 bs → if_utf8 bs ≡ Some bs
when-utf8 bs h = ap (λ b. cond b (Some bs) None) (is_utf8-from_IsUtf8 bs h)

pub when-not : (bs : List ℕ) → ¬ (IsUtf8 bs) → if_utf8 bs ≡ None
when-not bs h =
    elim (is_utf8 bs) as (λ b. is_utf8 bs ≡ b → cond b (Some bs) None ≡ None)
    [ true ↦ λ e. absurd (h (IsUtf8-from_is_utf8 bs e)) | false ↦ λ _. refl ] refl
