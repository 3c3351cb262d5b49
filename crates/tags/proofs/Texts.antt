-- Whether bytes are UTF-8, by what their reading as text gives.
use Rattle.std.proofs.Common.{◌≡◌, ℕ, List, true, false, sym}
use Rattle.std.specs.Str.{IsUtf8, is_utf8}
use Rattle.std.proofs.lemmas.Str.{IsUtf8-from_is_utf8, is_utf8-from_IsUtf8}
use Rattle.std.proofs.lemmas.Bool.{false_from_ne_true}

pub is_text : (bytes : List ℕ) → IsUtf8 bytes → true ≡ is_utf8 bytes
is_text bytes text = sym (is_utf8-from_IsUtf8 bytes text)

pub is_no_text : (bytes : List ℕ) → (IsUtf8 bytes → ⊥) → false ≡ is_utf8 bytes
is_no_text bytes none = sym (false_from_ne_true (is_utf8 bytes) (λ e. none (IsUtf8-from_is_utf8 bytes e)))
