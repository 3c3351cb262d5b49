-- The value of a text, by whether its bytes are UTF-8.
use Rattle.std.proofs.Common.{◌≡◌, ℕ, List, Bool, true, false, if◌then◌else◌, Option, None, refl}
use Rattle.std.specs.Str.{IsUtf8, is_utf8}
use Rattle.std.proofs.lemmas.Str.{IsUtf8-from_is_utf8, is_utf8-from_IsUtf8}
use Rattle.serde_json.specs.Data.{Data}
use Rattle.serde_json.specs.Read.{read}
use Rattle.device_files.specs.Policy.{parsed}

none_unless : (b : Bool) (o : Option Data) → (b ≡ true → ⊥) → (if b then o else None) ≡ None
none_unless true o h = absurd (h refl)
none_unless false o h = refl

pub parsed_none : (bytes : List ℕ) → (IsUtf8 bytes → ⊥) → parsed bytes ≡ None
parsed_none bytes h = none_unless (is_utf8 bytes) (read bytes) (λ e. h (IsUtf8-from_is_utf8 bytes e))

pub parsed_as_read : (bytes : List ℕ) (o : Option Data) → IsUtf8 bytes → read bytes ≡ o → parsed bytes ≡ o
parsed_as_read bytes o text h = rw (is_utf8-from_IsUtf8 bytes text) h
