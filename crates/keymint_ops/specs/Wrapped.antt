-- The text of a key that comes wrapped under another one.
use Rattle.std.specs.Prelude.{ℕ, Bool, ◌&&◌, List, [], Option, None, if◌then◌else◌, length, unwrap_or}
use Rattle.aes_core.specs.Cipher.{inverse_cipher}
use Rattle.key_wrap.specs.Lengths.{is_wrapped_length}
use Rattle.key_wrap.specs.Wrapping.{kw_open}
use Rattle.tag_lists.specs.Lookups.{is_aes}
use Rattle.keymint_ops.specs.declared.opening.OpenedKey.{OpenedKey}

-- the opened key is one of AES that fits, and the bytes are as many as a wrapped text has
abbrev pub may_unwrap : OpenedKey → ℕ → Bool
may_unwrap own size = (own.fits && is_aes (unwrap_or own.list [])) && is_wrapped_length size

-- KW-AD of the bytes under the opened key's material (SP 800-38F section 6.2, algorithm 4)
abbrev pub text_wrapped : OpenedKey → List ℕ → Option (List ℕ)
text_wrapped own wrapped = if may_unwrap own (length wrapped) then kw_open (inverse_cipher own.material) wrapped else None
