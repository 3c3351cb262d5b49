-- What a hash of strings of bytes has taken.
use Rattle.std.specs.Prelude.{◌≡◌, ℕ, ◌%◌, ◌^◌, ◌<◌, List, ◌++◌, length, nat_lt}
use Rattle.std.specs.List.{concat}
use Rattle.block_modes.specs.Texts.{AreBlocks}
use Rattle.ghash.specs.Hash.{Holds}
use Rattle.gcm_mode.specs.Parts.{hashed}
use Rattle.whole_outputs.specs.declared.text_hash.TextHash.{TextHash}
use Rattle.whole_outputs.specs.declared.text_hash.BothHash.{BothHash}

-- The hash under a subkey has taken the whole blocks of some bytes, and the rest of the bytes waits.
pub record Hashes (state : TextHash) (subkey bytes : List ℕ) : Type 0 where
  pub blocks : List (List ℕ)
  pub each : AreBlocks blocks
  pub bytes_are : bytes ≡ concat blocks ++ state.rest
  pub few : length state.rest < 16
  pub hash : Holds state.hash subkey blocks

-- The hash under a subkey has taken the additional data and the ciphertext.
pub record HashesBoth (state : BothHash) (subkey aad text : List ℕ) : Type 0 where
  pub bytes : Hashes state.hash subkey (hashed aad text)
  pub begun : state.has_text ≡ nat_lt 0 (length text)
  pub aad_len : state.aad_len ≡ length aad % 2 ^ 64
  pub text_len : state.text_len ≡ length text % 2 ^ 64
