-- What the mode of an operation stands for, once some bytes of its text are done.
use Rattle.std.specs.Prelude.{◌≡◌, ℕ, ◌+◌, ◌%◌, ◌≤◌, true, false, List, length, ⊤}
use Rattle.tags.specs.declared.plan.Plan.{Plan}
use Rattle.tags.specs.declared.plan.Plan.TheVariants.{Ctr, Gcm}
use Rattle.aes_core.specs.Cipher.{cipher}
use Rattle.gcm_mode.specs.Counter.{inc32}
use Rattle.gcm_mode.specs.Gcm.{hash_subkey, pre_counter, raw}
use Rattle.cipher_ops.specs.Standing.{IsSign, IsVerify}
use Rattle.whole_outputs.specs.Chains.{Chains}
use Rattle.whole_outputs.specs.Streams.{Streams}
use Rattle.whole_outputs.specs.Hashes.{HashesBoth}
use Rattle.whole_outputs.specs.Sizes.{done_size}
use Rattle.whole_outputs.specs.declared.key_stream.Counting.TheVariants.{Whole, Last}
use Rattle.whole_outputs.specs.declared.gcm.GcmText.{GcmText}
use Rattle.whole_outputs.specs.declared.mode.Mode.{Mode}
use Rattle.whole_outputs.specs.declared.mode.Mode.TheVariants.{Blocks, Counter, Seal, Open, Sign, Verify}

-- A text in GCM under a key and a nonce, of which so many bytes are done; the additional data and the ciphertext of them are
-- hashed.
pub record IsGcm (state : GcmText) (key nonce aad : List ℕ) (count : ℕ) (sealed : List ℕ) : Type 0 where
  pub nonce_len : length nonce ≡ 12
  pub stream : Streams state.stream key Last (inc32 (pre_counter nonce)) count
  pub hash : HashesBoth state.hash (hash_subkey (cipher key)) aad sealed
  pub tag_key_is : state.tag_key ≡ cipher key (pre_counter nonce)

-- an operation with this plan under this key and nonce, which has taken this additional data, and of whose text these bytes
-- are done
abbrev pub ModeIs : Mode → Plan → (key nonce aad done : List ℕ) → Type 0
ModeIs (Blocks chained) plan key nonce aad done = Chains chained plan key nonce done
ModeIs (Counter stream) plan key nonce aad done = (plan ≡ Ctr) × Streams stream key Whole nonce (length done)
ModeIs (Seal gcm) plan key nonce aad done = (plan ≡ Gcm true gcm.tag) × IsGcm gcm key nonce aad (length done) (raw (cipher key) nonce done)
ModeIs (Open gcm) plan key nonce aad done = (plan ≡ Gcm false gcm.tag) × IsGcm gcm key nonce aad (length done) done
ModeIs (Sign mac size) plan key nonce aad done = IsSign mac size plan key done
ModeIs (Verify mac least) plan key nonce aad done = IsVerify mac least plan key done

-- so many bytes may go through the mode at once: whole blocks of ECB and CBC
abbrev pub MayPass : Mode → ℕ → Type 0
MayPass (Blocks chained) size = size % 16 ≡ 0
MayPass _ size = ⊤

-- no more is done than would be with so many bytes behind it
abbrev pub MayEnd : Plan → ℕ → ℕ → Type 0
MayEnd plan count rest = count ≤ done_size plan (count + rest)
