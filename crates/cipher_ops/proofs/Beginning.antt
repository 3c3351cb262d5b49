-- An transform at its begin, and with additional data.
use Rattle.std.proofs.Common.{◌≡◌, ℕ, ◌*◌, ◌≤◌, ◌==◌, if◌then◌else◌, Bool, true, false, arith, List, [], ◌++◌, length, sym, ap, ◌∙◌}
use Rattle.tags.specs.declared.plan.Plan.{Plan}
use Rattle.tags.specs.declared.plan.Plan.TheVariants.{Gcm, HmacSign, HmacVerify}
use Rattle.tags.specs.Plan.{IsWorkable}
use Rattle.aes_core.specs.Cipher.{cipher}
use Rattle.aes_wide.specs.WideKey.{wide_key_of}
use Rattle.aes_wide.specs.declared.wide_aes.WideAes.{WideAes}
use Rattle.block_modes.specs.Holds as blocks
use Rattle.block_modes.specs.declared.engine.Blocks.{Blocks}
use Rattle.gcm_mode.specs.Holds.{Seals, Opens}
use Rattle.gcm_mode.specs.declared.seal.GcmSeal.{GcmSeal}
use Rattle.gcm_mode.specs.declared.open.GcmOpen.{GcmOpen}
use Rattle.hmac_core.specs.declared.mac.Hmac.{Hmac}
use Rattle.hmac_core.specs.Hmac.{digest_size}
use Rattle.hmac_core.specs.State as macs
use Rattle.cipher_ops.specs.declared.transform.Transform.TheVariants.{Modes, Seal, Open, Sign, Verify}
use Rattle.cipher_ops.specs.Output.{first_block, full_front}
use Rattle.cipher_ops.specs.Standing.{aes, aes_inverse, given, Holds}
use Rattle.cipher_ops.proofs.GivenLemmas.{given_none, front_none}
use Rattle.cipher_ops.proofs.GoingOn.{modes_hold}

within_none : (plan : Plan) (key nonce : List ℕ) → length (given plan key nonce []) ≡ full_front plan []
within_none plan key nonce = ap length (given_none plan key nonce) ∙ sym (front_none plan)

pub modes_begin : (state : Blocks WideAes) (aes_key : WideAes) (plan : Plan) (key nonce block : List ℕ) → wide_key_of aes_key ≡ key → block ≡ first_block plan nonce
    → blocks.Holds aes aes_inverse state (aes aes_key) (aes_inverse aes_key) plan block [] → Holds (Modes state) plan key nonce [] []
modes_begin state aes_key plan key nonce block key_is block_is holds =
    modes_hold state plan key nonce [] [] (rw (← key_is, ← block_is) holds)

pub seal_begin : (state : GcmSeal WideAes) (aes_key : WideAes) (plan : Plan) (tag : ℕ) (key nonce block : List ℕ) → plan ≡ Gcm true tag → wide_key_of aes_key ≡ key → block ≡ nonce
    → Seals aes state (aes aes_key) block tag [] [] → Holds (Seal state) plan key nonce [] []
seal_begin state aes_key plan tag key nonce block plan_is key_is block_is seals = record {
  transform_is = record { tag = tag; plan_is = plan_is; seals = rw (← key_is, ← block_is) seals };
  within = within_none plan key nonce;
}

pub open_begin : (state : GcmOpen WideAes) (aes_key : WideAes) (plan : Plan) (tag : ℕ) (key nonce block : List ℕ) → plan ≡ Gcm false tag → wide_key_of aes_key ≡ key → block ≡ nonce
    → Opens aes state (aes aes_key) block tag [] [] → Holds (Open state) plan key nonce [] []
open_begin state aes_key plan tag key nonce block plan_is key_is block_is opens = record {
  transform_is = record { tag = tag; plan_is = plan_is; opens = rw (← key_is, ← block_is) opens };
  within = within_none plan key nonce;
}

-- the bytes of a mac are no more than its digest's
size_by : (three four five six : Bool) (size : ℕ) →
    8 * size ≤ (if three then 224 else if four then 256 else if five then 384 else if six then 512 else 0) →
    size ≤ (if three then 28 else if four then 32 else if five then 48 else 64)
size_by true four five six size h = omega (arith, h)
size_by false true five six size h = omega (arith, h)
size_by false false true six size h = omega (arith, h)
size_by false false false true size h = omega (arith, h)
size_by false false false false size h = omega (arith, h)

pub mac_fits : (digest size : ℕ) → IsWorkable (HmacSign digest size) → size ≤ digest_size digest
mac_fits digest size works = size_by (digest == 3) (digest == 4) (digest == 5) (digest == 6) size works.2

pub sign_begin : (mac : Hmac) (plan : Plan) (digest size : ℕ) (key nonce : List ℕ) → plan ≡ HmacSign digest size → size ≤ digest_size digest
    → macs.Holds mac digest key [] → Holds (Sign mac size) plan key nonce [] []
sign_begin mac plan digest size key nonce plan_is fits holds = record {
  transform_is = record { digest = digest; plan_is = plan_is; fits = fits; holds = holds };
  within = within_none plan key nonce;
}

pub verify_begin : (mac : Hmac) (plan : Plan) (digest least : ℕ) (key nonce : List ℕ) → plan ≡ HmacVerify digest least
    → macs.Holds mac digest key [] → Holds (Verify mac least) plan key nonce [] []
verify_begin mac plan digest least key nonce plan_is holds = record {
  transform_is = record { digest = digest; plan_is = plan_is; holds = holds };
  within = within_none plan key nonce;
}

pub seal_aad : (old new : GcmSeal WideAes) (plan : Plan) (key nonce aad input : List ℕ) → Holds (Seal old) plan key nonce aad []
    → ((tag : ℕ) → Seals aes old (cipher key) nonce tag aad [] → Seals aes new (cipher key) nonce tag (aad ++ input) [])
    → Holds (Seal new) plan key nonce (aad ++ input) []
seal_aad old new plan key nonce aad input holds more =
    let is = holds.transform_is in
    record {
      transform_is = record { tag = is.tag; plan_is = is.plan_is; seals = more is.tag is.seals };
      within = holds.within;
    }

pub open_aad : (old new : GcmOpen WideAes) (plan : Plan) (key nonce aad input : List ℕ) → Holds (Open old) plan key nonce aad []
    → ((tag : ℕ) → Opens aes old (cipher key) nonce tag aad [] → Opens aes new (cipher key) nonce tag (aad ++ input) [])
    → Holds (Open new) plan key nonce (aad ++ input) []
open_aad old new plan key nonce aad input holds more =
    let is = holds.transform_is in
    record {
      transform_is = record { tag = is.tag; plan_is = is.plan_is; opens = more is.tag is.opens };
      within = holds.within;
    }
