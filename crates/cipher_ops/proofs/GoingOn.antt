-- An transform that takes more text.
use Rattle.std.proofs.Common.{◌≡◌, ℕ, ◌+◌, List, [], ◌++◌, length, sym, ap, ◌∙◌, arith, length-append}
use Rattle.std.proofs.lemmas.List.{append-nil}
use Rattle.tags.specs.declared.plan.Plan.{Plan}
use Rattle.aes_core.specs.Cipher.{cipher, inverse_cipher}
use Rattle.aes_wide.specs.declared.wide_aes.WideAes.{WideAes}
use Rattle.block_modes.specs.Output as modes
use Rattle.block_modes.specs.Holds as blocks
use Rattle.block_modes.specs.declared.engine.Blocks.{Blocks}
use Rattle.gcm_mode.specs.Gcm.{seal_given, open_given, open_front}
use Rattle.gcm_mode.specs.Holds.{Seals, Opens}
use Rattle.gcm_mode.specs.declared.seal.GcmSeal.{GcmSeal}
use Rattle.gcm_mode.specs.declared.open.GcmOpen.{GcmOpen}
use Rattle.hmac_core.specs.declared.mac.Hmac.{Hmac}
use Rattle.hmac_core.specs.State as macs
use Rattle.cipher_ops.specs.declared.transform.Transform.{Transform}
use Rattle.cipher_ops.specs.declared.transform.Transform.TheVariants.{Modes, Seal, Open, Sign, Verify}
use Rattle.cipher_ops.specs.Output.{first_block, full_front}
use Rattle.cipher_ops.specs.Standing.{aes, aes_inverse, given, Holds}
use Rattle.cipher_ops.proofs.GivenLemmas.{served_front, served_given, seal_given_is, seal_front_is, open_given_is, open_front_is, sign_given_is, sign_front_is, verify_given_is, verify_front_is, within_more}

-- the transform has taken some text more, and given a piece for it
pub record GoesOn (transform : Transform) (plan : Plan) (key nonce aad text input piece : List ℕ) : Type 0 where
  pub holds : Holds transform plan key nonce aad (text ++ input)
  pub joined : given plan key nonce text ++ piece ≡ given plan key nonce (text ++ input)

pub modes_hold : (state : Blocks WideAes) (plan : Plan) (key nonce aad text : List ℕ)
    → blocks.Holds aes aes_inverse state (cipher key) (inverse_cipher key) plan (first_block plan nonce) text → Holds (Modes state) plan key nonce aad text
modes_hold state plan key nonce aad text holds = record {
  transform_is = holds;
  within = ap length (served_given plan key nonce text holds.going.served) ∙ sym holds.within ∙ sym (served_front plan text holds.going.served);
}

pub modes_more : (old new : Blocks WideAes) (plan : Plan) (key nonce aad text input piece : List ℕ) → Holds (Modes old) plan key nonce aad text
    → blocks.Holds aes aes_inverse new (cipher key) (inverse_cipher key) plan (first_block plan nonce) (text ++ input)
    → blocks.Gives (modes.raw (cipher key) (inverse_cipher key) plan (first_block plan nonce)) (modes.front plan) text (text ++ input) piece
    → GoesOn (Modes new) plan key nonce aad text input piece
modes_more old new plan key nonce aad text input piece holds later gives =
    let served = later.going.served in
    record {
      holds = modes_hold new plan key nonce aad (text ++ input) later;
      joined = ap (λ (l : List ℕ). l ++ piece) (served_given plan key nonce text served) ∙ gives.joined ∙ sym (served_given plan key nonce (text ++ input) served);
    }

pub seal_more : (old new : GcmSeal WideAes) (plan : Plan) (key nonce aad text input piece : List ℕ) → Holds (Seal old) plan key nonce aad text
    → length piece ≡ length input
    → ((tag : ℕ) → Seals aes old (cipher key) nonce tag aad text → Seals aes new (cipher key) nonce tag aad (text ++ input))
    → ((tag : ℕ) → Seals aes old (cipher key) nonce tag aad text → seal_given (cipher key) nonce text ++ piece ≡ seal_given (cipher key) nonce (text ++ input))
    → GoesOn (Seal new) plan key nonce aad text input piece
seal_more old new plan key nonce aad text input piece holds count seals gives =
    let is = holds.transform_is in
    let joined : given plan key nonce text ++ piece ≡ given plan key nonce (text ++ input) =
    ap (λ (l : List ℕ). l ++ piece) (seal_given_is plan is.tag key nonce text is.plan_is) ∙ gives is.tag is.seals ∙ sym (seal_given_is plan is.tag key nonce (text ++ input) is.plan_is) in
    let front = seal_front_is plan is.tag text is.plan_is in
    let later = seal_front_is plan is.tag (text ++ input) is.plan_is in
    let all : length (text ++ input) ≡ length text + length input = length-append text input in
    record {
      holds = record {
        transform_is = record { tag = is.tag; plan_is = is.plan_is; seals = seals is.tag is.seals };
        within = within_more plan key nonce text (text ++ input) piece holds.within joined (omega arith);
      };
      joined = joined;
    }

pub open_more : (old new : GcmOpen WideAes) (plan : Plan) (key nonce aad text input piece : List ℕ) → Holds (Open old) plan key nonce aad text
    → ((tag : ℕ) → Opens aes old (cipher key) nonce tag aad text → open_front tag text + length piece ≡ open_front tag (text ++ input))
    → ((tag : ℕ) → Opens aes old (cipher key) nonce tag aad text → Opens aes new (cipher key) nonce tag aad (text ++ input))
    → ((tag : ℕ) → Opens aes old (cipher key) nonce tag aad text → open_given (cipher key) nonce tag text ++ piece ≡ open_given (cipher key) nonce tag (text ++ input))
    → GoesOn (Open new) plan key nonce aad text input piece
open_more old new plan key nonce aad text input piece holds count opens gives =
    let is = holds.transform_is in
    let joined : given plan key nonce text ++ piece ≡ given plan key nonce (text ++ input) =
    ap (λ (l : List ℕ). l ++ piece) (open_given_is plan is.tag key nonce text is.plan_is) ∙ gives is.tag is.opens ∙ sym (open_given_is plan is.tag key nonce (text ++ input) is.plan_is) in
    let front : full_front plan text ≡ open_front is.tag text = open_front_is plan is.tag text is.plan_is in
    let later : full_front plan (text ++ input) ≡ open_front is.tag (text ++ input) = open_front_is plan is.tag (text ++ input) is.plan_is in
    record {
      holds = record {
        transform_is = record { tag = is.tag; plan_is = is.plan_is; opens = opens is.tag is.opens };
        within = within_more plan key nonce text (text ++ input) piece holds.within joined
            (ap (λ (n : ℕ). n + length piece) front ∙ count is.tag is.opens ∙ sym later);
      };
      joined = joined;
    }

pub sign_more : (old new : Hmac) (size : ℕ) (plan : Plan) (key nonce aad text input : List ℕ) → Holds (Sign old size) plan key nonce aad text
    → ((digest : ℕ) → macs.Holds old digest key text → macs.Holds new digest key (text ++ input))
    → GoesOn (Sign new size) plan key nonce aad text input []
sign_more old new size plan key nonce aad text input holds more =
    let is = holds.transform_is in
    let before : given plan key nonce text ≡ [] = sign_given_is plan is.digest size key nonce text is.plan_is in
    let after : given plan key nonce (text ++ input) ≡ [] = sign_given_is plan is.digest size key nonce (text ++ input) is.plan_is in
    record {
      holds = record {
        transform_is = record { digest = is.digest; plan_is = is.plan_is; fits = is.fits; holds = more is.digest is.holds };
        within = ap length after ∙ sym (sign_front_is plan is.digest size (text ++ input) is.plan_is);
      };
      joined = append-nil (given plan key nonce text) ∙ before ∙ sym after;
    }

pub verify_more : (old new : Hmac) (least : ℕ) (plan : Plan) (key nonce aad text input : List ℕ) → Holds (Verify old least) plan key nonce aad text
    → ((digest : ℕ) → macs.Holds old digest key text → macs.Holds new digest key (text ++ input))
    → GoesOn (Verify new least) plan key nonce aad text input []
verify_more old new least plan key nonce aad text input holds more =
    let is = holds.transform_is in
    let before : given plan key nonce text ≡ [] = verify_given_is plan is.digest least key nonce text is.plan_is in
    let after : given plan key nonce (text ++ input) ≡ [] = verify_given_is plan is.digest least key nonce (text ++ input) is.plan_is in
    record {
      holds = record {
        transform_is = record { digest = is.digest; plan_is = is.plan_is; holds = more is.digest is.holds };
        within = ap length after ∙ sym (verify_front_is plan is.digest least (text ++ input) is.plan_is);
      };
      joined = append-nil (given plan key nonce text) ∙ before ∙ sym after;
    }
