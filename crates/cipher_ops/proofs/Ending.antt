-- An transform at its end: what it gives completes what was given, or its fault is the code.
use Rattle.std.proofs.Common.{◌≡◌, ℕ, ◌≤◌, true, false, List, [], ◌++◌, take, refl, sym, ap, ◌∙◌}
use Rattle.std.specs.Prelude.{Option, Some, None, Result, Ok, Err}
use Rattle.std.proofs.lemmas.List.{append-nil}
use Rattle.std.specs.Option.{ok_or}
use Rattle.tags.specs.declared.plan.Plan.{Plan}
use Rattle.tags.specs.declared.plan.Plan.TheVariants.{Gcm, HmacSign, HmacVerify}
use Rattle.tags.specs.declared.code.Code.{Code}
use Rattle.tags.specs.declared.code.Code.TheVariants.{VerificationFailed}
use Rattle.aes_core.specs.Cipher.{cipher, inverse_cipher}
use Rattle.aes_wide.specs.declared.wide_aes.WideAes.{WideAes}
use Rattle.block_modes.specs.Output as modes
use Rattle.block_modes.specs.declared.engine.Blocks.{Blocks}
use Rattle.block_modes.specs.declared.fault.ModeFault.{ModeFault}
use Rattle.gcm_mode.specs.Gcm.{gcm_seal, gcm_open, seal_given, open_given}
use Rattle.gcm_mode.specs.Holds.{Seals, Opens}
use Rattle.gcm_mode.specs.declared.seal.GcmSeal.{GcmSeal}
use Rattle.gcm_mode.specs.declared.open.GcmOpen.{GcmOpen}
use Rattle.hmac_core.specs.Hmac.{hmac, digest_size}
use Rattle.hmac_core.specs.declared.mac.Hmac.{Hmac}
use Rattle.hmac_core.specs.State as macs
use Rattle.cipher_ops.specs.declared.transform.Transform.TheVariants.{Modes, Seal, Open, Sign, Verify}
use Rattle.cipher_ops.specs.Output.{first_block, whole, coded, mode_code, verified}
use Rattle.cipher_ops.specs.Standing.{aes, given, Holds}
use Rattle.cipher_ops.proofs.GivenLemmas.{served_whole, served_given, seal_given_is, open_given_is, sign_given_is, verify_given_is}

abbrev done : List ℕ → Result (List ℕ) Code
done bytes = Ok bytes

pub modes_end : (state : Blocks WideAes) (plan : Plan) (key nonce aad text bytes : List ℕ) (signature : Option (List ℕ)) → Holds (Modes state) plan key nonce aad text
    → modes.whole (cipher key) (inverse_cipher key) plan (first_block plan nonce) text
    ≡ Ok (take (modes.front plan text) (modes.raw (cipher key) (inverse_cipher key) plan (first_block plan nonce) text) ++ bytes)
    → whole plan key nonce aad text signature ≡ Ok (given plan key nonce text ++ bytes)
modes_end state plan key nonce aad text bytes signature holds ends =
    let served = holds.transform_is.going.served in
    served_whole plan key nonce aad text signature served ∙ ap coded ends
    ∙ ap (λ (l : List ℕ). done (l ++ bytes)) (sym (served_given plan key nonce text served))

pub modes_fault : (state : Blocks WideAes) (plan : Plan) (key nonce aad text : List ℕ) (signature : Option (List ℕ)) (fault : ModeFault) → Holds (Modes state) plan key nonce aad text
    → modes.whole (cipher key) (inverse_cipher key) plan (first_block plan nonce) text ≡ Err fault
    → whole plan key nonce aad text signature ≡ Err (mode_code fault)
modes_fault state plan key nonce aad text signature fault holds ends =
    served_whole plan key nonce aad text signature holds.transform_is.going.served ∙ ap coded ends

seal_whole : (plan : Plan) (tag : ℕ) (key nonce aad text : List ℕ) (signature : Option (List ℕ)) → plan ≡ Gcm true tag
    → whole plan key nonce aad text signature ≡ Ok (gcm_seal (cipher key) nonce tag aad text)
unfolding whole
seal_whole plan tag key nonce aad text signature plan_is = rw plan_is refl

pub seal_end : (state : GcmSeal WideAes) (plan : Plan) (key nonce aad text bytes : List ℕ) (signature : Option (List ℕ)) → Holds (Seal state) plan key nonce aad text
    → ((tag : ℕ) → Seals aes state (cipher key) nonce tag aad text → seal_given (cipher key) nonce text ++ bytes ≡ gcm_seal (cipher key) nonce tag aad text)
    → whole plan key nonce aad text signature ≡ Ok (given plan key nonce text ++ bytes)
seal_end state plan key nonce aad text bytes signature holds ends =
    let is = holds.transform_is in
    seal_whole plan is.tag key nonce aad text signature is.plan_is
    ∙ ap done (sym (ends is.tag is.seals) ∙ ap (λ (l : List ℕ). l ++ bytes) (sym (seal_given_is plan is.tag key nonce text is.plan_is)))

open_whole : (plan : Plan) (tag : ℕ) (key nonce aad text : List ℕ) (signature : Option (List ℕ)) → plan ≡ Gcm false tag
    → whole plan key nonce aad text signature ≡ ok_or (gcm_open (cipher key) nonce tag aad text) VerificationFailed
unfolding whole
open_whole plan tag key nonce aad text signature plan_is = rw plan_is refl

pub open_end : (state : GcmOpen WideAes) (plan : Plan) (key nonce aad text : List ℕ) (signature : Option (List ℕ)) → Holds (Open state) plan key nonce aad text
    → ((tag : ℕ) → Opens aes state (cipher key) nonce tag aad text → gcm_open (cipher key) nonce tag aad text ≡ Some (open_given (cipher key) nonce tag text))
    → whole plan key nonce aad text signature ≡ Ok (given plan key nonce text ++ [])
open_end state plan key nonce aad text signature holds ends =
    let is = holds.transform_is in
    open_whole plan is.tag key nonce aad text signature is.plan_is
    ∙ ap (λ (o : Option (List ℕ)). ok_or o VerificationFailed) (ends is.tag is.opens)
    ∙ ap done (sym (open_given_is plan is.tag key nonce text is.plan_is) ∙ sym (append-nil (given plan key nonce text)))

pub open_fault : (state : GcmOpen WideAes) (plan : Plan) (key nonce aad text : List ℕ) (signature : Option (List ℕ)) → Holds (Open state) plan key nonce aad text
    → ((tag : ℕ) → Opens aes state (cipher key) nonce tag aad text → gcm_open (cipher key) nonce tag aad text ≡ None)
    → whole plan key nonce aad text signature ≡ Err VerificationFailed
open_fault state plan key nonce aad text signature holds ends =
    let is = holds.transform_is in
    open_whole plan is.tag key nonce aad text signature is.plan_is ∙ ap (λ (o : Option (List ℕ)). ok_or o VerificationFailed) (ends is.tag is.opens)

sign_whole : (plan : Plan) (digest size : ℕ) (key nonce aad text : List ℕ) (signature : Option (List ℕ)) → plan ≡ HmacSign digest size
    → whole plan key nonce aad text signature ≡ Ok (take size (hmac digest key text))
unfolding whole
sign_whole plan digest size key nonce aad text signature plan_is = rw plan_is refl

pub sign_end : (mac : Hmac) (size : ℕ) (plan : Plan) (key nonce aad text bytes : List ℕ) (signature : Option (List ℕ)) → Holds (Sign mac size) plan key nonce aad text
    → ((digest : ℕ) → size ≤ digest_size digest → macs.Holds mac digest key text → bytes ≡ take size (hmac digest key text))
    → whole plan key nonce aad text signature ≡ Ok (given plan key nonce text ++ bytes)
sign_end mac size plan key nonce aad text bytes signature holds ends =
    let is = holds.transform_is in
    sign_whole plan is.digest size key nonce aad text signature is.plan_is
    ∙ ap done (sym (ends is.digest is.fits is.holds) ∙ ap (λ (l : List ℕ). l ++ bytes) (sym (sign_given_is plan is.digest size key nonce text is.plan_is)))

verify_whole : (plan : Plan) (digest least : ℕ) (key nonce aad text : List ℕ) (signature : Option (List ℕ)) → plan ≡ HmacVerify digest least
    → whole plan key nonce aad text signature ≡ verified digest least (hmac digest key text) signature
unfolding whole
verify_whole plan digest least key nonce aad text signature plan_is = rw plan_is refl

pub verify_end : (mac : Hmac) (least : ℕ) (plan : Plan) (key nonce aad text : List ℕ) (signature : Option (List ℕ)) → Holds (Verify mac least) plan key nonce aad text
    → ((digest : ℕ) → macs.Holds mac digest key text → verified digest least (hmac digest key text) signature ≡ Ok [])
    → whole plan key nonce aad text signature ≡ Ok (given plan key nonce text ++ [])
verify_end mac least plan key nonce aad text signature holds ends =
    let is = holds.transform_is in
    verify_whole plan is.digest least key nonce aad text signature is.plan_is ∙ ends is.digest is.holds
    ∙ ap done (sym (verify_given_is plan is.digest least key nonce text is.plan_is) ∙ sym (append-nil (given plan key nonce text)))

pub verify_fault : (mac : Hmac) (least : ℕ) (plan : Plan) (key nonce aad text : List ℕ) (signature : Option (List ℕ)) (code : Code) → Holds (Verify mac least) plan key nonce aad text
    → ((digest : ℕ) → macs.Holds mac digest key text → verified digest least (hmac digest key text) signature ≡ Err code)
    → whole plan key nonce aad text signature ≡ Err code
verify_fault mac least plan key nonce aad text signature code holds ends =
    let is = holds.transform_is in
    verify_whole plan is.digest least key nonce aad text signature is.plan_is ∙ ends is.digest is.holds

abbrev failed : Code → Result (List ℕ) Code
failed code = Err code

pub err_is : (code given : Code) → given ≡ code → failed code ≡ failed given
err_is code given same = ap failed (sym same)
