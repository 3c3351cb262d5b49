-- The codes with which an output is refused.
use Rattle.std.proofs.Common.{◌≡◌, ℕ, Bool, true, false, if◌then◌else◌, List, [], ◌++◌, length, Option, Some, None, Result, Ok, Err, refl, sym, subst, ◌∙◌}
use Rattle.std.specs.Prelude.{IfErr}
use Rattle.std.specs.Option.{ok_or}
use Rattle.std.proofs.Props.{props}
use Rattle.tags.specs.declared.code.Code.{Code}
use Rattle.tags.specs.declared.code.Code.TheVariants.{VerificationFailed}
use Rattle.tags.specs.declared.plan.Plan.{Plan}
use Rattle.tags.specs.declared.plan.Plan.TheVariants.{Ecb, Cbc, Ctr, Gcm, HmacSign, HmacVerify}
use Rattle.tags.specs.Plan.{is_whole, may_end}
use Rattle.block_modes.specs.declared.fault.ModeFault.{ModeFault}
use Rattle.block_modes.specs.declared.fault.ModeFault.TheVariants.{Length, Padding}
use Rattle.block_modes.specs.Output as modes
use Rattle.cipher_ops.specs.declared.room.JobRoom.{JobRoom}
use Rattle.cipher_ops.specs.declared.room.Work.{Work}
use Rattle.cipher_ops.specs.declared.room.Work.TheVariants.{Last}
use Rattle.cipher_ops.specs.declared.state.CipherState.{CipherState}
use Rattle.cipher_ops.specs.Jobs.{is_refusal}
use Rattle.cipher_ops.specs.Running.{CanRun, MayCome}
use Rattle.cipher_ops.specs.Standing.{StandsFor}
use Rattle.cipher_ops.proofs.Rooms.{flag_prop}
use Rattle.cipher_ops.specs.Output.{behind, coded, finish_output, is_signature, verified, whole}

-- what is refused is refused with such a code
abbrev pub Refuses : Result (List ℕ) Code → Type 0
Refuses output = IfErr output (λ code. is_refusal code ≡ true)

completed_refuses : (seal padded : Bool) (made : List ℕ → List ℕ) (text : List ℕ) → Refuses (coded (modes.completed seal padded made text))
completed_refuses true true made text = tt
completed_refuses false true made text = unpadded (Rattle.block_modes.specs.Padding.unpad (made text)) where
  unpadded : (bytes : Option (List ℕ)) → Refuses (coded (ok_or bytes Padding))
  unpadded None = refl
  unpadded (Some bytes) = tt
completed_refuses true false made text = tt
completed_refuses false false made text = tt

-- a length that its mode does not allow is no refusal: it does not come to its end
blocks_refuse : (b : Bool) (output : Result (List ℕ) ModeFault) → b ≡ true → Refuses (coded output) → Refuses (coded (if b then output else Err Length))
blocks_refuse true output e refuses = refuses
blocks_refuse false output e refuses = cc

opened_refuses : (opened : Option (List ℕ)) → Refuses (ok_or opened VerificationFailed)
opened_refuses None = refl
opened_refuses (Some bytes) = tt

tested_refuses : (b : Bool) → Refuses (if b then Ok [] else Err VerificationFailed)
tested_refuses true = tt
tested_refuses false = refl

verified_refuses : (digest least : ℕ) (mac : List ℕ) (signature : Option (List ℕ)) → Refuses (verified digest least mac signature)
verified_refuses digest least mac None = refl
verified_refuses digest least mac (Some signature) = tested_refuses (is_signature digest least mac signature)

whole_refuses : (plan : Plan) (key nonce aad text : List ℕ) (signature : Option (List ℕ)) → may_end plan (length text) ≡ true → Refuses (whole plan key nonce aad text signature)
unfolding whole modes.whole
whole_refuses (Ecb seal padded) key nonce aad text signature may = blocks_refuse (is_whole seal padded (length text)) _ may (completed_refuses seal padded _ text)
whole_refuses (Cbc seal padded) key nonce aad text signature may = blocks_refuse (is_whole seal padded (length text)) _ may (completed_refuses seal padded _ text)
whole_refuses Ctr key nonce aad text signature may = tt
whole_refuses (Gcm true tag) key nonce aad text signature may = tt
whole_refuses (Gcm false tag) key nonce aad text signature may = opened_refuses _
whole_refuses (HmacSign digest size) key nonce aad text signature may = tt
whole_refuses (HmacVerify digest least) key nonce aad text signature may = verified_refuses digest least _ signature

behind_refuses : (n : ℕ) (output : Result (List ℕ) Code) → Refuses output → Refuses (behind n output)
behind_refuses n (Ok bytes) refuses = tt
behind_refuses n (Err code) refuses = refuses

-- a finish that may come
pub finish_refuses : (plan : Plan) (limited : Bool) (key nonce aad a b : List ℕ) (signature : Option (List ℕ)) → may_end plan (length b) ≡ true
    → Refuses (finish_output plan limited key nonce aad a b signature)
finish_refuses plan limited key nonce aad a b signature may = behind_refuses _ _ (whole_refuses plan key nonce aad b signature may)

pub Refuses-prop : (output : Result (List ℕ) Code) → IsProp (Refuses output)
Refuses-prop (Ok bytes) = hlevel props
Refuses-prop (Err code) = flag_prop (is_refusal code) true

-- what the last work of a job that can run comes back with
pub last_refuses : (state : CipherState) (room : JobRoom) (input slice : List ℕ) (signature : Option (List ℕ)) (output : Result (List ℕ) Code)
    → room.work ≡ Last input signature → slice ≡ input
    → ((plan : Plan) (limited : Bool) (key nonce aad text : List ℕ) → StandsFor state plan limited key nonce aad text → output ≡ finish_output plan limited key nonce aad text (text ++ slice) signature)
    → CanRun state room → Refuses output
last_refuses state room input slice signature output work same is can =
    let may : MayCome can.plan can.text (Last input signature) = subst (λ (w : Work). MayCome can.plan can.text w) (sym can.fits.work_is ∙ work) can.may in
    let ends : may_end can.plan (length (can.text ++ slice)) ≡ true = subst (λ (l : List ℕ). may_end can.plan (length (can.text ++ l)) ≡ true) (sym same) may in
    subst Refuses (sym (is can.plan can.limited can.key can.nonce can.aad can.text can.stands))
    (finish_refuses can.plan can.limited can.key can.nonce can.aad can.text (can.text ++ slice) signature ends)
