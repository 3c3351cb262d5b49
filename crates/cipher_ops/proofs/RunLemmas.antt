-- What a job that can run has for its work.
use Rattle.std.proofs.Common.{◌≡◌, ℕ, ◌+◌, ◌≤◌, true, List, [], length, sym, ◌∙◌, subst, arith}
use Rattle.std.specs.Prelude.{Option}
use Rattle.tags.specs.declared.plan.Plan.{Plan}
use Rattle.tags.specs.declared.plan.Plan.TheVariants.{Ecb, Cbc, Ctr, Gcm, HmacSign, HmacVerify}
use Rattle.block_modes.specs.Output.{is_served}
use Rattle.cipher_ops.specs.declared.transform.Transform.{Transform}
use Rattle.cipher_ops.specs.declared.transform.Transform.TheVariants.{Modes, Seal, Open, Sign, Verify}
use Rattle.cipher_ops.specs.declared.room.Work.{Work}
use Rattle.cipher_ops.specs.declared.room.Work.TheVariants.{Aad, Text, Last}
use Rattle.cipher_ops.specs.declared.room.JobRoom.{JobRoom}
use Rattle.cipher_ops.specs.declared.state.CipherState.{CipherState}
use Rattle.cipher_ops.specs.Sizes.{job_room, piece_room, end_room, taken}
use Rattle.cipher_ops.specs.Standing.{TransformIs, TakesAad, CanTake, CanComplete}
use Rattle.tags.specs.Plan.{takes_aad}
use Rattle.cipher_ops.specs.Running.{CanRun, MayCome}
use Rattle.cipher_ops.proofs.Rooms.{can_take, can_complete}

not_both : (plan : Plan) → is_served plan ≡ true → takes_aad plan ≡ true → ⊥
not_both (Ecb seal padded) served gcm = cc
not_both (Cbc seal padded) served gcm = cc
not_both Ctr served gcm = cc
not_both (Gcm seal tag) served gcm = cc
not_both (HmacSign digest size) served gcm = cc
not_both (HmacVerify digest least) served gcm = cc

may_take : (transform : Transform) (plan : Plan) (key nonce aad text : List ℕ) → TransformIs transform plan key nonce aad text → takes_aad plan ≡ true → text ≡ [] → TakesAad transform
may_take (Modes blocks) plan key nonce aad text is gcm none = not_both plan is.going.served gcm
may_take (Seal seal) plan key nonce aad text is gcm none = is.seals.untouched none
may_take (Open opening) plan key nonce aad text is gcm none = is.opens.untouched none
may_take (Sign mac size) plan key nonce aad text is gcm none = (let e = rw is.plan_is at gcm in cc)
may_take (Verify mac least) plan key nonce aad text is gcm none = (let e = rw is.plan_is at gcm in cc)

pub run_aad : (state : CipherState) (room : JobRoom) (input : List ℕ) → room.work ≡ Aad input → CanRun state room → TakesAad state.transform.value
run_aad state room input work can =
    let may : MayCome can.plan can.text (Aad input) = subst (λ (w : Work). MayCome can.plan can.text w) (sym can.fits.work_is ∙ work) can.may in
    may_take state.transform.value can.plan can.key can.nonce can.aad can.text can.stands.transform.transform_is may.0 may.1

room_is : (state : CipherState) (room : JobRoom) (work : Work) → room.work ≡ work → (can : CanRun state room) → job_room can.plan can.limited (length can.text) work ≤ length room.out.items
room_is state room work is can = subst (λ (w : Work). job_room can.plan can.limited (length can.text) w ≤ length room.out.items) (sym can.fits.work_is ∙ is) can.fits.enough

pub run_text : (state : CipherState) (room : JobRoom) (input bytes : List ℕ) → room.work ≡ Text input → bytes ≡ input → CanRun state room
    → CanTake state (length bytes) (length room.out.items)
run_text state room input bytes work same can =
    rw same (can_take state can.plan can.limited can.key can.nonce can.aad can.text (length input) (length room.out.items) can.stands (room_is state room (Text input) work can))

pub run_last : (state : CipherState) (room : JobRoom) (input bytes : List ℕ) (signature : Option (List ℕ)) → room.work ≡ Last input signature → bytes ≡ input → CanRun state room
    → CanTake state (length bytes) (length room.out.items)
run_last state room input bytes signature work same can =
    let enough : piece_room can.plan (taken can.limited (length can.text) (length input)) + end_room can.plan ≤ length room.out.items = room_is state room (Last input signature) work can in
    rw same (can_take state can.plan can.limited can.key can.nonce can.aad can.text (length input) (length room.out.items) can.stands (omega arith))

pub run_end : (state : CipherState) (room : JobRoom) (input bytes : List ℕ) (signature : Option (List ℕ)) → room.work ≡ Last input signature → bytes ≡ input → CanRun state room
    → CanComplete state.transform.value bytes (length state.held) (length room.out.items)
run_end state room input bytes signature work same can =
    let may : MayCome can.plan can.text (Last input signature) = subst (λ (w : Work). MayCome can.plan can.text w) (sym can.fits.work_is ∙ work) can.may in
    rw same (can_complete state can.plan can.limited can.key can.nonce can.aad can.text input (length room.out.items) can.stands may (room_is state room (Last input signature) work can))
