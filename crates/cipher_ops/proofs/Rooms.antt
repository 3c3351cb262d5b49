-- The room that was taken is enough, and the transform may end where the text has a length that its plan allows.
use Rattle.std.proofs.Common.{◌≡◌, ℕ, ◌+◌, ◌-◌, ◌≤◌, Bool, true, false, if◌then◌else◌, ◌==◌, List, [], ◌++◌, length, refl, ap, ◌∙◌, arith, nat_le}
use Rattle.std.proofs.lemmas.Bool.{leb-true}
use Rattle.std.proofs.Math.Bridge.{le_prop}
use Rattle.std.proofs.Props.{props}
use Rattle.std.specs.Coded.{coded_bool}
use denote.Struct.Props.{≡_prop}
use Rattle.tags.specs.declared.plan.Plan.{Plan}
use Rattle.tags.specs.declared.plan.Plan.TheVariants.{Ecb, Cbc, Ctr, Gcm, HmacSign, HmacVerify}
use Rattle.block_modes.specs.Output.{is_served}
use Rattle.gcm_mode.specs.Holds.{tag_size}
use Rattle.hmac_core.specs.Hmac.{digest_size}
use Rattle.cipher_ops.specs.declared.transform.Transform.{Transform}
use Rattle.cipher_ops.specs.declared.transform.Transform.TheVariants.{Modes, Seal, Open, Sign, Verify}
use Rattle.cipher_ops.specs.declared.state.CipherState.{CipherState}
use Rattle.tags.specs.Plan.{may_end}
use Rattle.cipher_ops.specs.Output.{full_front}
use Rattle.cipher_ops.specs.Sizes.{piece_room, end_room, taken}
use Rattle.cipher_ops.specs.Standing.{TransformIs, given, kept, StandsFor, TakesAad, HasRoom, CanTake, MayEnd, CanComplete}
use Rattle.cipher_ops.proofs.GivenLemmas.{front_within}

served_piece : (plan : Plan) (size : ℕ) → is_served plan ≡ true → piece_room plan size ≡ size + 16
served_piece (Ecb seal padded) size served = refl
served_piece (Cbc seal padded) size served = refl
served_piece Ctr size served = refl
served_piece (Gcm seal tag) size served = cc
served_piece (HmacSign digest mac) size served = cc
served_piece (HmacVerify digest least) size served = cc

served_end : (plan : Plan) → is_served plan ≡ true → end_room plan ≡ 16
served_end (Ecb seal padded) served = refl
served_end (Cbc seal padded) served = refl
served_end Ctr served = refl
served_end (Gcm seal tag) served = cc
served_end (HmacSign digest mac) served = cc
served_end (HmacVerify digest least) served = cc

pub has_room : (transform : Transform) (plan : Plan) (key nonce aad text : List ℕ) (size room : ℕ) → TransformIs transform plan key nonce aad text → piece_room plan size ≤ room → HasRoom transform size room
has_room (Modes blocks) plan key nonce aad text size room is enough = rw (served_piece plan size is.going.served) at enough
has_room (Seal seal) plan key nonce aad text size room is enough = rw is.plan_is at enough
has_room (Open opening) plan key nonce aad text size room is enough = rw is.plan_is at enough
has_room (Sign mac n) plan key nonce aad text size room is enough = tt
has_room (Verify mac least) plan key nonce aad text size room is enough = tt

digests : (a b c : Bool) → (if a then 28 else if b then 32 else if c then 48 else 64) ≤ 64
digests true b c = omega arith
digests false true c = omega arith
digests false false true = omega arith
digests false false false = omega arith

digest_within : (digest : ℕ) → digest_size digest ≤ 64
digest_within digest = digests (digest == 3) (digest == 4) (digest == 5)

pub may_end_now : (transform : Transform) (plan : Plan) (key nonce aad text : List ℕ) (room : ℕ) → TransformIs transform plan key nonce aad text
    → may_end plan (length text) ≡ true → end_room plan ≤ room → MayEnd transform room
may_end_now (Modes blocks) plan key nonce aad text room is may enough = rw (served_end plan is.going.served) at enough
may_end_now (Seal seal) plan key nonce aad text room is may enough = rw is.seals.tag_is (rw is.plan_is at enough)
may_end_now (Open opening) plan key nonce aad text room is may enough =
    let whole : nat_le is.tag (length text) ≡ true = rw is.plan_is at may in
    is.opens.whole (leb-true is.tag (length text) whole)
may_end_now (Sign mac size) plan key nonce aad text room is may enough =
    let most : size ≤ digest_size is.digest = is.fits in
    let fits : size ≤ room = rw is.plan_is at enough in
    (omega (arith, digest_within is.digest), fits)
may_end_now (Verify mac least) plan key nonce aad text room is may enough = tt

-- behind what is held there is room for the next piece
room_left : (plan : Plan) (text : List ℕ) (size : ℕ) → full_front plan text + piece_room plan size ≤ piece_room plan (length text + size)
unfolding full_front
room_left (Ecb seal padded) text size = omega (arith, front_within (Ecb seal padded) text)
room_left (Cbc seal padded) text size = omega (arith, front_within (Cbc seal padded) text)
room_left Ctr text size = omega (arith, front_within Ctr text)
room_left (Gcm seal tag) text size = omega (arith, front_within (Gcm seal tag) text)
room_left (HmacSign digest mac) text size = omega arith
room_left (HmacVerify digest least) text size = omega arith

held_left : (limited : Bool) (plan : Plan) (key nonce text held : List ℕ) (size : ℕ) → held ≡ kept limited (given plan key nonce text)
    → length (given plan key nonce text) ≡ full_front plan text → length held + piece_room plan size ≤ piece_room plan (taken limited (length text) size)
held_left true plan key nonce text held size held_is within =
    let count : length held ≡ full_front plan text = ap length held_is ∙ within in
    omega (arith, room_left plan text size)
held_left false plan key nonce text held size held_is within =
    let count : length held ≡ 0 = ap length held_is in
    omega arith

pub can_take : (state : CipherState) (plan : Plan) (limited : Bool) (key nonce aad text : List ℕ) (size room : ℕ) → StandsFor state plan limited key nonce aad text
    → piece_room plan (taken limited (length text) size) ≤ room → CanTake state size room
can_take state plan limited key nonce aad text size room stands enough =
    let left = held_left limited plan key nonce text state.held size stands.held_is stands.transform.within in
    record {
      fits = omega arith;
      transform = has_room state.transform.value plan key nonce aad text size (room - length state.held) stands.transform.transform_is (omega arith);
    }

pub can_complete : (state : CipherState) (plan : Plan) (limited : Bool) (key nonce aad text input : List ℕ) (room : ℕ) → StandsFor state plan limited key nonce aad text
    → may_end plan (length (text ++ input)) ≡ true → piece_room plan (taken limited (length text) (length input)) + end_room plan ≤ room
    → CanComplete state.transform.value input (length state.held) room
can_complete state plan limited key nonce aad text input room stands may enough =
    let left = held_left limited plan key nonce text state.held (length input) stands.held_is stands.transform.within in
    record {
      plan = plan;
      key = key;
      nonce = nonce;
      aad = aad;
      text = text;
      holds = stands.transform;
      may = may;
      enough = omega arith;
    }

pub flag_prop : (b c : Bool) → IsProp (b ≡ c)
flag_prop b c = ≡_prop coded_bool _ _

bytes_prop : (xs ys : List ℕ) → IsProp (xs ≡ ys)
bytes_prop xs ys = hlevel props

pub TakesAad-prop : (transform : Transform) → IsProp (TakesAad transform)
TakesAad-prop (Modes blocks) = hlevel props
TakesAad-prop (Seal seal) = flag_prop seal.hash.has_text false
TakesAad-prop (Open opening) = hlevel (props, flag_prop opening.hash.has_text false, bytes_prop opening.held.bytes [])
TakesAad-prop (Sign mac size) = hlevel props
TakesAad-prop (Verify mac least) = hlevel props

HasRoom-prop : (transform : Transform) (size room : ℕ) → IsProp (HasRoom transform size room)
HasRoom-prop (Modes blocks) size room = le_prop {n = size + 16} {m = room}
HasRoom-prop (Seal seal) size room = le_prop {n = size} {m = room}
HasRoom-prop (Open opening) size room = le_prop {n = size} {m = room}
HasRoom-prop (Sign mac n) size room = hlevel props
HasRoom-prop (Verify mac least) size room = hlevel props

pub CanTake-prop : (state : CipherState) (size room : ℕ) → IsProp (CanTake state size room)
CanTake-prop state size room = hlevel (HasRoom-prop state.transform.value size (room - length state.held), le_prop {n = length state.held} {m = room})

pub MayEnd-prop : (transform : Transform) (room : ℕ) → IsProp (MayEnd transform room)
MayEnd-prop (Modes blocks) room = le_prop {n = 16} {m = room}
MayEnd-prop (Seal seal) room = le_prop {n = tag_size seal} {m = room}
MayEnd-prop (Open opening) room = hlevel props
MayEnd-prop (Sign mac size) room = hlevel (le_prop {n = size} {m = 64}, le_prop {n = size} {m = room})
MayEnd-prop (Verify mac least) room = hlevel props

pub nothing-prop : (bytes : List ℕ) → IsProp (bytes ≡ [])
nothing-prop bytes = bytes_prop bytes []
