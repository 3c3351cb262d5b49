-- What the state of an operation stands for.
use Rattle.std.specs.Prelude.{◌≡◌, ℕ, ◌+◌, ◌-◌, ◌≤◌, Bool, true, false, List, [], ◌++◌, length, take, Result, MatchResult, Ok, Err, ⊤}
use Rattle.tags.specs.declared.plan.Plan.{Plan}
use Rattle.tags.specs.declared.plan.Plan.TheVariants.{Gcm, HmacSign, HmacVerify}
use Rattle.tags.specs.declared.code.Code.{Code}
use Rattle.tags.specs.Plan.{may_end}
use Rattle.aes_core.specs.Cipher.{cipher, inverse_cipher}
use Rattle.aes_wide.specs.WideKey.{wide_key_of}
use Rattle.aes_wide.specs.declared.wide_aes.WideAes.{WideAes}
use Rattle.block_modes.specs.Holds as modes
use Rattle.gcm_mode.specs.declared.seal.GcmSeal.{GcmSeal}
use Rattle.gcm_mode.specs.declared.open.GcmOpen.{GcmOpen}
use Rattle.gcm_mode.specs.Holds.{Seals, Opens, SealsNoText, OpensNoText, HasTag, tag_size}
use Rattle.hmac_core.specs.declared.mac.Hmac.{Hmac}
use Rattle.hmac_core.specs.Hmac.{digest_size}
use Rattle.hmac_core.specs.State as macs
use Rattle.cipher_ops.specs.declared.transform.Transform.{Transform}
use Rattle.cipher_ops.specs.declared.transform.Transform.TheVariants.{Modes, Seal, Open, Sign, Verify}
use Rattle.cipher_ops.specs.declared.state.CipherState.{CipherState}
use Rattle.cipher_ops.specs.Sizes.{piece_room, end_room}
use Rattle.cipher_ops.specs.Output.{first_block, raw, full_front}

-- AES under a key, and its inverse
abbrev pub aes : WideAes → List ℕ → List ℕ
aes key = cipher (wide_key_of key)

abbrev pub aes_inverse : WideAes → List ℕ → List ℕ
aes_inverse key = inverse_cipher (wide_key_of key)

-- a sealing by GCM that has taken this additional data and this text
pub record IsSeal (state : GcmSeal WideAes) (plan : Plan) (key nonce aad text : List ℕ) : Type 0 where
  pub tag : ℕ
  pub plan_is : plan ≡ Gcm true tag
  pub seals : Seals aes state (cipher key) nonce tag aad text

-- an opening by GCM that has taken this additional data and this text
pub record IsOpen (state : GcmOpen WideAes) (plan : Plan) (key nonce aad text : List ℕ) : Type 0 where
  pub tag : ℕ
  pub plan_is : plan ≡ Gcm false tag
  pub opens : Opens aes state (cipher key) nonce tag aad text

-- a mac to be given that has taken this text
pub record IsSign (mac : Hmac) (size : ℕ) (plan : Plan) (key text : List ℕ) : Type 0 where
  pub digest : ℕ
  pub plan_is : plan ≡ HmacSign digest size
  pub fits : size ≤ digest_size digest
  pub holds : macs.Holds mac digest key text

-- a mac to be compared that has taken this text
pub record IsVerify (mac : Hmac) (least : ℕ) (plan : Plan) (key text : List ℕ) : Type 0 where
  pub digest : ℕ
  pub plan_is : plan ≡ HmacVerify digest least
  pub holds : macs.Holds mac digest key text

abbrev pub TransformIs : Transform → Plan → (key nonce aad text : List ℕ) → Type 0
TransformIs (Modes blocks) plan key nonce aad text =
    modes.Holds aes aes_inverse blocks (cipher key) (inverse_cipher key) plan (first_block plan nonce) text
TransformIs (Seal seal) plan key nonce aad text = IsSeal seal plan key nonce aad text
TransformIs (Open opening) plan key nonce aad text = IsOpen opening plan key nonce aad text
TransformIs (Sign mac size) plan key nonce aad text = IsSign mac size plan key text
TransformIs (Verify mac least) plan key nonce aad text = IsVerify mac least plan key text

-- the bytes that the mode has given after some text
abbrev pub given : Plan → List ℕ → List ℕ → List ℕ → List ℕ
given plan key nonce text = take (full_front plan text) (raw plan key nonce text)

-- The transform has taken this additional data and this text under a plan, a key and a nonce.
pub record Holds (transform : Transform) (plan : Plan) (key nonce aad text : List ℕ) : Type 0 where
  pub transform_is : TransformIs transform plan key nonce aad text
  pub within : length (given plan key nonce text) ≡ full_front plan text

-- what is kept of the output: all of it under a use limit, else nothing
abbrev pub kept : Bool → List ℕ → List ℕ
kept true bytes = bytes
kept false bytes = []

-- The state is that of an operation with this plan under this key and nonce, with all output at its finish where it is
-- limited, which has taken this additional data and this text.
pub record StandsFor (state : CipherState) (plan : Plan) (limited : Bool) (key nonce aad text : List ℕ) : Type 0 where
  pub transform : Holds state.transform.value plan key nonce aad text
  pub limited_is : state.limited ≡ limited
  pub held_is : state.held ≡ kept limited (given plan key nonce text)

-- the transform takes additional data now
abbrev pub TakesAad : Transform → Type 0
TakesAad (Seal seal) = SealsNoText seal
TakesAad (Open opening) = OpensNoText opening
TakesAad _ = ⊥

-- so many bytes are room enough for a piece of this length
abbrev pub HasRoom : Transform → ℕ → ℕ → Type 0
HasRoom (Modes blocks) size room = size + 16 ≤ room
HasRoom (Seal seal) size room = size ≤ room
HasRoom (Open opening) size room = size ≤ room
HasRoom _ size room = ⊤

-- the transform may end, and so many bytes are room enough for that
abbrev pub MayEnd : Transform → ℕ → Type 0
MayEnd (Modes blocks) room = 16 ≤ room
MayEnd (Seal seal) room = tag_size seal ≤ room
MayEnd (Open opening) room = HasTag opening
MayEnd (Sign mac size) room = (size ≤ 64) × (size ≤ room)
MayEnd (Verify mac least) room = ⊤

-- so many bytes are room enough for what is held and for a piece of this length
pub record CanTake (state : CipherState) (size room : ℕ) : Type 0 where
  pub fits : length state.held ≤ room
  pub transform : HasRoom state.transform.value size (room - length state.held)

-- the transform has taken a text of which this is the last piece, and there is room enough behind what is held for that
-- piece and for the end
pub record CanComplete (transform : Transform) (input : List ℕ) (held room : ℕ) : Type 0 where
  pub plan : Plan
  pub key : List ℕ
  pub nonce : List ℕ
  pub aad : List ℕ
  pub text : List ℕ
  pub holds : Holds transform plan key nonce aad text
  pub may : may_end plan (length (text ++ input)) ≡ true
  pub enough : held + piece_room plan (length input) + end_room plan ≤ room

-- bytes that complete what was given to all output, or why there is none
abbrev pub Ends : Result (List ℕ) Code → List ℕ → Result ℕ Code → List ℕ → Type 0
Ends all before result out = MatchResult result (λ n. all ≡ Ok (before ++ take n out)) (λ code. all ≡ Err code)
