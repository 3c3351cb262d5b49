-- What a job stands for, and what it comes back with.
use Rattle.std.specs.Prelude.{◌≡◌, ℕ, ◌≤◌, Bool, true, false, List, [], ◌++◌, length, Option, Some, None, ⊤}
use Rattle.tags.specs.declared.plan.Plan.{Plan}
use Rattle.tags.specs.Plan.{may_end, takes_aad}
use Rattle.cipher_ops.specs.declared.room.Work.{Work}
use Rattle.cipher_ops.specs.declared.room.Work.TheVariants.{Aad, Text, Last}
use Rattle.cipher_ops.specs.declared.room.JobRoom.{JobRoom}
use Rattle.cipher_ops.specs.declared.state.CipherState.{CipherState}
use Rattle.cipher_ops.specs.Sizes.{job_room}
use Rattle.cipher_ops.specs.Standing.{StandsFor}

-- the room for this work on an operation of this plan and flag that has taken so many bytes of text
pub record IsRoom (room : JobRoom) (plan : Plan) (limited : Bool) (size : ℕ) (work : Work) : Type 0 where
  pub work_is : room.work ≡ work
  pub enough : job_room plan limited size work ≤ length room.out.items
  pub nothing_is : room.nothing ≡ []

-- the work may come: additional data where the plan takes it and before any byte of text, the last only where the whole text has
-- a length that the plan allows
abbrev pub MayCome : Plan → List ℕ → Work → Type 0
MayCome plan text (Aad input) = (takes_aad plan ≡ true) × (text ≡ [])
MayCome plan text (Text input) = ⊤
MayCome plan text (Last input signature) = may_end plan (length (text ++ input)) ≡ true

-- the state and the room stand for an operation and a work that may come
pub record CanRun (state : CipherState) (room : JobRoom) : Type 0 where
  pub plan : Plan
  pub limited : Bool
  pub key : List ℕ
  pub nonce : List ℕ
  pub aad : List ℕ
  pub text : List ℕ
  pub work : Work
  pub stands : StandsFor state plan limited key nonce aad text
  pub fits : IsRoom room plan limited (length text) work
  pub may : MayCome plan text work

-- the state of an operation that goes on
abbrev pub GoesOn : Option CipherState → Plan → Bool → (key nonce aad text : List ℕ) → Type 0
GoesOn None plan limited key nonce aad text = ⊥
GoesOn (Some state) plan limited key nonce aad text = StandsFor state plan limited key nonce aad text

-- what is kept after a work: the state, but after the last nothing
abbrev pub is_last : Work → Bool
is_last (Last input signature) = true
is_last _ = false
