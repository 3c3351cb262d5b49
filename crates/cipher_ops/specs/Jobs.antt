-- The job and what it comes back with.
use Rattle.std.specs.Prelude.{◌≡◌, ℕ, Bool, true, false, List, [], ◌++◌, length, None, Ok}
use Rattle.tags.specs.declared.plan.Plan.{Plan}
use Rattle.tags.specs.declared.code.Code.{Code}
use Rattle.tags.specs.declared.code.Code.TheVariants.{VerificationFailed, InvalidKeyArgument}
use Rattle.cipher_ops.specs.declared.room.Work.{Work}
use Rattle.cipher_ops.specs.declared.room.Work.TheVariants.{Aad, Text, Last}
use Rattle.cipher_ops.specs.declared.job.Job.{Job}
use Rattle.cipher_ops.specs.declared.job.Done.{Done}
use Rattle.cipher_ops.specs.Output.{update_output, finish_output}
use Rattle.cipher_ops.specs.Standing.{StandsFor}
use Rattle.cipher_ops.specs.Running.{IsRoom, MayCome, GoesOn}

-- The job is this work on an operation that has taken this additional data and this text.
pub record JobFor (job : Job) (plan : Plan) (limited : Bool) (key nonce aad text : List ℕ) (work : Work) : Type 0 where
  pub stands : StandsFor job.state plan limited key nonce aad text
  pub room : IsRoom job.room plan limited (length text) work
  pub may : MayCome plan text work

abbrev pub ticket_of : Job → ℕ
ticket_of job = job.ticket

abbrev pub work_of : Job → Work
work_of job = job.room.work

-- What a work comes back with: nothing for additional data, the bytes from front to front for text, and for the last
-- the rest of all output, or the code; and the operation goes on with what it took, but after the last there is none.
abbrev pub ComesTo : Done → Plan → Bool → (key nonce aad text : List ℕ) → Work → Type 0
ComesTo done plan limited key nonce aad text (Aad input) =
    (done.result ≡ Ok []) × GoesOn done.state plan limited key nonce (aad ++ input) text
ComesTo done plan limited key nonce aad text (Text input) =
    (done.result ≡ Ok (update_output plan limited key nonce text (text ++ input))) × GoesOn done.state plan limited key nonce aad (text ++ input)
ComesTo done plan limited key nonce aad text (Last input signature) =
    (done.result ≡ finish_output plan limited key nonce aad text (text ++ input) signature) × (done.state ≡ None)

-- the codes with which an output is refused: a tag or mac that does not match, and a padding that is none
abbrev pub is_refusal : Code → Bool
is_refusal VerificationFailed = true
is_refusal InvalidKeyArgument = true
is_refusal _ = false
