-- The bytes that a call drew.
use Rattle.std.specs.Prelude.{◌≡◌, ℕ, false, List, [], length, Result, Ok, Err}
use Rattle.tags.specs.declared.bytes.NoMemory.{NoMemory}
use Rattle.ks_outside.specs.Shown.{Drew}
use Rattle.ks_outside.specs.declared.entropy.Entropy.{Ghosts}
use Rattle.rule_model.specs.Drawn.{is_entropy_fault}
use Rattle.keystore_core.specs.declared.answered.Answered.{Answered}
use Rattle.keystore_core.specs.declared.draw_room.DrawRoom.{DrawRoom}

-- how many bytes the room is for
abbrev pub pieces_in : DrawRoom → ℕ
pieces_in room = length room.bytes.items

-- all the bytes that were wanted, or those that were drawn before a draw failed
abbrev pub bytes_of : Result (List ℕ) (List ℕ) → List ℕ
bytes_of (Ok bytes) = bytes
bytes_of (Err bytes) = bytes

-- the entropy gave the bytes of an answer, and a draw failed exactly where the answer says so
abbrev pub DrewFor : {N : Type 0} → Ghosts N → N → N → Answered → Type 0
DrewFor g old new answered = Drew g old new answered.drawn (is_entropy_fault answered.reply)

-- the same of an answer, or of a call that was given up with nothing drawn
abbrev pub DrewForResult : {N : Type 0} → Ghosts N → N → N → Result Answered NoMemory → Type 0
DrewForResult g old new (Ok answered) = DrewFor g old new answered
DrewForResult g old new (Err fault) = Drew g old new [] false

-- nothing was drawn for an answer, and no draw failed
pub record IsUndrawn (answered : Answered) : Type 0 where
  pub nothing : answered.drawn ≡ []
  pub no_fault : is_entropy_fault answered.reply ≡ false
