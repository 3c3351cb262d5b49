-- Which histories are legal.
use Rattle.std.specs.Prelude.{◌≡◌, ◌<◌, ◌≤◌, ◌⊎◌, ℕ, Bool, true, false, not, ◌||◌, List, [], ◌∷◌, Option, Some, None, is_some, length, IsTrue}
use Rattle.tags.specs.declared.code.Code.{Code}
use Rattle.tags.specs.declared.code.Code.TheVariants.{MemoryAllocationFailed, EntropyFault, SystemError, ValueCorrupted}
use Rattle.tags.specs.declared.settled.Settled.{Settled}
use Rattle.rule_model.specs.declared.entry.Entry.TheVariants.{Acted, Settling}
use Rattle.rule_model.specs.declared.event.Act.{Act}
use Rattle.rule_model.specs.declared.event.Event.{Event}
use Rattle.rule_model.specs.declared.reply.Reply.{Reply}
use Rattle.rule_model.specs.declared.reply.Reply.TheVariants.{Stopped}
use Rattle.rule_model.specs.Acts.{fixed_for, is_restart}
use Rattle.rule_model.specs.Answer.{answer}
use Rattle.rule_model.specs.Drawn.{size_of, wanted}
use Rattle.rule_model.specs.Entries.{History, after_settling, is_done}
use Rattle.rule_model.specs.Settling.{is_unsettled}
use Rattle.rule_model.specs.Setup.{Setup}
use Rattle.rule_model.specs.Stored.{change_by}

-- no faulted change waits to be settled
abbrev pub is_settled : History → Bool
is_settled past = not (is_unsettled past)

-- an act that settles nothing comes also where one waits
abbrev pub is_ready : History → Act → Bool
is_ready past act = is_settled past || not (fixed_for act).settles

-- an entry with the answer of the rules, and as many bytes as are wanted
pub record IsAnswered (setup : Setup) (past : History) (event : Event) (drawn : List ℕ) (reply : Reply) : Type 0 where
  pub ready : IsTrue (is_ready past event.act)
  pub drew : length drawn ≡ size_of (wanted setup past event)
  pub is_answer : reply ≡ answer setup past event drawn

-- An entry of an event that was given up for want of memory; nothing is changed by it, and what was drawn is thrown away. Where
-- a change waits to be settled nothing was drawn.
pub record IsWithoutMemory (setup : Setup) (past : History) (event : Event) (drawn : List ℕ) (reply : Reply) : Type 0 where
  pub ready : (drawn ≡ []) ⊎ IsTrue (is_settled past)
  pub drew : length drawn ≤ size_of (wanted setup past event)
  pub takes : IsTrue (fixed_for event.act).takes_memory
  pub is_want : reply ≡ Stopped MemoryAllocationFailed

-- an entry of an event whose draw failed; nothing is changed by it, and what was drawn before is thrown away
pub record IsWithoutEntropy (setup : Setup) (past : History) (event : Event) (drawn : List ℕ) (reply : Reply) : Type 0 where
  pub ready : IsTrue (is_settled past)
  pub drew : length drawn < size_of (wanted setup past event)
  pub is_fault : reply ≡ Stopped EntropyFault

-- an entry of an event that the rules admit with a change of what lasts, and whose change a failed device call left open
pub record IsFaulted (setup : Setup) (past : History) (event : Event) (drawn : List ℕ) (reply : Reply) : Type 0 where
  pub ready : IsTrue (is_settled past)
  pub drew : length drawn ≡ size_of (wanted setup past event)
  pub admitted : is_done (answer setup past event drawn) ≡ true
  pub writes : is_some (change_by setup past event drawn) ≡ true
  pub is_fault : reply ≡ Stopped SystemError

-- an entry of an event whose act settles first, where a device call of the settling failed; the act is not made, and the change
-- that waited waits still
pub record IsNotSettled (past : History) (event : Event) (drawn : List ℕ) (reply : Reply) : Type 0 where
  pub waits : IsTrue (is_unsettled past)
  pub settles : IsTrue (fixed_for event.act).settles
  pub drew : drawn ≡ []
  pub is_fault : reply ≡ Stopped SystemError

-- the two replies to a restart that has not happened: a device call failed, or what was read is not what is kept
abbrev pub is_restart_refusal : Code → Bool
is_restart_refusal SystemError = true
is_restart_refusal ValueCorrupted = true
is_restart_refusal _ = false

-- an entry of a restart that has not happened; nothing is changed by it
pub record IsNotRestarted (past : History) (event : Event) (drawn : List ℕ) (code : Code) (reply : Reply) : Type 0 where
  pub ready : IsTrue (is_settled past)
  pub drew : drawn ≡ []
  pub restarts : IsTrue (is_restart event.act)
  pub refusal : IsTrue (is_restart_refusal code)
  pub is_refusal : reply ≡ Stopped code

-- the kinds of entry that may follow a history
pub data MayFollow (setup : Setup) (past : History) (event : Event) (drawn : List ℕ) (reply : Reply) : Type 0 where
  Answered : IsAnswered setup past event drawn reply → MayFollow setup past event drawn reply
  WithoutMemory : IsWithoutMemory setup past event drawn reply → MayFollow setup past event drawn reply
  WithoutEntropy : IsWithoutEntropy setup past event drawn reply → MayFollow setup past event drawn reply
  Faulted : IsFaulted setup past event drawn reply → MayFollow setup past event drawn reply
  NotSettled : IsNotSettled past event drawn reply → MayFollow setup past event drawn reply
  NotRestarted : (code : Code) → IsNotRestarted past event drawn code reply → MayFollow setup past event drawn reply

-- An earlier change may be settled where one waits for that and the entry after the settling, that of the same step, is of
-- an act that settles first. So no settling stands alone, and none after another.
pub record MaySettle (past : History) (event : Event) : Type 0 where
  pub waits : IsTrue (is_unsettled past)
  pub settles : IsTrue (fixed_for event.act).settles

-- a settling stands before an event of the same step, and is not the last entry
abbrev pub MaySettleBefore : History → Option Event → Type 0
MaySettleBefore past None = ⊥
MaySettleBefore past (Some event) = MaySettle past event

-- the entries may follow those before them, where this event stands after the last of them
abbrev pub LegalBefore : Setup → Option Event → History → Type 0
LegalBefore setup next [] = Unit {0}
LegalBefore setup next (Settling settled ∷ past) = MaySettleBefore past next × LegalBefore setup None past
LegalBefore setup next (Acted event drawn reply ∷ past) = MayFollow setup past event drawn reply × LegalBefore setup (Some event) past

-- a history is legal where each entry may follow those before it, and each settling has its step's entry after it
abbrev pub Legal : Setup → History → Type 0
Legal setup past = LegalBefore setup None past

-- a step may follow a history: what it settles may be settled, and its entry may follow that
abbrev pub MaySettleFirst : Option Settled → History → Event → Type 0
MaySettleFirst None past event = Unit {0}
MaySettleFirst (Some settled) past event = MaySettle past event

-- a step: an earlier change is settled where that is due, and the event follows
pub record MayStep (setup : Setup) (past : History) (settled : Option Settled) (event : Event) (drawn : List ℕ) (reply : Reply) : Type 0 where
  pub settles : MaySettleFirst settled past event
  pub follows : MayFollow setup (after_settling settled past) event drawn reply
