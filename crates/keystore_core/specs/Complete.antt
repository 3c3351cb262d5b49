-- What a step gives where no call of the disk or of the entropy failed in it.
use Rattle.std.specs.Prelude.{◌≡◌, ◌<◌, ◌-◌, ◌^◌, ℕ, true, List, length, IsTrue}
use Rattle.tags.specs.declared.code.Code.TheVariants.{MemoryAllocationFailed, ValueCorrupted}
use Rattle.rule_model.specs.declared.event.Event.{Event}
use Rattle.rule_model.specs.declared.reply.Reply.{Reply}
use Rattle.rule_model.specs.declared.reply.Reply.TheVariants.{Stopped}
use Rattle.rule_model.specs.Acts.{fixed_for, is_restart}
use Rattle.rule_model.specs.Answer.{answer}
use Rattle.rule_model.specs.Drawn.{size_of, wanted}
use Rattle.rule_model.specs.Entries.{History}
use Rattle.rule_model.specs.Setup.{Setup}

-- no call failed between two moments: a count of faults stayed, below its greatest value
pub record HasNoFault (before now : ℕ) : Type 0 where
  pub same : now ≡ before
  pub below : now < 2 ^ 64 - 1

-- The answer of the rules, with as many drawn bytes as are wanted; or want of memory, of an act that takes some; or, of a restart
-- alone, that another store was read.
pub data GivesAnswer (setup : Setup) (past : History) (event : Event) (drawn : List ℕ) (reply : Reply) : Type 0 where
  ByRules : length drawn ≡ size_of (wanted setup past event) → reply ≡ answer setup past event drawn → GivesAnswer setup past event drawn reply
  Wanting : IsTrue (fixed_for event.act).takes_memory → reply ≡ Stopped MemoryAllocationFailed → GivesAnswer setup past event drawn reply
  Estranged : is_restart event.act ≡ true → reply ≡ Stopped ValueCorrupted → GivesAnswer setup past event drawn reply
