-- What an entry answers where no device failed in its step.
use Rattle.std.specs.Prelude.{◌≡◌, ◌⊎◌, ◌<◌, ◌^◌, ◌-◌, false, List, [], ◌∷◌}
use Rattle.tags.specs.declared.code.Code.TheVariants.{MemoryAllocationFailed}
use Rattle.rule_model.specs.declared.entry.Entry.{Entry}
use Rattle.rule_model.specs.declared.entry.Entry.TheVariants.{Acted, Settling}
use Rattle.rule_model.specs.declared.reply.Reply.TheVariants.{Stopped}
use Rattle.rule_model.specs.Acts.{is_restart}
use Rattle.rule_model.specs.Entries.{History}
use Rattle.rule_model.specs.Legal.{IsAnswered}
use Rattle.rule_model.specs.Setup.{Setup}
use Rattle.service_book.specs.declared.entry.BookEntry.{BookEntry}
use Rattle.service_book.specs.Book.{history_of}

-- the counts of faults stayed, below the greatest
pub record IsCalm (e : BookEntry) : Type 0 where
  pub disk : e.disk_after ≡ e.disk_before
  pub entropy : e.entropy_after ≡ e.entropy_before
  pub disk_below : e.disk_before < 2 ^ 64 - 1
  pub entropy_below : e.entropy_before < 2 ^ 64 - 1

-- the answer of the rules, or want of memory; no call makes a restart
abbrev pub IsAnswer : Setup → History → Entry → Type 0
IsAnswer setup past (Settling settled) = Unit {0}
IsAnswer setup past (Acted event drawn reply) = is_restart event.act ≡ false → IsAnswered setup past event drawn reply ⊎ (reply ≡ Stopped MemoryAllocationFailed)

-- each entry in whose step no device failed has the answer of the rules over those before it, or is for want of memory
abbrev pub AreAnswers : Setup → List BookEntry → Type 0
AreAnswers setup [] = Unit {0}
AreAnswers setup (e ∷ log) = (IsCalm e → IsAnswer setup (history_of log) e.entry) × AreAnswers setup log
