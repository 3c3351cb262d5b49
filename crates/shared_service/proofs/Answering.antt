-- Where no device failed in a step, its reply is by the rules or for want of memory.
use Rattle.std.proofs.Common.{◌≡◌, ◌⊎◌, ℕ, ◌<◌, ◌-◌, ◌^◌, false, List, [], ◌∷◌, Option, Some, None, ap, inl, inr, arith}
use Rattle.ks_outside.specs.Faults.{Rises}
use Rattle.tags.specs.declared.code.Code.TheVariants.{MemoryAllocationFailed}
use Rattle.rule_model.specs.declared.entry.Entry.{Entry}
use Rattle.rule_model.specs.declared.entry.Entry.TheVariants.{Acted, Settling}
use Rattle.rule_model.specs.declared.event.Event.{Event}
use Rattle.rule_model.specs.declared.reply.Reply.{Reply}
use Rattle.rule_model.specs.declared.reply.Reply.TheVariants.{Stopped}
use Rattle.rule_model.specs.Acts.{is_restart}
use Rattle.rule_model.specs.Drawn.{is_entropy_fault}
use Rattle.rule_model.specs.Entries.{History}
use Rattle.rule_model.specs.Legal.{IsAnswered, LegalBefore, MayFollow, Answered, WithoutMemory, WithoutEntropy, Faulted, NotSettled, NotRestarted}
use Rattle.rule_model.specs.Settling.{is_disk_fault}
use Rattle.rule_model.specs.Setup.{Setup}
use Rattle.service_book.specs.declared.entry.BookEntry.{BookEntry}
use Rattle.service_book.specs.Book.{Counts, HasCauses, IsCausedLog, IsMadeBy, history_of}
use Rattle.shared_service.specs.Answers.{AreAnswers, IsAnswer, IsCalm}

no_rise : (before now : ℕ) → now ≡ before → before < 2 ^ 64 - 1 → Rises before now → ⊥
no_rise before now same below (inl rose) = omega arith
no_rise before now same below (inr stood) = let at = stood.0 in omega arith

by_kind : (setup : Setup) (past : History) (e : BookEntry) (event : Event) (drawn : List ℕ) (reply : Reply) → IsCalm e → HasCauses e reply → is_restart event.act ≡ false → MayFollow setup past event drawn reply
    → IsAnswered setup past event drawn reply ⊎ (reply ≡ Stopped MemoryAllocationFailed)
by_kind setup past e event drawn reply calm causes goes (Answered is) = inl is
by_kind setup past e event drawn reply calm causes goes (WithoutMemory is) = inr is.is_want
by_kind setup past e event drawn reply calm causes goes (WithoutEntropy is) = absurd (no_rise e.entropy_before e.entropy_after calm.entropy calm.entropy_below (causes.entropy (ap is_entropy_fault is.is_fault)))
by_kind setup past e event drawn reply calm causes goes (Faulted is) = absurd (no_rise e.disk_before e.disk_after calm.disk calm.disk_below (causes.disk (ap is_disk_fault is.is_fault)))
by_kind setup past e event drawn reply calm causes goes (NotSettled is) = absurd (no_rise e.disk_before e.disk_after calm.disk calm.disk_below (causes.disk (ap is_disk_fault is.is_fault)))
by_kind setup past e event drawn reply calm causes goes (NotRestarted code is) = absurd (let yes = is.restarts in cc)

newest_answer : (setup : Setup) (next : Option Event) (e : BookEntry) (entry : Entry) (log : List BookEntry) → LegalBefore setup next (entry ∷ history_of log) → IsMadeBy e entry log → IsCalm e → IsAnswer setup (history_of log) entry
newest_answer setup next e (Settling settled) log legal made calm = tt
newest_answer setup next e (Acted event drawn reply) log legal made calm = λ goes. by_kind setup (history_of log) e event drawn reply calm made.0 goes legal.0

-- what stands before an entry is legal before it
before : (setup : Setup) (next : Option Event) (entry : Entry) (past : History) → LegalBefore setup next (entry ∷ past) → (later : Option Event) × LegalBefore setup later past
before setup next (Settling settled) past legal = (None, legal.1)
before setup next (Acted event drawn reply) past legal = (Some event, legal.1)

pub answers : (setup : Setup) (next : Option Event) (start : Counts) (log : List BookEntry) → LegalBefore setup next (history_of log) → IsCausedLog start log → AreAnswers setup log
answers setup next start [] legal caused = tt
answers setup next start (e ∷ log) legal caused = let older = before setup next e.entry (history_of log) legal in (newest_answer setup next e e.entry log legal caused.0.made, answers setup older.0 start log older.1 caused.1)
