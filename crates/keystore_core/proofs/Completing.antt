-- A step in which no call of the disk or of the entropy failed.
use Rattle.std.proofs.Common.{◌≡◌, inl, inr, ℕ, Bool, true, false, List, IsTrue, refl, subst, arith}
use Rattle.tags.specs.declared.code.Code.{Code}
use Rattle.tags.specs.declared.code.Code.TheVariants.{SystemError, ValueCorrupted}
use Rattle.ks_outside.specs.Faults.{CountsFaults, Rises}
use Rattle.rule_model.specs.declared.event.Event.{Event}
use Rattle.rule_model.specs.declared.reply.Reply.{Reply}
use Rattle.rule_model.specs.declared.reply.Reply.TheVariants.{Stopped}
use Rattle.rule_model.specs.Acts.{is_restart}
use Rattle.rule_model.specs.Drawn.{is_entropy_fault}
use Rattle.rule_model.specs.Entries.{History}
use Rattle.rule_model.specs.Legal.{MayFollow, Answered, WithoutMemory, WithoutEntropy, Faulted, NotSettled, NotRestarted, is_restart_refusal}
use Rattle.rule_model.specs.Settling.{is_disk_fault}
use Rattle.rule_model.specs.Setup.{Setup}
use Rattle.keystore_core.specs.Complete.{ByRules, Estranged, GivesAnswer, HasNoFault, Wanting}

pub none_rose : (before now : ℕ) → HasNoFault before now → Rises before now → ⊥
none_rose before now fine (inl rose) = omega (arith, rose, fine.same)
none_rose before now fine (inr most) = omega (arith, most.0, fine.same, fine.below)

pub none_failed : (before now : ℕ) (failed : Bool) → HasNoFault before now → CountsFaults before now failed → failed ≡ false
none_failed before now true fine counts = absurd (none_rose before now fine (counts.rises refl))
none_failed before now false fine counts = refl

-- a restart that has not happened, and was not stopped by a failed call
refused : (setup : Setup) (past : History) (event : Event) (drawn : List ℕ) (code : Code) (reply : Reply) → is_restart event.act ≡ true → IsTrue (is_restart_refusal code) → reply ≡ Stopped code → is_disk_fault reply ≡ false → GivesAnswer setup past event drawn reply
refused setup past event drawn SystemError reply restarts refusal is disk = let no : is_disk_fault (Stopped SystemError) ≡ false = subst (λ r. is_disk_fault r ≡ false) is disk in cc
refused setup past event drawn ValueCorrupted reply restarts refusal is disk = Estranged restarts is
refused setup past event drawn _ reply restarts refusal is disk = cc

pub gives_answer : (setup : Setup) (past : History) (event : Event) (drawn : List ℕ) (reply : Reply) → MayFollow setup past event drawn reply → is_disk_fault reply ≡ false → is_entropy_fault reply ≡ false → GivesAnswer setup past event drawn reply
gives_answer setup past event drawn reply (Answered is) disk entropy = ByRules is.drew is.is_answer
gives_answer setup past event drawn reply (WithoutMemory is) disk entropy = Wanting is.takes is.is_want
gives_answer setup past event drawn reply (WithoutEntropy is) disk entropy = let no = subst (λ r. is_entropy_fault r ≡ false) is.is_fault entropy in cc
gives_answer setup past event drawn reply (Faulted is) disk entropy = let no = subst (λ r. is_disk_fault r ≡ false) is.is_fault disk in cc
gives_answer setup past event drawn reply (NotSettled is) disk entropy = let no = subst (λ r. is_disk_fault r ≡ false) is.is_fault disk in cc
gives_answer setup past event drawn reply (NotRestarted code is) disk entropy = refused setup past event drawn code reply is.restarts is.refusal is.is_refusal disk
