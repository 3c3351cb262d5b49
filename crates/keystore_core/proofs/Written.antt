-- What an act does to the store: the keys after it, and how what is known of the disk goes on.
use Rattle.journal_records.specs.LastingPart.{Lasting}
use Rattle.key_database.specs.Adding.{KeepsSurely, Nothing, StepsSurely, records_at}
use Rattle.journal_compact.specs.Holding.{place_of}
use Rattle.journal_compact.specs.declared.areas.Areas.{Areas}
use Rattle.std.proofs.Common.{◌≡◌, ℕ, Bool, false, List, [], ◌∷◌, length, Option, Some, None, refl, sym, ap, ◌∙◌, subst}
use Rattle.std.specs.Prelude.{is_some}
use Rattle.tags.specs.declared.code.Code.{Code}
use Rattle.tags.specs.declared.code.Code.TheVariants.{SystemError}
use Rattle.ks_outside.specs.declared.disk.Disk.{Ghosts}
use Rattle.ks_outside.specs.Images.{Goes}
use Rattle.ks_outside.proofs.Goings.{goes_none}
use Rattle.ks_outside.proofs.Joins.{passes_none}
use Rattle.journal_records.specs.declared.change.Change.{Change}
use Rattle.journal_records.specs.Effects.{after}
use Rattle.journal_records.specs.Holding.{Holding, known}
use Rattle.key_database.specs.declared.database.KeyDatabase.{KeyDatabase}
use Rattle.key_database.specs.Stands.{Holds, SameStore, lasting, areas_of}
use Rattle.key_database.specs.Store.{Between}
use Rattle.key_database.proofs.Rereading.{same_holds}
use Rattle.keystore_core.proofs.SameStores.{same_twice}
use Rattle.rule_model.specs.declared.entry.Entry.TheVariants.{Acted}
use Rattle.rule_model.specs.declared.event.Act.{Act}
use Rattle.rule_model.specs.declared.event.Act.TheVariants.{EnterFinish}
use Rattle.rule_model.specs.declared.event.Event.{Event}
use Rattle.rule_model.specs.declared.facts.Caller.{Caller}
use Rattle.rule_model.specs.declared.reply.Fields.{Fields}
use Rattle.rule_model.specs.declared.reply.Reply.{Reply}
use Rattle.rule_model.specs.declared.reply.Reply.TheVariants.{Done, Broken, Stopped}
use Rattle.rule_model.specs.Acts.{is_restart}
use Rattle.rule_model.specs.Answer.{answer}
use Rattle.rule_model.specs.Drawn.{size_of, wanted}
use Rattle.rule_model.specs.Entries.{History, is_done}
use Rattle.rule_model.specs.Jobs.{HasJob}
use Rattle.rule_model.specs.Legal.{MayFollow, Answered as AnsweredBy, Faulted}
use Rattle.rule_model.specs.Blobs.{root_given}
use Rattle.rule_model.specs.Settling.{is_disk_fault, is_system_error, is_unsettled as waits}
use Rattle.rule_model.specs.Setup.{Setup}
use Rattle.rule_model.specs.Stored.{after_reply, change_by}
use Rattle.rule_model.proofs.Kept.{changes_kept, made_stored, none_changed, torn_stored, unchanged_stored}
use Rattle.keystore_core.specs.declared.answered.Answered.{Answered}
use Rattle.keystore_core.specs.declared.tables.Tables.{Tables}
use Rattle.keystore_core.specs.Keys.{AreSettled, KeysStand}
use Rattle.keystore_core.proofs.KeyTable.{keys_stay, none_waits}
use Rattle.keystore_core.proofs.Ready.{idle_ready, idle_settled}
use Rattle.keystore_core.specs.Writing.{HasMade, IsTorn, IsWritten, IsWrittenIf, LeavesStore, Made, StoreGoes, StoreGoesFor, Torn, change_for, use_by}

-- ---- the keys, and the answer of a change that is written

module _ (setup : Setup) (past : History) (tables : Tables) (middle new : KeyDatabase) (event : Event) (drawn : List ℕ) (change : Change) (fields : Fields) (stands : KeysStand setup tables past)
    (still : SameStore tables.keys middle) (settled : AreSettled tables) (no_restart : is_restart event.act ≡ false) (no_root : (before : List ℕ) → root_given event.act before ≡ before) (is : change_by setup past event drawn ≡ Some change) where
  idle : waits past ≡ false
  idle = sym stands.settled_is ∙ settled

  made_keys : HasMade middle new change → KeysStand setup (record tables { keys = new }) (Acted event drawn (Done fields) ∷ past)
  made_keys made = let later = made_stored setup past event drawn fields change no_root is in record {
    policy_is = stands.policy_is;
    device_is = stands.device_is ∙ sym later.device_is;
    lasting_is = made.lasting_is ∙ ap (λ part. after part change) (still.lasting_is ∙ stands.lasting_is) ∙ sym later.kept_is;
    settled_is = made.settled ∙ sym (later.settled_is ∙ idle);
    waiting = none_waits (Acted event drawn (Done fields) ∷ past) (later.settled_is ∙ idle);
  }

  torn_keys : IsTorn middle new change → KeysStand setup (record tables { keys = new }) (Acted event drawn (Stopped SystemError) ∷ past)
  torn_keys torn = let later = torn_stored setup past event drawn change idle no_restart is in record {
    policy_is = stands.policy_is;
    device_is = stands.device_is ∙ sym later.device_is;
    lasting_is = torn.lasting_is ∙ still.lasting_is ∙ stands.lasting_is ∙ sym later.kept_is;
    settled_is = torn.waits ∙ sym later.waits;
    waiting = λ waiting. (
      change,
      record {
        pending_is = torn.pending_is;
        made_is = ap (λ part. after part change) (torn.lasting_is ∙ still.lasting_is ∙ stands.lasting_is) ∙ sym later.made_kept;
        lost_is = torn.lasting_is ∙ still.lasting_is ∙ stands.lasting_is ∙ sym later.lost_kept;
      },
    );
  }

  pub written_keys : (reply : Reply) → IsWritten middle new change fields reply → KeysStand setup (record tables { keys = new }) (Acted event drawn reply ∷ past)
  written_keys reply (Made made e) = subst (λ r. KeysStand setup (record tables { keys = new }) (Acted event drawn r ∷ past)) (sym e) (made_keys made)
  written_keys reply (Torn torn e) = subst (λ r. KeysStand setup (record tables { keys = new }) (Acted event drawn r ∷ past)) (sym e) (torn_keys torn)

  pub written_follows : (reply : Reply) → length drawn ≡ size_of (wanted setup past event) → answer setup past event drawn ≡ Done fields
      → IsWritten middle new change fields reply → MayFollow setup past event drawn reply
  written_follows reply drew told (Made made e) =
      AnsweredBy (record { ready = idle_ready past event.act idle; drew = drew; is_answer = e ∙ sym told })
  written_follows reply drew told (Torn torn e) =
      Faulted (record {
        ready = idle_settled past idle;
        drew = drew;
        admitted = ap is_done told;
        writes = ap is_some is;
        is_fault = e;
      })

  pub written_job : (reply : Reply) → HasJob setup (Acted event drawn (Done fields) ∷ past) (Done fields) None → IsWritten middle new change fields reply
      → HasJob setup (Acted event drawn reply ∷ past) reply None
  written_job reply job (Made made e) = subst (λ r. HasJob setup (Acted event drawn r ∷ past) r None) (sym e) job
  written_job reply job (Torn torn e) = subst (λ r. HasJob setup (Acted event drawn r ∷ past) r None) (sym e) refl

-- the same where there may be no change
module _ (setup : Setup) (past : History) (tables : Tables) (middle new : KeyDatabase) (event : Event) (drawn : List ℕ) (fields : Fields) (stands : KeysStand setup tables past)
    (still : SameStore tables.keys middle) (settled : AreSettled tables) (no_restart : is_restart event.act ≡ false) (no_root : (before : List ℕ) → root_given event.act before ≡ before) where
  pub told_keys : (change : Option Change) (reply : Reply) → change_by setup past event drawn ≡ change → IsWrittenIf middle new change fields reply → KeysStand setup (record tables { keys = new }) (Acted event drawn reply ∷ past)
  told_keys None reply is written =
      subst (λ r. KeysStand setup (record tables { keys = new }) (Acted event drawn r ∷ past)) (sym written.1)
      (keys_stay setup past (Acted event drawn (Done fields) ∷ past) tables (record tables { keys = new }) stands
      (record { device_is = refl; policy_is = refl; store_is = same_twice tables.keys middle new still written.0 }) (unchanged_stored setup past event drawn (Done fields) no_root is refl (sym stands.settled_is ∙ settled)))
  told_keys (Some change) reply is written = written_keys setup past tables middle new event drawn change fields stands still settled no_restart no_root is reply written

  pub told_follows : (change : Option Change) (reply : Reply) → change_by setup past event drawn ≡ change → length drawn ≡ size_of (wanted setup past event)
      → answer setup past event drawn ≡ Done fields → IsWrittenIf middle new change fields reply → MayFollow setup past event drawn reply
  told_follows None reply is drew told written = AnsweredBy (record { ready = idle_ready past event.act (sym stands.settled_is ∙ settled); drew = drew; is_answer = written.1 ∙ sym told })
  told_follows (Some change) reply is drew told written = written_follows setup past tables middle new event drawn change fields stands still settled no_restart no_root is reply drew told written

  pub told_job : (change : Option Change) (reply : Reply) → change_by setup past event drawn ≡ change → HasJob setup (Acted event drawn (Done fields) ∷ past) (Done fields) None → IsWrittenIf middle new change fields reply
      → HasJob setup (Acted event drawn reply ∷ past) reply None
  told_job None reply is job written = subst (λ r. HasJob setup (Acted event drawn r ∷ past) r None) (sym written.1) job
  told_job (Some change) reply is job written = written_job setup past tables middle new event drawn change fields stands still settled no_restart no_root is reply job written

-- ---- what is known of the disk

-- what a read gives is one list
one_told : (content : Option (List ℕ)) (before now : List ℕ) → content ≡ Some before → content ≡ Some now → now ≡ before
one_told None before now was is = cc
one_told (Some bytes) before now was is = let one : bytes ≡ before = cc in let other : bytes ≡ now = cc in sym other ∙ one

-- a store that is as it was, on the same disk, keeps what it kept
pub stays_surely : {D : Type 0} (g : Ghosts D) (disk : D) (old new : KeyDatabase) (part : Lasting) → SameStore old new → KeepsSurely g (areas_of old) disk part
    → StepsSurely g (areas_of old) (areas_of new) disk disk part part
stays_surely g disk old new part same keeps =
    subst (λ (a : Areas). StepsSurely g (areas_of old) a disk disk part part) (sym same.areas_is) (record {
      keeps = keeps;
      adds = λ before now was is. Nothing refl (ap (records_at (place_of (areas_of old))) (one_told (g.content disk) before now was is)) refl;
    })

module _ {D : Type 0} (g : Ghosts D) (disk : D) where
  -- nothing was done to the disk, and what is known stays
  still_goes : (old new : KeyDatabase) (restarts : Bool) (change : Option Change) (reply : Reply) → SameStore old new → is_disk_fault reply ≡ false → ((held : Holding) → after_reply restarts change reply held ≡ held)
      → StoreGoes g old new disk disk restarts change reply
  still_goes old new restarts change reply same no_fault stays = record {
    holds = λ held h. subst (λ k. Holds g new disk k) (sym (stays held)) (same_holds g old new disk held same h);
    passes = λ held h. passes_none g disk (Between held (after_reply restarts change reply held));
    goes = subst (λ b. Goes g disk disk b) (sym no_fault) (goes_none g disk);
    surely = λ held h keeps.
        subst (λ (k : Holding). StepsSurely g (areas_of old) (areas_of new) disk disk (known held) (known k)) (sym (stays held)) (stays_surely g disk old new (known held) same keeps);
  }

  no_system_stays : (code : Code) (restarts : Bool) (change : Option Change) → is_system_error code ≡ false → (held : Holding) → after_reply restarts change (Stopped code) held ≡ held
  no_system_stays code restarts change e held = rw e refl

  -- an act that is not admitted
  pub denied_goes : (old new : KeyDatabase) (restarts : Bool) (change : Option Change) (reply : Reply) → SameStore old new → is_done reply ≡ false → is_disk_fault reply ≡ false
      → StoreGoes g old new disk disk restarts change reply
  denied_goes old new restarts change (Done fields) same e f = cc
  denied_goes old new restarts change (Broken rule code) same e f = still_goes old new restarts change (Broken rule code) same f (λ held. refl)
  denied_goes old new restarts change (Stopped code) same e f = still_goes old new restarts change (Stopped code) same f (no_system_stays code restarts change f)

  -- an act that changes nothing
  pub quiet_goes : (old new : KeyDatabase) (restarts : Bool) (reply : Reply) → SameStore old new → is_disk_fault reply ≡ false → StoreGoes g old new disk disk restarts None reply
  quiet_goes old new restarts (Done fields) same f = still_goes old new restarts None (Done fields) same f (λ held. refl)
  quiet_goes old new restarts (Broken rule code) same f = denied_goes old new restarts None (Broken rule code) same refl f
  quiet_goes old new restarts (Stopped code) same f = denied_goes old new restarts None (Stopped code) same refl f

  no_use : (tables : Tables) (act : Act) → changes_kept act ≡ false → use_by tables act ≡ None
  no_use tables (EnterFinish op input signature) e = cc
  no_use tables _ e = refl

  pub no_change_for : (tables : Tables) (caller : Caller) (act : Act) (answered : Answered) → changes_kept act ≡ false → change_for tables caller act answered ≡ None
  no_change_for tables caller act answered e = rw (no_use tables act e) (none_changed act tables.device tables.policy (lasting tables.keys) [] caller answered.drawn e)

  pub leaves_goes : (old new : Tables) (caller : Caller) (act : Act) (answered : Answered) → LeavesStore old new answered → changes_kept act ≡ false → StoreGoesFor g old new disk disk caller act answered
  leaves_goes old new caller act answered leaves e =
      subst (λ c. StoreGoes g old.keys new.keys disk disk (is_restart act) c answered.reply) (sym (no_change_for old caller act answered e))
      (quiet_goes old.keys new.keys (is_restart act) answered.reply leaves.keys.store_is leaves.no_fault)

-- with other room before
pub goes_from : {D : Type 0} (g : Ghosts D) (old middle new : KeyDatabase) (disk later : D) (restarts : Bool) (change : Option Change) (reply : Reply) → SameStore old middle → StoreGoes g middle new disk later restarts change reply
    → StoreGoes g old new disk later restarts change reply
goes_from g old middle new disk later restarts change reply same goes = record {
  holds = λ held h. goes.holds held (same_holds g old middle disk held same h);
  passes = λ held h. goes.passes held (same_holds g old middle disk held same h);
  goes = goes.goes;
  surely = λ held h keeps.
      subst (λ (a : Areas). StepsSurely g a (areas_of new) disk later (known held) (known (after_reply restarts change reply held))) same.areas_is
      (goes.surely held (same_holds g old middle disk held same h) (subst (λ (a : Areas). KeepsSurely g a disk (known held)) (sym same.areas_is) keeps));
}
