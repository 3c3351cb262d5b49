-- A restart: the tables after one that is admitted, and after one that has not happened.
use Rattle.key_database.specs.Adding.{StepsSurely}
use Rattle.std.proofs.Common.{◌≡◌, inl, ℕ, Bool, true, false, ◌&&◌, if◌then◌else◌, List, [], ◌∷◌, Option, None, refl, sym, ap, ◌∙◌, subst}
use Rattle.tags.specs.declared.code.Code.{Code}
use Rattle.tags.specs.declared.secrets.DeviceSecrets.{DeviceSecrets}
use Rattle.tags.specs.declared.code.Code.TheVariants.{SystemError, ValueCorrupted}
use Rattle.ks_outside.specs.declared.disk.Disk.{Ghosts}
use Rattle.ks_outside.specs.Images.{Goes, Passes, tells}
use Rattle.ks_outside.proofs.Joins.{passes_as}
use Rattle.journal_records.specs.Effects.{after}
use Rattle.journal_records.specs.Holding.{Holding, known}
use Rattle.journal_records.specs.LastingPart.{Lasting}
use Rattle.key_database.specs.declared.database.KeyDatabase.{KeyDatabase}
use Rattle.key_database.specs.Stands.{Holds, SamePart, SameStore, is_unsettled, lasting, areas_of}
use Rattle.key_database.specs.Store.{Between, MayBe}
use Rattle.cipher_ops.specs.declared.state.CipherState.{CipherState}
use Rattle.operation_slots.specs.Table.{SlotTable, held, operations_of}
use Rattle.rule_model.specs.declared.entry.Entry.TheVariants.{Acted}
use Rattle.rule_model.specs.declared.event.Act.TheVariants.{Restart}
use Rattle.rule_model.specs.declared.event.Event.{Event}
use Rattle.rule_model.specs.declared.facts.Caller.{Caller}
use Rattle.rule_model.specs.declared.reply.Reply.{Reply}
use Rattle.rule_model.specs.declared.reply.Reply.TheVariants.{Done, Broken, Stopped}
use Rattle.rule_model.specs.Entries.{History}
use Rattle.rule_model.specs.Legal.{Answered, NotRestarted}
use Rattle.rule_model.specs.Replies.{no_fields}
use Rattle.rule_model.specs.Blobs.{root_given}
use Rattle.rule_model.specs.declared.entry_change.BootChange.TheVariants.{StartsAgain}
use Rattle.rule_model.specs.Settling.{is_disk_fault, is_system_error, is_unsettled as waits}
use Rattle.rule_model.specs.Setup.{Setup}
use Rattle.rule_model.specs.Stored.{after_reply}
use Rattle.rule_model.proofs.Kept.{SameStored, denied_stored, unfaulted_stored}
use Rattle.keystore_core.specs.declared.tables.Tables.{Tables}
use Rattle.keystore_core.specs.Restarting.{Forgets}
use Rattle.keystore_core.specs.Tables.{AnswersAfter, SameTables, TablesStand, event_by}
use Rattle.keystore_core.specs.Writing.{StoreGoes}
use Rattle.keystore_core.proofs.Ready.{ready_settled}
use Rattle.keystore_core.proofs.Booted.{boot_after, boot_stays, same_boot}
use Rattle.keystore_core.proofs.KeyTable.{keys_stay, none_waits, same_keys}
use Rattle.keystore_core.proofs.Opened.{stays_same}
use Rattle.keystore_core.proofs.Standing.{clients_stay, operations_stay, same_tables, slots_stay, tickets_stay}

none_held : (slots : SlotTable CipherState) (number : ℕ) → operations_of slots ≡ [] → held slots number ≡ None
none_held slots number e = rw e refl

-- the same keys and grants, whose records may end elsewhere
pub read_stands : (setup : Setup) (past : History) (old : Tables) (keys : KeyDatabase) → SamePart old.keys keys → is_unsettled keys ≡ is_unsettled old.keys → TablesStand setup old past
    → TablesStand setup (record old { keys = keys }) past
read_stands setup past old keys same settled stands = record {
  clients = stands.clients;
  keys = record {
    device_is = stands.keys.device_is;
    policy_is = stands.keys.policy_is;
    lasting_is = same.lasting_is ∙ stands.keys.lasting_is;
    settled_is = settled ∙ stands.keys.settled_is;
    waiting = λ waits_is.
        let waiting = stands.keys.waiting waits_is in (
          waiting.0,
          record {
            pending_is = same.pending_is ∙ waiting.1.pending_is;
            made_is = ap (λ (part : Lasting). after part waiting.0) same.lasting_is ∙ waiting.1.made_is;
            lost_is = same.lasting_is ∙ waiting.1.lost_is;
          },
        );
  };
  operations = stands.operations;
  slots = stands.slots;
  tickets = stands.tickets;
  boot = stands.boot;
}

-- the same tables over the same store
pub unread_tables : (old : Tables) (keys : KeyDatabase) → SameStore old.keys keys → SameTables old (record old { keys = keys })
unread_tables old keys same =
    let still = same_tables old in
    record {
      clients = still.clients;
      keys = record { device_is = refl; policy_is = refl; store_is = same };
      operations = still.operations;
      slots = refl;
      tickets = still.tickets;
      boot = still.boot;
    }

module _ (setup : Setup) (past : History) (old : Tables) (caller : Caller) (root : Option (List ℕ)) (stands : TablesStand setup old past) where
  abbrev Restarting : Event
  Restarting = event_by caller (Restart root)

  pub restarted : (new : Tables) → waits past ≡ false → Forgets root old new → AnswersAfter setup past new Restarting (record { reply = Done no_fields; job = None; drawn = [] })
  restarted new idle forgets = record {
    follows = λ ready. Answered (record { ready = ready; drew = refl; is_answer = refl });
    stands = record {
      clients = record { uids = λ client. forgets.goes client; given = forgets.clients_are ∙ stands.clients.given };
      keys = record {
        device_is = forgets.device_is ∙ ap (λ (d : DeviceSecrets). record d { root = root_given (Restart root) d.root }) stands.keys.device_is;
        policy_is = forgets.policy_is ∙ stands.keys.policy_is;
        lasting_is = ap lasting forgets.keys_are ∙ stands.keys.lasting_is;
        settled_is = ap is_unsettled forgets.keys_are ∙ stands.keys.settled_is;
        waiting = none_waits (Acted Restarting [] (Done no_fields) ∷ past) idle;
      };
      operations = record { rows = rw forgets.rows tt; given = forgets.operations_are ∙ stands.operations.given; most = forgets.most_are ∙ stands.operations.most };
      slots = record {
        slots_are = rw forgets.empty.operations tt;
        capacity_is = forgets.empty.slot_count ∙ stands.slots.capacity_is;
        fresh = λ number l. none_held new.slots number forgets.empty.operations;
        later = λ next l. forgets.later next;
      };
      tickets = record {
        outs = λ ticket. rw (forgets.outs ticket) tt;
        given = forgets.tickets_are ∙ stands.tickets.given;
        busy = λ ticket entered after. absurd cc;
      };
      boot = boot_after setup past Restarting [] (Done no_fields) StartsAgain old.boot new.boot stands.boot refl forgets.boot.device forgets.boot.tokens forgets.boot.begins;
    };
    has_job = refl;
    stays = λ ticket entered before after. absurd cc;
  }

  refused_as : (code : Code) → SameStored setup past (Acted Restarting [] (Stopped code) ∷ past) → TablesStand setup old (Acted Restarting [] (Stopped code) ∷ past)
  refused_as code same = record {
    clients = clients_stay setup past Restarting [] (Stopped code) old.clients old.clients stands.clients (same_tables old).clients refl refl;
    keys = keys_stay setup past (Acted Restarting [] (Stopped code) ∷ past) old old stands.keys (same_keys old) same;
    operations = operations_stay setup past Restarting [] (Stopped code) old.operations old.operations stands.operations (same_tables old).operations refl refl;
    slots = slots_stay setup past Restarting [] (Stopped code) old.slots old.slots stands.slots refl refl;
    tickets = tickets_stay setup past Restarting [] (Stopped code) old.tickets old.tickets stands.tickets (same_tables old).tickets refl refl (stays_same setup past Restarting [] (Stopped code) refl);
    boot = boot_stays setup past Restarting [] (Stopped code) old.boot old.boot stands.boot (same_boot old.boot) refl;
  }

  -- what was read is not what is kept
  pub other_store : AnswersAfter setup past old Restarting (record { reply = Stopped ValueCorrupted; job = None; drawn = [] })
  other_store = record {
    follows = λ ready. NotRestarted ValueCorrupted (record { ready = ready_settled past (Restart root) refl ready; drew = refl; restarts = refl; refusal = refl; is_refusal = refl });
    stands = refused_as ValueCorrupted (denied_stored setup past Restarting [] (Stopped ValueCorrupted) refl refl);
    has_job = refl;
    stays = stays_same setup past Restarting [] (Stopped ValueCorrupted) refl;
  }

  -- a device call failed
  pub unread_store : AnswersAfter setup past old Restarting (record { reply = Stopped SystemError; job = None; drawn = [] })
  unread_store = record {
    follows = λ ready. NotRestarted SystemError (record { ready = ready_settled past (Restart root) refl ready; drew = refl; restarts = refl; refusal = refl; is_refusal = refl });
    stands = refused_as SystemError (unfaulted_stored setup past Restarting [] (Stopped SystemError) refl refl);
    has_job = refl;
    stays = stays_same setup past Restarting [] (Stopped SystemError) refl;
  }

-- what is known of the store stays
restart_stays : (reply : Reply) (held : Holding) → after_reply true None reply held ≡ held
restart_stays (Done fields) held = refl
restart_stays (Broken rule code) held = refl
restart_stays (Stopped code) held = by_code (is_system_error code) where
  by_code : (b : Bool) → (if b && false then Rattle.rule_model.specs.Stored.torn_by None held else held) ≡ held
  by_code true = refl
  by_code false = refl

pub restart_goes : {D : Type 0} (g : Ghosts D) (old new : KeyDatabase) (disk later : D) (reply : Reply) → ((held : Holding) → Holds g old disk held → Holds g new later held)
    → ((held : Holding) → Holds g old disk held → Passes g disk later (MayBe held)) → Goes g disk later (is_disk_fault reply)
    → ((held : Holding) → Holds g old disk held → g.is_sure disk → tells g disk ≡ true → StepsSurely g (areas_of old) (areas_of new) disk later (known held) (known held))
    → StoreGoes g old new disk later true None reply
restart_goes g old new disk later reply holds passes goes surely = record {
  holds = λ held h. subst (λ k. Holds g new later k) (sym (restart_stays reply held)) (holds held h);
  passes = λ held h. passes_as g disk later (MayBe held) (Between held (after_reply true None reply held)) (passes held h) (λ c may. inl may);
  goes = goes;
  surely = λ held h keeps.
      subst (λ (k : Holding). StepsSurely g (areas_of old) (areas_of new) disk later (known held) (known k)) (sym (restart_stays reply held)) (surely held h keeps.holds.sure keeps.told);
}
