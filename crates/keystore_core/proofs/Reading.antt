-- A call that opens, enters and closes no operation, and moves no client: its answer by the rules, and the tables after it.
use Rattle.std.proofs.Common.{◌≡◌, ℕ, Bool, true, false, IsTrue, if◌then◌else◌, List, [], ◌∷◌, None, Some, refl, sym, ap, ◌∙◌}
use Rattle.journal_records.specs.declared.change.Change.{Change}
use Rattle.key_database.specs.declared.database.KeyDatabase.{KeyDatabase}
use Rattle.key_database.specs.Stands.{SameStore}
use Rattle.rule_model.specs.declared.entry.Entry.TheVariants.{Acted}
use Rattle.rule_model.specs.declared.event.Act.{Act}
use Rattle.rule_model.specs.declared.event.Event.{Event}
use Rattle.rule_model.specs.declared.facts.Caller.{Caller}
use Rattle.rule_model.specs.declared.reply.Fields.{Fields}
use Rattle.rule_model.specs.declared.reply.Reply.{Reply}
use Rattle.rule_model.specs.declared.reply.Reply.TheVariants.{Done}
use Rattle.rule_model.specs.Acts.{fixed_for, is_begin, is_connect, is_enter, is_restart}
use Rattle.rule_model.specs.Answer.{answer, answer_by_rules}
use Rattle.rule_model.specs.Changes.{change_of}
use Rattle.rule_model.specs.Clients.{caller_of}
use Rattle.rule_model.specs.Drawn.{no_pieces, size_of, wanted, wanted_by_rules}
use Rattle.rule_model.specs.Entries.{History, is_done}
use Rattle.rule_model.specs.Jobs.{HasJob}
use Rattle.rule_model.specs.Kept.{kept, open_of}
use Rattle.rule_model.specs.Legal.{Answered, MayFollow, is_ready}
use Rattle.rule_model.specs.Blobs.{device_at, root_given}
use Rattle.rule_model.specs.Settling.{is_disk_fault}
use Rattle.rule_model.specs.Stored.{change_by}
use Rattle.rule_model.specs.Setup.{Setup}
use Rattle.rule_model.proofs.Boot.{moves_boot, same_boot as same_boot_after}
use Rattle.rule_model.proofs.Clients.{moves_clients, none_connects, same_clients}
use Rattle.rule_model.proofs.Kept.{changes_kept, denied_stored, quiet_stored}
use Rattle.rule_model.proofs.Operations.{moves_operations, none_begins, same_operations}
use Rattle.rule_model.proofs.Tickets.{moves_tickets, none_enters, same_tickets}
use Rattle.keystore_core.specs.declared.tables.Tables.{Tables}
use Rattle.keystore_core.specs.Keys.{AreSettled, KeysStand}
use Rattle.keystore_core.specs.Writing.{IsWritten}
use Rattle.keystore_core.specs.Tables.{AnswersAfter, IsCaller, TablesStand, event_by}
use Rattle.keystore_core.proofs.Booted.{boot_stays, same_boot}
use Rattle.keystore_core.proofs.KeyTable.{keys_stay, same_keys}
use Rattle.keystore_core.proofs.Opened.{stays_same}
use Rattle.keystore_core.proofs.Written.{written_follows, written_job, written_keys}
use Rattle.keystore_core.proofs.Standing.{called, clients_stay, operations_stay, quiet, same_tables, slots_stay, tickets_stay}

-- an act that draws nothing, and moves neither clients nor operations nor tickets
pub record IsCall (act : Act) : Type 0 where
  pub draws : (fixed_for act).draws ≡ false
  pub clients : moves_clients act ≡ false
  pub operations : moves_operations act ≡ false
  pub tickets : moves_tickets act ≡ false
  pub restarts : is_restart act ≡ false
  pub root : (before : List ℕ) → root_given act before ≡ before
  pub boot : moves_boot act ≡ false

drawn_none : (draws : Bool) (setup : Setup) (past : History) (act : Act) (caller : Caller) → draws ≡ false
    → 0 ≡ size_of (if draws then wanted_by_rules act setup past caller else no_pieces)
drawn_none true setup past act caller e = cc
drawn_none false setup past act caller e = refl

module _ (setup : Setup) (past : History) (tables : Tables) (caller : Caller) (act : Act) (stands : TablesStand setup tables past) (is_caller : IsCaller tables caller) (call : IsCall act) where
  abbrev Calling : Event
  Calling = event_by caller act

  same : caller ≡ caller_of past Calling
  same = called past tables caller act stands.clients is_caller

  -- the tables with these keys and grants
  call_tables : (new : KeyDatabase) (reply : Reply) → KeysStand setup (record tables { keys = new }) (Acted Calling [] reply ∷ past)
      → TablesStand setup (record tables { keys = new }) (Acted Calling [] reply ∷ past)
  call_tables new reply keys =
      let none = same_operations setup past Calling [] reply call.operations in
      record {
        clients = clients_stay setup past Calling [] reply tables.clients tables.clients stands.clients (same_tables tables).clients (same_clients Calling reply call.clients)
            (quiet is_connect past Calling [] reply (none_connects act call.clients));
        keys = keys;
        operations = operations_stay setup past Calling [] reply tables.operations tables.operations stands.operations (same_tables tables).operations none
            (quiet is_begin past Calling [] reply (none_begins act call.operations));
        slots = slots_stay setup past Calling [] reply tables.slots tables.slots stands.slots refl none;
        tickets = tickets_stay setup past Calling [] reply tables.tickets tables.tickets stands.tickets (same_tables tables).tickets (same_tickets Calling reply call.tickets)
            (quiet is_enter past Calling [] reply (none_enters act call.tickets)) (stays_same setup past Calling [] reply none);
        boot = boot_stays setup past Calling [] reply tables.boot tables.boot stands.boot (same_boot tables.boot) (same_boot_after setup past Calling reply call.boot);
      }

  drew : 0 ≡ size_of (wanted setup past Calling)
  drew = drawn_none (fixed_for act).draws setup past act (caller_of past Calling) call.draws

  answered_as : (reply : Reply) → reply ≡ answer_by_rules act setup past caller [] → reply ≡ answer setup past Calling []
  answered_as reply is = is ∙ ap (λ c. answer_by_rules act setup past c []) same

  answers_call : (new : KeyDatabase) (reply : Reply) → KeysStand setup (record tables { keys = new }) (Acted Calling [] reply ∷ past) → (IsTrue (is_ready past act) → MayFollow setup past Calling [] reply)
      → HasJob setup (Acted Calling [] reply ∷ past) reply None → AnswersAfter setup past (record tables { keys = new }) Calling (record { reply = reply; job = None; drawn = [] })
  answers_call new reply keys follows no_job = record {
    follows = follows;
    stands = call_tables new reply keys;
    has_job = no_job;
    stays = stays_same setup past Calling [] reply (same_operations setup past Calling [] reply call.operations);
  }

  -- an answer that admits nothing
  pub denies : (new : KeyDatabase) (reply : Reply) → SameStore tables.keys new → is_done reply ≡ false → is_disk_fault reply ≡ false → reply ≡ answer_by_rules act setup past caller []
      → HasJob setup (Acted Calling [] reply ∷ past) reply None → AnswersAfter setup past (record tables { keys = new }) Calling (record { reply = reply; job = None; drawn = [] })
  denies new reply still denied no_fault is no_job =
      answers_call new reply
      (keys_stay setup past (Acted Calling [] reply ∷ past) tables (record tables { keys = new }) stands.keys (record { device_is = refl; policy_is = refl; store_is = still }) (denied_stored setup past Calling [] reply denied no_fault))
      (λ ready. Answered (record { ready = ready; drew = drew; is_answer = answered_as reply is })) no_job

  -- an act that changes nothing
  pub reads : (reply : Reply) → changes_kept act ≡ false → is_disk_fault reply ≡ false → reply ≡ answer_by_rules act setup past caller [] → HasJob setup (Acted Calling [] reply ∷ past) reply None
      → AnswersAfter setup past tables Calling (record { reply = reply; job = None; drawn = [] })
  reads reply quiet_act no_fault is no_job =
      answers_call tables.keys reply (keys_stay setup past (Acted Calling [] reply ∷ past) tables tables stands.keys (same_keys tables) (quiet_stored setup past Calling [] reply quiet_act no_fault))
      (λ ready. Answered (record {
        ready = ready;
        drew = drew;
        is_answer = answered_as reply is;
      })) no_job

  -- an act that is admitted with this change of the keys and grants
  pub writes : (middle new : KeyDatabase) (fields : Fields) (change : Change) (reply : Reply) → SameStore tables.keys middle → AreSettled tables → change_of act (device_at setup past) setup.policy (kept setup past) (open_of setup past) caller [] ≡ Some change
      → IsWritten middle new change fields reply → Done fields ≡ answer_by_rules act setup past caller [] → HasJob setup (Acted Calling [] (Done fields) ∷ past) (Done fields) None
      → AnswersAfter setup past (record tables { keys = new }) Calling (record { reply = reply; job = None; drawn = [] })
  writes middle new fields change reply still settled is_change written is no_job =
      let by : change_by setup past Calling [] ≡ Some change = ap (λ c. change_of act (device_at setup past) setup.policy (kept setup past) (open_of setup past) c []) (sym same) ∙ is_change in
      answers_call new reply
      (written_keys setup past tables middle new Calling [] change fields stands.keys still settled call.restarts call.root by reply written)
      (λ ready. written_follows setup past tables middle new Calling [] change fields stands.keys still settled call.restarts call.root by reply drew (sym (answered_as (Done fields) is)) written)
      (written_job setup past tables middle new Calling [] change fields stands.keys still settled call.restarts call.root by reply no_job written)
