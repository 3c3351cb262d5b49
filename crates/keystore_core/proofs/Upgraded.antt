-- An upgrade: its answer, and the tables after it.
use Rattle.std.proofs.Common.{◌≡◌, ℕ, ◌<◌, ◌≤◌, false, ◌==◌, IsTrue, inr, List, [], ◌∷◌, length, Option, Some, None, Result, Ok, Err, if◌then◌else◌, arith, refl, sym, ap, ◌∙◌, subst}
use Rattle.std.specs.Prelude.{is_none, unwrap_or}
use Rattle.std.proofs.lemmas.Bool.{le-leb}
use Rattle.tags.specs.declared.code.Code.{Code}
use Rattle.tags.specs.declared.code.Code.TheVariants.{EntropyFault, MemoryAllocationFailed}
use Rattle.tags.specs.declared.descriptor.Descriptor.{Descriptor}
use Rattle.tags.specs.declared.policy.PolicyRow.{PolicyRow}
use Rattle.tags.specs.declared.rule.Rule.{Rule}
use Rattle.tags.specs.declared.secrets.DeviceSecrets.{DeviceSecrets}
use Rattle.tags.specs.declared.limits.TheConstants.{BLOB_BYTES, KEPT_LIST_BYTES}
use Rattle.tag_lists.specs.Spelling.{spelling}
use Rattle.key_domains.specs.Domains.{domain_blob}
use Rattle.key_blobs.specs.declared.sealed.Sealed.{Sealed}
use Rattle.key_blobs.specs.Blobs.{blob_of}
use Rattle.keymint_ops.specs.declared.upgrade.UpgradedKey.{UpgradedKey}
use Rattle.ks_outside.specs.declared.disk.Disk.{Ghosts}
use Rattle.journal_records.specs.declared.change.Change.{Change}
use Rattle.key_database.specs.declared.database.KeyDatabase.{KeyDatabase}
use Rattle.key_database.specs.Stands.{lasting, table_of}
use Rattle.keystore_core.proofs.SameStores.{one_store_same}
use Rattle.rule_model.specs.declared.entry.Entry.TheVariants.{Acted}
use Rattle.rule_model.specs.declared.event.Act.TheVariants.{UpgradeKey}
use Rattle.rule_model.specs.declared.event.Event.{Event}
use Rattle.rule_model.specs.declared.facts.Caller.{Caller}
use Rattle.rule_model.specs.declared.reply.Fields.{Fields}
use Rattle.rule_model.specs.declared.reply.Reply.{Reply}
use Rattle.rule_model.specs.declared.reply.Reply.TheVariants.{Done, Broken, Stopped}
use Rattle.rule_model.specs.Access.{id_by}
use Rattle.rule_model.specs.Answer.{answer, upgraded_with}
use Rattle.rule_model.specs.Blobs.{device_at}
use Rattle.rule_model.specs.Changes.{change_of, upgrading}
use Rattle.rule_model.specs.Clients.{caller_of}
use Rattle.rule_model.specs.Drawn.{size_of, wanted, wanted_by_upgrade}
use Rattle.rule_model.specs.Entries.{History, is_done}
use Rattle.rule_model.specs.Jobs.{HasJob}
use Rattle.rule_model.specs.Kept.{kept, operation_change}
use Rattle.rule_model.specs.declared.entry_change.OperationChange.TheVariants.{SameOperations}
use Rattle.rule_model.specs.Legal.{MayFollow, is_ready, Answered, WithoutEntropy, WithoutMemory}
use Rattle.rule_model.specs.Replies.{no_fields}
use Rattle.rule_model.specs.Settling.{is_disk_fault, is_unsettled}
use Rattle.rule_model.specs.Setup.{Setup}
use Rattle.rule_model.specs.Stored.{change_by}
use Rattle.rule_model.specs.Upgrades.{upgrade_in}
use Rattle.rule_model.proofs.Kept.{no_fault_unfaulted}
use Rattle.rule_model.proofs.Boot.{same_boot as same_boot_after}
use Rattle.rule_model.proofs.Clients.{same_clients}
use Rattle.rule_model.proofs.Operations.{same_operations}
use Rattle.rule_model.proofs.Tickets.{same_tickets}
use Rattle.rule_model.specs.Acts.{is_begin, is_connect, is_enter}
use Rattle.call_answers.specs.declared.upgrades.KeyPlace.{KeyPlace}
use Rattle.call_answers.specs.declared.upgrades.KeyPlace.TheVariants.{Stored, Handed}
use Rattle.call_answers.specs.Upgrading.{CanRenew, given_fields, place_of, renewing, sealed_in, told_fields}
use Rattle.keystore_core.specs.declared.tables.Tables.{Tables}
use Rattle.keystore_core.specs.Keys.{AreSettled}
use Rattle.keystore_core.specs.Tables.{AnswersAfter, IsCaller, TablesStand, event_by}
use Rattle.keystore_core.specs.Writing.{IsWrittenIf, StoreGoes}
use Rattle.keystore_core.proofs.Booted.{boot_stays, same_boot}
use Rattle.keystore_core.proofs.KeyTable.{found_live}
use Rattle.keystore_core.proofs.Opened.{stays_same}
use Rattle.keystore_core.proofs.Ready.{ready_settled}
use Rattle.keystore_core.proofs.Standing.{called, clients_stay, denied_tables, operations_stay, quiet, same_tables, slots_stay, tickets_stay}
use Rattle.keystore_core.proofs.Written.{told_follows, told_job, told_keys}

-- ---- where the key lies

-- a key that is sealed anew may be kept there: it is live, and its list and its blob are no longer than those of a key
pub may_renew : (policy : List PolicyRow) (caller : Caller) (key : Descriptor) (held : KeyDatabase) (place : KeyPlace) (blob list : List ℕ) → place ≡ place_of (id_by policy (lasting held) caller key) key
    → length blob ≤ BLOB_BYTES → length list ≤ KEPT_LIST_BYTES → CanRenew (table_of held) place blob list
may_renew policy caller key held place blob list is few short =
    subst (λ p. CanRenew (table_of held) p blob list) (sym is) (by_id (id_by policy (lasting held) caller key) refl) where
      by_id : (id : Option ℕ) → id_by policy (lasting held) caller key ≡ id → CanRenew (table_of held) (place_of id key) blob list
      by_id None e = tt
      by_id (Some id) e = (
        rw (found_live policy (lasting held) caller key id e, le-leb (length blob) BLOB_BYTES few, le-leb (length list) KEPT_LIST_BYTES short) refl,
        (λ made. cc, λ made. cc),
      )

-- what is told of a key by its place is what is told of it by its descriptor
told_at : (id : Option ℕ) (key : Descriptor) (blob : List ℕ) → (key.domain == domain_blob) ≡ is_none id
    → (if key.domain == domain_blob then record no_fields { blob = Some blob } else no_fields) ≡ told_fields (place_of id key) blob
told_at None key blob e = rw e refl
told_at (Some id) key blob e = rw e refl

given_at : (id : Option ℕ) (key : Descriptor) → told_fields (place_of id key) (unwrap_or key.blob []) ≡ given_fields (place_of id key)
given_at None key = refl
given_at (Some id) key = refl

-- and its change
change_at : (id : Option ℕ) (key : Descriptor) (device : DeviceSecrets) (drawn : List ℕ) (sealed : Sealed)
    → upgrading (Ok (Some sealed)) id device drawn ≡ renewing (place_of id key) (blob_of device.seal drawn sealed) (spelling sealed.list)
change_at None key device drawn sealed = refl
change_at (Some id) key device drawn sealed = refl

no_ticket : (setup : Setup) (later : History) (place : KeyPlace) (blob : List ℕ) → HasJob setup later (Done (told_fields place blob)) None
no_ticket setup later (Stored id) blob = refl
no_ticket setup later (Handed given) blob = refl

-- what is sealed anew, by whether there is a key to seal
pub none_sealed : (found : Result (Option Sealed) (Rule × Code)) (upgraded : Option UpgradedKey) → found ≡ Ok (sealed_in upgraded) → upgraded ≡ None → found ≡ Ok None
none_sealed found upgraded is e = subst (λ u. found ≡ Ok (sealed_in u)) e is

pub some_sealed : (found : Result (Option Sealed) (Rule × Code)) (upgraded : Option UpgradedKey) (key : UpgradedKey) → found ≡ Ok (sealed_in upgraded) → upgraded ≡ Some key → found ≡ Ok (Some key.sealed)
some_sealed found upgraded key is e = subst (λ u. found ≡ Ok (sealed_in u)) e is

-- ---- the answers

module _ (setup : Setup) (past : History) (tables : Tables) (caller : Caller) (key : Descriptor) (params : List ℕ) (stands : TablesStand setup tables past) (is_caller : IsCaller tables caller) where
  abbrev pub Upgrading : Event
  Upgrading = event_by caller (UpgradeKey key params)

  -- what the rules make of it, by the history and by the tables
  abbrev Ruled : Result (Option Sealed) (Rule × Code)
  Ruled = upgrade_in (device_at setup past) setup.policy (kept setup past) caller key params

  abbrev pub Found : Result (Option Sealed) (Rule × Code)
  Found = upgrade_in tables.device tables.policy (lasting tables.keys) caller key params

  abbrev Id : Option ℕ
  Id = id_by tables.policy (lasting tables.keys) caller key

  same : caller ≡ caller_of past Upgrading
  same = called past tables caller (UpgradeKey key params) stands.clients is_caller

  found_is : Found ≡ Ruled
  found_is = λ i. upgrade_in (stands.keys.device_is i) (stands.keys.policy_is i) (stands.keys.lasting_is i) caller key params

  none : (drawn : List ℕ) (reply : Reply) → operation_change setup past Upgrading drawn reply ≡ SameOperations
  none drawn reply = same_operations setup past Upgrading drawn reply refl

  -- the answer, the draws and the change by what the tables make of it
  answer_is : (drawn : List ℕ) (found : Result (Option Sealed) (Rule × Code)) → Found ≡ found → answer setup past Upgrading drawn ≡ upgraded_with tables.device key drawn found
  answer_is drawn found e =
      ap (λ c. upgraded_with (device_at setup past) key drawn (upgrade_in (device_at setup past) setup.policy (kept setup past) c key params)) (sym same)
      ∙ ap (λ d. upgraded_with d key drawn Ruled) (sym stands.keys.device_is)
      ∙ ap (upgraded_with tables.device key drawn) (sym found_is ∙ e)

  wanted_is : (found : Result (Option Sealed) (Rule × Code)) → Found ≡ found → size_of (wanted setup past Upgrading) ≡ size_of (wanted_by_upgrade found)
  wanted_is found e =
      ap (λ c. size_of (wanted_by_upgrade (upgrade_in (device_at setup past) setup.policy (kept setup past) c key params))) (sym same)
      ∙ ap (λ f. size_of (wanted_by_upgrade f)) (sym found_is ∙ e)

  change_is : (drawn : List ℕ) (found : Result (Option Sealed) (Rule × Code)) → Found ≡ found → change_by setup past Upgrading drawn ≡ upgrading found Id tables.device drawn
  change_is drawn found e =
      ap (λ c. upgrading (upgrade_in (device_at setup past) setup.policy (kept setup past) c key params) (id_by setup.policy (kept setup past) c key) (device_at setup past) drawn) (sym same)
      ∙ (λ i. upgrading (sym found_is i) (id_by (sym stands.keys.policy_is i) (sym stands.keys.lasting_is i) caller key) (sym stands.keys.device_is i) drawn)
      ∙ ap (λ f. upgrading f Id tables.device drawn) e

  -- an answer that leaves all as it is, and admits nothing
  unmade : (drawn : List ℕ) (reply : Reply) → is_done reply ≡ false → is_disk_fault reply ≡ false → (IsTrue (is_ready past (UpgradeKey key params)) → MayFollow setup past Upgrading drawn reply)
      → HasJob setup (Acted Upgrading drawn reply ∷ past) reply None → AnswersAfter setup past tables Upgrading (record { reply = reply; job = None; drawn = drawn })
  unmade drawn reply denied no_fault follows no_job = record {
    follows = follows;
    stands = denied_tables setup past Upgrading drawn reply tables tables stands (same_tables tables) denied (no_fault_unfaulted (is_unsettled past) Upgrading.act reply no_fault) (none drawn reply) (same_tickets Upgrading reply refl);
    has_job = no_job;
    stays = stays_same setup past Upgrading drawn reply (none drawn reply);
  }

  -- a broken rule
  pub refused : (rule : Rule) (code : Code) → Found ≡ Err (rule, code) → AnswersAfter setup past tables Upgrading (record { reply = Broken rule code; job = None; drawn = [] })
  refused rule code e =
      unmade [] (Broken rule code) refl refl
      (λ ready. Answered (record { ready = ready; drew = sym (wanted_is (Err (rule, code)) e); is_answer = sym (answer_is [] (Err (rule, code)) e) })) refl

  -- a draw that failed
  pub without_entropy : (sealed : Sealed) (drawn : List ℕ) → Found ≡ Ok (Some sealed) → length drawn < 12 → AnswersAfter setup past tables Upgrading (record { reply = Stopped EntropyFault; job = None; drawn = drawn })
  without_entropy sealed drawn e few =
      unmade drawn (Stopped EntropyFault) refl refl
      (λ ready. WithoutEntropy (record { ready = ready_settled past (UpgradeKey key params) refl ready; drew = subst (λ n. length drawn < n) (sym (wanted_is (Ok (Some sealed)) e)) few; is_fault = refl })) refl

  -- want of memory for the blob
  pub unkept : (sealed : Sealed) (drawn : List ℕ) → Found ≡ Ok (Some sealed) → length drawn ≡ 12 → AnswersAfter setup past tables Upgrading (record { reply = Stopped MemoryAllocationFailed; job = None; drawn = drawn })
  unkept sealed drawn e long =
      unmade drawn (Stopped MemoryAllocationFailed) refl refl
      (λ ready. WithoutMemory (record { ready = inr (ready_settled past (UpgradeKey key params) refl ready); drew = omega (arith, long, wanted_is (Ok (Some sealed)) e); takes = refl; is_want = refl })) refl

  -- an upgrade that the rules admit, with the change that it makes, where it makes one
  told : (new : KeyDatabase) (drawn : List ℕ) (place : KeyPlace) (blob : List ℕ) (change : Option Change) (reply : Reply) → AreSettled tables → change_by setup past Upgrading drawn ≡ change → length drawn ≡ size_of (wanted setup past Upgrading)
      → answer setup past Upgrading drawn ≡ Done (told_fields place blob) → IsWrittenIf tables.keys new change (told_fields place blob) reply
      → AnswersAfter setup past (record tables { keys = new }) Upgrading (record { reply = reply; job = None; drawn = drawn })
  told new drawn place blob change reply settled by drew rules written = record {
    follows = λ ready. told_follows setup past tables tables.keys new Upgrading drawn (told_fields place blob) stands.keys (one_store_same tables.keys) settled refl (λ before. refl) change reply by drew rules written;
    stands = record {
      clients = clients_stay setup past Upgrading drawn reply tables.clients tables.clients stands.clients (same_tables tables).clients (same_clients Upgrading reply refl) (quiet is_connect past Upgrading drawn reply refl);
      keys = told_keys setup past tables tables.keys new Upgrading drawn (told_fields place blob) stands.keys (one_store_same tables.keys) settled refl (λ before. refl) change reply by written;
      operations = operations_stay setup past Upgrading drawn reply tables.operations tables.operations stands.operations (same_tables tables).operations (none drawn reply) (quiet is_begin past Upgrading drawn reply refl);
      slots = slots_stay setup past Upgrading drawn reply tables.slots tables.slots stands.slots refl (none drawn reply);
      tickets = tickets_stay setup past Upgrading drawn reply tables.tickets tables.tickets stands.tickets (same_tables tables).tickets (same_tickets Upgrading reply refl) (quiet is_enter past Upgrading drawn reply refl) (stays_same setup past Upgrading drawn reply (none drawn reply));
      boot = boot_stays setup past Upgrading drawn reply tables.boot tables.boot stands.boot (same_boot tables.boot) (same_boot_after setup past Upgrading reply refl);
    };
    has_job = told_job setup past tables tables.keys new Upgrading drawn (told_fields place blob) stands.keys (one_store_same tables.keys) settled refl (λ before. refl) change reply by (no_ticket setup (Acted Upgrading drawn (Done (told_fields place blob)) ∷ past) place blob) written;
    stays = stays_same setup past Upgrading drawn reply (none drawn reply);
  }

  -- one that changes nothing: the blob that was handed in is handed back
  pub given : (place : KeyPlace) → Found ≡ Ok None → place ≡ place_of Id key → (key.domain == domain_blob) ≡ is_none Id → AreSettled tables
      → AnswersAfter setup past tables Upgrading (record { reply = Done (given_fields place); job = None; drawn = [] })
  given place e at handed settled =
      let fields : told_fields (place_of Id key) (unwrap_or key.blob []) ≡ given_fields place = given_at Id key ∙ ap given_fields (sym at) in
      subst (λ (fields : Fields). AnswersAfter setup past tables Upgrading (record { reply = Done fields; job = None; drawn = [] })) fields
      (told tables.keys [] (place_of Id key) (unwrap_or key.blob []) None (Done (told_fields (place_of Id key) (unwrap_or key.blob []))) settled (change_is [] (Ok None) e) (sym (wanted_is (Ok None) e))
      (answer_is [] (Ok None) e ∙ ap Done (told_at Id key (unwrap_or key.blob []) handed)) (one_store_same tables.keys, refl))

  -- one that seals the key anew
  pub renewed : (new : KeyDatabase) (place : KeyPlace) (sealed : Sealed) (drawn blob list : List ℕ) (reply : Reply) → Found ≡ Ok (Some sealed) → place ≡ place_of Id key → (key.domain == domain_blob) ≡ is_none Id
      → length drawn ≡ 12 → blob ≡ blob_of tables.device.seal drawn sealed → list ≡ spelling sealed.list → AreSettled tables → IsWrittenIf tables.keys new (renewing place blob list) (told_fields place blob) reply
      → AnswersAfter setup past (record tables { keys = new }) Upgrading (record { reply = reply; job = None; drawn = drawn })
  renewed new place sealed drawn blob list reply e at handed long blob_is list_is settled written =
      told new drawn place blob (renewing place blob list) reply settled
      (change_is drawn (Ok (Some sealed)) e ∙ change_at Id key tables.device drawn sealed ∙ (λ i. renewing (sym at i) (sym blob_is i) (sym list_is i)))
      (long ∙ sym (wanted_is (Ok (Some sealed)) e))
      (answer_is drawn (Ok (Some sealed)) e ∙ ap Done (told_at Id key (blob_of tables.device.seal drawn sealed) handed ∙ (λ i. told_fields (sym at i) (sym blob_is i))))
      written

-- ---- the store

module _ {D : Type 0} (g : Ghosts D) (tables : Tables) (caller : Caller) (key : Descriptor) (params : List ℕ) where
  -- one that seals the key anew changes it
  pub renewed_goes : (new : KeyDatabase) (disk later : D) (place : KeyPlace) (sealed : Sealed) (drawn blob list : List ℕ) (reply : Reply) → upgrade_in tables.device tables.policy (lasting tables.keys) caller key params ≡ Ok (Some sealed)
      → place ≡ place_of (id_by tables.policy (lasting tables.keys) caller key) key → blob ≡ blob_of tables.device.seal drawn sealed → list ≡ spelling sealed.list
      → StoreGoes g tables.keys new disk later false (renewing place blob list) reply
      → StoreGoes g tables.keys new disk later false (change_of (UpgradeKey key params) tables.device tables.policy (lasting tables.keys) [] caller drawn) reply
  renewed_goes new disk later place sealed drawn blob list reply e at blob_is list_is goes =
      subst (λ change. StoreGoes g tables.keys new disk later false change reply)
      ((λ i. renewing (at i) (blob_is i) (list_is i)) ∙ sym (change_at (id_by tables.policy (lasting tables.keys) caller key) key tables.device drawn sealed)
      ∙ ap (λ found. upgrading found (id_by tables.policy (lasting tables.keys) caller key) tables.device drawn) (sym e)) goes
