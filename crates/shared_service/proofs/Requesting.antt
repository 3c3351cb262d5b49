-- What a request and a leave came to.
use Rattle.std.proofs.Common.{◌≡◌, ◌≢◌, ℕ, ◌+◌, Bool, true, false, if◌then◌else◌, List, ◌++◌, Option, Some, None, is_some, Result, Ok, Err, refl, sym, ap, ◌∙◌, subst, inl, inr}
use Rattle.std.specs.Prelude.{IfSome}
use Rattle.cipher_ops.specs.declared.job.Done.{Done as JobDone}
use Rattle.cipher_ops.specs.declared.job.Job.{Job}
use Rattle.ks_outside.specs.declared.clock.Reading.{Reading}
use Rattle.tags.specs.declared.code.Code.{Code}
use Rattle.tags.specs.declared.code.Code.TheVariants.{MemoryAllocationFailed, NoTicket}
use Rattle.tags.specs.declared.descriptor.Descriptor.{Descriptor}
use Rattle.tags.specs.declared.rule.Rule.{Rule}
use Rattle.tags.specs.declared.secrets.DeviceSecrets.{DeviceSecrets}
use Rattle.tags.specs.declared.settled.Settled.{Settled}
use Rattle.key_blobs.specs.declared.sealed.Sealed.{Sealed}
use Rattle.journal_records.specs.declared.record.KeyRecord.{KeyRecord}
use Rattle.journal_records.specs.LastingPart.{Lasting}
use Rattle.rule_model.specs.declared.event.Act.{Act}
use Rattle.rule_model.specs.declared.event.Act.TheVariants.{Connect, Disconnect, GenerateKey, ImportKey, CreateOperation, EnterAad, EnterUpdate, EnterFinish, Abort, GetKeyEntry, DeleteKey, Grant, Ungrant, GetNumberOfEntries, ListEntriesBatched, AddAuthToken, DeviceLocked, DeviceUnlocked, EarlyBootEnded, ClearNamespace, UserRemoved, Leave, Restart, UpgradeKey, ImportWrappedKey}
use Rattle.rule_model.specs.declared.event.Event.{Event}
use Rattle.rule_model.specs.declared.facts.Caller.{Caller}
use Rattle.rule_model.specs.declared.field_sizes.FieldSizes.{FieldSizes}
use Rattle.rule_model.specs.declared.reply.Fields.{Fields}
use Rattle.rule_model.specs.declared.reply.Reply.{Reply}
use Rattle.rule_model.specs.declared.reply.Reply.TheVariants.{Done, Broken, Stopped}
use Rattle.rule_model.specs.Access.{id_by}
use Rattle.rule_model.specs.Acts.{fixed_for, is_connect, is_enter, is_leave}
use Rattle.rule_model.specs.Answer.{answer_by_rules, leaving, upgraded_with}
use Rattle.rule_model.specs.Blobs.{device_at}
use Rattle.rule_model.specs.Calls.{disconnect_ruling, grant_ruling, granted_in, key_entry}
use Rattle.rule_model.specs.Clients.{caller_of}
use Rattle.rule_model.specs.Entries.{History, after_settling, after_step, count_of, is_done}
use Rattle.rule_model.specs.Jobs.{HasJob, GoesWith}
use Rattle.rule_model.specs.Kept.{has_busy, kept}
use Rattle.rule_model.specs.Legal.{Legal, MayFollow, MayStep}
use Rattle.rule_model.specs.Replies.{broken_or, no_fields}
use Rattle.rule_model.specs.Setup.{Setup}
use Rattle.rule_model.specs.Tickets.{ticket_at}
use Rattle.rule_model.specs.Upgrades.{upgrade_in}
use Rattle.rule_model.specs.Acts.{is_asked}
use Rattle.keystore_core.specs.declared.engine.Engine.{Engine}
use Rattle.keystore_core.specs.Engine.{Stands}
use Rattle.service_book.specs.declared.entry.BookEntry.{BookEntry}
use Rattle.service_book.specs.Book.{history_of, log_of, ticket_in}
use Rattle.shared_service.specs.declared.name.ServiceId.{ServiceId}
use Rattle.shared_service.specs.Calls.{OneStep, entries_of}
use Rattle.shared_service.specs.Desks.{HasMade}
use Rattle.shared_service.specs.Facts.{AllFacts}
use Rattle.shared_service.specs.Going.{HasLeaveRoom, MayGo}
use Rattle.shared_service.specs.Names.{IsSetupOf}
use Rattle.shared_service.specs.Owning.{is_parting}
use Rattle.shared_service.specs.Requests.{GoesOut, IsRequested}
use Rattle.shared_service.specs.Rooms.{IsOutput}
use Rattle.shared_service.specs.Turns.{HasLeft, MayLeave, leave_by}
use Rattle.shared_service.proofs.Logs.{history_step, log_step}
use Rattle.shared_service.proofs.Replying.{by_rules, leave_settles_none, leaving_answer, leaving_not, never_no_ticket, parting_answer}
use Rattle.rule_model.proofs.Admitted.{broken_fields}
use Rattle.shared_service.proofs.StepNumbers.{newest}

-- ---- a legal history that ends with a step

may_of : (setup : Setup) (settled : Option Settled) (event : Event) (drawn : List ℕ) (reply : Reply) (past : History) → Legal setup (after_step settled event drawn reply past) → MayStep setup past settled event drawn reply
may_of setup None event drawn reply past legal = record { settles = tt; follows = legal.0 }
may_of setup (Some settled) event drawn reply past legal = record { settles = legal.1.0; follows = legal.0 }

pub may_made : (setup : Setup) (pass : ℕ) (s : OneStep) (old new : List BookEntry) → new ≡ old ++ entries_of pass s → Legal setup (history_of (log_of new)) → MayStep setup (history_of (log_of old)) s.settled s.event s.drawn s.reply
may_made setup pass s old new grown legal = may_of setup s.settled s.event s.drawn s.reply (history_of (log_of old))
    (subst (Legal setup) (ap (λ (l : List BookEntry). history_of (log_of l)) grown ∙ (ap history_of (log_step pass s old) ∙ history_step pass s (log_of old))) legal)

pub history_made : (pass : ℕ) (s : OneStep) (old new : List BookEntry) → new ≡ old ++ entries_of pass s → history_of (log_of new) ≡ after_step s.settled s.event s.drawn s.reply (history_of (log_of old))
history_made pass s old new grown = ap (λ (l : List BookEntry). history_of (log_of l)) grown ∙ (ap history_of (log_step pass s old) ∙ history_step pass s (log_of old))

-- ---- which acts give tickets

none_given : {T : Type 0} (ruling : Result T (Rule × Code)) (given fields : Fields) → given.ticket ≡ None → Done fields ≡ broken_or ruling (Done given) → fields.ticket ≡ None
none_given ruling given fields none e = let same = broken_fields ruling given fields (sym e) in ap (λ (f : Fields). f.ticket) (sym same) ∙ none

ticket_of_done : (given fields : Fields) → Done fields ≡ Done given → fields.ticket ≡ given.ticket
ticket_of_done given fields e = ap gives e where
  gives : Reply → Option ℕ
  gives (Done f) = f.ticket
  gives (Broken rule code) = None
  gives (Stopped code) = None

broken_reply : {T : Type 0} (ruling : Result T (Rule × Code)) (reply : Reply) (fields : Fields) → Done fields ≡ broken_or ruling reply → Done fields ≡ reply
broken_reply (Ok found) reply fields e = e
broken_reply (Err broken) reply fields e = cc

if_done : (b : Bool) (given fields : Fields) (code : Code) → Done fields ≡ (if b then Done given else Stopped code) → Done fields ≡ Done given
if_done true given fields code e = e
if_done false given fields code e = cc

else_done : (b : Bool) (given fields : Fields) (code : Code) → Done fields ≡ (if b then Stopped code else Done given) → Done fields ≡ Done given
else_done true given fields code e = cc
else_done false given fields code e = e

made_ticket : (b : Bool) (x y : Fields) → x.ticket ≡ None → y.ticket ≡ None → (if b then x else y).ticket ≡ None
made_ticket true x y p q = p
made_ticket false x y p q = q

entry_ticket : (found : Option KeyRecord) (fields : Fields) → Done fields ≡ key_entry found → fields.ticket ≡ None
entry_ticket None fields e = ticket_of_done no_fields fields e
entry_ticket (Some key) fields e = ticket_of_done _ fields e

grant_ticket : (part : Lasting) (id : Option ℕ) (uid : ℕ) (fields : Fields) → Done fields ≡ granted_in part id uid → fields.ticket ≡ None
grant_ticket part None uid fields e = ticket_of_done no_fields fields e
grant_ticket part (Some id) uid fields e = ticket_of_done _ fields (if_done _ _ fields _ e)

upgrade_ticket : (device : DeviceSecrets) (key : Descriptor) (drawn : List ℕ) (ruling : Result (Option Sealed) (Rule × Code)) (fields : Fields) → Done fields ≡ upgraded_with device key drawn ruling → fields.ticket ≡ None
upgrade_ticket device key drawn (Err (rule, code)) fields e = cc
upgrade_ticket device key drawn (Ok change) fields e = ticket_of_done _ fields e ∙ made_ticket _ _ _ refl refl

-- an act that enters no operation gives none
pub ticket_enters : (setup : Setup) (past : History) (event : Event) (drawn : List ℕ) (fields : Fields) (ticket : ℕ) → is_leave event.act ≡ false → MayFollow setup past event drawn (Done fields) → fields.ticket ≡ Some ticket → is_enter event.act ≡ true
ticket_enters setup past event drawn fields ticket l may given = by_act event.act (caller_of past event) l (by_rules setup past event drawn fields may) where
  differ : {A : Type 0} → fields.ticket ≡ None → A
  differ none = let both : None ≡ Some ticket = sym none ∙ given in cc

  by_act : (act : Act) (caller : Caller) → is_leave act ≡ false → Done fields ≡ answer_by_rules act setup past caller drawn → is_enter act ≡ true
  by_act (EnterAad op input) caller l e = refl
  by_act (EnterUpdate op input) caller l e = refl
  by_act (EnterFinish op input signature) caller l e = refl
  by_act (Connect uid) caller l e = differ (ticket_of_done (record no_fields { client = Some (count_of is_connect past + 1) }) fields e)
  by_act (GenerateKey key params) caller l e = differ (ticket_of_done _ fields (if_done _ _ fields _ (broken_reply _ _ fields e)) ∙ made_ticket _ _ _ refl refl)
  by_act (ImportKey key params format material) caller l e = differ (ticket_of_done _ fields (if_done _ _ fields _ (broken_reply _ _ fields e)) ∙ made_ticket _ _ _ refl refl)
  by_act (ImportWrappedKey key params wrapping wrapped unwrapping) caller l e =
      differ (ticket_of_done _ fields (if_done _ _ fields _ (broken_reply _ _ fields e)) ∙ made_ticket _ _ _ refl refl)
  by_act (CreateOperation key params forced) caller l e = differ (none_given _ _ fields refl e)
  by_act (Abort op) caller l e = differ (none_given _ _ fields refl e)
  by_act Disconnect caller l e = differ (none_given _ _ fields refl e)
  by_act (GetKeyEntry key) caller l e = differ (entry_ticket _ fields (broken_reply _ _ fields e))
  by_act (DeleteKey key) caller l e = differ (none_given _ _ fields refl e)
  by_act (Grant key uid bits) caller l e =
      differ (grant_ticket (kept setup past) (id_by setup.policy (kept setup past) caller key) uid fields (broken_reply (grant_ruling setup.policy (kept setup past) caller key bits) (granted_in (kept setup past) (id_by setup.policy (kept setup past) caller key) uid) fields e))
  by_act (Ungrant key uid) caller l e = differ (none_given _ _ fields refl e)
  by_act (GetNumberOfEntries domain nspace) caller l e = differ (none_given _ _ fields refl e)
  by_act (ListEntriesBatched domain nspace behind) caller l e = differ (none_given _ _ fields refl e)
  by_act (ClearNamespace domain nspace) caller l e = differ (none_given _ _ fields refl e)
  by_act (UserRemoved user) caller l e = differ (none_given _ _ fields refl e)
  by_act (AddAuthToken challenge user authenticator kind time mac) caller l e = differ (ticket_of_done no_fields fields (else_done _ no_fields fields _ (broken_reply _ _ fields e)))
  by_act (DeviceLocked user) caller l e = differ (none_given _ _ fields refl e)
  by_act (DeviceUnlocked user) caller l e = differ (none_given _ _ fields refl e)
  by_act EarlyBootEnded caller l e = differ (none_given _ _ fields refl e)
  by_act (UpgradeKey key params) caller l e =
      differ (upgrade_ticket (device_at setup past) key drawn (upgrade_in (device_at setup past) setup.policy (kept setup past) caller key params) fields e)
  by_act (Leave ticket) caller l e = cc
  by_act _ caller l e = differ (ticket_of_done no_fields fields e)

asked_no_leave : (act : Act) → is_asked act ≡ true → is_leave act ≡ false
asked_no_leave (Leave ticket) e = cc
asked_no_leave _ e = refl

pub enters_of : (setup : Setup) (past : History) (event : Event) (drawn : List ℕ) (reply : Reply) (ticket : ℕ) → is_leave event.act ≡ false → MayFollow setup past event drawn reply → ticket_in reply ≡ Some ticket → is_enter event.act ≡ true
enters_of setup past event drawn (Done fields) ticket l may given = ticket_enters setup past event drawn fields ticket l may given
enters_of setup past event drawn (Broken rule code) ticket l may given = cc
enters_of setup past event drawn (Stopped code) ticket l may given = cc

-- ---- what goes out with an enter

goes_out : {N : Type 0} (name : ServiceId N) (setup : Setup) (engine : Engine) (pass : ℕ) (s : OneStep) (old new : List BookEntry) (reply : Reply) (job : Option Job) (leave : Option FieldSizes) → ((s : Setup) → IsSetupOf name s → Stands s engine (history_of (log_of old)))
    → IsSetupOf name setup → ((z : Setup) → IsSetupOf name z → Legal z (history_of (log_of new))) → new ≡ old ++ entries_of pass s → s.reply ≡ reply → is_leave s.event.act ≡ false → HasJob setup (history_of (log_of new)) reply job
    → is_some leave ≡ is_enter s.event.act → IfSome leave (IsOutput engine s.event.act) → GoesOut name new (ticket_in reply) job leave
goes_out name setup engine pass s old new (Broken rule code) job leave stands is legal grown same l has some room = has
goes_out name setup engine pass s old new (Stopped code) job leave stands is legal grown same l has some room = has
goes_out name setup engine pass s old new (Done fields) job leave stands is legal grown same l has some room = by_ticket fields.ticket refl job has where
  follows : (z : Setup) → IsSetupOf name z → MayStep z (history_of (log_of old)) s.settled s.event s.drawn (Done fields)
  follows z of = subst (MayStep z (history_of (log_of old)) s.settled s.event s.drawn) same (may_made z pass s old new grown (legal z of))

  by_room : (ticket : ℕ) (job : Job) (leave : Option FieldSizes) → fields.ticket ≡ Some ticket → is_some leave ≡ true → IfSome leave (IsOutput engine s.event.act) → GoesOut name new (Some ticket) (Some job) leave
  by_room ticket job None given some room = cc
  by_room ticket job (Some leave) given some room = record {
    out = room.out;
    few = room.few;
    room_is = room.room_is;
    enough = λ z of. subst (λ (h : History). Rattle.keystore_core.specs.Outputs.PutsOut z h ticket room.out) (sym (history_made pass s old new grown ∙ ap (λ (r : Reply). after_step s.settled s.event s.drawn r (history_of (log_of old))) same))
        (room.enough z (history_of (log_of old)) s.settled s.event s.drawn fields ticket (stands z of) refl (follows z of) given);
  }

  by_ticket : (t : Option ℕ) → fields.ticket ≡ t → (job : Option Job) → GoesWith setup (history_of (log_of new)) fields.ticket job → GoesOut name new t job leave
  by_ticket None e job has = subst (λ (t : Option ℕ). GoesWith setup (history_of (log_of new)) t job) e has
  by_ticket (Some ticket) e None has = subst (λ (t : Option ℕ). GoesWith setup (history_of (log_of new)) t None) e has
  by_ticket (Some ticket) e (Some job) has =
      let enters = ticket_enters setup (after_settling s.settled (history_of (log_of old))) s.event s.drawn fields ticket l (follows setup is).follows e in
      by_room ticket job leave e (some ∙ enters) room

pub requested_made : {N : Type 0} (name : ServiceId N) (setup : Setup) (engine : Engine) (pass : ℕ) (event : Event) (old new : List BookEntry) (places : ℕ) (reply : Reply) (job : Option Job) (leave : Option FieldSizes) → ((s : Setup) → IsSetupOf name s → Stands s engine (history_of (log_of old)))
    → IsSetupOf name setup → ((z : Setup) → IsSetupOf name z → Legal z (history_of (log_of new))) → MayGo pass event (log_of old) places → HasLeaveRoom engine event.act leave → HasMade name pass event old new reply job → IsRequested name pass event old new reply job leave
requested_made name setup engine pass event old new places reply job leave stands is legal may are made =
    let l : is_leave made.s.event.act ≡ false = ap (λ (e : Event). is_leave e.act) made.event_is ∙ asked_no_leave event.act may.asked in
    let follows = may_made setup pass made.s old new made.grown (legal setup is) in
    record {
      made = made;
      goes = goes_out name setup engine pass made.s old new reply job leave stands is legal made.grown made.reply_is l (made.job_is setup is) (are.has_leave ∙ ap (λ (e : Event). is_enter e.act) (sym made.event_is))
          (subst (λ (e : Event). IfSome leave (IsOutput engine e.act)) (sym made.event_is) are.leave_is);
      within = inr may.within;
      enters = λ ticket given. ap (λ (e : Event). is_enter e.act) (sym made.event_is)
          ∙ enters_of setup (after_settling made.s.settled (history_of (log_of old))) made.s.event made.s.drawn made.s.reply ticket l follows.follows (ap ticket_in made.reply_is ∙ given);
      has_ticket = subst (λ (r : Reply). r ≢ Stopped NoTicket) made.reply_is (never_no_ticket setup (after_settling made.s.settled (history_of (log_of old))) made.s.event made.s.drawn made.s.reply l follows.follows);
      parts = λ p. absurd (differ (sym may.stays ∙ p));
    }
  where
    differ : false ≡ true → ⊥
    differ e = cc

-- ---- the disconnect of a connected client

none_out : {T : Type 0} (ruling : Result T (Rule × Code)) → ticket_in (broken_or ruling (Done no_fields)) ≡ None
none_out (Ok found) = refl
none_out (Err broken) = refl

job_none : (setup : Setup) (past : History) (reply : Reply) (job : Option Job) → ticket_in reply ≡ None → HasJob setup past reply job → job ≡ None
job_none setup past (Done fields) job none has = subst (λ (t : Option ℕ). GoesWith setup past t job) none has
job_none setup past (Broken rule code) job none has = has
job_none setup past (Stopped code) job none has = has

pub parting_made : {N : Type 0} (name : ServiceId N) (setup : Setup) (pass : ℕ) (event : Event) (old new : List BookEntry) (reply : Reply) (job : Option Job) (room : Option FieldSizes)
    → IsSetupOf name setup → Legal setup (history_of (log_of new)) → event.act ≡ Disconnect → is_parting event.act pass (log_of old) ≡ true → is_done reply ≡ true → HasMade name pass event old new reply job
    → IsRequested name pass event old new reply job room
parting_made name setup pass event old new reply job room is legal act parting done made =
    let follows = may_made setup pass made.s old new made.grown legal in
    let same : made.s.event.act ≡ Disconnect = ap (λ (e : Event). e.act) made.event_is ∙ act in
    let l : is_leave made.s.event.act ≡ false = ap is_leave same in
    let answer = parting_answer setup (after_settling made.s.settled (history_of (log_of old))) made.s.event made.s.drawn made.s.reply same follows.follows in
    let ruling = disconnect_ruling (caller_of (after_settling made.s.settled (history_of (log_of old))) made.s.event) (has_busy setup (after_settling made.s.settled (history_of (log_of old))) made.s.event.client) in
    let reply_is : reply ≡ broken_or ruling (Done no_fields) = sym made.reply_is ∙ answer in
    let none : ticket_in reply ≡ None = ap ticket_in reply_is ∙ none_out ruling in
    record {
      made = made;
      goes = subst (λ (t : Option ℕ). GoesOut name new t job room) (sym none) (job_none setup (history_of (log_of new)) reply job none (made.job_is setup is));
      within = inl parting;
      enters = λ ticket given. absurd (none_some ticket (sym none ∙ given));
      has_ticket = subst (λ (r : Reply). r ≢ Stopped NoTicket) made.reply_is (never_no_ticket setup (after_settling made.s.settled (history_of (log_of old))) made.s.event made.s.drawn made.s.reply l follows.follows);
      parts = λ p. done;
    }
  where
    none_some : (ticket : ℕ) → None ≡ Some ticket → ⊥
    none_some ticket e = cc

-- ---- a leave

pub left_made : {N : Type 0} (name : ServiceId N) (setup : Setup) (pass client : ℕ) (reading : Reading) (ticket : ℕ) (event : Event) (old new : List BookEntry) (reply : Reply) (job : Option Job) (back : JobDone) (room : FieldSizes)
    → IsSetupOf name setup → AllFacts setup (log_of old) → Legal setup (history_of (log_of new)) → event ≡ leave_by reading client ticket → MayLeave name (log_of old) pass ticket back room → HasMade name pass event old new reply job
    → HasLeft name pass client reading ticket old new reply
left_made name setup pass client reading ticket event old new reply job back room is facts legal event_is may made =
    let follows = may_made setup pass made.s old new made.grown legal in
    let same : made.s.event ≡ leave_by reading client ticket = made.event_is ∙ event_is in
    let act : made.s.event.act ≡ Leave ticket = ap (λ (e : Event). e.act) same in
    let none = leave_settles_none made.s.settled (history_of (log_of old)) made.s.event (ap (λ (a : Act). (fixed_for a).settles) act) follows.settles in
    let at : MayFollow setup (history_of (log_of old)) made.s.event made.s.drawn made.s.reply = subst (λ (o : Option Settled). MayFollow setup (after_settling o (history_of (log_of old))) made.s.event made.s.drawn made.s.reply) none follows.follows in
    let reply_is : reply ≡ leaving setup (history_of (log_of old)) (ticket_at (history_of (log_of old)) ticket) = sym made.reply_is ∙ leaving_answer setup (history_of (log_of old)) made.s.event made.s.drawn made.s.reply ticket act at in
    let never = leaving_not setup (history_of (log_of old)) (ticket_at (history_of (log_of old)) ticket) back ((newest setup (log_of old) facts).tickets.out_is pass ticket may.is_out) (may.back_is setup is) in
    record {
      s = made.s;
      event_is = same;
      none = none;
      reply_is = made.reply_is;
      grown = made.grown;
      has_memory = subst (λ (r : Reply). r ≢ Stopped MemoryAllocationFailed) (sym reply_is) never.0;
      has_ticket = subst (λ (r : Reply). r ≢ Stopped NoTicket) (sym reply_is) never.1;
    }
