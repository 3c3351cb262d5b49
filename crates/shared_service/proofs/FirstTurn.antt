-- What the first turn of a call comes to.
use Rattle.std.proofs.Common.{◌≡◌, ℕ, ◌<◌, ◌^◌, ◌&&◌, Bool, true, false, List, ◌++◌, length, Option, Some, None, Err, unwrap_or, refl, sym, ap, ◌∙◌, subst, arith, ⊎_elim}
use Rattle.std.proofs.Math.Logic.{∥∥₁_elim, ∥∥₁_map, ∥∥₁_map₂}
use Rattle.ks_outside.specs.declared.clock.Reading.{Reading}
use Rattle.ks_outside.specs.declared.disk.Disk.{Ghosts as DiskGhosts}
use Rattle.ks_outside.specs.declared.entropy.Entropy.{Ghosts as EntropyGhosts}
use Rattle.keystore_core.specs.declared.engine.Engine.{Engine}
use Rattle.tags.specs.declared.code.Code.{Code}
use Rattle.tags.specs.declared.code.Code.TheVariants.{MemoryAllocationFailed, RunFull}
use Rattle.turn_lock.specs.Fronts.{Extends, IsFrontOf}
use Rattle.turn_lock.specs.Rule as lock
use Rattle.cipher_ops.specs.declared.job.Job.{Job}
use Rattle.rule_model.specs.declared.event.Act.{Act}
use Rattle.rule_model.specs.declared.event.Act.TheVariants.{Connect, Disconnect, EnterAad, EnterUpdate, EnterFinish, Leave}
use Rattle.rule_model.specs.declared.event.Event.{Event}
use Rattle.rule_model.specs.declared.field_sizes.FieldSizes.{FieldSizes}
use Rattle.rule_model.specs.declared.reply.Reply.{Reply}
use Rattle.rule_model.specs.declared.reply.Reply.TheVariants.{Done, Broken, Stopped}
use Rattle.rule_model.specs.Acts.{is_disconnect, is_enter}
use Rattle.rule_model.specs.Entries.{History, is_done}
use Rattle.rule_model.specs.Jobs.{GoesWith, HasJob, IsJobOut}
use Rattle.rule_model.specs.Setup.{Setup}
use Rattle.rule_model.specs.Tickets.{ticket_at}
use Rattle.service_book.specs.declared.entry.BookEntry.{BookEntry}
use Rattle.service_book.specs.Book.{client_of, history_of, log_of, ticket_in}
use Rattle.service_book.specs.Limits.{passes_limit}
use Rattle.wire_frames.specs.Replies.{reply_body}
use Rattle.shared_service.specs.declared.name.ServiceId.{ServiceId}
use Rattle.shared_service.specs.declared.pass.Pass.{Pass}
use Rattle.shared_service.specs.declared.served.Served.{Served}
use Rattle.shared_service.specs.declared.shared.Shared.{Shared}
use Rattle.shared_service.specs.declared.shared.away.Asked.{Asked}
use Rattle.shared_service.specs.declared.shared.away.Asked.TheVariants.{Answered, Out}
use Rattle.shared_service.specs.declared.shared.away.Sent.{Sent}
use Rattle.shared_service.specs.Asking.{Asks, TurnedAway}
use Rattle.shared_service.specs.Away.{IsEntered, IsJobAway}
use Rattle.shared_service.specs.Calls.{Full, IsCall, OneStep, Poor, entries_of}
use Rattle.shared_service.specs.Desks.{HasMade, HasSeen, IsDesk}
use Rattle.shared_service.specs.Kinds.{client_after, connected_after, kind_of}
use Rattle.shared_service.specs.Owning.{by, client_for, event_for, is_connected, is_parting}
use Rattle.shared_service.specs.Passes.{connected_of, front_of, number_of}
use Rattle.shared_service.specs.Requests.{AreNumbers, GoesOut, IsCaller, IsLeaveRoom, IsRequested}
use Rattle.shared_service.specs.Turns.{Requests}
use Rattle.shared_service.specs.Sending.{sent}
use Rattle.shared_service.proofs.Entries.{enter_asked, enter_no_leave}
use Rattle.shared_service.proofs.Naming.{caller_prop}
use Rattle.shared_service.proofs.ReplyLengths.{body_few, small_sizes}
use Rattle.shared_service.proofs.Seeing.{caller_after, caller_on, idle_after, out_after, seen_of}

abbrev Refused : Code → Served
Refused code = record { first = 0; last = 0; reply = Stopped code }

-- ---- calls that add nothing

pub call_full : (pass : ℕ) (reading : Reading) (act : Act) (front book : List BookEntry) → IsFrontOf by pass front book → passes_limit act (log_of book) ≡ true → is_parting act pass (log_of book) ≡ false
    → IsCall pass reading act front book (Refused RunFull)
call_full pass reading act front book begins passes stays = Full (record { begins = begins; passes = passes; stays = stays; is_full = refl; none_first = refl; none_last = refl })

pub call_poor : (pass : ℕ) (reading : Reading) (act : Act) (front book : List BookEntry) → IsFrontOf by pass front book → passes_limit act (log_of book) ≡ false → is_parting act pass (log_of book) ≡ false
    → IsCall pass reading act front book (Refused MemoryAllocationFailed)
call_poor pass reading act front book begins within stays = Poor (record { begins = begins; within = within; stays = stays; is_want = refl; none_first = refl; none_last = refl })

-- what a refusal tells: nothing is added, and the call is refused so
pub refused_so : {N : Type 0} (name : ServiceId N) (pass : ℕ) (reading : Reading) (act : Act) (front old new : List BookEntry) (code : Code) → IsFrontOf by pass front old → Requests name pass (event_for reading act pass (log_of old)) old new (Err code)
    → (new ≡ old) × (is_parting act pass (log_of old) ≡ false) × IsCall pass reading act front old (Refused code)
refused_so name pass reading act front old new RunFull begins told = (told.0, told.2, call_full pass reading act front old begins told.1 told.2)
refused_so name pass reading act front old new MemoryAllocationFailed begins told = (told.0, told.2, call_poor pass reading act front old begins told.1 told.2)
refused_so name pass reading act front old new _ begins told = absurd told

pub refused_told : (code : Code) (served : Served) → served ≡ Refused code → length (reply_body served.reply) < 2 ^ 32
refused_told code served is = subst (λ (r : Reply). length (reply_body r) < 2 ^ 32) (sym (ap (λ (s : Served). s.reply) is)) (body_few _ (Stopped code) (small_sizes Disconnect 0 (omega arith)) tt)

pub refused_connected : (act : Act) (code : Code) (served : Served) (before : Bool) → served ≡ Refused code → before ≡ connected_after act served.reply before
refused_connected act code served before is = subst (λ (r : Reply). before ≡ connected_after act r before) (sym (ap (λ (s : Served). s.reply) is)) refl

-- such a call is no disconnect of a connected client
pub refused_parts : (act : Act) (pass : ℕ) (log : List BookEntry) (connected : Bool) (reply : Reply) → connected ≡ is_connected pass log → is_parting act pass log ≡ false → act ≡ Disconnect → connected ≡ true → is_done reply ≡ true
refused_parts act pass log connected reply mine stays is on = absurd (differ (sym stays ∙ (λ i. is_disconnect (is i) && here i)))
  where
    here : is_connected pass log ≡ true
    here = sym mine ∙ on

    differ : false ≡ true → ⊥
    differ e = cc

pub requested_parts : (act : Act) (pass : ℕ) (log : List BookEntry) (connected : Bool) (reply : Reply) → connected ≡ is_connected pass log → (is_parting act pass log ≡ true → is_done reply ≡ true) → act ≡ Disconnect → connected ≡ true → is_done reply ≡ true
requested_parts act pass log connected reply mine parts is on = parts (λ i. is_disconnect (is i) && here i)
  where
    here : is_connected pass log ≡ true
    here = sym mine ∙ on

-- ---- the client afterwards

second_after : (act : Act) (reply : Reply) (client : ℕ) (connected : Bool) → (client_after (kind_of act) reply (client, connected)).1 ≡ connected_after act reply connected
second_after (Connect uid) (Done fields) client connected = refl
second_after Disconnect (Done fields) client connected = refl
second_after _ (Done fields) client connected = refl
second_after (Connect uid) (Broken rule code) client connected = refl
second_after Disconnect (Broken rule code) client connected = refl
second_after _ (Broken rule code) client connected = refl
second_after (Connect uid) (Stopped code) client connected = refl
second_after Disconnect (Stopped code) client connected = refl
second_after _ (Stopped code) client connected = refl

pub after_connected : (act : Act) (reply : Reply) (client : ℕ) (connected : Bool) (next : ℕ × Bool) → next ≡ client_after (kind_of act) reply (client, connected) → next.1 ≡ connected_after act reply connected
after_connected act reply client connected next is = ap (λ (p : ℕ × Bool). p.1) is ∙ second_after act reply client connected

by_reply : (reply : Reply) (before : ℕ × Bool) → client_after Rattle.shared_service.specs.declared.shared.turns.ClientAct.TheVariants.Other reply before ≡ before
by_reply (Done fields) before = refl
by_reply (Broken rule code) before = refl
by_reply (Stopped code) before = refl

-- neither an enter nor a leave changes it
pub enter_after : (act : Act) (reply : Reply) (before : ℕ × Bool) → is_enter act ≡ true → client_after (kind_of act) reply before ≡ before
enter_after (EnterAad op input) reply before e = by_reply reply before
enter_after (EnterUpdate op input) reply before e = by_reply reply before
enter_after (EnterFinish op input signature) reply before e = by_reply reply before
enter_after _ reply before e = cc

pub leave_after : (ticket : ℕ) (reply : Reply) (before : ℕ × Bool) → client_after (kind_of (Leave ticket)) reply before ≡ before
leave_after ticket reply before = by_reply reply before

pub enter_client : (act : Act) (pass : ℕ) (log : List BookEntry) → is_enter act ≡ true → client_for act pass log ≡ unwrap_or (client_of pass log) 0
enter_client (EnterAad op input) pass log e = refl
enter_client (EnterUpdate op input) pass log e = refl
enter_client (EnterFinish op input signature) pass log e = refl
enter_client _ pass log e = cc

enter_connected : (act : Act) (reply : Reply) (before : Bool) → is_enter act ≡ true → connected_after act reply before ≡ before
enter_connected (EnterAad op input) reply before e = sym (second_after (EnterAad op input) reply 0 before) ∙ ap (λ (p : ℕ × Bool). p.1) (by_reply reply (0, before))
enter_connected (EnterUpdate op input) reply before e = sym (second_after (EnterUpdate op input) reply 0 before) ∙ ap (λ (p : ℕ × Bool). p.1) (by_reply reply (0, before))
enter_connected (EnterFinish op input signature) reply before e = sym (second_after (EnterFinish op input signature) reply 0 before) ∙ ap (λ (p : ℕ × Bool). p.1) (by_reply reply (0, before))
enter_connected _ reply before e = cc

pub left_connected : (act : Act) (reply : Reply) (before now : Bool) → is_enter act ≡ true → now ≡ before → now ≡ connected_after act reply before
left_connected act reply before now enters same = same ∙ sym (enter_connected act reply before enters)

-- ---- what goes out

pub sent_some : (t : Option ℕ) (j : Option Job) (r : Option FieldSizes) (x : Sent) → sent t j r ≡ Some x → (t ≡ Some x.ticket) × (j ≡ Some x.job) × (r ≡ Some x.room)
sent_some None j r x e = cc
sent_some (Some ticket) None r x e = cc
sent_some (Some ticket) (Some job) None x e = cc
sent_some (Some ticket) (Some job) (Some room) x e = (ap (λ (o : Option Sent). ticket_or ticket o) e, ap (λ (o : Option Sent). job_or job o) e, ap (λ (o : Option Sent). room_or room o) e)
  where
    ticket_or : ℕ → Option Sent → Option ℕ
    ticket_or d None = Some d
    ticket_or d (Some y) = Some y.ticket

    job_or : Job → Option Sent → Option Job
    job_or d None = Some d
    job_or d (Some y) = Some y.job

    room_or : FieldSizes → Option Sent → Option FieldSizes
    room_or d None = Some d
    room_or d (Some y) = Some y.room

pub sent_none : {N : Type 0} (name : ServiceId N) (book : List BookEntry) (t : Option ℕ) (j : Option Job) (r : Option FieldSizes) → GoesOut name book t j r → sent t j r ≡ None → t ≡ None
sent_none name book None j r goes e = refl
sent_none name book (Some ticket) None r goes e = absurd goes
sent_none name book (Some ticket) (Some job) None goes e = absurd goes
sent_none name book (Some ticket) (Some job) (Some room) goes e = cc

room_of : {N : Type 0} (name : ServiceId N) (book : List BookEntry) (ticket : ℕ) (job : Job) (room : FieldSizes) (t : Option ℕ) (j : Option Job) (r : Option FieldSizes) → t ≡ Some ticket → j ≡ Some job → r ≡ Some room → GoesOut name book t j r → IsLeaveRoom name book ticket room
room_of name book ticket job room t j r p q s goes =
    let a : GoesOut name book (Some ticket) j r = subst (λ (o : Option ℕ). GoesOut name book o j r) p goes in
    let b : GoesOut name book (Some ticket) (Some job) r = subst (λ (o : Option Job). GoesOut name book (Some ticket) o r) q a in
    subst (λ (o : Option FieldSizes). GoesOut name book (Some ticket) (Some job) o) s b

job_out : (setup : Setup) (past : History) (reply : Reply) (job : Job) (ticket : ℕ) → ticket_in reply ≡ Some ticket → HasJob setup past reply (Some job) → IsJobOut setup past (ticket_at past ticket) job
job_out setup past (Done fields) job ticket given has =
    let goes : GoesWith setup past (Some ticket) (Some job) = subst (λ (o : Option ℕ). GoesWith setup past o (Some job)) given has in goes.1
job_out setup past (Broken rule code) job ticket given has = cc
job_out setup past (Stopped code) job ticket given has = cc

pub job_away : {N : Type 0} (name : ServiceId N) (pass : ℕ) (event : Event) (old new : List BookEntry) (reply : Reply) (job : Option Job) (x : Sent) → HasMade name pass event old new reply job → ticket_in reply ≡ Some x.ticket → job ≡ Some x.job
    → IsJobAway name new x.ticket x.job
job_away name pass event old new reply job x made given is = λ s of.
    job_out s (history_of (log_of new)) reply x.job x.ticket given (subst (λ (o : Option Job). HasJob s (history_of (log_of new)) reply o) is (made.job_is s of))

pub entered_made : {N : Type 0} (name : ServiceId N) (pass client : ℕ) (connected : Bool) (next : ℕ × Bool) (reading : Reading) (act : Act) (front log book : List BookEntry) (reply : Reply) (job : Option Job) (leave : Option FieldSizes) (first last : ℕ) (x : Sent)
    → IsFrontOf by pass front log → ((more : List BookEntry) → book ≡ log ++ more → Extends by pass front book more) → IsRequested name pass (event_for reading act pass (log_of log)) log book reply job leave → AreNumbers log book first last
    → IsCaller pass client connected (log_of log) → next ≡ client_after (kind_of act) reply (client, connected) → (ticket_in reply ≡ Some x.ticket) × (job ≡ Some x.job) × (leave ≡ Some x.room)
    → IsEntered name pass next.0 next.1 reading act front book first x.ticket x.room
entered_made name pass client connected next reading act front log book reply job leave first last x begins extends asked numbers caller is goes =
    let s : OneStep = asked.made.s in
    let enters : is_enter act ≡ true = asked.enters x.ticket goes.0 in
    let same : s.event ≡ event_for reading act pass (log_of log) = asked.made.event_is in
    let mine : is_enter s.event.act ≡ true = ap (λ (e : Event). is_enter e.act) same ∙ enters in
    let given : ticket_in s.reply ≡ Some x.ticket = ap ticket_in asked.made.reply_is ∙ goes.0 in
    let grows = extends (entries_of pass s) asked.made.grown in
    let was : ◌≡◌ {A = ℕ × Bool} next (client, connected) = is ∙ enter_after act reply (client, connected) enters in
    let after : next ≡ client_after (kind_of s.event.act) s.reply (client, connected) =
    is ∙ (λ i. client_after (kind_of (sym same i).act) (sym asked.made.reply_is i) (client, connected)) in
    let now = caller_after pass s log book client connected next asked.made.grown caller.client_is caller.connected_is after in
    record {
      log = log;
      s = s;
      begins = begins;
      event_is = same;
      grown = asked.made.grown;
      own_grown = grows.grown;
      enters = enters;
      gives = given;
      is_out = out_after pass x.ticket s log book asked.made.grown (enter_no_leave s.event.act mine) mine given;
      client_is = now.0;
      client_was = ap (λ (p : ℕ × Bool). p.0) was ∙ (caller.client_is ∙ sym (enter_client act pass (log_of log) enters));
      connected_is = now.1;
      within = ⊎_elim (λ (p : is_parting act pass (log_of log) ≡ true). absurd (differ p (enter_asked act enters).1)) (λ (w : passes_limit act (log_of log) ≡ false). w) asked.within;
      first_is = numbers.first_is;
      has_room = room_of name book x.ticket x.job x.room (ticket_in reply) job leave goes.0 goes.1 goes.2 asked.goes;
    }
  where
    differ : is_parting act pass (log_of log) ≡ true → is_disconnect act ≡ false → ⊥
    differ p other = let none : is_parting act pass (log_of log) ≡ false = ap (λ (b : Bool). b && is_connected pass (log_of log)) other in cc

-- ---- what is seen afterwards

pub caller_now : {N : Type 0} (name : ServiceId N) (pass client : ℕ) (connected : Bool) (next : ℕ × Bool) (reading : Reading) (act : Act) (log book : List BookEntry) (reply : Reply) (job : Option Job) (leave : Option FieldSizes)
    → IsRequested name pass (event_for reading act pass (log_of log)) log book reply job leave → IsCaller pass client connected (log_of log) → next ≡ client_after (kind_of act) reply (client, connected) → ticket_in reply ≡ None
    → IsCaller pass next.0 next.1 (log_of book)
caller_now name pass client connected next reading act log book reply job leave asked caller is none =
    let s : OneStep = asked.made.s in
    let same : s.event ≡ event_for reading act pass (log_of log) = asked.made.event_is in
    let after : next ≡ client_after (kind_of s.event.act) s.reply (client, connected) =
    is ∙ (λ i. client_after (kind_of (sym same i).act) (sym asked.made.reply_is i) (client, connected)) in
    let now = caller_after pass s log book client connected next asked.made.grown caller.client_is caller.connected_is after in
    record {
      client_is = now.0;
      connected_is = now.1;
      idle = idle_after pass s log book asked.made.grown caller.idle (ap ticket_in asked.made.reply_is ∙ none);
    }

-- ---- at the numbers and fronts that a turn tells

pub front_at : (m n : ℕ) (f front book : List BookEntry) → m ≡ n → f ≡ front → IsFrontOf by m f book → IsFrontOf by n front book
front_at m n f front book p q begins = subst (λ (z : ℕ × List BookEntry). IsFrontOf by z.0 z.1 book) (λ i. (p i, q i)) begins

pub first_caller : {N : Type 0} {g : EntropyGhosts N} (name : ServiceId N) (m n client : ℕ) (connected : Bool) (front book : List BookEntry) → m ≡ n → ∥ HasSeen g name m front client connected ∥₁ → lock.own by n front ≡ lock.own by n book → IsCaller n client connected (log_of book)
first_caller {g = g} name m n client connected front book is seen same =
    ∥∥₁_elim seen (caller_prop n client connected (log_of book)) (λ s. caller_on name n client connected front book (subst (λ (k : ℕ). HasSeen g name k front client connected) is s) same)

pub seen_after : {D N : Type 0} (d : DiskGhosts D) (n : EntropyGhosts N) (name named : ServiceId N) (engine : Engine) (disk : D) (entropy : N) (book front : List BookEntry) (number m client : ℕ) (connected : Bool) → ∥ IsDesk d n name engine disk entropy book ∥₁
    → IsCaller number client connected (log_of book) → name ≡ named → m ≡ number → front ≡ book → ∥ HasSeen n named m front client connected ∥₁
seen_after {D} {N} d n name named engine disk entropy book front number m client connected desk caller p q r =
    let seen : IsDesk d n name engine disk entropy book → HasSeen n named m front client connected = λ t.
    subst (λ (z : ServiceId N × ℕ × List BookEntry). HasSeen n z.0 z.1 z.2 client connected) (λ i. (p i, sym q i, sym r i)) (seen_of d n name engine disk entropy book number client connected t caller) in
    ∥∥₁_map desk seen

pub seen_made : {D N : Type 0} (d : DiskGhosts D) (n : EntropyGhosts N) (old name named : ServiceId N) (engine : Engine) (disk : D) (entropy : N) (log book front : List BookEntry) (pass m client : ℕ) (connected : Bool) (next : ℕ × Bool) (reading : Reading) (act : Act) (reply : Reply)
    (job : Option Job) (leave : Option FieldSizes) → ∥ IsDesk d n name engine disk entropy book ∥₁ → ∥ IsRequested old pass (event_for reading act pass (log_of log)) log book reply job leave ∥₁ → IsCaller pass client connected (log_of log)
    → next ≡ client_after (kind_of act) reply (client, connected) → sent (ticket_in reply) job leave ≡ None → name ≡ named → m ≡ pass → front ≡ book → ∥ HasSeen n named m front next.0 next.1 ∥₁
seen_made {D} {N} d n old name named engine disk entropy log book front pass m client connected next reading act reply job leave desk requested caller is none p q r =
    let seen : IsDesk d n name engine disk entropy book → IsRequested old pass (event_for reading act pass (log_of log)) log book reply job leave → HasSeen n named m front next.0 next.1 = λ t asked.
    subst (λ (z : ServiceId N × ℕ × List BookEntry). HasSeen n z.0 z.1 z.2 next.0 next.1) (λ i. (p i, sym q i, sym r i))
    (seen_of d n name engine disk entropy book pass next.0 next.1 t (caller_now old pass client connected next reading act log book reply job leave asked caller is (sent_none old book (ticket_in reply) job leave asked.goes none))) in
    ∥∥₁_map₂ desk requested seen

pub call_at : (m n : ℕ) (reading : Reading) (act : Act) (old new now : List BookEntry) (served : Served) → n ≡ m → now ≡ new → IsCall n reading act old new served → IsCall m reading act old now served
call_at m n reading act old new now served p q call = subst (λ (z : ℕ × List BookEntry). IsCall z.0 reading act old z.1 served) (λ i. (p i, sym q i)) call

pub extends_at : (m n : ℕ) (f front g now whole log seen : List BookEntry) → m ≡ n → f ≡ front → g ≡ now → seen ≡ log → ((more : List BookEntry) → whole ≡ seen ++ more → Extends by m f g more) → (more : List BookEntry) → whole ≡ log ++ more → Extends by n front now more
extends_at m n f front g now whole log seen p q r same extends more grown =
    subst (λ (z : ℕ × List BookEntry × List BookEntry). Extends by z.0 z.1 z.2 more) (λ i. (p i, q i, r i)) (extends more (grown ∙ ap (λ (l : List BookEntry). l ++ more) (sym same)))

pub entered_at : {N : Type 0} (name named : ServiceId N) (n m client : ℕ) (connected : Bool) (reading : Reading) (act : Act) (old new now : List BookEntry) (first ticket : ℕ) (room : FieldSizes) → name ≡ named → n ≡ m → now ≡ new
    → IsEntered name n client connected reading act old new first ticket room → IsEntered named m client connected reading act old now first ticket room
entered_at {N} name named n m client connected reading act old new now first ticket room p q r entered =
    subst (λ (z : ServiceId N × ℕ × List BookEntry). IsEntered z.0 z.1 client connected reading act old z.2 first ticket room) (λ i. (p i, q i, sym r i)) entered

pub job_at : {N : Type 0} (name named : ServiceId N) (new now : List BookEntry) (ticket : ℕ) (job : Job) → name ≡ named → now ≡ new → IsJobAway name new ticket job → IsJobAway named now ticket job
job_at {N} name named new now ticket job p q away = subst (λ (z : ServiceId N × List BookEntry). IsJobAway z.0 z.1 ticket job) (λ i. (p i, sym q i)) away

pub caller_at : (m n client : ℕ) (connected : Bool) (book now : List BookEntry) → m ≡ n → now ≡ book → IsCaller n client connected (log_of book) → IsCaller m client connected (log_of now)
caller_at m n client connected book now p q caller = subst (λ (z : ℕ × List BookEntry). IsCaller z.0 client connected (log_of z.1)) (λ i. (sym p i, sym q i)) caller

-- a call that adds nothing
pub turned_asks : {D N : Type 0} {d : DiskGhosts D} {n : EntropyGhosts N} (shared : Shared D N d n) (pass : Pass N n) (reading : Reading) (act : Act) (number m client : ℕ) (book now : List BookEntry) (code : Code) (asked : Asked N n) → number_of pass ≡ number → m ≡ number → now ≡ book
    → IsCaller number client (connected_of pass) (log_of book) → is_parting act number (log_of book) ≡ false → IsCall number reading act (front_of pass) book (Refused code) → TurnedAway shared m now (connected_of pass) code asked → Asks shared pass reading act asked
turned_asks shared pass reading act number m client book now code (Answered next served) mine turned same caller stays call away = record {
  ours = away.ours;
  number_is = away.number_is ∙ (turned ∙ sym mine);
  calls = ∣ subst (λ (s : Served). IsCall (number_of pass) reading act (front_of pass) (front_of next) s) (sym away.served_is) (call_at (number_of pass) number reading act (front_of pass) book (front_of next) (Refused code) (sym mine) (away.front_is ∙ same) call) ∣₁;
  connected_is = away.connected_is ∙ refused_connected act code served (connected_of pass) away.served_is;
  parts = refused_parts act number (log_of book) (connected_of pass) served.reply caller.connected_is stays;
  told = refused_told code served away.served_is;
}
turned_asks shared pass reading act number m client book now code (Out away job) mine turned same caller stays call none = absurd none
