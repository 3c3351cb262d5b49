-- Entries that leave the keys and grants as they are.
use Rattle.std.proofs.Common.{◌≡◌, ℕ, Bool, true, false, ◌&&◌, not, if◌then◌else◌, List, ◌∷◌, Option, Some, None, refl, ap, ◌∙◌}
use Rattle.tags.specs.declared.policy.PolicyRow.{PolicyRow}
use Rattle.tags.specs.declared.secrets.DeviceSecrets.{DeviceSecrets}
use Rattle.tags.specs.declared.settled.Settled.{Settled}
use Rattle.tags.specs.declared.settled.Settled.TheVariants.{Kept, Lost}
use Rattle.tags.specs.declared.code.Code.{Code}
use Rattle.tags.specs.declared.code.Code.TheVariants.{SystemError}
use Rattle.journal_records.specs.declared.change.Change.{Change}
use Rattle.journal_records.specs.Effects.{after}
use Rattle.journal_records.specs.Holding.{IsMember, Sure, Unsure, settled_in}
use Rattle.journal_records.specs.LastingPart.{Lasting}
use Rattle.rule_model.specs.declared.entry.Entry.TheVariants.{Acted, Settling}
use Rattle.rule_model.specs.declared.event.Act.{Act}
use Rattle.rule_model.specs.declared.event.Act.TheVariants.{GenerateKey, ImportKey, EnterFinish, DeleteKey, Grant, Ungrant, ClearNamespace, UserRemoved, Restart, UpgradeKey, ImportWrappedKey}
use Rattle.rule_model.specs.declared.event.Event.{Event}
use Rattle.rule_model.specs.declared.facts.Caller.{Caller}
use Rattle.rule_model.specs.declared.reply.Fields.{Fields}
use Rattle.rule_model.specs.declared.reply.Reply.{Reply}
use Rattle.rule_model.specs.declared.reply.Reply.TheVariants.{Done, Broken, Stopped}
use Rattle.rule_model.specs.Acts.{is_restart}
use Rattle.rule_model.specs.Blobs.{device_at, root_given, root_of}
use Rattle.rule_model.specs.Changes.{after_change, change_of}
use Rattle.rule_model.specs.Clients.{caller_of}
use Rattle.rule_model.specs.Entries.{History, is_done}
use Rattle.rule_model.specs.Kept.{kept, kept_settled, open_of}
use Rattle.rule_model.specs.declared.operation.Open.{Open}
use Rattle.rule_model.specs.Settling.{is_disk_fault, is_faulted, is_system_error, is_unsettled}
use Rattle.rule_model.specs.Setup.{Setup}
use Rattle.rule_model.specs.Stored.{May, MayWhere, after_reply, change_by, holding_of, made_by, torn_by}

-- the acts that change the keys, the grants or the root of trust where they are admitted
abbrev pub changes_kept : Act → Bool
changes_kept (GenerateKey key params) = true
changes_kept (ImportKey key params format material) = true
changes_kept (EnterFinish op input signature) = true
changes_kept (DeleteKey key) = true
changes_kept (Grant key uid bits) = true
changes_kept (Ungrant key uid) = true
changes_kept (ClearNamespace domain nspace) = true
changes_kept (UserRemoved user) = true
changes_kept (Restart root) = true
changes_kept (UpgradeKey key params) = true
changes_kept (ImportWrappedKey key params wrapping wrapped unwrapping) = true
changes_kept _ = false

pub none_changed : (act : Act) (device : DeviceSecrets) (policy : List PolicyRow) (part : Lasting) (opened : List Open) (caller : Caller) (drawn : List ℕ) → changes_kept act ≡ false → change_of act device policy part opened caller drawn ≡ None
none_changed (GenerateKey key params) device policy part opened caller drawn e = cc
none_changed (ImportKey key params format material) device policy part opened caller drawn e = cc
none_changed (EnterFinish op input signature) device policy part opened caller drawn e = cc
none_changed (DeleteKey key) device policy part opened caller drawn e = cc
none_changed (Grant key uid bits) device policy part opened caller drawn e = cc
none_changed (Ungrant key uid) device policy part opened caller drawn e = cc
none_changed (ClearNamespace domain nspace) device policy part opened caller drawn e = cc
none_changed (UserRemoved user) device policy part opened caller drawn e = cc
none_changed (Restart root) device policy part opened caller drawn e = cc
none_changed (UpgradeKey key params) device policy part opened caller drawn e = cc
none_changed (ImportWrappedKey key params wrapping wrapped unwrapping) device policy part opened caller drawn e = cc
none_changed _ device policy part opened caller drawn e = refl

none_given : (act : Act) (before : List ℕ) → changes_kept act ≡ false → root_given act before ≡ before
none_given (Restart root) before e = cc
none_given _ before e = refl

-- an entry that is not admitted and was not settled counts for nothing
uncounted : (faulted : Bool) (setup : Setup) (past : History) (change : Lasting → Lasting)
    → (if faulted && false then change (kept_settled setup (if faulted then None else None) past) else kept_settled setup (if faulted then None else None) past) ≡ kept setup past
uncounted true setup past change = refl
uncounted false setup past change = refl

-- an entry that is not admitted
pub denied_kept : (setup : Setup) (past : History) (event : Event) (drawn : List ℕ) (reply : Reply) → is_done reply ≡ false
    → kept setup (Acted event drawn reply ∷ past) ≡ kept setup past
denied_kept setup past event drawn (Done fields) e = cc
denied_kept setup past event drawn (Broken rule code) e = refl
denied_kept setup past event drawn (Stopped code) e =
    uncounted (is_faulted (is_unsettled past) event.act (Stopped code)) setup past
    (λ part. after_change (change_of event.act (device_at setup past) setup.policy part (open_of setup past) (caller_of past event) drawn) part)

-- an entry whose act changes none
pub same_kept : (setup : Setup) (past : History) (event : Event) (drawn : List ℕ) (reply : Reply) → changes_kept event.act ≡ false
    → kept setup (Acted event drawn reply ∷ past) ≡ kept setup past
same_kept setup past event drawn (Done fields) e =
    ap (λ change. after_change change (kept setup past)) (none_changed event.act (device_at setup past) setup.policy (kept setup past) (open_of setup past) (caller_of past event) drawn e)
same_kept setup past event drawn (Broken rule code) e = denied_kept setup past event drawn (Broken rule code) refl
same_kept setup past event drawn (Stopped code) e = denied_kept setup past event drawn (Stopped code) refl

same_root : (setup : Setup) (past : History) (event : Event) (drawn : List ℕ) (reply : Reply) → changes_kept event.act ≡ false
    → root_of setup (Acted event drawn reply ∷ past) ≡ root_of setup past
same_root setup past event drawn (Done fields) e = none_given event.act (root_of setup past) e
same_root setup past event drawn (Broken rule code) e = refl
same_root setup past event drawn (Stopped code) e = refl

denied_root : (setup : Setup) (past : History) (event : Event) (drawn : List ℕ) (reply : Reply) → is_done reply ≡ false
    → root_of setup (Acted event drawn reply ∷ past) ≡ root_of setup past
denied_root setup past event drawn (Done fields) e = cc
denied_root setup past event drawn (Broken rule code) e = refl
denied_root setup past event drawn (Stopped code) e = refl

with_root : (setup : Setup) (later past : History) → root_of setup later ≡ root_of setup past → device_at setup later ≡ device_at setup past
with_root setup later past e = ap (λ root. record setup.device { root = root }) e

-- an entry whose act gives no root of trust, and one that is not admitted
pub same_device : (setup : Setup) (past : History) (event : Event) (drawn : List ℕ) (reply : Reply) → changes_kept event.act ≡ false
    → device_at setup (Acted event drawn reply ∷ past) ≡ device_at setup past
same_device setup past event drawn reply e = with_root setup (Acted event drawn reply ∷ past) past (same_root setup past event drawn reply e)

pub denied_device : (setup : Setup) (past : History) (event : Event) (drawn : List ℕ) (reply : Reply) → is_done reply ≡ false
    → device_at setup (Acted event drawn reply ∷ past) ≡ device_at setup past
denied_device setup past event drawn reply e = with_root setup (Acted event drawn reply ∷ past) past (denied_root setup past event drawn reply e)

-- ---- entries that are not faulted

pub no_fault_unfaulted : (waits : Bool) (act : Act) (reply : Reply) → is_disk_fault reply ≡ false → is_faulted waits act reply ≡ false
no_fault_unfaulted waits act (Done fields) f = refl
no_fault_unfaulted waits act (Broken rule code) f = refl
no_fault_unfaulted waits act (Stopped code) f = rw f refl

not_again : (system restarts waits : Bool) → waits ≡ true → (system && (not restarts && not waits)) ≡ false
not_again true true waits e = refl
not_again true false waits e = rw e refl
not_again false restarts waits e = refl

pub waiting_unfaulted : (waits : Bool) (act : Act) (reply : Reply) → waits ≡ true → is_faulted waits act reply ≡ false
waiting_unfaulted waits act (Done fields) e = refl
waiting_unfaulted waits act (Broken rule code) e = refl
waiting_unfaulted waits act (Stopped code) e = not_again (is_system_error code) (is_restart act) waits e

no_restart_fault : (system restarts waits : Bool) → restarts ≡ true → (system && (not restarts && not waits)) ≡ false
no_restart_fault true restarts waits e = rw e refl
no_restart_fault false restarts waits e = refl

pub restart_unfaulted : (waits : Bool) (act : Act) (reply : Reply) → is_restart act ≡ true → is_faulted waits act reply ≡ false
restart_unfaulted waits act (Done fields) e = refl
restart_unfaulted waits act (Broken rule code) e = refl
restart_unfaulted waits act (Stopped code) e = no_restart_fault (is_system_error code) (is_restart act) waits e

-- such an entry changes nothing after a settling of an earlier one, where it is not admitted or its act changes none
only_left : (b : Bool) → b && true ≡ false → b ≡ false
only_left true e = e
only_left false e = refl

pub still_kept : (setup : Setup) (past : History) (event : Event) (drawn : List ℕ) (reply : Reply) (settled : Settled) → is_faulted (is_unsettled past) event.act reply ≡ false → changes_kept event.act && is_done reply ≡ false
    → kept setup (Settling settled ∷ Acted event drawn reply ∷ past) ≡ kept setup (Settling settled ∷ past)
still_kept setup past event drawn (Done fields) settled f e =
    ap (λ change. after_change change (kept_settled setup (Some settled) past))
    (none_changed event.act (device_at setup past) setup.policy (kept_settled setup (Some settled) past) (open_of setup past) (caller_of past event) drawn (only_left (changes_kept event.act) e))
still_kept setup past event drawn (Broken rule code) settled f e = refl
still_kept setup past event drawn (Stopped code) settled f e = rw f refl

-- A later history keeps what an earlier one does, with the same root of trust. Neither or both wait to be
-- settled, and where they do, a settling leaves the same after both.
pub record SameStored (setup : Setup) (past later : History) : Type 0 where
  pub kept_is : kept setup later ≡ kept setup past
  pub settled_is : is_unsettled later ≡ is_unsettled past
  pub device_is : device_at setup later ≡ device_at setup past
  pub waiting_kept : (settled : Settled) → is_unsettled past ≡ true → kept setup (Settling settled ∷ later) ≡ kept setup (Settling settled ∷ past)

pub same_stored : (setup : Setup) (past : History) → SameStored setup past past
same_stored setup past =
    record { kept_is = refl; settled_is = refl; device_is = refl; waiting_kept = λ settled waits. refl }

not_both : (changes : Bool) → changes && false ≡ false
not_both true = refl
not_both false = refl

-- an entry that is neither admitted nor faulted
pub unfaulted_stored : (setup : Setup) (past : History) (event : Event) (drawn : List ℕ) (reply : Reply) → is_done reply ≡ false → is_faulted (is_unsettled past) event.act reply ≡ false
    → SameStored setup past (Acted event drawn reply ∷ past)
unfaulted_stored setup past event drawn (Done fields) e f = cc
unfaulted_stored setup past event drawn (Broken rule code) e f =
    record { kept_is = refl; settled_is = refl; device_is = refl; waiting_kept = λ settled waits. refl }
unfaulted_stored setup past event drawn (Stopped code) e f = record {
  kept_is = denied_kept setup past event drawn (Stopped code) refl;
  settled_is = rw f refl;
  device_is = refl;
  waiting_kept = λ settled waits. still_kept setup past event drawn (Stopped code) settled f (not_both (changes_kept event.act));
}

-- one of which no device call failed
pub denied_stored : (setup : Setup) (past : History) (event : Event) (drawn : List ℕ) (reply : Reply) → is_done reply ≡ false → is_disk_fault reply ≡ false
    → SameStored setup past (Acted event drawn reply ∷ past)
denied_stored setup past event drawn reply e f = unfaulted_stored setup past event drawn reply e (no_fault_unfaulted (is_unsettled past) event.act reply f)

-- one while an earlier change waits to be settled
pub waiting_stored : (setup : Setup) (past : History) (event : Event) (drawn : List ℕ) (reply : Reply) → is_done reply ≡ false → is_unsettled past ≡ true
    → SameStored setup past (Acted event drawn reply ∷ past)
waiting_stored setup past event drawn reply e waits = unfaulted_stored setup past event drawn reply e (waiting_unfaulted (is_unsettled past) event.act reply waits)

-- a restart that has not happened
pub restart_stored : (setup : Setup) (past : History) (event : Event) (drawn : List ℕ) (reply : Reply) → is_done reply ≡ false → is_restart event.act ≡ true
    → SameStored setup past (Acted event drawn reply ∷ past)
restart_stored setup past event drawn reply e restarts = unfaulted_stored setup past event drawn reply e (restart_unfaulted (is_unsettled past) event.act reply restarts)

-- an entry whose act changes none
pub quiet_stored : (setup : Setup) (past : History) (event : Event) (drawn : List ℕ) (reply : Reply) → changes_kept event.act ≡ false → is_disk_fault reply ≡ false
    → SameStored setup past (Acted event drawn reply ∷ past)
quiet_stored setup past event drawn (Done fields) e f = record {
  kept_is = same_kept setup past event drawn (Done fields) e;
  settled_is = refl;
  device_is = same_device setup past event drawn (Done fields) e;
  waiting_kept = λ settled waits. still_kept setup past event drawn (Done fields) settled refl (ap (λ b. b && true) e);
}
quiet_stored setup past event drawn (Broken rule code) e f = denied_stored setup past event drawn (Broken rule code) refl f
quiet_stored setup past event drawn (Stopped code) e f = denied_stored setup past event drawn (Stopped code) refl f

never_waits : {A : Type 0} (waits : Bool) → waits ≡ false → waits ≡ true → A
never_waits true idle waiting = cc
never_waits false idle waiting = cc

-- an entry that would change nothing, and gives no root of trust, where nothing waits to be settled
pub unchanged_stored : (setup : Setup) (past : History) (event : Event) (drawn : List ℕ) (reply : Reply) → ((before : List ℕ) → root_given event.act before ≡ before) → change_by setup past event drawn ≡ None → is_disk_fault reply ≡ false
    → is_unsettled past ≡ false → SameStored setup past (Acted event drawn reply ∷ past)
unchanged_stored setup past event drawn (Done fields) root e f idle = record {
  kept_is = ap (λ change. after_change change (kept setup past)) e;
  settled_is = refl;
  device_is = ap (λ given. record setup.device { root = given }) (root (root_of setup past));
  waiting_kept = λ settled waits. never_waits (is_unsettled past) idle waits;
}
unchanged_stored setup past event drawn (Broken rule code) root e f idle = denied_stored setup past event drawn (Broken rule code) refl f
unchanged_stored setup past event drawn (Stopped code) root e f idle = denied_stored setup past event drawn (Stopped code) refl f

-- a later history keeps what an earlier one does with a change
pub record MadeStored (setup : Setup) (past later : History) (change : Change) : Type 0 where
  pub kept_is : kept setup later ≡ after (kept setup past) change
  pub settled_is : is_unsettled later ≡ is_unsettled past
  pub device_is : device_at setup later ≡ device_at setup past

pub made_stored : (setup : Setup) (past : History) (event : Event) (drawn : List ℕ) (fields : Fields) (change : Change) → ((before : List ℕ) → root_given event.act before ≡ before) → change_by setup past event drawn ≡ Some change
    → MadeStored setup past (Acted event drawn (Done fields) ∷ past) change
made_stored setup past event drawn fields change root is = record {
  kept_is = ap (λ c. after_change c (kept setup past)) is;
  settled_is = refl;
  device_is = ap (λ given. record setup.device { root = given }) (root (root_of setup past));
}

-- A later history keeps what an earlier one does, and a change waits to be settled: it is made where it was kept, and is not
-- where it was lost.
pub record TornStored (setup : Setup) (past later : History) (change : Change) : Type 0 where
  pub kept_is : kept setup later ≡ kept setup past
  pub waits : is_unsettled later ≡ true
  pub device_is : device_at setup later ≡ device_at setup past
  pub made_kept : kept setup (Settling Kept ∷ later) ≡ after (kept setup past) change
  pub lost_kept : kept setup (Settling Lost ∷ later) ≡ kept setup past

-- a faulted entry
pub faulted_stored : (setup : Setup) (past : History) (event : Event) (drawn : List ℕ) (reply : Reply) (change : Change) → is_faulted (is_unsettled past) event.act reply ≡ true → change_by setup past event drawn ≡ Some change
    → TornStored setup past (Acted event drawn reply ∷ past) change
faulted_stored setup past event drawn (Done fields) change f is = cc
faulted_stored setup past event drawn (Broken rule code) change f is = cc
faulted_stored setup past event drawn (Stopped code) change f is = record {
  kept_is = denied_kept setup past event drawn (Stopped code) refl;
  waits = rw f refl;
  device_is = refl;
  made_kept = rw f (ap (λ c. after_change c (kept setup past)) is);
  lost_kept = rw f refl;
}

pub torn_stored : (setup : Setup) (past : History) (event : Event) (drawn : List ℕ) (change : Change) → is_unsettled past ≡ false → is_restart event.act ≡ false → change_by setup past event drawn ≡ Some change
    → TornStored setup past (Acted event drawn (Stopped SystemError) ∷ past) change
torn_stored setup past event drawn change idle stays is = faulted_stored setup past event drawn (Stopped SystemError) change (rw (stays, idle) refl) is

-- ---- how what is known of the store goes on over an entry

-- where nothing waits
pub settled_holding : (setup : Setup) (past : History) → is_unsettled past ≡ false → holding_of setup past ≡ Sure (kept setup past)
settled_holding setup past e = rw e refl

-- over an entry after which something waits, or nothing does
waiting_holding : (setup : Setup) (past : History) (event : Event) (drawn : List ℕ) (code : Code) (faulted : Bool) → is_unsettled past ≡ false → is_faulted (is_unsettled past) event.act (Stopped code) ≡ faulted
    → holding_of setup (Acted event drawn (Stopped code) ∷ past) ≡ (if faulted then torn_by (change_by setup past event drawn) (holding_of setup past) else holding_of setup past)
waiting_holding setup past event drawn code true e f = rw (f, e) (by_change (change_by setup past event drawn)) where
  by_change : (change : Option Change) → Unsure (kept setup past) (after_change change (kept setup past)) ≡ torn_by change (Sure (kept setup past))
  by_change None = refl
  by_change (Some change) = refl
waiting_holding setup past event drawn code false e f = rw (f, e) refl

made_holding : (setup : Setup) (past : History) (event : Event) (drawn : List ℕ) (fields : Fields) (change : Option Change) → is_unsettled past ≡ false → change_by setup past event drawn ≡ change
    → holding_of setup (Acted event drawn (Done fields) ∷ past) ≡ made_by change (holding_of setup past)
made_holding setup past event drawn fields None e is = rw (e, is) refl
made_holding setup past event drawn fields (Some change) e is = rw (e, is) refl

-- over any entry, where nothing waited
pub next_holding : (setup : Setup) (past : History) (event : Event) (drawn : List ℕ) (reply : Reply) → is_unsettled past ≡ false
    → holding_of setup (Acted event drawn reply ∷ past) ≡ after_reply (is_restart event.act) (change_by setup past event drawn) reply (holding_of setup past)
next_holding setup past event drawn (Done fields) e = made_holding setup past event drawn fields (change_by setup past event drawn) e refl
next_holding setup past event drawn (Broken rule code) e = rw e refl
next_holding setup past event drawn (Stopped code) e =
    waiting_holding setup past event drawn code (is_system_error code && not (is_restart event.act)) e (faults (is_system_error code) (is_restart event.act)) where
      faults : (system restarts : Bool) → (system && (not restarts && not (is_unsettled past))) ≡ (system && not restarts)
      faults true true = refl
      faults true false = rw e refl
      faults false restarts = refl

-- ---- where a change waits to be settled

-- over a history that keeps the same, and over one after which a change waits
pub same_holding : (setup : Setup) (past later : History) → SameStored setup past later → holding_of setup later ≡ holding_of setup past
same_holding setup past later same = by_waiting (is_unsettled past) refl where
  by_waiting : (waits : Bool) → is_unsettled past ≡ waits → holding_of setup later ≡ holding_of setup past
  by_waiting true e =
      rw (same.settled_is ∙ e, e)
      (ap (λ part. Unsure part (kept setup (Settling Kept ∷ later))) (same.waiting_kept Lost e)
      ∙ ap (λ part. Unsure (kept setup (Settling Lost ∷ past)) part) (same.waiting_kept Kept e))
  by_waiting false e = rw (same.settled_is ∙ e, e) (ap Sure same.kept_is)

pub torn_holding : (setup : Setup) (past later : History) (change : Change) → TornStored setup past later change → holding_of setup later ≡ Unsure (kept setup past) (after (kept setup past) change)
torn_holding setup past later change torn =
    rw torn.waits (ap (λ part. Unsure part (kept setup (Settling Kept ∷ later))) torn.lost_kept ∙ ap (λ part. Unsure (kept setup past) part) torn.made_kept)

pub settled_holding_is : (setup : Setup) (past : History) (settled : Settled) → is_unsettled past ≡ true → holding_of setup (Settling settled ∷ past) ≡ settled_in settled (holding_of setup past)
settled_holding_is setup past Kept waits = rw waits refl
settled_holding_is setup past Lost waits = rw waits refl

-- what the store may stand for is what is known of it
pub may_is : (setup : Setup) (past : History) (part : Lasting) → May setup past part ≡ IsMember (holding_of setup past) part
may_is setup past part = by_waiting (is_unsettled past) where
  by_waiting : (waits : Bool) → MayWhere waits setup past part ≡ IsMember (if waits then Unsure (kept setup (Settling Lost ∷ past)) (kept setup (Settling Kept ∷ past)) else Sure (kept setup past)) part
  by_waiting true = refl
  by_waiting false = refl
