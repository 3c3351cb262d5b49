-- A run in which no call fails, over a script within the limits.
use Rattle.std.proofs.Common.{◌≡◌, ◌≢◌, ℕ, suc, ◌+◌, ◌-◌, ◌^◌, ◌<◌, ◌≤◌, ◌⊎◌, inl, inr, Bool, true, false, ◌||◌, ◌==◌, if◌then◌else◌, List, [], ◌∷◌, ◌++◌, length, Option, Some, None, IfSome, refl, sym, ap, ◌∙◌, subst, arith, append_assoc, length-append}
use Rattle.std.proofs.lemmas.Bool.{cases_Bool}
use Rattle.std.proofs.lemmas.Bool.Decides.{nat_tests}
use Rattle.std.specs.Io.KnownBytes.{Consumes}
use Rattle.ks_outside.specs.Images.{AllImages, tells}
use Rattle.ks_outside.specs.Shown.{Outside}
use Rattle.ks_outside.specs.declared.disk.Disk.{Ghosts as DiskGhosts}
use Rattle.ks_outside.specs.declared.entropy.Entropy.{Ghosts as EntropyGhosts}
use Rattle.ks_outside.specs.declared.sink.Sink.{Ghosts as SinkGhosts}
use Rattle.ks_outside.specs.declared.source.Source.{Ghosts as SourceGhosts}
use Rattle.tags.specs.declared.policy.PolicyRow.{PolicyRow}
use Rattle.tags.specs.declared.secrets.DeviceSecrets.{DeviceSecrets}
use Rattle.journal_records.specs.LastingPart.{Lasting, empty_lasting}
use Rattle.key_database.specs.Store.{StandsFor as IsStoreOf}
use Rattle.rule_model.specs.declared.entry.Entry.TheVariants.{Acted, Settling}
use Rattle.rule_model.specs.declared.event.Act.{Act}
use Rattle.rule_model.specs.declared.event.Event.{Event}
use Rattle.rule_model.specs.declared.reply.Reply.{Reply}
use Rattle.rule_model.specs.declared.reply.Reply.TheVariants.{Done, Broken, Stopped}
use Rattle.rule_model.specs.Drawn.{undrawn_of}
use Rattle.rule_model.specs.Entries.{History}
use Rattle.rule_model.specs.Legal.{Legal, LegalBefore}
use Rattle.rule_model.specs.Settling.{is_disk_fault, is_faulted, is_unsettled}
use Rattle.rule_model.specs.Setup.{Setup}
use Rattle.keystore_core.specs.Complete.{HasNoFault}
use Rattle.keystore_core.specs.Opening.{IsSetup}
use Rattle.keystore_core.proofs.Completing.{none_rose}
use Rattle.keystore_run.specs.declared.written.Written.{Written}
use Rattle.keystore_run.specs.declared.status.Status.{Status}
use Rattle.keystore_run.specs.declared.status.Status.TheVariants as statuses
use Rattle.keystore_run.specs.declared.words.Form.TheVariants.{Run}
use Rattle.keystore_run.specs.Complete.{AreFaultless, Completes, GivesAll, IsOpenedOn, IsPlain, IsReady, Wanting, Whole, settlings_of}
use Rattle.keystore_run.specs.Drawn.{DrewAll}
use Rattle.keystore_run.specs.Ends.{Ends, EndsOk}
use Rattle.keystore_run.specs.Follows.{Follows}
use Rattle.keystore_run.specs.KeptStores.{Keeps, failed_of}
use Rattle.line_members.specs.LineFeeds.{IsFree, begun_with, ended, lines_of}
use Rattle.keystore_run.specs.Lines.{AreLines}
use Rattle.keystore_run.specs.Runs.{Does, Formatted, Given, IsRefused, Opened, Refused, Runs, RunsFresh, Unformatted, given}
use Rattle.keystore_run.proofs.LineLemmas.{lines_of-ended}
use Rattle.tags.specs.declared.limits.TheConstants.{LINE_BYTES, SCRIPT_BYTES}

-- ---- a history without a failed device call settles nothing

failed_more : (fails : Bool) (n : ℕ) → fails ≡ true ⊎ 1 ≤ n → 1 ≤ (if fails then n + 1 else n)
failed_more true n e = omega arith
failed_more false n (inl e) = absurd (let no = e in cc)
failed_more false n (inr some) = some

faulted_fails : (waits : Bool) (act : Act) (reply : Reply) → (is_faulted waits act reply || waits) ≡ true → is_disk_fault reply ≡ true ⊎ waits ≡ true
faulted_fails true act reply e = inr refl
faulted_fails false act (Done fields) e = absurd (let no = e in cc)
faulted_fails false act (Broken rule code) e = absurd (let no = e in cc)
faulted_fails false act (Stopped code) e = elim (cases_Bool (is_disk_fault (Stopped code))) [
  | inl said ↦ inl said
  | inr unsaid ↦ absurd (let none : (is_faulted false act (Stopped code) || false) ≡ false = rw unsaid refl in cc)
]

-- a history with a change that waits has an entry that a failed device call answered
waiting_failed : (past : History) → is_unsettled past ≡ true → 1 ≤ failed_of past
waiting_failed [] e = absurd (let no = e in cc)
waiting_failed (Settling settled ∷ past) e = absurd (let no = e in cc)
waiting_failed (Acted event drawn reply ∷ past) e = failed_more (is_disk_fault reply) (failed_of past)
    (elim (faulted_fails (is_unsettled past) event.act reply e) [ inl fails ↦ inl fails | inr waits ↦ inr (waiting_failed past waits) ])

none_failed : (fails : Bool) (n : ℕ) → (if fails then n + 1 else n) ≡ 0 → n ≡ 0
none_failed true n e = omega (arith, e)
none_failed false n e = e

nothing_settled : (setup : Setup) (next : Option Event) (past : History) → LegalBefore setup next past → failed_of past ≡ 0 → settlings_of past ≡ 0
nothing_settled setup next [] legal none = refl
nothing_settled setup None (Settling settled ∷ past) legal none = absurd legal.0
nothing_settled setup (Some event) (Settling settled ∷ past) legal none = absurd (omega (arith, none, waiting_failed past legal.0.waits))
nothing_settled setup next (Acted event drawn reply ∷ past) legal none = nothing_settled setup (Some event) past legal.1 (none_failed (is_disk_fault reply) (failed_of past) none)

-- ---- lines that are too long

-- how long the first line is
abbrev first_length : List (List ℕ) → ℕ
first_length [] = 0
first_length (line ∷ lines) = length line

begun_length : (b : ℕ) (lines : List (List ℕ)) → first_length (begun_with b lines) ≡ suc (first_length lines)
begun_length b [] = refl
begun_length b (line ∷ lines) = refl

not_feed : (b : ℕ) → b ≢ 10 → (b == 10) ≡ false
not_feed b h = grind (arith, nat_tests)

-- bytes without LF stand in the first line
first_reaches : (rest more : List ℕ) → IsFree rest → length rest ≤ first_length (lines_of (rest ++ more))
first_reaches [] more free = omega arith
first_reaches (b ∷ rest) more free = rw (not_feed b free.0) (omega (arith, begun_length b (lines_of (rest ++ more)), first_reaches rest more free.1))

first_short : (lines : List (List ℕ)) → AreLines lines → first_length lines ≤ LINE_BYTES
first_short [] are = omega arith
first_short (line ∷ lines) are = are.0.1

later_short : (front later : List (List ℕ)) → AreLines (front ++ later) → AreLines later
later_short [] later are = are
later_short (line ∷ front) later are = later_short front later are.1

-- no line of a script is longer than a line may be
pub rest_short : (bytes more rest : List ℕ) (lines : List (List ℕ)) → bytes ≡ (ended lines ++ rest) ++ more → AreLines lines → AreLines (lines_of bytes) → IsFree rest → length rest ≤ LINE_BYTES
rest_short bytes more rest lines is are short free =
    let split : lines_of bytes ≡ lines ++ lines_of (rest ++ more) = ap lines_of (is ∙ append_assoc (ended lines) rest more) ∙ lines_of-ended lines (rest ++ more) are in
    omega (arith, first_reaches rest more free, first_short (lines_of (rest ++ more)) (later_short lines (lines_of (rest ++ more)) (subst AreLines split short)))

-- what was taken of known bytes is their front
front_taken : (content left : Option (List ℕ)) (bytes taken : List ℕ) → content ≡ Some bytes → Consumes content left taken → (more : List ℕ) × (bytes ≡ taken ++ more)
front_taken content None bytes taken e took = absurd (subst (λ (x : Option (List ℕ)). Consumes x None taken) e took)
front_taken content (Some left) bytes taken e took = (left, subst (λ (x : Option (List ℕ)). Consumes x (Some left) taken) e took)

all_known : (content : Option (List ℕ)) (bytes taken : List ℕ) → content ≡ Some bytes → IfSome content (λ x. x ≡ taken) → bytes ≡ taken
all_known content bytes taken e known = subst (λ (o : Option (List ℕ)). IfSome o (λ x. x ≡ taken)) e known

-- ---- counts that stayed

-- as many as a count rose, which stayed
none_counted : {before now : ℕ} (n : ℕ) → HasNoFault before now → (now < 2 ^ 64 - 1 → n + before ≤ now) → n ≡ 0
none_counted n fine counted = omega (arith, fine.same, counted fine.below)

no_fault_since : {before begin now : ℕ} → begin ≡ before → HasNoFault before now → HasNoFault begin now
no_fault_since same fine = record { same = fine.same ∙ sym same; below = fine.below }

module _ {S K D N : Type 0} (s : SourceGhosts S) (k : SinkGhosts K) (d : DiskGhosts D) (n : EntropyGhosts N) where
  -- the history of a run in which no call failed is plain
  plain : (setup : Setup) (begin new : D) (before after : N) (history : History) → Legal setup history → Keeps d setup begin new history → DrewAll n before after history
      → HasNoFault (d.fault_count begin) (d.fault_count new) → HasNoFault (n.fault_count before) (n.fault_count after) → tells d begin ≡ true → IsPlain history
  plain setup begin new before after history legal keeps drew disk entropy told =
      let none : failed_of history ≡ 0 = none_counted (failed_of history) disk keeps.faults in
      record {
        settlings = nothing_settled setup None history legal none;
        failures = none;
        estranged = keeps.same told;
        undrawn = none_counted (undrawn_of history) entropy drew.faults;
      }

  module _ (g : Given) (fresh : Bool) (start : Lasting) (bytes : List ℕ) (old new : Outside S K D N) (told : s.content old.source ≡ Some bytes) (few : length bytes < SCRIPT_BYTES) (short : AreLines (lines_of bytes)) (fine : AreFaultless s k d n old new) where
    -- the whole source was served
    whole : (setup : Setup) (begin : D) → tells d begin ≡ true → HasNoFault (d.fault_count begin) (d.fault_count new.disk) → EndsOk s k d n g.written setup (record old { disk = begin }) new → GivesAll s k d n g.written setup bytes old new
    whole setup begin tells_begin disk ends =
        let lines : ends.lines ≡ lines_of bytes = ends.all ∙ ap lines_of (sym (all_known (s.content old.source) bytes ends.taken told ends.known)) in
        record {
          history = ends.served.history;
          text = ends.text;
          legal = ends.served.legal;
          follows = subst (λ ls. Follows [] ls ends.served.history ends.text) lines ends.served.follows;
          plain = plain setup begin new.disk old.entropy new.entropy ends.served.history ends.served.legal ends.served.keeps ends.served.drew disk fine.entropy tells_begin;
          drew = ends.served.drew;
          put = ends.put;
          end = ends.end;
          holds = ends.served.keeps.holds;
        }

    -- a run whose store was opened, by its status
    opened_completes : (setup : Setup) (begin : D) (status : Status) → IsSetup setup g.device g.policy g.slots → IsOpenedOn d fresh setup old.disk → setup.start ≡ start → tells d begin ≡ true → d.fault_count begin ≡ d.fault_count old.disk
        → Ends s k d n g.written setup (record old { disk = begin }) new status → Completes s k d n g fresh start bytes old new status
    opened_completes setup begin statuses.Ok is opens starts tells_begin same ends = Whole setup is opens starts (whole setup begin tells_begin (no_fault_since same fine.disk) ends) refl
    opened_completes setup begin statuses.Memory is opens starts tells_begin same ends = Wanting refl
    opened_completes setup begin statuses.ReadFault is opens starts tells_begin same ends = absurd (none_rose _ _ fine.source (ends.amid.took.faults.rises refl))
    opened_completes setup begin statuses.WriteFault is opens starts tells_begin same ends = absurd (none_rose _ _ fine.sink (ends.put.faults.rises refl))
    opened_completes setup begin (statuses.LineTooLong line) is opens starts tells_begin same ends =
        let taken = front_taken (s.content old.source) (s.content new.source) bytes (ended ends.lines ++ ends.rest) told ends.amid.took.bytes in
        absurd (omega (arith, rest_short bytes taken.0 ends.rest ends.lines taken.1 ends.amid.short short ends.amid.free, ends.long))
    opened_completes setup begin statuses.ScriptTooLong is opens starts tells_begin same ends =
        let taken = front_taken (s.content old.source) (s.content new.source) bytes (ended ends.lines ++ ends.rest) told ends.amid.took.bytes in
        let grown : length bytes ≡ length (ended ends.lines ++ ends.rest) + length taken.0 = ap length taken.1 ∙ length-append (ended ends.lines ++ ends.rest) taken.0 in
        absurd (omega (arith, few, grown, ends.many))
    opened_completes setup begin statuses.DiskFault is opens starts tells_begin same ends = absurd ends
    opened_completes setup begin statuses.Usage is opens starts tells_begin same ends = absurd ends
    opened_completes setup begin (statuses.Corrupted offset) is opens starts tells_begin same ends = absurd ends
    opened_completes setup begin statuses.ListenFault is opens starts tells_begin same ends = absurd ends

    -- one whose store was not opened
    refused_completes : (disk : D) (status : Status) → AllImages d disk (IsStoreOf start) → tells d disk ≡ true → d.fault_count disk ≡ d.fault_count old.disk → IsRefused d disk new.disk status → Completes s k d n g fresh start bytes old new status
    refused_completes disk statuses.Memory images tells_disk same refused = Wanting refl
    refused_completes disk statuses.DiskFault images tells_disk same refused = absurd (none_rose _ _ (no_fault_since same fine.disk) refused.refuses)
    refused_completes disk (statuses.Corrupted offset) images tells_disk same refused = absurd (refused.refuses.no_store start images tells_disk)
    refused_completes disk statuses.Ok images tells_disk same refused = absurd refused.refuses
    refused_completes disk statuses.Usage images tells_disk same refused = absurd refused.refuses
    refused_completes disk statuses.ReadFault images tells_disk same refused = absurd refused.refuses
    refused_completes disk statuses.WriteFault images tells_disk same refused = absurd refused.refuses
    refused_completes disk (statuses.LineTooLong line) images tells_disk same refused = absurd refused.refuses
    refused_completes disk statuses.ScriptTooLong images tells_disk same refused = absurd refused.refuses
    refused_completes disk statuses.ListenFault images tells_disk same refused = absurd refused.refuses

  module _ (g : Given) (start : Lasting) (bytes : List ℕ) (old new : Outside S K D N) (told : s.content old.source ≡ Some bytes) (few : length bytes < SCRIPT_BYTES) (short : AreLines (lines_of bytes)) (fine : AreFaultless s k d n old new) where
    -- a run over the store that is there, and one over an empty store
    stored_completes : (status : Status) → AllImages d old.disk (IsStoreOf start) → tells d old.disk ≡ true → Runs s k d n g (λ opened. old.disk) old new status → Completes s k d n g false start bytes old new status
    stored_completes status images tells_disk (Opened opened runs) =
        opened_completes g false start bytes old new told few short fine runs.setup old.disk status runs.is (opened, runs.read) (runs.read.finds start images tells_disk) tells_disk refl runs.ends
    stored_completes status images tells_disk (Refused untouched refused) = refused_completes g false start bytes old new told few short fine old.disk status images tells_disk refl refused

    fresh_completes : (status : Status) → start ≡ empty_lasting → tells d old.disk ≡ true → RunsFresh s k d n g old new status → Completes s k d n g true start bytes old new status
    fresh_completes status nothing tells_disk (Formatted formatted is (Opened opened runs)) =
        opened_completes g true start bytes old new told few short fine runs.setup opened status runs.is (formatted, opened, is, runs.read) (runs.read.finds empty_lasting is.empty (is.telling ∙ tells_disk) ∙ sym nothing)
        (runs.read.leaves.telling ∙ is.telling ∙ tells_disk) (runs.read.leaves.count ∙ is.count) runs.ends
    fresh_completes status nothing tells_disk (Formatted formatted is (Refused untouched refused)) =
        refused_completes g true start bytes old new told few short fine formatted status (subst (λ (part : Lasting). AllImages d formatted (IsStoreOf part)) (sym nothing) is.empty) (is.telling ∙ tells_disk) is.count refused
    fresh_completes status nothing tells_disk (Unformatted untouched torn) = absurd (none_rose _ _ fine.disk torn.rises)

  -- what a form of a run does is complete
  pub does_complete : (device : DeviceSecrets) (policy : List PolicyRow) (fresh : Bool) (slots : ℕ) (written : Written) (start : Lasting) (bytes : List ℕ) (old new : Outside S K D N) (status : Status)
      → Does s k d n device policy (Run fresh slots written) old new status → IsReady s k d n fresh start bytes old → AreFaultless s k d n old new → Completes s k d n (given device policy slots written) fresh start bytes old new status
  does_complete device policy false slots written start bytes old new status does ready fine =
      stored_completes (given device policy slots written) start bytes old new ready.told ready.few ready.short fine status ready.store ready.tells_disk does
  does_complete device policy true slots written start bytes old new status does ready fine =
      fresh_completes (given device policy slots written) start bytes old new ready.told ready.few ready.short fine status ready.store ready.tells_disk does
