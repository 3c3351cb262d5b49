-- The uses of a key over a legal history, and what each lasting part that it may leave has of it.
use Rattle.std.proofs.Common.{◌≡◌, ◌⊎◌, inl, inr, ℕ, ◌+◌, ◌<◌, Bool, true, false, ◌==◌, ◌&&◌, ◌||◌, not, if◌then◌else◌, List, [], ◌∷◌, Option, Some, None, option_map, Result, Ok, Err, IsTrue, refl, sym, ap, ◌∙◌, subst, arith}
use Rattle.std.proofs.lemmas.Bool.{eqb-true}
use Rattle.std.specs.Option.{option_and_then}
use Rattle.key_domains.specs.Domains.{domain_blob}
use Rattle.tags.specs.declared.code.Code.{Code}
use Rattle.tags.specs.declared.descriptor.Descriptor.{Descriptor}
use Rattle.tags.specs.declared.policy.PolicyRow.{PolicyRow}
use Rattle.tags.specs.declared.secrets.DeviceSecrets.{DeviceSecrets}
use Rattle.tags.specs.declared.rule.Rule.{Rule}
use Rattle.tags.specs.declared.settled.Settled.{Settled}
use Rattle.tags.specs.declared.settled.Settled.TheVariants.{Kept, Lost}
use Rattle.key_blobs.specs.declared.sealed.Sealed.{Sealed}
use Rattle.key_rules.specs.declared.plan.KeyPlan.{KeyPlan}
use Rattle.journal_records.specs.declared.change.Change.{Change}
use Rattle.journal_records.specs.declared.change.Change.TheVariants as changes
use Rattle.journal_records.specs.LastingPart.{Lasting, some_has_id}
use Rattle.rule_model.specs.declared.entry.Entry.{Entry}
use Rattle.rule_model.specs.declared.entry.Entry.TheVariants.{Acted, Settling}
use Rattle.rule_model.specs.declared.event.Act.{Act}
use Rattle.rule_model.specs.declared.event.Act.TheVariants.{GenerateKey, ImportKey, EnterFinish, DeleteKey, Grant, Ungrant, ClearNamespace, UserRemoved, Disconnect, Leave, UpgradeKey, ImportWrappedKey}
use Rattle.rule_model.specs.declared.event.Event.{Event}
use Rattle.rule_model.specs.declared.facts.Caller.{Caller}
use Rattle.rule_model.specs.declared.reply.Fields.{Fields}
use Rattle.rule_model.specs.declared.reply.Reply.{Reply}
use Rattle.rule_model.specs.declared.reply.Reply.TheVariants.{Done, Broken, Stopped}
use Rattle.rule_model.specs.Access.{id_by, owner_of}
use Rattle.rule_model.specs.Acts.{fixed_for}
use Rattle.rule_model.specs.Answer.{answer, answer_by_rules}
use Rattle.rule_model.specs.Blobs.{device_at}
use Rattle.rule_model.specs.Changes.{after_change, change_of, creating, grant_of, granting, making, planned, upgrading}
use Rattle.rule_model.specs.Clients.{caller_of}
use Rattle.rule_model.specs.Entries.{History, gives, is_done}
use Rattle.rule_model.specs.Kept.{is_live, kept, kept_after, kept_settled, open_of}
use Rattle.rule_model.specs.Legal.{LegalBefore, MayFollow}
use Rattle.rule_model.specs.KeySources.{KeySource, generated, imported}
use Rattle.rule_model.specs.declared.operation.Open.{Open}
use Rattle.rule_model.specs.Operations.{limited_key, used_key}
use Rattle.rule_model.specs.Settling.{is_faulted, is_kept, is_unsettled}
use Rattle.rule_model.specs.Setup.{Setup}
use Rattle.rule_model.specs.StepFacts.{has_ended}
use Rattle.rule_model.specs.Stored.{May, MayWhere}
use Rattle.rule_model.specs.Upgrades.{upgrade_in}
use Rattle.rule_model.specs.WrappedKeys.{unwrapped_in}
use Rattle.rule_model.specs.Uses.{HasLimit, Stood, one_if, used_by, uses_made}
use Rattle.rule_model.proofs.Admitted.{IsEntered, answered_done, entered}
use Rattle.rule_model.proofs.Bounds.{Bounded, Goes, TakesNext, goes_counted, goes_on, has_limit_within}
use Rattle.rule_model.proofs.Kept.{changes_kept, denied_kept, none_changed}

-- ---- the change of an act

abbrev pub TakesNextIn : Lasting → Option Change → Type 0
TakesNextIn part None = Unit {0}
TakesNextIn part (Some change) = TakesNext part change

takes_stored : (device : DeviceSecrets) (part : Lasting) (uid : ℕ) (key : Descriptor) (plan : KeyPlan) (source : KeySource) (drawn : List ℕ) (blob : Bool)
    → TakesNextIn part (if blob then None else Some (creating device part uid key plan source drawn))
takes_stored device part uid key plan source drawn true = tt
takes_stored device part uid key plan source drawn false = refl

takes_making : (device : DeviceSecrets) (policy : List PolicyRow) (part : Lasting) (caller : Caller) (key : Descriptor) (params : List ℕ) (source : KeySource) (drawn : List ℕ)
    → TakesNextIn part (making device policy part caller key params source drawn)
takes_making device policy part caller key params source drawn =
    takes_stored device part (owner_of caller) key (planned device policy caller key params source) source drawn (key.domain == domain_blob)

takes_mapped : {X : Type 0} (part : Lasting) (change : X → Change) → ((x : X) → TakesNext part (change x)) → (found : Option X) → TakesNextIn part (option_map change found)
takes_mapped part change takes None = tt
takes_mapped part change takes (Some x) = takes x

takes_upgrading : (device : DeviceSecrets) (part : Lasting) (drawn : List ℕ) (ruled : Result (Option Sealed) (Rule × Code)) (found : Option ℕ)
    → TakesNextIn part (upgrading ruled found device drawn)
takes_upgrading device part drawn (Err broken) found = tt
takes_upgrading device part drawn (Ok None) found = tt
takes_upgrading device part drawn (Ok (Some sealed)) None = tt
takes_upgrading device part drawn (Ok (Some sealed)) (Some id) = tt

change_takes : (act : Act) (device : DeviceSecrets) (policy : List PolicyRow) (part : Lasting) (opened : List Open) (caller : Caller) (drawn : List ℕ) → TakesNextIn part (change_of act device policy part opened caller drawn)
change_takes (GenerateKey key params) device policy part opened caller drawn = takes_making device policy part caller key params generated drawn
change_takes (ImportKey key params format material) device policy part opened caller drawn =
    takes_making device policy part caller key params (imported format material) drawn
change_takes (ImportWrappedKey key params wrapping wrapped unwrapping) device policy part opened caller drawn =
    takes_making device policy part caller key params (unwrapped_in device policy part caller wrapping wrapped unwrapping) drawn
change_takes (EnterFinish op input signature) device policy part opened caller drawn = takes_mapped part changes.Use (λ id. tt) (used_key op opened)
change_takes (DeleteKey key) device policy part opened caller drawn = takes_mapped part changes.Delete (λ id. tt) (id_by policy part caller key)
change_takes (Grant key uid bits) device policy part opened caller drawn = takes_mapped part (granting part uid bits) (λ id. tt) (id_by policy part caller key)
change_takes (Ungrant key uid) device policy part opened caller drawn = takes_mapped part changes.Ungrant (λ id. tt) (grant_of part (id_by policy part caller key) uid)
change_takes (ClearNamespace domain nspace) device policy part opened caller drawn = tt
change_takes (UserRemoved user) device policy part opened caller drawn = tt
change_takes (UpgradeKey key params) device policy part opened caller drawn =
    takes_upgrading device part drawn (upgrade_in device policy part caller key params) (id_by policy part caller key)
change_takes _ device policy part opened caller drawn = tt

goes_by : (id made limit : ℕ) (part : Lasting) (change : Option Change) → TakesNextIn part change → Bounded id made limit part → Goes id limit made part (after_change change part)
goes_by id made limit part None takes bounded = record { limit_now = limit; bounded = bounded; same = λ given. refl; grows = omega arith }
goes_by id made limit part (Some change) takes bounded = goes_on id made limit part change takes bounded

-- an act that is admitted: its use counts
goes_used : (id made limit : ℕ) (part : Lasting) (used : Option ℕ) → (used ≡ Some id → some_has_id id part.keys ≡ true) → Bounded id made limit part
    → Goes id limit (one_if (gives used id) made) part (after_change (option_map changes.Use used) part)
goes_used id made limit part None live bounded = goes_by id made limit part None tt bounded
goes_used id made limit part (Some n) live bounded = by_number (n == id) refl where
  by_number : (b : Bool) → (n == id) ≡ b → Goes id limit (one_if b made) part (after_change (Some (changes.Use n)) part)
  by_number true is =
      let same : n ≡ id = eqb-true n id is in
      subst (λ k. Goes id limit (made + 1) part (after_change (Some (changes.Use k)) part)) (sym same) (goes_counted id made limit part bounded (live (ap Some same)))
  by_number false is = goes_by id made limit part (Some (changes.Use n)) tt bounded

abbrev uses_none : Act → Bool
uses_none (EnterFinish op input signature) = false
uses_none _ = true

goes_admitted : (id made limit : ℕ) (act : Act) (device : DeviceSecrets) (policy : List PolicyRow) (part : Lasting) (opened : List Open) (caller : Caller) (drawn : List ℕ)
    → (used_by opened act ≡ Some id → some_has_id id part.keys ≡ true) → Bounded id made limit part
    → Goes id limit (one_if (gives (used_by opened act) id) made) part (after_change (change_of act device policy part opened caller drawn) part)
goes_admitted id made limit (EnterFinish op input signature) device policy part opened caller drawn live bounded = goes_used id made limit part (used_key op opened) live bounded
goes_admitted id made limit act device policy part opened caller drawn live bounded =
    goes_other (used_by opened act) refl where
      goes_other : (used : Option ℕ) → used_by opened act ≡ used → Goes id limit (one_if (gives used id) made) part (after_change (change_of act device policy part opened caller drawn) part)
      goes_other None is = goes_by id made limit part (change_of act device policy part opened caller drawn) (change_takes act device policy part opened caller drawn) bounded
      goes_other (Some n) is = cc

-- ---- what a settling says does not matter where nothing waits, and a lost change counts for nothing

faultless : (faulted : Bool) (setup : Setup) (past : History) (verdict : Option Settled) (counting : Bool) (change : Lasting → Lasting) → faulted ≡ false → kept_settled setup verdict past ≡ kept setup past
    → (if faulted && counting then change (kept_settled setup (if faulted then None else verdict) past) else kept_settled setup (if faulted then None else verdict) past) ≡ kept setup past
faultless true setup past verdict counting change e same = cc
faultless false setup past verdict counting change e same = same

neither : (a b : Bool) → a || b ≡ false → (a ≡ false) × (b ≡ false)
neither true b e = cc
neither false b e = (refl, e)

pub settled_same : (setup : Setup) (verdict : Option Settled) (past : History) → is_unsettled past ≡ false → kept_settled setup verdict past ≡ kept setup past
settled_same setup verdict [] e = refl
settled_same setup verdict (Settling settled ∷ past) e = refl
settled_same setup verdict (Acted event drawn (Done fields) ∷ past) e =
    ap (λ part. after_change (change_of event.act (device_at setup past) setup.policy part (open_of setup past) (caller_of past event) drawn) part) (settled_same setup verdict past e)
settled_same setup verdict (Acted event drawn (Broken rule code) ∷ past) e = settled_same setup verdict past e
settled_same setup verdict (Acted event drawn (Stopped code) ∷ past) e =
    let both : (is_faulted (is_unsettled past) event.act (Stopped code) ≡ false) × (is_unsettled past ≡ false) = neither (is_faulted (is_unsettled past) event.act (Stopped code)) (is_unsettled past) e in
    faultless (is_faulted (is_unsettled past) event.act (Stopped code)) setup past verdict (is_kept verdict)
    (λ part. after_change (change_of event.act (device_at setup past) setup.policy part (open_of setup past) (caller_of past event) drawn) part) both.0 (settled_same setup verdict past both.1)
    ∙ sym (denied_kept setup past event drawn (Stopped code) refl)

lost_counts : (faulted : Bool) (setup : Setup) (past : History) (change : Lasting → Lasting) → kept_settled setup (Some Lost) past ≡ kept setup past
    → (if faulted && false then change (kept_settled setup (if faulted then None else Some Lost) past) else kept_settled setup (if faulted then None else Some Lost) past) ≡ kept setup past
lost_counts true setup past change same = refl
lost_counts false setup past change same = same

lost_same : (setup : Setup) (past : History) → kept_settled setup (Some Lost) past ≡ kept setup past
lost_same setup [] = refl
lost_same setup (Settling settled ∷ past) = refl
lost_same setup (Acted event drawn (Done fields) ∷ past) =
    ap (λ part. after_change (change_of event.act (device_at setup past) setup.policy part (open_of setup past) (caller_of past event) drawn) part) (lost_same setup past)
lost_same setup (Acted event drawn (Broken rule code) ∷ past) = lost_same setup past
lost_same setup (Acted event drawn (Stopped code) ∷ past) =
    lost_counts (is_faulted (is_unsettled past) event.act (Stopped code)) setup past
    (λ part. after_change (change_of event.act (device_at setup past) setup.policy part (open_of setup past) (caller_of past event) drawn) part) (lost_same setup past)
    ∙ sym (denied_kept setup past event drawn (Stopped code) refl)

-- ---- what is known of the keys of one number after a history, in a lasting part that it may leave

-- The limit that each key of the number had so far is the one that bounds its uses: those before the run and those in it.
pub record Holds (setup : Setup) (past : History) (id before : ℕ) (Known : ℕ → Type 0) (part : Lasting) : Type 0 where
  pub limit : ℕ
  pub bounded : Bounded id (uses_made setup past id + before) limit part
  pub known : (l : ℕ) → Known l ⊎ Stood setup past id l → (l ≡ limit) × (id < part.next_key)

pub stood_now : (setup : Setup) (past : History) (id l : ℕ) → HasLimit (kept setup past) id l → Stood setup past id l
stood_now setup [] id l has = has
stood_now setup (entry ∷ past) id l has = inl has

-- over an entry, by what it makes of the lasting part
carried : (setup : Setup) (past : History) (entry : Entry) (id before : ℕ) (Known : ℕ → Type 0) (part later : Lasting) (holds : Holds setup past id before Known part)
    (goes : Goes id holds.limit (uses_made setup (entry ∷ past) id + before) part later)
    → ((l : ℕ) → HasLimit (kept setup (entry ∷ past)) id l → (HasLimit (kept setup past) id l) ⊎ (HasLimit later id l)) → Holds setup (entry ∷ past) id before Known later
carried setup past entry id before Known part later holds goes new = record { limit = goes.limit_now; bounded = goes.bounded; known = known } where
  old : (l : ℕ) → (l ≡ holds.limit) × (id < part.next_key) → (l ≡ goes.limit_now) × (id < later.next_key)
  old l both = (both.0 ∙ sym (goes.same both.1), omega (arith, both.1, goes.grows))

  newest : (l : ℕ) → (HasLimit (kept setup past) id l) ⊎ (HasLimit later id l) → (l ≡ goes.limit_now) × (id < later.next_key)
  newest l (inl has) = old l (holds.known l (inr (stood_now setup past id l has)))
  newest l (inr has) = has_limit_within id (uses_made setup (entry ∷ past) id + before) goes.limit_now l later goes.bounded has

  known : (l : ℕ) → Known l ⊎ Stood setup (entry ∷ past) id l → (l ≡ goes.limit_now) × (id < later.next_key)
  known l (inl was) = old l (holds.known l (inl was))
  known l (inr (inl has)) = newest l (new l has)
  known l (inr (inr stood)) = old l (holds.known l (inr stood))

stays : (id made limit : ℕ) (part : Lasting) → Bounded id made limit part → Goes id limit made part part
stays id made limit part bounded = goes_by id made limit part None tt bounded

-- both of the lasting parts that a history may leave
pub record HoldBoth (setup : Setup) (past : History) (id before : ℕ) (Known : ℕ → Type 0) : Type 0 where
  pub sure : Holds setup past id before Known (kept setup past)
  pub later : Holds setup past id before Known (kept_settled setup (Some Kept) past)

-- an entry that is no use, and leaves what is kept as it is
quiet : (setup : Setup) (past : History) (entry : Entry) (id before : ℕ) (Known : ℕ → Type 0) (part : Lasting) → uses_made setup (entry ∷ past) id ≡ uses_made setup past id → kept setup (entry ∷ past) ≡ kept setup past
    → Holds setup past id before Known part → Holds setup (entry ∷ past) id before Known part
quiet setup past entry id before Known part uses keeps holds =
    carried setup past entry id before Known part part holds
    (subst (λ n. Goes id holds.limit (n + before) part part) (sym uses) (stays id (uses_made setup past id + before) holds.limit part holds.bounded))
    (λ l has. inl (subst (λ (p : Lasting). HasLimit p id l) keeps has))

-- an entry that is not admitted
denied_later : (setup : Setup) (past : History) (event : Event) (drawn : List ℕ) (code : Code) (id before : ℕ) (Known : ℕ → Type 0) (faulted : Bool) → HoldBoth setup past id before Known
    → Holds setup (Acted event drawn (Stopped code) ∷ past) id before Known
    (kept_after (faulted && true) (device_at setup past) setup.policy (open_of setup past) (caller_of past event) event.act drawn (kept_settled setup (if faulted then None else Some Kept) past))
denied_later setup past event drawn code id before Known false both =
    quiet setup past (Acted event drawn (Stopped code)) id before Known (kept_settled setup (Some Kept) past) refl (denied_kept setup past event drawn (Stopped code) refl) both.later
denied_later setup past event drawn code id before Known true both =
    carried setup past (Acted event drawn (Stopped code)) id before Known (kept setup past)
    (after_change (change_of event.act (device_at setup past) setup.policy (kept setup past) (open_of setup past) (caller_of past event) drawn) (kept setup past)) both.sure
    (goes_by id (uses_made setup past id + before) both.sure.limit (kept setup past)
    (change_of event.act (device_at setup past) setup.policy (kept setup past) (open_of setup past) (caller_of past event) drawn)
    (change_takes event.act (device_at setup past) setup.policy (kept setup past) (open_of setup past) (caller_of past event) drawn) both.sure.bounded)
    (λ l has. inl (subst (λ (p : Lasting). HasLimit p id l) (denied_kept setup past event drawn (Stopped code) refl) has))

stopped_both : (setup : Setup) (past : History) (event : Event) (drawn : List ℕ) (code : Code) (id before : ℕ) (Known : ℕ → Type 0) → HoldBoth setup past id before Known
    → HoldBoth setup (Acted event drawn (Stopped code) ∷ past) id before Known
stopped_both setup past event drawn code id before Known both = record {
  sure = subst (Holds setup (Acted event drawn (Stopped code) ∷ past) id before Known) (sym (denied_kept setup past event drawn (Stopped code) refl))
      (quiet setup past (Acted event drawn (Stopped code)) id before Known (kept setup past) refl (denied_kept setup past event drawn (Stopped code) refl) both.sure);
  later = denied_later setup past event drawn code id before Known (is_faulted (is_unsettled past) event.act (Stopped code)) both;
}

broken_both : (setup : Setup) (past : History) (event : Event) (drawn : List ℕ) (id before : ℕ) (Known : ℕ → Type 0) (rule : Rule) (code : Code) → HoldBoth setup past id before Known
    → HoldBoth setup (Acted event drawn (Broken rule code) ∷ past) id before Known
broken_both setup past event drawn id before Known rule code both = record {
  sure = quiet setup past (Acted event drawn (Broken rule code)) id before Known (kept setup past) refl refl both.sure;
  later = quiet setup past (Acted event drawn (Broken rule code)) id before Known (kept_settled setup (Some Kept) past) refl refl both.later;
}

-- ---- an admitted entry

one_more_before : (b : Bool) (n m : ℕ) → one_if b (n + m) ≡ one_if b n + m
one_more_before true n m = omega arith
one_more_before false n m = refl

-- the key that an admitted act uses has not ended
live_key : (live : ℕ → Bool) (id : ℕ) (key : Option ℕ) → (if true then key else None) ≡ Some id → has_ended live key ≡ false → live id ≡ true
live_key live id None is ended = cc
live_key live id (Some n) is ended = let same : n ≡ id = cc in subst (λ k. live k ≡ true) same (unless (live n) ended) where
  unless : (b : Bool) → not b ≡ false → b ≡ true
  unless true e = refl
  unless false e = cc

live_limited : (live : ℕ → Bool) (id : ℕ) (key : Option ℕ) (limited : Bool) → (if limited then key else None) ≡ Some id → has_ended live key ≡ false → live id ≡ true
live_limited live id key true is ended = live_key live id key is ended
live_limited live id key false is ended = cc

live_used : (setup : Setup) (past : History) (caller : Caller) (drawn : List ℕ) (act : Act) (id : ℕ) → is_done (answer_by_rules act setup past caller drawn) ≡ true → used_by (open_of setup past) act ≡ Some id
    → is_live setup past id ≡ true
live_used setup past caller drawn (EnterFinish op input signature) id e is =
    let here : IsEntered setup past op = entered setup past caller drawn (EnterFinish op input signature) op refl refl e in
    live_limited (is_live setup past) id here.operation.operation.key here.operation.operation.limited
    (subst (λ found. option_and_then limited_key found ≡ Some id) here.found is) here.live
live_used setup past caller drawn _ id e is = cc

no_use : (opened : List Open) (act : Act) → changes_kept act ≡ false → used_by opened act ≡ None
no_use opened (EnterFinish op input signature) e = cc
no_use opened _ e = refl

done_settled : (setup : Setup) (past : History) (event : Event) (drawn : List ℕ) (fields : Fields) (id before : ℕ) (Known : ℕ → Type 0) → is_unsettled past ≡ false → is_done (answer setup past event drawn) ≡ true
    → HoldBoth setup past id before Known → HoldBoth setup (Acted event drawn (Done fields) ∷ past) id before Known
done_settled setup past event drawn fields id before Known settled done both =
    record {
      sure = sure_now;
      later = subst (Holds setup (Acted event drawn (Done fields) ∷ past) id before Known) (sym (settled_same setup (Some Kept) (Acted event drawn (Done fields) ∷ past) settled)) sure_now;
    } where
      Used : Option ℕ
      Used = used_by (open_of setup past) event.act

      goes : Goes id both.sure.limit (one_if (gives Used id) (uses_made setup past id) + before) (kept setup past) (kept setup (Acted event drawn (Done fields) ∷ past))
      goes = subst (λ made. Goes id both.sure.limit made (kept setup past) (kept setup (Acted event drawn (Done fields) ∷ past))) (one_more_before (gives Used id) (uses_made setup past id) before)
          (goes_admitted id (uses_made setup past id + before) both.sure.limit event.act (device_at setup past) setup.policy (kept setup past) (open_of setup past) (caller_of past event) drawn
          (λ is. live_used setup past (caller_of past event) drawn event.act id done is) both.sure.bounded)

      sure_now : Holds setup (Acted event drawn (Done fields) ∷ past) id before Known (kept setup (Acted event drawn (Done fields) ∷ past))
      sure_now = carried setup past (Acted event drawn (Done fields)) id before Known (kept setup past) (kept setup (Acted event drawn (Done fields) ∷ past)) both.sure goes (λ l has. inr has)

done_waiting : (setup : Setup) (past : History) (event : Event) (drawn : List ℕ) (fields : Fields) (id before : ℕ) (Known : ℕ → Type 0) → changes_kept event.act ≡ false
    → HoldBoth setup past id before Known → HoldBoth setup (Acted event drawn (Done fields) ∷ past) id before Known
done_waiting setup past event drawn fields id before Known none both = record { sure = over None both.sure; later = over (Some Kept) both.later } where
  keeps : (verdict : Option Settled) → kept_settled setup verdict (Acted event drawn (Done fields) ∷ past) ≡ kept_settled setup verdict past
  keeps verdict = ap (λ change. after_change change (kept_settled setup verdict past))
      (none_changed event.act (device_at setup past) setup.policy (kept_settled setup verdict past) (open_of setup past) (caller_of past event) drawn none)

  over : (verdict : Option Settled) → Holds setup past id before Known (kept_settled setup verdict past) → Holds setup (Acted event drawn (Done fields) ∷ past) id before Known (kept_settled setup verdict (Acted event drawn (Done fields) ∷ past))
  over verdict holds = subst (Holds setup (Acted event drawn (Done fields) ∷ past) id before Known) (sym (keeps verdict))
      (quiet setup past (Acted event drawn (Done fields)) id before Known (kept_settled setup verdict past)
      (ap (λ used. one_if (gives used id) (uses_made setup past id)) (no_use (open_of setup past) event.act none)) (keeps None) holds)

-- an act that comes while a change waits changes nothing
settles_none : (act : Act) → (fixed_for act).settles ≡ false → changes_kept act ≡ false
settles_none Disconnect e = refl
settles_none (Leave ticket) e = refl
settles_none _ e = cc

-- ---- over a legal history

done_is_none : (fields : Fields) (code : Code) → Done fields ≡ Stopped code → ⊥
done_is_none fields code e = cc

done_both : (setup : Setup) (past : History) (event : Event) (drawn : List ℕ) (fields : Fields) (id before : ℕ) (Known : ℕ → Type 0) → MayFollow setup past event drawn (Done fields)
    → HoldBoth setup past id before Known → HoldBoth setup (Acted event drawn (Done fields) ∷ past) id before Known
done_both setup past event drawn fields id before Known may both =
    by_waiting (is_unsettled past) refl (fixed_for event.act).settles refl (answered_done setup past event drawn fields may).ready where
      by_waiting : (waits : Bool) → is_unsettled past ≡ waits → (settles : Bool) → (fixed_for event.act).settles ≡ settles → IsTrue (not waits || not settles)
          → HoldBoth setup (Acted event drawn (Done fields) ∷ past) id before Known
      by_waiting false waits settles e ready =
          done_settled setup past event drawn fields id before Known waits (ap is_done (sym (answered_done setup past event drawn fields may).is_answer)) both
      by_waiting true waits false e ready = done_waiting setup past event drawn fields id before Known (settles_none event.act e) both
      by_waiting true waits true e ready = let never : false ≡ true = ready in cc

acted_both : (setup : Setup) (past : History) (event : Event) (drawn : List ℕ) (reply : Reply) (id before : ℕ) (Known : ℕ → Type 0) → MayFollow setup past event drawn reply
    → HoldBoth setup past id before Known → HoldBoth setup (Acted event drawn reply ∷ past) id before Known
acted_both setup past event drawn (Done fields) id before Known may both = done_both setup past event drawn fields id before Known may both
acted_both setup past event drawn (Broken rule code) id before Known may both = broken_both setup past event drawn id before Known rule code both
acted_both setup past event drawn (Stopped code) id before Known may both = stopped_both setup past event drawn code id before Known both

settled_both : (setup : Setup) (past : History) (settled : Settled) (id before : ℕ) (Known : ℕ → Type 0) → HoldBoth setup past id before Known → HoldBoth setup (Settling settled ∷ past) id before Known
settled_both setup past settled id before Known both = record { sure = now settled; later = now settled } where
  over : (s : Settled) → Holds setup past id before Known (kept_settled setup (Some s) past) → Holds setup (Settling s ∷ past) id before Known (kept_settled setup (Some s) past)
  over s holds = carried setup past (Settling s) id before Known (kept_settled setup (Some s) past) (kept_settled setup (Some s) past) holds
      (stays id (uses_made setup past id + before) holds.limit (kept_settled setup (Some s) past) holds.bounded) (λ l has. inr has)

  now : (s : Settled) → Holds setup (Settling s ∷ past) id before Known (kept_settled setup (Some s) past)
  now Kept = over Kept both.later
  now Lost = over Lost (subst (Holds setup past id before Known) (sym (lost_same setup past)) both.sure)

-- what is known of the keys of one number in the lasting part at a run's start
pub record HoldsAt (id before : ℕ) (Known : ℕ → Type 0) (part : Lasting) : Type 0 where
  pub limit : ℕ
  pub bounded : Bounded id before limit part
  pub known : (l : ℕ) → Known l → (l ≡ limit) × (id < part.next_key)

started : (setup : Setup) (id before : ℕ) (Known : ℕ → Type 0) → HoldsAt id before Known setup.start → Holds setup [] id before Known setup.start
started setup id before Known at = record { limit = at.limit; bounded = subst (λ made. Bounded id made at.limit setup.start) (omega arith) at.bounded; known = known } where
  known : (l : ℕ) → Known l ⊎ Stood setup [] id l → (l ≡ at.limit) × (id < setup.start.next_key)
  known l (inl was) = at.known l was
  known l (inr has) = has_limit_within id before at.limit l setup.start at.bounded has

pub hold_both : (setup : Setup) (next : Option Event) (past : History) (id before : ℕ) (Known : ℕ → Type 0) → LegalBefore setup next past → HoldsAt id before Known setup.start → HoldBoth setup past id before Known
hold_both setup next [] id before Known legal at = record { sure = started setup id before Known at; later = started setup id before Known at }
hold_both setup next (Settling settled ∷ past) id before Known legal at = settled_both setup past settled id before Known (hold_both setup None past id before Known legal.1 at)
hold_both setup next (Acted event drawn reply ∷ past) id before Known legal at = acted_both setup past event drawn reply id before Known legal.0 (hold_both setup (Some event) past id before Known legal.1 at)

turned : (setup : Setup) (past : History) (id before : ℕ) (Known : ℕ → Type 0) (part : Lasting) (l : ℕ) (holds : Holds setup past id before Known part) → Stood setup past id l ⊎ Known l → (l ≡ holds.limit) × (id < part.next_key)
turned setup past id before Known part l holds (inl stood) = holds.known l (inr stood)
turned setup past id before Known part l holds (inr was) = holds.known l (inl was)

-- each lasting part that the history may leave has what is known
pub holds_at : (setup : Setup) (past : History) (id before : ℕ) (Known : ℕ → Type 0) (part : Lasting) → May setup past part → HoldBoth setup past id before Known
    → HoldsAt id (uses_made setup past id + before) (λ l. Stood setup past id l ⊎ Known l) part
holds_at setup past id before Known part may both = by_waiting (is_unsettled past) may where
  from : (other : Lasting) → part ≡ other → Holds setup past id before Known other → HoldsAt id (uses_made setup past id + before) (λ l. Stood setup past id l ⊎ Known l) part
  from other is holds = subst (HoldsAt id (uses_made setup past id + before) (λ l. Stood setup past id l ⊎ Known l)) (sym is) (record { limit = holds.limit; bounded = holds.bounded; known = λ l known. turned setup past id before Known other l holds known })

  by_waiting : (waits : Bool) → MayWhere waits setup past part → HoldsAt id (uses_made setup past id + before) (λ l. Stood setup past id l ⊎ Known l) part
  by_waiting true (inl is) = from (kept_settled setup (Some Lost) past) is (subst (Holds setup past id before Known) (sym (lost_same setup past)) both.sure)
  by_waiting true (inr is) = from (kept_settled setup (Some Kept) past) is both.later
  by_waiting false is = from (kept setup past) is both.sure
