-- Each open operation on a stored key began on one that was among the keys, and is limited by it.
use Rattle.std.proofs.Common.{◌≡◌, inr, ℕ, ◌≤◌, Bool, true, false, ◌==◌, ◌&&◌, not, if◌then◌else◌, List, [], ◌∷◌, map, find, Option, Some, None, option_map, refl, sym, ap, ◌∙◌, subst, arith}
use Rattle.std.proofs.lemmas.Bool.{eqb-true}
use Rattle.std.specs.Option.{option_and_then, option_map_or}
use Rattle.tags.specs.declared.descriptor.Descriptor.{Descriptor}
use Rattle.tags.specs.declared.param.Param.{Param}
use Rattle.key_domains.specs.declared.access.Access.{Access}
use Rattle.key_domains.specs.declared.access.Access.TheVariants.{Found, Blob, Nothing}
use Rattle.journal_records.specs.declared.record.KeyRecord.{KeyRecord}
use Rattle.journal_records.specs.LastingPart.{Lasting, has_id}
use Rattle.journal_records.specs.Lookups.{key_of_id}
use Rattle.step_rules.specs.Table.{ends_operation}
use Rattle.rule_model.specs.declared.entry.Entry.{Entry}
use Rattle.rule_model.specs.declared.entry.Entry.TheVariants.{Acted, Settling}
use Rattle.rule_model.specs.declared.event.Act.{Act}
use Rattle.rule_model.specs.declared.event.Act.TheVariants.{AddAuthToken, Disconnect, CreateOperation, EnterAad, EnterUpdate, EnterFinish, Abort, Leave, Restart}
use Rattle.rule_model.specs.declared.event.Event.{Event}
use Rattle.rule_model.specs.declared.reply.Fields.{Fields}
use Rattle.rule_model.specs.declared.reply.Reply.TheVariants.{Done, Broken, Stopped}
use Rattle.rule_model.specs.Access.{key_in}
use Rattle.rule_model.specs.BeginFacts.{is_limited, limited_by}
use Rattle.rule_model.specs.Entries.{History, gives, is_done}
use Rattle.rule_model.specs.Clients.{caller_of}
use Rattle.rule_model.specs.Kept.{access_at, kept, open_of}
use Rattle.rule_model.specs.declared.operation.Open.{Open}
use Rattle.rule_model.specs.declared.operation.Operation.{Operation}
use Rattle.rule_model.specs.declared.entry_change.OperationChange.{OperationChange}
use Rattle.rule_model.specs.declared.entry_change.OperationChange.TheVariants.{SameOperations, Opens, Enters, Returns, Shows, Closes, ClosesOf, ClosesAll}
use Rattle.rule_model.specs.Operations.{admitted_operation, as_entered, as_returned, as_shown, closes, enters, has_number, is_for, is_of, limited_key, open_after, operation_of, returns, step_of, stopped_operation, without_pruned}
use Rattle.rule_model.specs.Settling.{is_faulted, is_unsettled}
use Rattle.cipher_ops.specs.declared.room.Work.{Work}
use Rattle.cipher_ops.specs.declared.room.Work.TheVariants.{Aad, Text, Last}
use Rattle.rule_model.specs.Setup.{Setup}
use Rattle.rule_model.specs.declared.operation.Entered.{Entered}
use Rattle.rule_model.specs.Tickets.{ticket_at}
use Rattle.rule_model.specs.Tokens.{token_of}
use Rattle.rule_model.specs.Uses.{HasLimit, Stood, finished_by, one_if, output_key, outputs_made}
use Rattle.rule_model.proofs.Bounds.{Each, each_changed, each_in, each_left, each_more, each_found}
use Rattle.rule_model.proofs.Held.{stood_now}
use Rattle.rule_model.proofs.Returned.{ends_none, enters_none, one_changed, opens_none, returns_none, finished_with, limited_made, limited_output}

-- ---- a key that is found has its limit among the keys

found_id : (id : ℕ) (keys : List KeyRecord) (key : KeyRecord) → find (has_id id) keys ≡ Some key → key.id ≡ id
found_id id [] key e = cc
found_id id (first ∷ keys) key e = by_first (first.id == id) refl e (found_id id keys key) where
  by_first : (b : Bool) → (first.id == id) ≡ b → (if b then Some first else find (has_id id) keys) ≡ Some key → (find (has_id id) keys ≡ Some key → key.id ≡ id) → key.id ≡ id
  by_first true is found rest = let this : first ≡ key = cc in ap (λ (k : KeyRecord). k.id) (sym this) ∙ eqb-true first.id id is
  by_first false is found rest = rest found

abbrev id_key : Option KeyRecord → Option ℕ
id_key found = option_map (λ (key : KeyRecord). key.id) found

abbrev is_limited_key : Option KeyRecord → Bool
is_limited_key found = option_map_or (λ (key : KeyRecord). is_limited key.limit) found false

-- a key of this number, by whose limit it is said whether an operation on it is limited
abbrev pub IsKeyOf : Lasting → ℕ → Bool → Type 0
IsKeyOf part id limited = (l : ℕ) × HasLimit part id l × (limited ≡ is_limited l)

found_in : (part : Lasting) (id number : ℕ) (found : Option KeyRecord) → key_of_id part number ≡ found → id_key found ≡ Some id → IsKeyOf part id (is_limited_key found)
found_in part id number None is e = cc
found_in part id number (Some key) is e =
    let own : key.id ≡ id = cc in
    (key.limit, (key, ap (key_of_id part) (sym own ∙ found_id number part.keys key is) ∙ is, refl), refl)

begun_on : (part : Lasting) (id : ℕ) (access : Access) (list : Option (List Param)) → id_key (key_in part access) ≡ Some id → IsKeyOf part id (limited_by access (key_in part access) list)
begun_on part id (Found row bits) list e = found_in part id row.id (key_of_id part row.id) refl e
begun_on part id (Blob bits) list e = cc
begun_on part id Nothing list e = cc

-- ---- each open operation on a stored key began on one that was among the keys

abbrev pub BeganOn : Setup → History → Open → Type 0
BeganOn setup past o = (id : ℕ) → o.operation.key ≡ Some id → (l : ℕ) × Stood setup past id l × (o.operation.limited ≡ is_limited l)

began_before : (setup : Setup) (past : History) (entry : Entry) (opened : List Open) → Each (BeganOn setup past) opened → Each (BeganOn setup (entry ∷ past)) opened
began_before setup past entry opened was =
    each_in (BeganOn setup past) (BeganOn setup (entry ∷ past)) (λ o before id is. later id o.operation.limited (before id is)) opened was where
      later : (id : ℕ) (b : Bool) → (l : ℕ) × Stood setup past id l × (b ≡ is_limited l) → (l : ℕ) × Stood setup (entry ∷ past) id l × (b ≡ is_limited l)
      later id b (l, stood, limited) = (l, inr stood, limited)

began_same : (setup : Setup) (past : History) (change : Open → Open) → ((o : Open) → (change o).operation ≡ o.operation) → (opened : List Open) → Each (BeganOn setup past) opened → Each (BeganOn setup past) (map change opened)
began_same setup past change same opened was =
    each_changed (BeganOn setup past) (BeganOn setup past) change (λ o before id is. over o.operation (change o).operation id (sym (same o)) (before id (ap (λ (it : Operation). it.key) (sym (same o)) ∙ is))) opened was where
      over : (it other : Operation) (id : ℕ) → it ≡ other → (l : ℕ) × Stood setup past id l × (it.limited ≡ is_limited l) → (l : ℕ) × Stood setup past id l × (other.limited ≡ is_limited l)
      over it other id is = subst (λ (o : Operation). (l : ℕ) × Stood setup past id l × (o.limited ≡ is_limited l)) is

began_after : (setup : Setup) (past : History) (step : ℕ) (change : OperationChange) (opened : List Open) → opens_none change ≡ true → Each (BeganOn setup past) opened → Each (BeganOn setup past) (open_after step change opened)
began_after setup past step SameOperations opened e was = was
began_after setup past step (Opens pruned operation) opened e was = cc
began_after setup past step (Enters op ticket) opened e was = began_same setup past (λ o. if has_number op o then as_entered step ticket o else o) (λ o. one_changed (has_number op o) (as_entered step ticket) o refl) opened was
began_after setup past step (Returns op aad text) opened e was = began_same setup past (λ o. if has_number op o then as_returned step aad text o else o) (λ o. one_changed (has_number op o) (as_returned step aad text) o refl) opened was
began_after setup past step (Shows token) opened e was = began_same setup past (λ o. if is_for token o then as_shown o else o) (λ o. one_changed (is_for token o) as_shown o refl) opened was
began_after setup past step (Closes op) opened e was = each_left (BeganOn setup past) (λ o. not (has_number op o)) opened was
began_after setup past step (ClosesOf client) opened e was = each_left (BeganOn setup past) (λ o. not (is_of client o)) opened was
began_after setup past step ClosesAll opened e was = tt

began_pruned : (setup : Setup) (past : History) (pruned : Option ℕ) (opened : List Open) → Each (BeganOn setup past) opened → Each (BeganOn setup past) (without_pruned pruned opened)
began_pruned setup past None opened was = was
began_pruned setup past (Some number) opened was = each_left (BeganOn setup past) (λ o. not (has_number number o)) opened was

-- over each entry; it stood before the entry, so it stood after
began_begun : (setup : Setup) (past : History) (event : Event) (drawn : List ℕ) (fields : Fields) (key : Descriptor) (params : List ℕ) (forced : Bool) (op : Option ℕ) → Each (BeganOn setup past) (open_of setup past)
    → Each (BeganOn setup past) (open_after (step_of past) (admitted_operation (CreateOperation key params forced) setup (kept setup past) past event drawn (record fields { op = op })) (open_of setup past))
began_begun setup past event drawn fields key params forced None was = was
began_begun setup past event drawn fields key params forced (Some number) was =
    each_more (BeganOn setup past) (without_pruned fields.pruned (open_of setup past)) _ (began_pruned setup past fields.pruned (open_of setup past) was)
    (λ id is. stood id _ (begun_on (kept setup past) id (access_at setup past (caller_of past event) key) _ is)) where
      stood : (id : ℕ) (b : Bool) → IsKeyOf (kept setup past) id b → (l : ℕ) × Stood setup past id l × (b ≡ is_limited l)
      stood id b (l, has, limited) = (l, stood_now setup past id l has, limited)

began_done : (setup : Setup) (past : History) (event : Event) (drawn : List ℕ) (fields : Fields) (act : Act) → Each (BeganOn setup past) (open_of setup past)
    → Each (BeganOn setup past) (open_after (step_of past) (admitted_operation act setup (kept setup past) past event drawn fields) (open_of setup past))
began_done setup past event drawn fields (CreateOperation key params forced) was = began_begun setup past event drawn fields key params forced fields.op was
began_done setup past event drawn fields (EnterAad op input) was = began_after setup past (step_of past) (enters op fields.ticket) (open_of setup past) (enters_none op fields.ticket) was
began_done setup past event drawn fields (EnterUpdate op input) was = began_after setup past (step_of past) (enters op fields.ticket) (open_of setup past) (enters_none op fields.ticket) was
began_done setup past event drawn fields (EnterFinish op input signature) was = began_after setup past (step_of past) (enters op fields.ticket) (open_of setup past) (enters_none op fields.ticket) was
began_done setup past event drawn fields (Abort op) was = began_after setup past (step_of past) (Closes op) (open_of setup past) refl was
began_done setup past event drawn fields (Leave ticket) was = began_after setup past (step_of past) (returns (ticket_at past ticket)) (open_of setup past) (returns_none (ticket_at past ticket)) was
began_done setup past event drawn fields (AddAuthToken challenge user authenticator kind time mac) was = began_after setup past (step_of past) (Shows (token_of challenge user authenticator kind time mac)) (open_of setup past) refl was
began_done setup past event drawn fields Disconnect was = began_after setup past (step_of past) (ClosesOf event.client) (open_of setup past) refl was
began_done setup past event drawn fields (Restart root) was = tt
began_done setup past event drawn fields _ was = was

began_stopped : (setup : Setup) (past : History) (faulted : Bool) (act : Act) → Each (BeganOn setup past) (open_of setup past)
    → Each (BeganOn setup past) (open_after (step_of past) (stopped_operation faulted act past) (open_of setup past))
began_stopped setup past faulted (Leave ticket) was = began_after setup past (step_of past) (returns (ticket_at past ticket)) (open_of setup past) (returns_none (ticket_at past ticket)) was
began_stopped setup past true (EnterFinish op input signature) was = began_after setup past (step_of past) (Closes op) (open_of setup past) refl was
began_stopped setup past false (EnterFinish op input signature) was = was
began_stopped setup past faulted _ was = was

pub began_on : (setup : Setup) (past : History) → Each (BeganOn setup past) (open_of setup past)
began_on setup [] = tt
began_on setup (Settling settled ∷ past) = began_before setup past (Settling settled) (open_of setup past) (began_on setup past)
began_on setup (Acted event drawn (Done fields) ∷ past) =
    began_before setup past (Acted event drawn (Done fields)) _ (began_done setup past event drawn fields event.act (began_on setup past))
began_on setup (Acted event drawn (Broken rule code) ∷ past) =
    began_before setup past (Acted event drawn (Broken rule code)) _
    (began_after setup past (step_of past) (if ends_operation rule then closes (operation_of event.act) else SameOperations) (open_of setup past) (ends_none (ends_operation rule) event.act) (began_on setup past))
began_on setup (Acted event drawn (Stopped code) ∷ past) =
    began_before setup past (Acted event drawn (Stopped code)) _
    (began_stopped setup past (is_faulted (is_unsettled past) event.act (Stopped code)) event.act (began_on setup past))

-- ---- so a finish gives output with a limited key where it was counted as such

gives_some : (id : ℕ) (key : Option ℕ) → gives key id ≡ true → key ≡ Some id
gives_some id None e = cc
gives_some id (Some n) e = ap Some (eqb-true n id e)

some_gives : (id : ℕ) (key : Option ℕ) (limited : Bool) → gives key id ≡ true → limited ≡ true → gives (if limited then key else None) id ≡ true
some_gives id key true e is = e
some_gives id key false e is = cc

has_limit : (limit : ℕ) → 1 ≤ limit → is_limited limit ≡ true
has_limit limit some = by_none (limit == 0) refl where
  by_none : (b : Bool) → (limit == 0) ≡ b → not b ≡ true
  by_none true is = absurd (omega (arith, eqb-true limit 0 is, some))
  by_none false is = refl

worked_used : (setup : Setup) (past : History) (op id limit : ℕ) (found : Option Open) → find (has_number op) (open_of setup past) ≡ found → 1 ≤ limit → ((l : ℕ) → Stood setup past id l → l ≡ limit)
    → gives (option_and_then (λ (o : Open). o.operation.key) found) id ≡ true → gives (option_and_then limited_key found) id ≡ true
worked_used setup past op id limit None is limited known e = cc
worked_used setup past op id limit (Some o) is limited known e =
    some_gives id o.operation.key o.operation.limited e
    (by_began (each_found (BeganOn setup past) (has_number op) (open_of setup past) o (began_on setup past) is id (gives_some id o.operation.key e))) where
      by_began : (l : ℕ) × Stood setup past id l × (o.operation.limited ≡ is_limited l) → o.operation.limited ≡ true
      by_began (l, stood, by) = by ∙ ap is_limited (known l stood) ∙ has_limit limit limited

given_used : (setup : Setup) (past : History) (id limit op : ℕ) (work : Work) → 1 ≤ limit → ((l : ℕ) → Stood setup past id l → l ≡ limit)
    → gives (output_key (open_of setup past) (Some (record { op = op; work = work }))) id ≡ true → gives (limited_output (open_of setup past) (Some (record { op = op; work = work }))) id ≡ true
given_used setup past id limit op (Aad input) limited known e = cc
given_used setup past id limit op (Text input) limited known e = cc
given_used setup past id limit op (Last input signature) limited known e = worked_used setup past op id limit (find (has_number op) (open_of setup past)) refl limited known e

found_used : (setup : Setup) (past : History) (id limit : ℕ) (found : Option Entered) → 1 ≤ limit → ((l : ℕ) → Stood setup past id l → l ≡ limit)
    → gives (output_key (open_of setup past) found) id ≡ true → gives (limited_output (open_of setup past) found) id ≡ true
found_used setup past id limit None limited known e = cc
found_used setup past id limit (Some entered) limited known e = given_used setup past id limit entered.op entered.work limited known e

finished_used : (setup : Setup) (past : History) (id limit : ℕ) (act : Act) → 1 ≤ limit → ((l : ℕ) → Stood setup past id l → l ≡ limit)
    → gives (finished_by setup past act) id ≡ true → gives (finished_with setup past act) id ≡ true
finished_used setup past id limit (Leave ticket) limited known e = found_used setup past id limit (ticket_at past ticket) limited known e
finished_used setup past id limit _ limited known e = cc

one_few : (done a b : Bool) (n m : ℕ) → n ≤ m → (a ≡ true → b ≡ true) → one_if (done && a) n ≤ one_if (done && b) m
one_few false a b n m less so = less
one_few true false true n m less so = omega (arith, less)
one_few true false false n m less so = less
one_few true true b n m less so = rw (so refl) (omega (arith, less))

pub outputs_limited : (setup : Setup) (past : History) (id limit : ℕ) → 1 ≤ limit → ((l : ℕ) → Stood setup past id l → l ≡ limit) → outputs_made setup past id ≤ limited_made setup past id
outputs_limited setup [] id limit limited known = omega arith
outputs_limited setup (Settling settled ∷ past) id limit limited known = outputs_limited setup past id limit limited (λ l stood. known l (inr stood))
outputs_limited setup (Acted event drawn reply ∷ past) id limit limited known =
    one_few (is_done reply) (gives (finished_by setup past event.act) id) (gives (finished_with setup past event.act) id) (outputs_made setup past id) (limited_made setup past id)
    (outputs_limited setup past id limit limited (λ l stood. known l (inr stood)))
    (finished_used setup past id limit event.act limited (λ l stood. known l (inr stood)))
