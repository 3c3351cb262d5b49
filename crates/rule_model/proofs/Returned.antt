-- Over a legal history the outputs with a key, and the finishes with it that are out, are no more than its uses.
use Rattle.std.proofs.Common.{◌≡◌, ◌⊎◌, inl, inr, ℕ, ◌+◌, ◌≤◌, Bool, true, false, ◌==◌, ◌&&◌, ◌||◌, not, if◌then◌else◌, List, [], ◌∷◌, ◌++◌, map, filter, find, length, Option, Some, None, refl, sym, ap, ◌∙◌, subst, arith}
use Rattle.std.proofs.lemmas.Bool.{eqb-true, eqb-false}
use Rattle.std.specs.List.{list_any}
use Rattle.cipher_ops.specs.declared.room.Work.{Work}
use Rattle.cipher_ops.specs.declared.room.Work.TheVariants.{Aad, Text, Last}
use Rattle.step_rules.specs.Table.{ends_operation}
use Rattle.use_rules.specs.Table as begin_table
use Rattle.rule_model.specs.declared.entry.Entry.TheVariants.{Acted, Settling}
use Rattle.rule_model.specs.declared.event.Act.{Act}
use Rattle.rule_model.specs.declared.event.Act.TheVariants.{AddAuthToken, Disconnect, CreateOperation, EnterAad, EnterUpdate, EnterFinish, Abort, Leave, Restart}
use Rattle.rule_model.specs.declared.event.Event.{Event}
use Rattle.rule_model.specs.declared.facts.Caller.{Caller}
use Rattle.rule_model.specs.declared.reply.Fields.{Fields}
use Rattle.rule_model.specs.declared.reply.Reply.{Reply}
use Rattle.rule_model.specs.declared.reply.Reply.TheVariants.{Done, Broken, Stopped}
use Rattle.rule_model.specs.Acts.{is_begin}
use Rattle.rule_model.specs.Answer.{answer, answer_by_rules}
use Rattle.rule_model.specs.Clients.{caller_of}
use Rattle.rule_model.specs.Entries.{History, count_of, gives, is_done}
use Rattle.rule_model.specs.Kept.{kept, open_of}
use Rattle.rule_model.specs.declared.operation.Open.{Open}
use Rattle.rule_model.specs.declared.operation.Operation.{Operation}
use Rattle.rule_model.specs.declared.entry_change.OperationChange.{OperationChange}
use Rattle.rule_model.specs.declared.entry_change.OperationChange.TheVariants.{SameOperations, Opens, Enters, Returns, Shows, Closes, ClosesOf, ClosesAll}
use Rattle.rule_model.specs.Operations.{admitted_operation, as_begun, as_entered, as_returned, as_shown, closes, enters, has_number, is_for, is_of, limited_key, open_after, operation_of, returns, step_of, stopped_operation, used_key, without_pruned}
use Rattle.rule_model.specs.Legal.{LegalBefore, MayFollow}
use Rattle.rule_model.specs.Settling.{is_faulted, is_unsettled}
use Rattle.rule_model.specs.Setup.{Setup}
use Rattle.rule_model.specs.Slots.{begin_facts}
use Rattle.rule_model.specs.declared.operation.Entered.{Entered}
use Rattle.rule_model.specs.Tickets.{admitted_ticket, goes_out, stopped_ticket, ticket_after, ticket_at}
use Rattle.rule_model.specs.Tokens.{token_of}
use Rattle.rule_model.specs.Uses.{one_if, used_by, uses_made}
use Rattle.rule_model.proofs.Admitted.{IsEntered, answered_done, broken_fields, entered}
use Rattle.rule_model.proofs.Bounds.{Each, each_changed, each_in, each_left, each_more}
use Rattle.rule_model.proofs.Outputs.{Apart, Differs, IsFew, any_changed, any_from_used, any_left, any_more, any_ticket_left, apart_changed, apart_left, apart_more, left_length, less_length, used_from_any, works_on}

-- ---- the finishes with a limited key that are out, and those that gave output

abbrev pub limited_output : List Open → Option Entered → Option ℕ
limited_output opened None = None
limited_output opened (Some entered) = by_work entered.work where
  by_work : Work → Option ℕ
  by_work (Aad input) = None
  by_work (Text input) = None
  by_work (Last input signature) = used_key entered.op opened

abbrev pub finished_with : Setup → History → Act → Option ℕ
finished_with setup past (Leave ticket) = limited_output (open_of setup past) (ticket_at past ticket)
finished_with setup past _ = None

abbrev pub limited_made : Setup → History → ℕ → ℕ
limited_made setup [] id = 0
limited_made setup (Settling settled ∷ past) id = limited_made setup past id
limited_made setup (Acted event drawn reply ∷ past) id = one_if (is_done reply && gives (finished_with setup past event.act) id) (limited_made setup past id)

-- the operation of the work that is out, where it is a finish's
abbrev pub finishing : Option Entered → Option ℕ
finishing None = None
finishing (Some entered) = by_work entered.work where
  by_work : Work → Option ℕ
  by_work (Aad input) = None
  by_work (Text input) = None
  by_work (Last input signature) = Some entered.op

abbrev pub IsKnown : ℕ → Option Entered → Type 0
IsKnown most None = Unit {0}
IsKnown most (Some entered) = entered.op ≤ most

-- What is known of the operations, of the tickets that are out, and of those that finishes with a key took: an operation with the
-- key, whose finish is out, has its ticket among these, and they stand for uses that gave no output yet.
pub record Paired (most : ℕ) (opened : List Open) (tickets : ℕ → Option Entered) (taken : List ℕ) (outputs uses id : ℕ) : Type 0 where
  pub few : Each (IsFew most) opened
  pub apart : Apart opened
  pub known : (ticket : ℕ) → IsKnown most (tickets ticket)
  pub waits : (ticket op : ℕ) → finishing (tickets ticket) ≡ Some op → list_any (works_on op id) opened ≡ true → list_any (λ t. t == ticket) taken ≡ true
  pub counted : outputs + length taken ≤ uses

-- the operations after an entry that opens none
pub record Narrow (id : ℕ) (opened later : List Open) : Type 0 where
  pub few : (most : ℕ) → Each (IsFew most) opened → Each (IsFew most) later
  pub apart : Apart opened → Apart later
  pub any : (op : ℕ) → list_any (works_on op id) later ≡ true → list_any (works_on op id) opened ≡ true

narrow_same : (id : ℕ) (opened : List Open) → Narrow id opened opened
narrow_same id opened = record { few = λ most few. few; apart = λ apart. apart; any = λ op e. e }

narrow_left : (id : ℕ) (test : Open → Bool) (opened : List Open) → Narrow id opened (filter test opened)
narrow_left id test opened = record {
  few = λ most few. each_left (IsFew most) test opened few;
  apart = apart_left test opened;
  any = λ op e. any_left test (works_on op id) opened e;
}

narrow_changed : (id : ℕ) (change : Open → Open) (opened : List Open) → ((o : Open) → (change o).operation ≡ o.operation) → Narrow id opened (map change opened)
narrow_changed id change opened same = record {
  few = λ most few. each_changed (IsFew most) (IsFew most) change (λ o less. subst (λ (it : Operation). it.number ≤ most) (sym (same o)) less) opened few;
  apart = apart_changed change same opened;
  any = λ op e. sym (any_changed change (works_on op id) (λ o. ap (λ (it : Operation). (it.number == op) && gives (if it.limited then it.key else None) id) (same o)) opened) ∙ e;
}

narrow_none : (id : ℕ) (opened : List Open) → Narrow id opened []
narrow_none id opened = record { few = λ most few. tt; apart = λ apart. tt; any = λ op e. cc }

-- the changes that open none
abbrev pub opens_none : OperationChange → Bool
opens_none (Opens pruned operation) = false
opens_none _ = true

pub one_changed : (b : Bool) (change : Open → Open) (o : Open) → (change o).operation ≡ o.operation → (if b then change o else o).operation ≡ o.operation
one_changed true change o same = same
one_changed false change o same = refl

narrow_by : (id step : ℕ) (change : OperationChange) (opened : List Open) → opens_none change ≡ true → Narrow id opened (open_after step change opened)
narrow_by id step SameOperations opened e = narrow_same id opened
narrow_by id step (Opens pruned operation) opened e = cc
narrow_by id step (Enters op ticket) opened e = narrow_changed id (λ o. if has_number op o then as_entered step ticket o else o) opened (λ o. one_changed (has_number op o) (as_entered step ticket) o refl)
narrow_by id step (Returns op aad text) opened e = narrow_changed id (λ o. if has_number op o then as_returned step aad text o else o) opened (λ o. one_changed (has_number op o) (as_returned step aad text) o refl)
narrow_by id step (Shows token) opened e = narrow_changed id (λ o. if is_for token o then as_shown o else o) opened (λ o. one_changed (is_for token o) as_shown o refl)
narrow_by id step (Closes op) opened e = narrow_left id (λ o. not (has_number op o)) opened
narrow_by id step (ClosesOf client) opened e = narrow_left id (λ o. not (is_of client o)) opened
narrow_by id step ClosesAll opened e = narrow_none id opened

pub returns_none : (found : Option Entered) → opens_none (returns found) ≡ true
returns_none None = refl
returns_none (Some entered) = by_work entered.work where
  by_work : (work : Work) → opens_none (returns (Some (record { op = entered.op; work = work }))) ≡ true
  by_work (Aad input) = refl
  by_work (Text input) = refl
  by_work (Last input signature) = refl

pub enters_none : (op : ℕ) (ticket : Option ℕ) → opens_none (enters op ticket) ≡ true
enters_none op None = refl
enters_none op (Some ticket) = refl

closes_none : (op : Option ℕ) → opens_none (closes op) ≡ true
closes_none None = refl
closes_none (Some op) = refl

-- ---- over an entry that takes no ticket and opens nothing

known_later : (most later : ℕ) (found : Option Entered) → most ≤ later → IsKnown most found → IsKnown later found
known_later most later None less known = tt
known_later most later (Some entered) less known = omega (arith, less, known)

paired_still : (most : ℕ) (opened later : List Open) (tickets : ℕ → Option Entered) (taken : List ℕ) (outputs uses id : ℕ) → Narrow id opened later
    → Paired most opened tickets taken outputs uses id → Paired most later tickets taken outputs uses id
paired_still most opened later tickets taken outputs uses id narrow paired = record {
  few = narrow.few most paired.few;
  apart = narrow.apart paired.apart;
  known = paired.known;
  waits = λ ticket op is any. paired.waits ticket op is (narrow.any op any);
  counted = paired.counted;
}

-- one ticket came back
back_known : (most : ℕ) (b : Bool) (found : Option Entered) → IsKnown most found → IsKnown most (if b then None else found)
back_known most true found known = tt
back_known most false found known = known

paired_back : (most : ℕ) (opened : List Open) (tickets : ℕ → Option Entered) (taken : List ℕ) (outputs uses id number : ℕ)
    → Paired most opened tickets taken outputs uses id → Paired most opened (λ t. if number == t then None else tickets t) taken outputs uses id
paired_back most opened tickets taken outputs uses id number paired = record {
  few = paired.few;
  apart = paired.apart;
  known = λ t. back_known most (number == t) (tickets t) (paired.known t);
  waits = λ t op is any. waits t op (number == t) is any;
  counted = paired.counted;
} where
  waits : (t op : ℕ) (b : Bool) → finishing (if b then None else tickets t) ≡ Some op → list_any (works_on op id) opened ≡ true → list_any (λ it. it == t) taken ≡ true
  waits t op true is any = cc
  waits t op false is any = paired.waits t op is any

among_taken : (most : ℕ) (opened : List Open) (tickets : ℕ → Option Entered) (taken : List ℕ) (outputs uses id number op : ℕ) (work : Work) → Paired most opened tickets taken outputs uses id
    → tickets number ≡ Some (record { op = op; work = work }) → gives (limited_output opened (Some (record { op = op; work = work }))) id ≡ true → list_any (λ it. it == number) taken ≡ true
among_taken most opened tickets taken outputs uses id number op (Aad input) paired is e = cc
among_taken most opened tickets taken outputs uses id number op (Text input) paired is e = cc
among_taken most opened tickets taken outputs uses id number op (Last input signature) paired is e = paired.waits number op (ap finishing is) (any_from_used op id opened e)

-- and its output counts, where it is that of a finish with the key
paired_given : (most : ℕ) (opened : List Open) (tickets : ℕ → Option Entered) (taken : List ℕ) (outputs uses id number : ℕ)
    → Paired most opened tickets taken outputs uses id
    → Paired most opened (λ t. if number == t then None else tickets t) (filter (λ t. not (t == number)) taken) (one_if (gives (limited_output opened (tickets number)) id) outputs) uses id
paired_given most opened tickets taken outputs uses id number paired = record {
  few = paired.few;
  apart = paired.apart;
  known = λ t. back_known most (number == t) (tickets t) (paired.known t);
  waits = λ t op is any. waits t op (number == t) refl is any;
  counted = counted (tickets number) refl (gives (limited_output opened (tickets number)) id) refl;
} where
  Left : List ℕ
  Left = filter (λ t. not (t == number)) taken

  waits : (t op : ℕ) (b : Bool) → (number == t) ≡ b → finishing (if b then None else tickets t) ≡ Some op → list_any (works_on op id) opened ≡ true → list_any (λ it. it == t) Left ≡ true
  waits t op true same is any = cc
  waits t op false same is any = any_ticket_left number t taken (eqb-false number t same) (paired.waits t op is any)

  among : (found : Option Entered) → tickets number ≡ found → gives (limited_output opened found) id ≡ true → list_any (λ it. it == number) taken ≡ true
  among None is e = cc
  among (Some entered) is e = among_taken most opened tickets taken outputs uses id number entered.op entered.work paired is e

  counted : (found : Option Entered) → tickets number ≡ found → (b : Bool) → gives (limited_output opened (tickets number)) id ≡ b → one_if b outputs + length Left ≤ uses
  counted found is true e = omega (arith, paired.counted, less_length number taken (among (tickets number) refl e))
  counted found is false e = omega (arith, paired.counted, left_length number taken)

-- ---- over an entry that takes a ticket

-- the number of the operation that is found
found_few : (most op : ℕ) (opened : List Open) (o : Open) → Each (IsFew most) opened → find (has_number op) opened ≡ Some o → op ≤ most
found_few most op [] o few is = cc
found_few most op (first ∷ opened) o few is = by_number (first.operation.number == op) refl is (found_few most op opened o few.1) where
  by_number : (b : Bool) → (first.operation.number == op) ≡ b → (if b then Some first else find (has_number op) opened) ≡ Some o → (find (has_number op) opened ≡ Some o → op ≤ most) → op ≤ most
  by_number true same is rest = subst (λ n. n ≤ most) (eqb-true first.operation.number op same) few.0
  by_number false same is rest = rest is

-- the ticket of a finish with the key is taken, and that of another step is not
abbrev pub taken_with : Option ℕ → Bool → List ℕ → List ℕ
taken_with None used taken = taken
taken_with (Some ticket) used taken = if used then ticket ∷ taken else taken

abbrev pub uses_key : Work → ℕ → List Open → ℕ → Bool
uses_key (Aad input) op opened id = false
uses_key (Text input) op opened id = false
uses_key (Last input signature) op opened id = gives (used_key op opened) id

behind : (first rest : Bool) → rest ≡ true → (first || rest) ≡ true
behind true rest e = refl
behind false rest e = e

paired_out : (most op number : ℕ) (work : Work) (opened later : List Open) (tickets : ℕ → Option Entered) (taken : List ℕ) (outputs uses id : ℕ) → op ≤ most → Narrow id opened later
    → Paired most opened tickets taken outputs uses id
    → Paired most later (λ t. if number == t then Some (record { op = op; work = work }) else tickets t) (if uses_key work op opened id then number ∷ taken else taken) outputs (one_if (uses_key work op opened id) uses) id
paired_out most op number work opened later tickets taken outputs uses id less narrow paired = record {
  few = narrow.few most paired.few;
  apart = narrow.apart paired.apart;
  known = λ t. known t (number == t);
  waits = λ t n is any. waits t n (number == t) refl is (narrow.any n any);
  counted = counted (uses_key work op opened id);
} where
  known : (t : ℕ) (b : Bool) → IsKnown most (if b then Some (record { op = op; work = work }) else tickets t)
  known t true = less
  known t false = paired.known t

  newest : (t n : ℕ) (work : Work) (b : Bool) → uses_key work op opened id ≡ b → (number == t) ≡ true → finishing (Some (record { op = op; work = work })) ≡ Some n → list_any (works_on n id) opened ≡ true
      → list_any (λ it. it == t) (if b then number ∷ taken else taken) ≡ true
  newest t n (Aad input) b uses same is any = cc
  newest t n (Text input) b uses same is any = cc
  newest t n (Last input signature) true uses same is any = rw same refl
  newest t n (Last input signature) false uses same is any =
      let this : op ≡ n = cc in
      let used : gives (used_key op opened) id ≡ true = used_from_any op id opened paired.apart (subst (λ k. list_any (works_on k id) opened ≡ true) (sym this) any) in cc

  more : (t : ℕ) (b : Bool) → list_any (λ it. it == t) taken ≡ true → list_any (λ it. it == t) (if b then number ∷ taken else taken) ≡ true
  more t true any = behind (number == t) (list_any (λ it. it == t) taken) any
  more t false any = any

  waits : (t n : ℕ) (b : Bool) → (number == t) ≡ b → finishing (if b then Some (record { op = op; work = work }) else tickets t) ≡ Some n → list_any (works_on n id) opened ≡ true
      → list_any (λ it. it == t) (if uses_key work op opened id then number ∷ taken else taken) ≡ true
  waits t n true same is any = newest t n work (uses_key work op opened id) refl same is any
  waits t n false same is any = more t (uses_key work op opened id) (paired.waits t n is any)

  counted : (b : Bool) → outputs + length (if b then number ∷ taken else taken) ≤ one_if b uses
  counted true = omega (arith, paired.counted)
  counted false = paired.counted

paired_enters : (most step op : ℕ) (work : Work) (ticket : Option ℕ) (opened : List Open) (tickets : ℕ → Option Entered) (taken : List ℕ) (outputs uses id : ℕ) → op ≤ most
    → Paired most opened tickets taken outputs uses id
    → Paired most (open_after step (enters op ticket) opened) (λ t. ticket_after (goes_out ticket op work) t (tickets t)) (taken_with ticket (uses_key work op opened id) taken) outputs (one_if (uses_key work op opened id) uses) id
paired_enters most step op work (Some ticket) opened tickets taken outputs uses id less paired =
    paired_out most op ticket work opened (open_after step (Enters op ticket) opened) tickets taken outputs uses id less (narrow_by id step (Enters op ticket) opened refl) paired
paired_enters most step op work None opened tickets taken outputs uses id less paired =
    record { few = paired.few; apart = paired.apart; known = paired.known; waits = paired.waits; counted = counted (uses_key work op opened id) } where
      counted : (b : Bool) → outputs + length taken ≤ one_if b uses
      counted true = omega (arith, paired.counted)
      counted false = paired.counted

-- ---- over an entry that opens one

narrow_pruned : (id : ℕ) (pruned : Option ℕ) (opened : List Open) → Narrow id opened (without_pruned pruned opened)
narrow_pruned id None opened = narrow_same id opened
narrow_pruned id (Some number) opened = narrow_left id (λ o. not (has_number number o)) opened

known_op : (most op : ℕ) (found : Option Entered) → IsKnown most found → finishing found ≡ Some op → op ≤ most
known_op most op None known is = cc
known_op most op (Some entered) known is = by_work entered.op entered.work known is where
  by_work : (n : ℕ) (work : Work) → n ≤ most → finishing (Some (record { op = n; work = work })) ≡ Some op → op ≤ most
  by_work n (Aad input) less is = cc
  by_work n (Text input) less is = cc
  by_work n (Last input signature) less is = let same : n ≡ op = cc in omega (arith, less, same)

number_of_any : (op id : ℕ) (o : Open) → works_on op id o ≡ true → o.operation.number ≡ op
number_of_any op id o e = eqb-true o.operation.number op (both (o.operation.number == op) (gives (limited_key o) id) e) where
  both : (a b : Bool) → a && b ≡ true → a ≡ true
  both true b is = refl
  both false b is = cc

paired_opens : (most step : ℕ) (pruned : Option ℕ) (o : Operation) (opened : List Open) (tickets : ℕ → Option Entered) (taken : List ℕ) (outputs uses id : ℕ) → o.number ≡ most + 1
    → Paired most opened tickets taken outputs uses id → Paired (most + 1) (open_after step (Opens pruned o) opened) tickets taken outputs uses id
paired_opens most step pruned o opened tickets taken outputs uses id next paired = record {
  few = each_more (IsFew (most + 1)) Old New (each_in (IsFew most) (IsFew (most + 1)) (λ it less. omega (arith, less)) Old old_few) (omega (arith, next));
  apart = apart_more Old New (each_in (IsFew most) (Differs o.number) (λ it less is. omega (arith, less, is, next)) Old old_few) (narrow.apart paired.apart);
  known = λ t. known_later most (most + 1) (tickets t) (omega arith) (paired.known t);
  waits = waits;
  counted = paired.counted;
} where
  Old : List Open
  Old = without_pruned pruned opened

  New : Open
  New = as_begun step o

  narrow : Narrow id opened Old
  narrow = narrow_pruned id pruned opened

  old_few : Each (IsFew most) Old
  old_few = narrow.few most paired.few

  which : (t op : ℕ) → finishing (tickets t) ≡ Some op → (list_any (works_on op id) Old ≡ true) ⊎ (works_on op id New ≡ true) → list_any (λ it. it == t) taken ≡ true
  which t op is (inl any) = paired.waits t op is (narrow.any op any)
  which t op is (inr this) = absurd (omega (arith, known_op most op (tickets t) (paired.known t) is, number_of_any op id New this, next))

  waits : (t op : ℕ) → finishing (tickets t) ≡ Some op → list_any (works_on op id) (Old ++ New ∷ []) ≡ true → list_any (λ it. it == t) taken ≡ true
  waits t op is any = which t op is (any_more (works_on op id) Old New any)

-- ---- over each admitted act

abbrev taken_done : Act → Fields → List Open → ℕ → List ℕ → List ℕ
taken_done (EnterAad op input) fields opened id taken = taken_with fields.ticket false taken
taken_done (EnterUpdate op input) fields opened id taken = taken_with fields.ticket false taken
taken_done (EnterFinish op input signature) fields opened id taken = taken_with fields.ticket (gives (used_key op opened) id) taken
taken_done (Leave ticket) fields opened id taken = filter (λ t. not (t == ticket)) taken
taken_done _ fields opened id taken = taken

abbrev taken_of : Setup → History → ℕ → List ℕ
taken_of setup [] id = []
taken_of setup (Settling settled ∷ past) id = taken_of setup past id
taken_of setup (Acted event drawn (Done fields) ∷ past) id = taken_done event.act fields (open_of setup past) id (taken_of setup past id)
taken_of setup (Acted event drawn (Broken rule code) ∷ past) id = taken_of setup past id
taken_of setup (Acted event drawn (Stopped code) ∷ past) id = taken_of setup past id

-- what is known after a history
abbrev pub IsPaired : Setup → History → ℕ → Type 0
IsPaired setup past id = Paired (count_of is_begin past) (open_of setup past) (λ t. ticket_at past t) (taken_of setup past id) (limited_made setup past id) (uses_made setup past id) id

-- and after an admitted act
abbrev PairedBy : Setup → History → Event → List ℕ → Fields → ℕ → Act → Type 0
PairedBy setup past event drawn fields id act =
    Paired (if is_begin act then count_of is_begin past + 1 else count_of is_begin past)
    (open_after (step_of past) (admitted_operation act setup (kept setup past) past event drawn fields) (open_of setup past))
    (λ t. ticket_after (admitted_ticket act fields) t (ticket_at past t)) (taken_done act fields (open_of setup past) id (taken_of setup past id))
    (one_if (gives (finished_with setup past act) id) (limited_made setup past id)) (one_if (gives (used_by (open_of setup past) act) id) (uses_made setup past id)) id

op_few : (setup : Setup) (past : History) (id op : ℕ) → IsPaired setup past id → IsEntered setup past op → op ≤ count_of is_begin past
op_few setup past id op paired here = found_few (count_of is_begin past) op (open_of setup past) here.operation paired.few here.found

paired_done : (setup : Setup) (past : History) (event : Event) (drawn : List ℕ) (fields : Fields) (id : ℕ) (act : Act) → is_done (answer_by_rules act setup past (caller_of past event) drawn) ≡ true
    → (is_begin act ≡ true → fields.op ≡ Some (count_of is_begin past + 1)) → IsPaired setup past id → PairedBy setup past event drawn fields id act
paired_done setup past event drawn fields id (CreateOperation key params forced) done number paired =
    subst (λ (found : Option ℕ). PairedBy setup past event drawn (record fields { op = found }) id (CreateOperation key params forced)) (sym (number refl))
    (paired_opens (count_of is_begin past) (step_of past) fields.pruned _ (open_of setup past) (λ t. ticket_at past t) (taken_of setup past id) (limited_made setup past id) (uses_made setup past id) id refl paired)
paired_done setup past event drawn fields id (EnterAad op input) done number paired =
    paired_enters (count_of is_begin past) (step_of past) op (Aad input) fields.ticket (open_of setup past) (λ t. ticket_at past t) (taken_of setup past id) (limited_made setup past id) (uses_made setup past id) id
    (op_few setup past id op paired (entered setup past (caller_of past event) drawn (EnterAad op input) op refl refl done)) paired
paired_done setup past event drawn fields id (EnterUpdate op input) done number paired =
    paired_enters (count_of is_begin past) (step_of past) op (Text input) fields.ticket (open_of setup past) (λ t. ticket_at past t) (taken_of setup past id) (limited_made setup past id) (uses_made setup past id) id
    (op_few setup past id op paired (entered setup past (caller_of past event) drawn (EnterUpdate op input) op refl refl done)) paired
paired_done setup past event drawn fields id (EnterFinish op input signature) done number paired =
    paired_enters (count_of is_begin past) (step_of past) op (Last input signature) fields.ticket (open_of setup past) (λ t. ticket_at past t) (taken_of setup past id) (limited_made setup past id) (uses_made setup past id) id
    (op_few setup past id op paired (entered setup past (caller_of past event) drawn (EnterFinish op input signature) op refl refl done)) paired
paired_done setup past event drawn fields id (Abort op) done number paired =
    paired_still (count_of is_begin past) (open_of setup past) _ (λ t. ticket_at past t) (taken_of setup past id) (limited_made setup past id) (uses_made setup past id) id
    (narrow_by id (step_of past) (Closes op) (open_of setup past) refl) paired
paired_done setup past event drawn fields id (Leave ticket) done number paired =
    paired_still (count_of is_begin past) (open_of setup past) _ _ _ _ _ id (narrow_by id (step_of past) (returns (ticket_at past ticket)) (open_of setup past) (returns_none (ticket_at past ticket)))
    (paired_given (count_of is_begin past) (open_of setup past) (λ t. ticket_at past t) (taken_of setup past id) (limited_made setup past id) (uses_made setup past id) id ticket paired)
paired_done setup past event drawn fields id (AddAuthToken challenge user authenticator kind time mac) done number paired =
    paired_still (count_of is_begin past) (open_of setup past) _ (λ t. ticket_at past t) (taken_of setup past id) (limited_made setup past id) (uses_made setup past id) id
    (narrow_by id (step_of past) (Shows (token_of challenge user authenticator kind time mac)) (open_of setup past) refl) paired
paired_done setup past event drawn fields id Disconnect done number paired =
    paired_still (count_of is_begin past) (open_of setup past) _ (λ t. ticket_at past t) (taken_of setup past id) (limited_made setup past id) (uses_made setup past id) id
    (narrow_by id (step_of past) (ClosesOf event.client) (open_of setup past) refl) paired
paired_done setup past event drawn fields id (Restart root) done number paired =
    record { few = tt; apart = tt; known = λ t. tt; waits = λ t op is any. cc; counted = paired.counted }
paired_done setup past event drawn fields id _ done number paired = paired

-- ---- over a legal history

begun_number : (setup : Setup) (past : History) (caller : Caller) (drawn : List ℕ) (fields : Fields) (act : Act) → is_begin act ≡ true
    → Done fields ≡ answer_by_rules act setup past caller drawn → fields.op ≡ Some (count_of is_begin past + 1)
begun_number setup past caller drawn fields (CreateOperation key params forced) begins is =
    ap (λ (f : Fields). f.op) (sym (broken_fields (begin_table.answer (begin_facts setup past caller key params forced)) _ fields (sym is)))
begun_number setup past caller drawn fields _ begins is = cc

pub ends_none : (b : Bool) (act : Act) → opens_none (if b then closes (operation_of act) else SameOperations) ≡ true
ends_none true act = closes_none (operation_of act)
ends_none false act = refl

paired_stopped : (setup : Setup) (past : History) (id : ℕ) (faulted : Bool) (act : Act) → IsPaired setup past id
    → Paired (count_of is_begin past) (open_after (step_of past) (stopped_operation faulted act past) (open_of setup past)) (λ t. ticket_after (stopped_ticket act) t (ticket_at past t)) (taken_of setup past id) (limited_made setup past id) (uses_made setup past id) id
paired_stopped setup past id faulted (Leave ticket) paired =
    paired_still (count_of is_begin past) (open_of setup past) _ _ _ _ _ id (narrow_by id (step_of past) (returns (ticket_at past ticket)) (open_of setup past) (returns_none (ticket_at past ticket)))
    (paired_back (count_of is_begin past) (open_of setup past) (λ t. ticket_at past t) (taken_of setup past id) (limited_made setup past id) (uses_made setup past id) id ticket paired)
paired_stopped setup past id true (EnterFinish op input signature) paired =
    paired_still (count_of is_begin past) (open_of setup past) _ (λ t. ticket_at past t) (taken_of setup past id) (limited_made setup past id) (uses_made setup past id) id
    (narrow_by id (step_of past) (Closes op) (open_of setup past) refl) paired
paired_stopped setup past id false (EnterFinish op input signature) paired = paired
paired_stopped setup past id faulted _ paired = paired

paired_acted : (setup : Setup) (past : History) (event : Event) (drawn : List ℕ) (reply : Reply) (id : ℕ) → MayFollow setup past event drawn reply → IsPaired setup past id → IsPaired setup (Acted event drawn reply ∷ past) id
paired_acted setup past event drawn (Done fields) id may paired =
    let is : Done fields ≡ answer setup past event drawn = (answered_done setup past event drawn fields may).is_answer in
    paired_done setup past event drawn fields id event.act (ap is_done (sym is))
    (λ begins. begun_number setup past (caller_of past event) drawn fields event.act begins is) paired
paired_acted setup past event drawn (Broken rule code) id may paired =
    paired_still (count_of is_begin past) (open_of setup past) _ (λ t. ticket_at past t) (taken_of setup past id) (limited_made setup past id) (uses_made setup past id) id
    (narrow_by id (step_of past) (if ends_operation rule then closes (operation_of event.act) else SameOperations) (open_of setup past) (ends_none (ends_operation rule) event.act)) paired
paired_acted setup past event drawn (Stopped code) id may paired = paired_stopped setup past id (is_faulted (is_unsettled past) event.act (Stopped code)) event.act paired

pub paired_of : (setup : Setup) (next : Option Event) (past : History) (id : ℕ) → LegalBefore setup next past → IsPaired setup past id
paired_of setup next [] id legal = record { few = tt; apart = tt; known = λ t. tt; waits = λ t op is any. cc; counted = omega arith }
paired_of setup next (Settling settled ∷ past) id legal = paired_of setup None past id legal.1
paired_of setup next (Acted event drawn reply ∷ past) id legal = paired_acted setup past event drawn reply id legal.0 (paired_of setup (Some event) past id legal.1)
