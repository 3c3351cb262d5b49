-- Bytes that carry a lasting part on, one behind the other.
use Rattle.std.proofs.Common.{◌≡◌, ℕ, ◌≤◌, Bool, true, false, List, [], ◌∷◌, ◌++◌, length, Option, None, Some, refl, sym, ap, ◌∙◌, append_assoc, arith, length-append}
use Rattle.std.specs.Option.{option_and_then, option_map}
use Rattle.std.proofs.lemmas.List.{append-nil, map-append}
use Rattle.std.proofs.lemmas.Option.{none-some, same_Some}
use Rattle.journal_records.specs.declared.change.Change.{Change}
use Rattle.journal_records.specs.declared.change.Change.TheVariants.{Create, Delete, Use, Grant, Ungrant, Clear, Removed, Upgrade}
use Rattle.journal_records.specs.declared.record.Record.{Record}
use Rattle.journal_records.specs.declared.record.Record.TheVariants as records
use Rattle.journal_records.specs.LastingPart.{Lasting}
use Rattle.journal_records.specs.Needs.{is_met}
use Rattle.journal_records.specs.Effects.{after, changed}
use Rattle.journal_records.specs.Spelling.{IsChange, IsRecord, framed, kind_of, record_framed, spelled}
use Rattle.journal_records.specs.States.{ReadState, state_of, stepped}
use Rattle.journal_records.specs.Storable.{area_kinds}
use Rattle.journal_records.specs.Carrying.{Carries, StandsBy, made_from, part_left, recorded}
use Rattle.journal_records.proofs.Lists.{all_append, all_map}

-- ---- bytes

spelled_append : (later past : List Record) → spelled (later ++ past) ≡ spelled past ++ spelled later
spelled_append [] past = sym (append-nil (spelled past))
spelled_append (it ∷ later) past = ap (λ (l : List ℕ). l ++ record_framed it) (spelled_append later past) ∙ append_assoc (spelled past) (spelled later) (record_framed it)

recorded_append : (later past : List Change) → recorded (later ++ past) ≡ recorded later ++ recorded past
recorded_append later past = map-append records.Change later past

no_record : (it : Record) (past : List Record) → spelled (it ∷ past) ≡ [] → ⊥
no_record it past none = absurd (omega (arith, ap length none, length-append (spelled past) (record_framed it)))

-- its kind is one of those
pub small_kind : (change : Change) → kind_of (records.Change change) ≤ area_kinds
small_kind (Create id domain nspace alias blob list limit) = omega arith
small_kind (Delete id) = omega arith
small_kind (Use id) = omega arith
small_kind (Grant row) = omega arith
small_kind (Ungrant grant) = omega arith
small_kind (Clear domain nspace) = omega arith
small_kind (Removed user) = omega arith
small_kind (Upgrade id blob list) = omega arith

-- changes are records that an area may hold
change_is : (change : Change) → IsChange change → IsRecord area_kinds (records.Change change)
change_is change is = (is.0, is.1, small_kind change)

-- ---- what is left

-- a change more on both sides
changed_on : (from : Option Lasting) (change : Change) (part to : Lasting) → from ≡ Some part → changed part change ≡ Some to → option_and_then (λ before. changed before change) from ≡ Some to
changed_on from change part to is made = ap (λ (o : Option Lasting). option_and_then (λ before. changed before change) o) is ∙ made

-- where a change more was made, what was before it
record HasMade (before : Option Lasting) (change : Change) (to : Lasting) : Type 0 where
  part : Lasting
  is : before ≡ Some part
  made : changed part change ≡ Some to

has_made : (before : Option Lasting) (change : Change) (to : Lasting) → option_and_then (λ part. changed part change) before ≡ Some to → HasMade before change to
has_made None change to e = absurd (none-some to e)
has_made (Some part) change to e = record { part = part; is = refl; made = e }

made_on : (later past : List Change) (from between to : Lasting) → made_from from past ≡ Some between → made_from between later ≡ Some to → made_from from (later ++ past) ≡ Some to
made_on [] past from between to first second = first ∙ second
made_on (change ∷ later) past from between to first second =
    let last = has_made (made_from between later) change to second in
    changed_on (made_from from (later ++ past)) change last.part to (made_on later past from between last.part first last.is) last.made

-- the record of a change, behind others
stepped_on : (before : Option ReadState) (change : Change) (part to : Lasting) → option_map (λ (state : ReadState). state.part) before ≡ Some part → changed part change ≡ Some to
    → option_map (λ (state : ReadState). state.part) (option_and_then (λ state. stepped state (records.Change change)) before) ≡ Some to
stepped_on None change part to left made = absurd (none-some part left)
stepped_on (Some state) change part to left made = by_need (is_met state.part change) refl
  where
    same : state.part ≡ part
    same = same_Some state.part part left

    here : changed state.part change ≡ Some to
    here = ap (λ (p : Lasting). changed p change) same ∙ made

    by_need : (met : Bool) → is_met state.part change ≡ met → option_map (λ (state : ReadState). state.part) (stepped state (records.Change change)) ≡ Some to
    by_need true met = let made_here = rw met at here in rw met made_here
    by_need false met = let made_here = rw met at here in absurd (none-some to made_here)

left_on : (changes : List Change) (past : List Record) (from to : Lasting) → part_left past ≡ Some from → made_from from changes ≡ Some to → part_left (recorded changes ++ past) ≡ Some to
left_on [] past from to left made = left ∙ made
left_on (change ∷ changes) past from to left made =
    let last = has_made (made_from from changes) change to made in
    stepped_on (state_of (recorded changes ++ past)) change last.part to (left_on changes past from last.part left last.is) last.made

-- ---- the laws

pub nothing_carries : (part : Lasting) → Carries part part []
nothing_carries part = record { changes = []; are = tt; is = refl; left = refl }

of_none : (changes : List Change) (from to : Lasting) → [] ≡ spelled (recorded changes) → made_from from changes ≡ Some to → to ≡ from
of_none [] from to none left = sym (same_Some from to left)
of_none (change ∷ changes) from to none left = absurd (no_record (records.Change change) (recorded changes) (sym none))

pub nothing_stays : (from to : Lasting) → Carries from to [] → to ≡ from
nothing_stays from to carries = of_none carries.changes from to carries.is carries.left

pub change_carries : (part : Lasting) (change : Change) → IsChange change → is_met part change ≡ true → Carries part (after part change) (framed change)
change_carries part change is met = record { changes = change ∷ []; are = (is, tt); is = refl; left = rw met refl }

pub carries_on : (from between to : Lasting) (first second : List ℕ) → Carries from between first → Carries between to second → Carries from to (first ++ second)
carries_on from between to first second a b = record {
  changes = b.changes ++ a.changes;
  are = all_append IsChange b.changes a.changes b.are a.are;
  is = (λ i. a.is i ++ b.is i) ∙ sym (ap spelled (recorded_append b.changes a.changes) ∙ spelled_append (recorded b.changes) (recorded a.changes));
  left = made_on b.changes a.changes from between to a.left b.left;
}

pub stands_on : (records more : List ℕ) (from to : Lasting) → StandsBy records from → Carries from to more → StandsBy (records ++ more) to
stands_on bytes more from to stands carries = record {
  past = recorded carries.changes ++ stands.past;
  records = all_append (IsRecord area_kinds) (recorded carries.changes) stands.past (all_map IsChange (IsRecord area_kinds) records.Change change_is carries.changes carries.are) stands.records;
  is = (λ i. stands.is i ++ carries.is i) ∙ sym (spelled_append (recorded carries.changes) stands.past);
  left = left_on carries.changes stands.past from to stands.left carries.left;
}
