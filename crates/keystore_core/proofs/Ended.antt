-- The operations of a client that goes are those of the numbers that its rows have.
use Rattle.std.proofs.Common.{◌≡◌, ◌==◌, ℕ, Bool, true, false, not, List, [], ◌∷◌, filter, map, refl, sym, ap, ◌∙◌, subst, inl, inr}
use Rattle.std.proofs.lemmas.Bool.{cases_Bool, eq-eqb, ne_eqb}
use Rattle.cipher_ops.specs.declared.state.CipherState.{CipherState}
use Rattle.operation_slots.specs.declared.operation.SlotOperation.{SlotOperation as Slot}
use Rattle.operation_slots.specs.Table as table
use Rattle.operation_slots.specs.Table.{operations_of, without, without_all}
use Rattle.slot_chain.specs.Linked.{AllDiffer, NoneIs}
use Rattle.rule_model.specs.declared.operation.Open.{Open}
use Rattle.rule_model.specs.Entries.{History}
use Rattle.rule_model.specs.Kept.{open_of}
use Rattle.rule_model.specs.Operations.{is_of}
use Rattle.rule_model.specs.Setup.{Setup}
use Rattle.live_tables.specs.Alike.{Alike}
use Rattle.live_tables.specs.Numbered.{row_number}
use Rattle.live_tables.specs.Operations.{IsRow, is_row_of, numbers_of_client, rows_in}
use Rattle.live_tables.proofs.Alike.{alike_filter, alike_images}
use Rattle.keystore_core.specs.declared.tables.Tables.{Tables}
use Rattle.keystore_core.specs.Slots.{IsSlot}
use Rattle.keystore_core.specs.Tables.{TablesStand}

abbrev number_in : Open → ℕ
number_in o = o.operation.number

-- an operation of none of some numbers stays before those that do
stays_first : (numbers : List ℕ) (slot : Slot CipherState) (slots : List (Slot CipherState)) → NoneIs slot.number numbers → without_all numbers (slot ∷ slots) ≡ slot ∷ without_all numbers slots
stays_first [] slot slots none = refl
stays_first (n ∷ ns) slot slots none = rw (ne_eqb slot.number n (λ e. none.0 (sym e))) (stays_first ns slot (without n slots) none.1)

-- a number that no operation has takes none out
none_goes : (n : ℕ) (slots : List (Slot CipherState)) (os : List Open) → Alike IsSlot slots os → NoneIs n (map number_in os) → without n slots ≡ slots
none_goes n [] os h none = refl
none_goes n (s ∷ ss) (o ∷ os) h none =
    rw (ne_eqb s.number n (λ (e : s.number ≡ n). none.0 (sym h.0.number ∙ e))) (ap (λ (l : List (Slot CipherState)). s ∷ l) (none_goes n ss os h.1 none.1))
none_goes n (s ∷ ss) [] h none = absurd h

none_fewer : (p : Open → Bool) (n : ℕ) (os : List Open) → NoneIs n (map number_in os) → NoneIs n (map number_in (filter p os))
none_fewer p n [] none = tt
none_fewer p n (o ∷ os) none = elim (cases_Bool (p o)) [
  | inl e ↦ rw e (none.0, none_fewer p n os none.1)
  | inr e ↦ rw e (none_fewer p n os none.1)
]

-- the operations of a client go, and the others stay
client_goes : (client : ℕ) (slots : List (Slot CipherState)) (os : List Open) → Alike IsSlot slots os → AllDiffer (map number_in os)
    → without_all (map number_in (filter (is_of client) os)) slots ≡ filter (λ slot. not (table.is_client client slot)) slots
client_goes client [] [] h differ = refl
client_goes client (s ∷ ss) (o ∷ os) h differ = elim (cases_Bool (is_of client o)) [
  | inl e ↦ (let mine : table.is_client client s ≡ true = ap (λ (c : ℕ). c == client) h.0.client ∙ e in
      let gone : without o.operation.number (s ∷ ss) ≡ ss = rw (eq-eqb s.number o.operation.number h.0.number) (none_goes o.operation.number ss os h.1 differ.0) in
      rw (e, mine) (ap (without_all (map number_in (filter (is_of client) os))) gone ∙ client_goes client ss os h.1 differ.1))
  | inr e ↦ (let other : table.is_client client s ≡ false = ap (λ (c : ℕ). c == client) h.0.client ∙ e in
      let none : NoneIs s.number (map number_in (filter (is_of client) os)) = none_fewer (is_of client) s.number os (subst (λ (n : ℕ). NoneIs n (map number_in os)) (sym h.0.number) differ.0) in
      rw (e, other)
      (stays_first (map number_in (filter (is_of client) os)) s ss none ∙ ap (λ (l : List (Slot CipherState)). s ∷ l) (client_goes client ss os h.1 differ.1)))
]
client_goes client [] (o ∷ os) h differ = absurd h
client_goes client (s ∷ ss) [] h differ = absurd h

module _ (setup : Setup) (past : History) (tables : Tables) (client : ℕ) (stands : TablesStand setup tables past) (differ : AllDiffer (map row_number (rows_in tables.operations))) where
  numbers_are : numbers_of_client tables.operations client ≡ map number_in (filter (is_of client) (open_of setup past))
  numbers_are = alike_images IsRow row_number number_in (λ row o r. r.number) (filter (is_row_of client) (rows_in tables.operations)) (filter (is_of client) (open_of setup past))
      (alike_filter IsRow (is_row_of client) (is_of client) (λ row o r. ap (λ (c : ℕ). c == client) r.client) (rows_in tables.operations) (open_of setup past) stands.operations.rows)

  -- without the operations of a client's numbers the slots are without the client's operations
  pub left_without : without_all (numbers_of_client tables.operations client) (operations_of tables.slots) ≡ filter (λ slot. not (table.is_client client slot)) (operations_of tables.slots)
  left_without =
      let apart : AllDiffer (map number_in (open_of setup past)) = subst AllDiffer (alike_images IsRow row_number number_in (λ row o r. r.number) (rows_in tables.operations) (open_of setup past) stands.operations.rows) differ in
      ap (λ (ns : List ℕ). without_all ns (operations_of tables.slots)) numbers_are ∙ client_goes client (operations_of tables.slots) (open_of setup past) stands.slots.slots_are apart
