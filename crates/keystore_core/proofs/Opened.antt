-- The open operations of a history: what a look-up finds after a change of another one.
use Rattle.std.proofs.Common.{◌≡◌, ℕ, Bool, true, false, ◌&&◌, ◌||◌, not, ◌==◌, if◌then◌else◌, List, [], ◌∷◌, ◌++◌, map, filter, find, Option, Some, None, refl, sym, ap, ◌∙◌, inl, inr}
use Rattle.std.specs.List.{list_any}
use Rattle.std.specs.Option.{option_or}
use Rattle.std.proofs.lemmas.List.Folds.{find-append}
use Rattle.std.proofs.lemmas.Bool.{cases_Bool, eqb-true, eq-eqb}
use Rattle.auth_tokens.specs.declared.token.AuthToken.{AuthToken}
use Rattle.rule_model.specs.Kept.{open_of, operation_at, operation_change}
use Rattle.rule_model.specs.declared.entry.Entry.TheVariants.{Acted}
use Rattle.rule_model.specs.declared.event.Event.{Event}
use Rattle.rule_model.specs.declared.reply.Reply.{Reply}
use Rattle.rule_model.specs.Entries.{History}
use Rattle.rule_model.specs.Jobs.{Stays, but_shown}
use Rattle.rule_model.specs.declared.operation.Open.{Open}
use Rattle.rule_model.specs.declared.entry_change.OperationChange.{OperationChange}
use Rattle.rule_model.specs.declared.entry_change.OperationChange.TheVariants.{SameOperations, Shows}
use Rattle.rule_model.specs.Operations.{as_shown, has_number, is_busy, is_for, is_of, open_after, step_of, with_change, without}
use Rattle.rule_model.specs.Setup.{Setup}
use Rattle.rule_model.specs.declared.operation.Entered.{Entered}
use Rattle.rule_model.specs.Tickets.{ticket_at}
use Rattle.live_tables.specs.Tickets.{BusyWith}

-- what was found and passes a test is found among those that pass
pub found_kept : (n : ℕ) (p : Open → Bool) (os : List Open) (o : Open) → find (has_number n) os ≡ Some o → p o ≡ true → find (has_number n) (filter p os) ≡ Some o
found_kept n p [] o e passes = cc
found_kept n p (x ∷ os) o e passes = elim (cases_Bool (has_number n x)) [
  | inl a ↦ (let at : Some x ≡ Some o = rw a at e in
      let same : x ≡ o = cc in
      let k : p x ≡ true = ap p same ∙ passes in rw (k, a) at)
  | inr a ↦ (let later = found_kept n p os o (rw a at e) passes in
      elim (cases_Bool (p x)) [ inl k ↦ rw (k, a) later | inr k ↦ rw k later ])
]

pub found_more : (n : ℕ) (os more : List Open) (o : Open) → find (has_number n) os ≡ Some o → find (has_number n) (os ++ more) ≡ Some o
found_more n os more o e = find-append (has_number n) os more ∙ ap (λ x. option_or x (find (has_number n) more)) e

pub found_number : (n : ℕ) (os : List Open) (o : Open) → find (has_number n) os ≡ Some o → has_number n o ≡ true
found_number n [] o e = cc
found_number n (x ∷ os) o e = elim (cases_Bool (has_number n x)) [
  | inl a ↦ (let at : Some x ≡ Some o = rw a at e in
      let same : x ≡ o = cc in sym (ap (has_number n) same) ∙ a)
  | inr a ↦ found_number n os o (rw a at e)
]

-- a change of another number
pub found_apart : (n op : ℕ) (g : Open → Open) → (op == n) ≡ false → ((o : Open) → (g o).operation.number ≡ o.operation.number) → (os : List Open)
    → find (has_number n) (with_change op g os) ≡ find (has_number n) os
found_apart n op g apart same [] = refl
found_apart n op g apart same (x ∷ os) = elim (cases_Bool (has_number op x)) [
  | inl a ↦ (let other : has_number n x ≡ false = ap (λ m. m == n) (eqb-true x.operation.number op a) ∙ apart in
      let later : has_number n (g x) ≡ false = ap (λ m. m == n) (same x) ∙ other in
      rw (a, later, other) (found_apart n op g apart same os))
  | inr a ↦ rw a (ap (λ rest. if has_number n x then Some x else rest) (found_apart n op g apart same os))
]

pub found_changed : (op : ℕ) (g : Open → Open) → ((o : Open) → (g o).operation.number ≡ o.operation.number) → (os : List Open) (o : Open)
    → find (has_number op) os ≡ Some o → find (has_number op) (with_change op g os) ≡ Some (g o)
found_changed op g same [] o e = cc
found_changed op g same (x ∷ os) o e = elim (cases_Bool (has_number op x)) [
  | inl a ↦ (let at : Some x ≡ Some o = rw a at e in
      let is : x ≡ o = cc in
      let later : has_number op (g x) ≡ true = ap (λ m. m == op) (same x) ∙ a in
      rw (a, later) (ap (λ y. Some (g y)) is))
  | inr a ↦ rw (a, a) (found_changed op g same os o (rw a at e))
]

-- what is found among those to which a token is shown, but for that
shown_one : (token : AuthToken) (o : Open) → but_shown (Some (if is_for token o then as_shown o else o)) ≡ but_shown (Some o)
shown_one token o = either (is_for token o) where
  either : (b : Bool) → but_shown (Some (if b then as_shown o else o)) ≡ but_shown (Some o)
  either true = refl
  either false = refl

shown_number : (token : AuthToken) (n : ℕ) (o : Open) → has_number n (if is_for token o then as_shown o else o) ≡ has_number n o
shown_number token n o = either (is_for token o) where
  either : (b : Bool) → has_number n (if b then as_shown o else o) ≡ has_number n o
  either true = refl
  either false = refl

pub found_shown : (token : AuthToken) (n : ℕ) (os : List Open) → but_shown (find (has_number n) (map (λ o. if is_for token o then as_shown o else o) os)) ≡ but_shown (find (has_number n) os)
found_shown token n [] = refl
found_shown token n (x ∷ os) = elim (cases_Bool (has_number n x)) [
  | inl a ↦ rw (shown_number token n x, a) (shown_one token x)
  | inr a ↦ rw (shown_number token n x, a) (found_shown token n os)
]

-- where none passes a test, what is found does not
none_passes : (b c : Bool) → (b || c) ≡ false → b ≡ false
none_passes false c e = refl
none_passes true c e = cc

rest_passes : (b c : Bool) → (b || c) ≡ false → c ≡ false
rest_passes false c e = e
rest_passes true c e = cc

pub found_fails : (n : ℕ) (p : Open → Bool) (os : List Open) (o : Open) → find (has_number n) os ≡ Some o → list_any p os ≡ false → p o ≡ false
found_fails n p [] o e none = cc
found_fails n p (x ∷ os) o e none = elim (cases_Bool (has_number n x)) [
  | inl a ↦ (let at : Some x ≡ Some o = rw a at e in
      let same : x ≡ o = cc in sym (ap p same) ∙ none_passes (p x) (list_any p os) none)
  | inr a ↦ found_fails n p os o (rw a at e) (rest_passes (p x) (list_any p os) none)
]

-- the busy operations but one are found as they were
abbrev pub KeepsBusy : (ℕ → Type 0) → List Open → List Open → Type 0
KeepsBusy Apart old new = (n : ℕ) (o : Open) → Apart n → find (has_number n) old ≡ Some o → is_busy o ≡ true → find (has_number n) new ≡ Some o

-- an operation that is found idle is none of the busy ones
pub is_other : (op n : ℕ) (os : List Open) (o : Open) → ((x : Open) → find (has_number op) os ≡ Some x → is_busy x ≡ false) → find (has_number n) os ≡ Some o → is_busy o ≡ true → (op == n) ≡ false
is_other op n os o idle e busy = elim (cases_Bool (op == n)) [
  | inl a ↦ absurd (let here : find (has_number op) os ≡ Some o = ap (λ m. find (has_number m) os) (eqb-true op n a) ∙ e in
      let no : is_busy o ≡ false = idle o here in cc)
  | inr a ↦ a
]

-- the number of what is found
other_number : (op n : ℕ) (o : Open) → has_number n o ≡ true → (op == n) ≡ false → not (has_number op o) ≡ true
other_number op n o named apart = elim (cases_Bool (has_number op o)) [
  | inl a ↦ absurd (let same : op ≡ n = sym (eqb-true o.operation.number op a) ∙ eqb-true o.operation.number n named in
      let yes : (op == n) ≡ true = eq-eqb op n same in cc)
  | inr a ↦ rw a refl
]

pub without_keeps : (op : ℕ) (os : List Open) (n : ℕ) (o : Open) → (op == n) ≡ false → find (has_number n) os ≡ Some o → find (has_number n) (without op os) ≡ Some o
without_keeps op os n o apart e = found_kept n (λ x. not (has_number op x)) os o e (other_number op n o (found_number n os o e) apart)

busy_of : (b c : Bool) → (b && c) ≡ false → c ≡ true → not b ≡ true
busy_of true c e busy = cc
busy_of false c e busy = refl

pub without_client : (client : ℕ) (os : List Open) → list_any (λ o. is_of client o && is_busy o) os ≡ false → (n : ℕ) (o : Open) → find (has_number n) os ≡ Some o → is_busy o ≡ true
    → find (has_number n) (filter (λ x. not (is_of client x)) os) ≡ Some o
without_client client os none n o e busy =
    found_kept n (λ x. not (is_of client x)) os o e (busy_of (is_of client o) (is_busy o) (found_fails n (λ x. is_of client x && is_busy x) os o e none) busy)

-- what a work that is out says of its operation
is_there : (ticket : ℕ) (work : Rattle.cipher_ops.specs.declared.room.Work.Work) (found : Option Open) → BusyWith ticket work found → (o : Open) × (found ≡ Some o) × (is_busy o ≡ true) × (o.ticket ≡ Some ticket)
is_there ticket work None busy = absurd busy
is_there ticket work (Some o) busy = (o, refl, ap (λ t. Rattle.std.specs.Prelude.is_some t) busy.busy, busy.busy)

module _ (setup : Setup) (past : History) (event : Event) (drawn : List ℕ) (reply : Reply) where
  abbrev Later : History
  Later = Acted event drawn reply ∷ past

  abbrev pub AreBusy : Type 0
  AreBusy = (ticket : ℕ) (entered : Entered) → ticket_at past ticket ≡ Some entered → BusyWith ticket entered.work (operation_at setup past entered.op)

  -- an entry that leaves the busy operations
  pub stays_by : (change : OperationChange) → operation_change setup past event drawn reply ≡ change → AreBusy
      → ((ticket : ℕ) (entered : Entered) (o : Open) → ticket_at Later ticket ≡ Some entered → o.ticket ≡ Some ticket → is_busy o ≡ true → find (has_number entered.op) (open_of setup past) ≡ Some o
      → find (has_number entered.op) (open_after (step_of past) change (open_of setup past)) ≡ Some o)
      → Stays setup past Later
  stays_by change is busy keeps ticket entered before after =
      let there = is_there ticket entered.work (operation_at setup past entered.op) (busy ticket entered before) in
      ap but_shown (ap (λ c. find (has_number entered.op) (open_after (step_of past) c (open_of setup past))) is
      ∙ keeps ticket entered there.0 after there.3 there.2 there.1 ∙ sym there.1)

  pub stays_same : operation_change setup past event drawn reply ≡ SameOperations → Stays setup past Later
  stays_same is ticket entered before after = ap (λ c. but_shown (find (has_number entered.op) (open_after (step_of past) c (open_of setup past)))) is

  -- an entry that shows a token
  pub stays_shown : (token : AuthToken) → operation_change setup past event drawn reply ≡ Shows token → Stays setup past Later
  stays_shown token is ticket entered before after =
      ap (λ c. but_shown (find (has_number entered.op) (open_after (step_of past) c (open_of setup past)))) is ∙ found_shown token entered.op (open_of setup past)
