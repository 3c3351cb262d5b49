-- The law of uses.
use Rattle.std.proofs.Common.{◌≡◌, inl, inr, ℕ, ◌+◌, ◌≤◌, Bool, true, false, not, List, [], ◌∷◌, ◌++◌, Option, Some, None, refl, sym, ap, ◌∙◌, subst, arith}
use Rattle.journal_records.specs.LastingPart.{Lasting}
use Rattle.rule_model.specs.declared.entry.Entry.TheVariants.{Acted, Settling}
use Rattle.rule_model.specs.declared.event.Event.{Event}
use Rattle.rule_model.specs.Acts.{is_enter}
use Rattle.rule_model.specs.Answer.{answer}
use Rattle.rule_model.specs.Clients.{caller_of}
use Rattle.rule_model.specs.Entries.{History, is_done}
use Rattle.rule_model.specs.Kept.{is_live, kept, operation_at}
use Rattle.rule_model.specs.Legal.{Legal, LegalBefore}
use Rattle.rule_model.specs.declared.operation.Open.{Open}
use Rattle.rule_model.specs.Operations.{operation_of}
use Rattle.rule_model.specs.Setup.{Setup}
use Rattle.rule_model.specs.StepFacts.{has_ended}
use Rattle.rule_model.specs.Uses.{AreRuns, BeginsAfter, HasEnded, HasStood, Run, UsesLaw, outputs_in, uses_in, uses_made}
use Rattle.rule_model.proofs.Admitted.{IsEntered, entered}
use Rattle.rule_model.proofs.Begun.{outputs_limited}
use Rattle.rule_model.proofs.Bounds.{Bounded, bounded_from, live_within}
use Rattle.rule_model.proofs.Held.{HoldBoth, Holds, HoldsAt, hold_both, holds_at}
use Rattle.rule_model.proofs.Returned.{IsPaired, paired_of}

-- the entries before some of a legal history
pub record LegalFront (setup : Setup) (past : History) : Type 0 where
  pub next : Option Event
  pub legal : LegalBefore setup next past

legal_front : (setup : Setup) (next : Option Event) (undone past : History) → LegalBefore setup next (undone ++ past) → LegalFront setup past
legal_front setup next [] past legal = record { next = next; legal = legal }
legal_front setup next (Settling settled ∷ undone) past legal = legal_front setup None undone past legal.1
legal_front setup next (Acted event drawn reply ∷ undone) past legal = legal_front setup (Some event) undone past legal.1

front_of : (run : Run) → Legal run.setup (run.undone ++ run.past) → LegalFront run.setup run.past
front_of run legal = legal_front run.setup None run.undone run.past legal

-- what is known of a key at the start of each run, and so in it
first_at : (id : ℕ) (start : Lasting) → BeginsAfter [] start → HoldsAt id 0 (HasStood [] id) start
first_at id start storable = by_bound (bounded_from id start storable) where
  by_bound : (limit : ℕ) × Bounded id 0 limit start → HoldsAt id 0 (HasStood [] id) start
  by_bound (limit, bounded) = record { limit = limit; bounded = bounded; known = λ l none. absurd none }

run_holds : (run : Run) (earlier : List Run) (id : ℕ) → Legal run.setup (run.undone ++ run.past) → HoldsAt id (uses_in earlier id) (HasStood earlier id) run.setup.start
    → HoldBoth run.setup run.past id (uses_in earlier id) (HasStood earlier id)
run_holds run earlier id legal at =
    let front : LegalFront run.setup run.past = front_of run legal in
    hold_both run.setup front.next run.past id (uses_in earlier id) (HasStood earlier id) front.legal at

start_holds : (earlier : List Run) (id : ℕ) (start : Lasting) → AreRuns earlier → BeginsAfter earlier start → HoldsAt id (uses_in earlier id) (HasStood earlier id) start
start_holds [] id start are begins = first_at id start begins
start_holds (before ∷ more) id start are begins =
    holds_at before.setup before.past id (uses_in more id) (HasStood more id) start begins
    (run_holds before more id are.0 (start_holds more id before.setup.start are.2 are.1))

-- the outputs are no more than the uses
outputs_few : (runs : List Run) (id limit : ℕ) → 1 ≤ limit → ((l : ℕ) → HasStood runs id l → l ≡ limit) → AreRuns runs → outputs_in runs id ≤ uses_in runs id
outputs_few [] id limit limited known are = omega arith
outputs_few (run ∷ earlier) id limit limited known are =
    let front : LegalFront run.setup run.past = front_of run are.0 in
    let paired : IsPaired run.setup run.past id = paired_of run.setup front.next run.past id front.legal in
    omega (arith, paired.counted, outputs_limited run.setup run.past id limit limited (λ l stood. known l (inl stood)), outputs_few earlier id limit limited (λ l stood. known l (inr stood)) are.2)

-- a key that has ended is entered no more
some_same : (o other : Open) → Some o ≡ Some other → o ≡ other
some_same o other e = cc

ended_refuses : (setup : Setup) (past : History) (id : ℕ) → is_live setup past id ≡ false → (event : Event) (drawn : List ℕ) (op : ℕ) (o : Open) → is_enter event.act ≡ true → operation_of event.act ≡ Some op
    → operation_at setup past op ≡ Some o → o.operation.key ≡ Some id → is_done (answer setup past event drawn) ≡ false
ended_refuses setup past id gone event drawn op o enters names found key = by_done (is_done (answer setup past event drawn)) refl where
  ends : (here : IsEntered setup past op) → ⊥
  ends here =
      let same : o ≡ here.operation = some_same o here.operation (sym found ∙ here.found) in
      let ended : has_ended (is_live setup past) (Some id) ≡ false = subst (λ k. has_ended (is_live setup past) k ≡ false) (ap (λ (it : Open). it.operation.key) (sym same) ∙ key) here.live in
      let never : not false ≡ false = subst (λ b. not b ≡ false) gone ended in cc

  by_done : (b : Bool) → is_done (answer setup past event drawn) ≡ b → b ≡ false
  by_done false is = refl
  by_done true is = absurd (ends (entered setup past (caller_of past event) drawn event.act op enters names is))

ended_by : (setup : Setup) (past : History) (id made limit : ℕ) → Bounded id made limit (kept setup past) → 1 ≤ limit → limit ≤ made → HasEnded setup past id
ended_by setup past id made limit bounded limited spent =
    record { gone = gone; refuses = ended_refuses setup past id gone } where
      by_live : (b : Bool) → is_live setup past id ≡ b → b ≡ false
      by_live false is = refl
      by_live true is = absurd (omega (arith, (live_within id made limit (kept setup past) bounded is).1 limited, spent))

      gone : is_live setup past id ≡ false
      gone = by_live (is_live setup past id) refl

stood_limit : (run : Run) (earlier : List Run) (id limit : ℕ) → HasStood (run ∷ earlier) id limit → (holds : Holds run.setup run.past id (uses_in earlier id) (HasStood earlier id) (kept run.setup run.past)) → limit ≡ holds.limit
stood_limit run earlier id limit (inl now) holds = (holds.known limit (inr now)).0
stood_limit run earlier id limit (inr was) holds = (holds.known limit (inl was)).0

pub law_of_uses : UsesLaw
law_of_uses [] id limit are stood limited = absurd stood
law_of_uses (run ∷ earlier) id limit are stood limited =
    let both : HoldBoth run.setup run.past id (uses_in earlier id) (HasStood earlier id) = run_holds run earlier id are.0 (start_holds earlier id run.setup.start are.2 are.1) in
    let same : limit ≡ both.sure.limit = stood_limit run earlier id limit stood both.sure in
    let held : Bounded id (uses_made run.setup run.past id + uses_in earlier id) limit (kept run.setup run.past) =
    subst (λ l. Bounded id (uses_made run.setup run.past id + uses_in earlier id) l (kept run.setup run.past)) (sym same) both.sure.bounded in
    record {
      outputs = outputs_few (run ∷ earlier) id limit limited (λ l was. stood_limit run earlier id l was both.sure ∙ sym same) are;
      uses = held.within limited;
      ended = λ spent. ended_by run.setup run.past id (uses_made run.setup run.past id + uses_in earlier id) limit held limited spent;
    }
