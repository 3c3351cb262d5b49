-- What the rules of an Enter come to where they hold.
use Rattle.std.proofs.Common.{◌≡◌, ℕ, ◌+◌, ◌≤◌, Bool, true, false, ◌&&◌, ◌||◌, not, ◌==◌, refl, arith}
use Rattle.std.specs.Prelude.{nat_le}
use Rattle.std.proofs.lemmas.Bool.Decides.{nat_tests}
use Rattle.std.proofs.lemmas.Bool.{false≢true, eqb-true, not-true}
use Rattle.tags.specs.Plan.{may_end, takes_aad}
use Rattle.tags.specs.declared.limits.TheConstants.{OPERATION_BYTES, PIECE_BYTES}
use Rattle.step_rules.specs.declared.facts.StepFacts.{StepFacts}
use Rattle.step_rules.specs.Rules.{is_aad, is_last, are_pieces_short, may_take_aad, is_total_within, has_whole_text, Enters}

first_short : (a b : ℕ) → (nat_le a PIECE_BYTES && nat_le b PIECE_BYTES) ≡ true → a ≤ PIECE_BYTES
first_short a b h = grind (arith, nat_tests)

second_short : (a b : ℕ) → (nat_le a PIECE_BYTES && nat_le b PIECE_BYTES) ≡ true → b ≤ PIECE_BYTES
second_short a b h = grind (arith, nat_tests)

within : (n : ℕ) → nat_le n OPERATION_BYTES ≡ true → n ≤ OPERATION_BYTES
within n h = grind (arith, nat_tests)

then_holds : (b x : Bool) → (not b || x) ≡ true → b ≡ true → x ≡ true
then_holds true x h e = h
then_holds false x h e = absurd (false≢true e)

both : (b : Bool) (n : ℕ) → (b && (n == 0)) ≡ true → (b ≡ true) × (n ≡ 0)
both true n h = (refl, eqb-true n 0 h)
both false n h = absurd (false≢true h)

pub enters : (facts : StepFacts) → are_pieces_short facts ≡ true → not facts.ended ≡ true → may_take_aad facts ≡ true → is_total_within facts ≡ true → has_whole_text facts ≡ true → Enters facts
enters facts short live aad total whole = record {
  input = first_short facts.input facts.signature short;
  signature = second_short facts.input facts.signature short;
  live = not-true facts.ended live;
  total = within (facts.aad + facts.text + facts.input) total;
  aad = λ e. both (takes_aad facts.plan) facts.text (then_holds (is_aad facts.kind) (takes_aad facts.plan && (facts.text == 0)) aad e);
  whole = then_holds (is_last facts.kind) (may_end facts.plan (facts.text + facts.input)) whole;
}
