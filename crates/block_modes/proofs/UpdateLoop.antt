-- What the loop of an update keeps.
use Rattle.std.proofs.Common.{◌≡◌, ℕ, ◌+◌, ◌-◌, ◌<◌, ◌≤◌, true, List, ◌++◌, length, take, drop, min, refl, ◌∙◌, ap, arith, length-append, length-take, length-drop, drop-drop}
use Rattle.tags.specs.declared.plan.Plan.{Plan}
use Rattle.block_modes.specs.declared.engine.Blocks.{Blocks}
use Rattle.block_modes.specs.Steps.{holds_back}
use Rattle.block_modes.specs.Holds.{Going, shown}
use Rattle.block_modes.proofs.SettleLemmas.{drop_further}
use Rattle.block_modes.proofs.Taking.{Taking, taking_start, taking_more}

pub record InUpdate {C : Type 0} (cipher_of inverse_of : C → List ℕ → List ℕ) (start state : Blocks C) (input rest before out : List ℕ) (at skip : ℕ) : Type 0 where
  pub part : skip ≤ length state.held
  pub room : at + length state.held + length rest ≤ length input + 16
  pub is_rest : rest ≡ drop (length input - length rest) input
  pub few : length rest ≤ length input
  pub kept : drop at out ≡ drop at before
  pub taking : Taking cipher_of inverse_of start state input rest out at skip

pub in_update_start : {C : Type 0} (cipher_of inverse_of : C → List ℕ → List ℕ) (s : Blocks C) (input out : List ℕ) (skip : ℕ) →
    skip ≡ shown s.plan (length s.held) → skip ≤ length s.held → length s.held ≤ 16 → InUpdate cipher_of inverse_of s s input input out out 0 skip
in_update_start cipher_of inverse_of s input out skip is_skip part few =
    let none : 0 ≡ length input - length input = omega arith in
    record {
      part = part;
      room = omega arith;
      is_rest = ap (λ n. drop n input) none;
      few = omega arith;
      kept = refl;
      taking = taking_start cipher_of inverse_of s input out skip is_skip;
    }

pub in_update_more : {C : Type 0} (cipher_of inverse_of : C → List ℕ → List ℕ) (start s t n : Blocks C) (input rest mid new before out made : List ℕ) (at end skip part passed taken : ℕ) →
    InUpdate cipher_of inverse_of start s input rest before out at skip →
    ((c i : List ℕ → List ℕ) (plan : Plan) (nonce text front : List ℕ) → Going cipher_of inverse_of s c i plan nonce text skip (front ++ take at out) →
    Going cipher_of inverse_of t c i plan nonce (text ++ take passed rest) part (front ++ take end made)) →
    part ≤ length t.held → n ≡ record t { held = t.held ++ take taken mid } → length t.held < 16 → 0 < length rest → passed ≤ length rest →
    (holds_back t.plan ≡ true → 0 < length rest → passed < length rest) →
    taken ≡ min (16 - length t.held) (length mid) → mid ≡ drop passed rest → new ≡ drop taken mid →
    end + length t.held ≤ at + length s.held + passed → at ≤ end → drop end made ≡ drop end out →
    InUpdate cipher_of inverse_of start n input new before made end part
in_update_more cipher_of inverse_of start s t n input rest mid new before out made at end skip part passed taken old room within is_n space some went behind is_taken is_mid is_new count later kept =
    let left : length mid ≡ length rest - passed = ap length is_mid ∙ length-drop passed rest in
    let held : length n.held ≡ length t.held + taken = ap (λ u. length u.held) is_n ∙ omega (arith, length-append t.held (take taken mid), length-take taken mid, is_taken) in
    let over : length new ≡ length mid - taken = ap length is_new ∙ length-drop taken mid in
    let fits : taken ≤ length mid = omega arith in
    let to_mid : (length input - length rest) + passed ≡ length input - length mid = omega (arith, old.few) in
    let to_new : (length input - length mid) + taken ≡ length input - length new = omega (arith, old.few) in
    let is_left : mid ≡ drop (length input - length mid) input =
    is_mid ∙ ap (drop passed) old.is_rest ∙ drop-drop passed (length input - length rest) input ∙ ap (λ k. drop k input) to_mid in
    record {
      part = omega arith;
      room = omega (arith, old.room);
      is_rest = is_new ∙ ap (drop taken) is_left ∙ drop-drop taken (length input - length mid) input ∙ ap (λ k. drop k input) to_new;
      few = omega (arith, old.few);
      kept = kept ∙ drop_further at end out before old.kept later;
      taking =
          taking_more cipher_of inverse_of start s t n input rest mid new out made at end skip part passed taken old.taking room within is_n
          (λ on. omega (arith, behind on some)) old.is_rest old.few is_mid went is_left (omega (arith, old.few)) is_new fits;
    }
