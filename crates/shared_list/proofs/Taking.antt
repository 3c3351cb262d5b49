-- The passes that a closing has taken in, from the last one on.
use Rattle.std.proofs.Common.{◌≡◌, ℕ, ◌+◌, ◌<◌, ◌≤◌, List, [], ◌∷◌, ◌++◌, length, get_or, arith, ap, ◌∙◌, subst, length-append, Result, Ok}
use Rattle.std.proofs.lemmas.List.{get_or_append_left}
use Rattle.std.proofs.Math.Seq.{get_or-append_seam}
use Rattle.std.specs.Prelude.{IfOk}
use mathlib.Core.Logic.{dite}
use native.Mathlib.Decide.{ℕ_discrete}
use Rattle.turn_lock.specs.declared.lock.LockPass.{LockPass}
use Rattle.turn_lock.specs.Passes.{Closing, Took}
use Rattle.shared_list.specs.declared.list.PlainList.{PlainList}
use Rattle.shared_list.specs.declared.list.ListEntry.{ListEntry}
use Rattle.shared_list.specs.Runs.{HasAppended, TookIts}

abbrev P : Type 0
P = LockPass PlainList ListEntry (Unit {0})

abbrev C : Type 0
C = Closing PlainList ListEntry (Unit {0})

module _ {F : Type 0} where
  -- all were given, and these are left
  pub record IsTaking (all left : List (Result P F)) (closing : C) : Type 0 where
    pub within : length left ≤ length all
    pub same : (k : ℕ) (d : Result P F) → k < length left → get_or all k d ≡ get_or left k d
    pub took : (items k : ℕ) → length left ≤ k → k < length all → ((d : Result P F) → IfOk (get_or all k d) (HasAppended items k)) → TookIts items closing k

  its : (items k : ℕ) (p : P) (r : Result P F) → r ≡ Ok p → IfOk r (HasAppended items k) → HasAppended items k p
  its items k p r e h = subst (λ (r : Result P F). IfOk r (HasAppended items k)) e h

  -- the last one is taken in
  pub takes_first : (all left : List (Result P F)) (p : P) (closing : C) → all ≡ left ++ Ok p ∷ [] → Took closing p → IsTaking all left closing
  takes_first all left p closing e took =
      let long : length all ≡ length left + 1 = ap length e ∙ length-append left (Ok p ∷ []) in record {
        within = omega arith;
        same = λ k d lt. ap (λ (l : List (Result P F)). get_or l k d) e ∙ get_or_append_left left (Ok p ∷ []) d k lt;
        took = λ items k ge lt h.
            let at : k ≡ length left = omega arith in
            let here : get_or all k (Ok p) ≡ Ok p = ap (λ (l : List (Result P F)). get_or l k (Ok p)) e ∙ (ap (λ (n : ℕ). get_or (left ++ Ok p ∷ []) n (Ok p)) at ∙ get_or-append_seam left (Ok p) [] (Ok p)) in
            record { pass = p; took = took; its = its items k p _ here (h (Ok p)) };
      }

  -- one more is taken in
  pub takes_on : (all left left' : List (Result P F)) (p : P) (closing closing' : C) → IsTaking all left closing → left ≡ left' ++ Ok p ∷ [] → Took closing' p
      → ((other : P) → Took closing other → Took closing' other) → IsTaking all left' closing'
  takes_on all left left' p closing closing' t e took kept =
      let long : length left ≡ length left' + 1 = ap length e ∙ length-append left' (Ok p ∷ []) in
      let within = t.within in record {
        within = omega arith;
        same = λ k d lt. t.same k d (omega arith) ∙ (ap (λ (l : List (Result P F)). get_or l k d) e ∙ get_or_append_left left' (Ok p ∷ []) d k lt);
        took = λ items k ge lt h. dite (ℕ_discrete k (length left'))
            (λ at.
            let here : get_or all k (Ok p) ≡ Ok p = t.same k (Ok p) (omega arith)
            ∙ (ap (λ (l : List (Result P F)). get_or l k (Ok p)) e ∙ (ap (λ (n : ℕ). get_or (left' ++ Ok p ∷ []) n (Ok p)) at ∙ get_or-append_seam left' (Ok p) [] (Ok p))) in
            let it : TookIts items closing' k = record { pass = p; took = took; its = its items k p _ here (h (Ok p)) } in it)
            (λ ne.
            let before = t.took items k (omega arith) lt h in
            let it : TookIts items closing' k = record { pass = before.pass; took = kept before.pass before.took; its = before.its } in it);
      }
