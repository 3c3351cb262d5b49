-- What a turn at the lock of an intake leaves to its pass, and what the end of the lock tells.
use Rattle.std.proofs.Common.{◌≡◌, ℕ, List, [], ◌∷◌, ◌++◌, Option, Some, refl, sym, ap, ◌∙◌, arith}
use Rattle.turn_lock.specs.Endings.{Ended}
use Rattle.turn_lock.specs.Fronts.{Appends, Extends, IsFrontOf}
use Rattle.turn_lock.specs.Passes.{front, number_of, view_of}
use Rattle.connection_workers.specs.Arrivals.{Arrives, arrived, taken_by, worker_of}
use Rattle.connection_workers.specs.Workers.{AreKept, IntakeClosing, IntakePass, own_of}
use Rattle.connection_workers.specs.declared.intake.Arrival.{Arrival}
use Rattle.connection_workers.specs.declared.intake.Start.{Start}
use Rattle.connection_workers.specs.declared.intake.Intake.{Intake}
use Rattle.connection_workers.proofs.Rounds.{some_same}

-- the one link that was taken is what the history has more
pub appends_one : {L : Type 0} (worker number : ℕ) (link : L) (seen old new : List (Arrival L)) → worker ≡ number → seen ≡ old → Arrives worker link old new → Appends worker_of number 1 seen new
appends_one worker number link seen old new mine same arrives = record {
  more = arrives.last ∷ [];
  grown = arrives.grown ∙ ap (λ (l : List (Arrival _)). l ++ arrives.last ∷ []) (sym same);
  long = refl;
  made = (arrives.worker_is ∙ mine, tt);
}

module _ {B L : Type 0} (pass next : IntakePass B L) (number : ℕ) (before : List (Arrival L)) (number_is : number ≡ number_of pass) (next_is : number_of next ≡ number_of pass) (before_is : before ≡ front pass) where
  same_pass : own_of next ≡ taken_by number (front next)
  same_pass = ap (λ (n : ℕ). taken_by n (front next)) (next_is ∙ sym number_is)

  same_before : taken_by number before ≡ own_of pass
  same_before = λ i. taken_by (number_is i) (before_is i)

  -- what its pass took, behind a turn in which a link was taken
  pub one_more : (worker : ℕ) (link : L) (seen old new : List (Arrival L)) → worker ≡ number → seen ≡ old → (arrives : Arrives worker link old new)
      → ((more : List (Arrival L)) → new ≡ seen ++ more → Extends worker_of number before (front next) more) → Arrives (number_of pass) link (own_of pass) (own_of next)
  one_more worker link seen old new mine same arrives own =
      let more : List (Arrival L) = arrives.last ∷ [] in
      let extends = own more (arrives.grown ∙ ap (λ (l : List (Arrival L)). l ++ more) (sym same)) in
      record {
        last = arrives.last;
        worker_is = arrives.worker_is ∙ (mine ∙ number_is);
        link_is = arrives.link_is;
        grown = same_pass ∙ (extends.grown ∙ ap (λ (l : List (Arrival L)). l ++ more) same_before);
      }

  -- and behind another
  pub none_more : IsFrontOf worker_of number before (front next) → own_of next ≡ own_of pass
  none_more is = same_pass ∙ (sym is.owned ∙ same_before)

module _ {B L : Type 0} (closing : IntakeClosing B L) (fits : Start B → Intake B L → Type 0) (name : Start B) (drawn : ℕ) (slot : Option (Intake B L)) (intake : Intake B L) (end : Ended arrived worker_of fits name (view_of closing) drawn slot) (is : slot ≡ Some intake) where
  same_value : end.value ≡ intake
  same_value = some_same slot end.value intake end.is is

  pub kept_of : AreKept closing (arrived intake)
  kept_of = record {
    own = λ pass took. ap (λ (i : Intake B L). taken_by (number_of pass) (arrived i)) (sym same_value) ∙ sym (end.all (number_of pass) (front pass) took).owned;
    others = λ number past.
        let made = end.made in
        ap (λ (i : Intake B L). taken_by number (arrived i)) (sym same_value) ∙ end.none number (omega (arith, made, past));
  }
