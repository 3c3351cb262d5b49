-- The links that were taken from a listener: the history of an intake.
use Rattle.std.specs.Prelude.{◌≡◌, ℕ, List, [], ◌∷◌, ◌++◌, map}
use Rattle.turn_lock.specs.Rule.{own}
use Rattle.connection_workers.specs.declared.intake.Arrival.{Arrival}
use Rattle.connection_workers.specs.declared.intake.Arrivals.{Arrivals, Nothing, Last'}
use Rattle.connection_workers.specs.declared.intake.Intake.{Intake}

module _ {L : Type 0} where
  -- the oldest first
  abbrev pub in_order : Arrivals L → List (Arrival L)
  in_order Nothing = []
  in_order (Last' last shape before) = in_order before ++ last ∷ []

  abbrev pub worker_of : Arrival L → ℕ
  worker_of arrival = arrival.worker

  -- those that the worker of a number took
  abbrev pub taken_by : ℕ → List (Arrival L) → List (Arrival L)
  taken_by worker arrivals = own worker_of worker arrivals

  -- the links, as they were when they were taken
  abbrev pub links_of : List (Arrival L) → List L
  links_of arrivals = map (λ (a : Arrival L). a.link.value) arrivals

  -- a worker took one link more
  pub record Arrives (worker : ℕ) (link : L) (old new : List (Arrival L)) : Type 0 where
    pub last : Arrival L
    pub worker_is : last.worker ≡ worker
    pub link_is : last.link.value ≡ link
    pub grown : new ≡ old ++ last ∷ []

-- all that were taken from the listener of an intake
abbrev pub arrived : {B L : Type 0} → Intake B L → List (Arrival L)
arrived intake = in_order intake.arrivals
