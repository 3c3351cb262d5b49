-- An intake goes on by an answer of its listener.
use Rattle.std.proofs.Common.{◌≡◌, ◌<◌, ◌+◌, ◌-◌, ◌++◌, ◌∷◌, [], ℕ, List, length, length-append, Bool, true, false, ◌||◌, Option, Some, None, Ok, refl, sym, ap, subst, ◌∙◌, arith}
use Rattle.ks_outside.specs.Faults.{HasCause}
use Rattle.ks_outside.specs.Listening.{given_after, ended_after}
use Rattle.ks_outside.specs.Carried.{Listened}
use Rattle.ks_outside.specs.declared.listener.Listener.{Ghosts as ListenerGhosts}
use Rattle.ks_outside.proofs.Carried.{listened_given, listened_ended, listened_on}
use Rattle.connection_workers.specs.Arrivals.{Arrives, arrived}
use Rattle.connection_workers.specs.Intakes.{IsIntake}
use Rattle.connection_workers.specs.declared.intake.Arrival.{Arrival}
use Rattle.connection_workers.specs.declared.intake.Start.{Start}
use Rattle.connection_workers.specs.declared.intake.Intake.{Intake}

or_false : (b : Bool) → (b || false) ≡ b
or_false true = refl
or_false false = refl

module _ {B L E : Type 0} (g : ListenerGhosts B L) (start : Start B) (old new : Intake B L) (is : IsIntake g start old) where
  pub took : (worker : ℕ) (link : L) → 0 < old.left → new.left ≡ old.left - 1 → new.failed ≡ old.failed → new.over ≡ old.over → Arrives worker link (arrived old) (arrived new)
      → g.given new.listener ≡ given_after {E = E} (Ok (Some link)) (g.given old.listener) → g.ended new.listener ≡ ended_after {E = E} (Ok (Some link)) (g.ended old.listener)
      → HasCause {T = Option L} {E = E} (g.fault_count old.listener) (g.fault_count new.listener) (Ok (Some link)) → IsIntake g start new
  took worker link some left failed over arrives gives ends cause =
      let all = listened_on g start.begin.value old.listener new.listener is.links 1 is.ends 0 old.failed false is.listened (listened_given g old.listener new.listener link gives ends cause) in
      let long = ap (λ (l : List (Arrival L)). length l) arrives.grown in
      let more : length (arrived old ++ arrives.last ∷ []) ≡ length (arrived old) + 1 = length-append (arrived old) (arrives.last ∷ []) in
      let noted = is.noted in
      record {
        links = is.links + 1;
        ends = is.ends + 0;
        listened = subst (λ (b : Bool). Listened g start.begin.value new.listener (is.links + 1) (is.ends + 0) b) (or_false old.failed ∙ sym failed) all;
        noted = omega (arith, long, more, noted);
        taken = omega (arith, some, left, is.taken);
        few = is.few;
        ended = λ (said : new.over ≡ true). let positive = is.ended (sym over ∙ said) in omega (arith, positive);
      }

  pub shut : new.left ≡ old.left → new.failed ≡ old.failed → arrived new ≡ arrived old
      → g.given new.listener ≡ given_after {L = L} {E = E} (Ok None) (g.given old.listener) → g.ended new.listener ≡ ended_after {L = L} {E = E} (Ok None) (g.ended old.listener)
      → HasCause {T = Option L} {E = E} (g.fault_count old.listener) (g.fault_count new.listener) (Ok None) → IsIntake g start new
  shut left failed same gives ends cause =
      let all = listened_on g start.begin.value old.listener new.listener is.links 0 is.ends 1 old.failed false is.listened (listened_ended g old.listener new.listener gives ends cause) in
      let long = ap (λ (l : List (Arrival L)). length l) same in
      let noted = is.noted in
      record {
        links = is.links + 0;
        ends = is.ends + 1;
        listened = subst (λ (b : Bool). Listened g start.begin.value new.listener (is.links + 0) (is.ends + 1) b) (or_false old.failed ∙ sym failed) all;
        noted = omega (arith, long, noted);
        taken = omega (arith, left, is.taken);
        few = is.few;
        ended = λ _. omega arith;
      }
