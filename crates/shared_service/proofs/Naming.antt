-- What a pass has seen under one name, and that what it says of itself is a proposition.
use Rattle.std.proofs.Common.{ℕ, Bool, List, subst}
use Rattle.std.proofs.Props.{props}
use Rattle.atomic_table.specs.Seated.{TableId}
use Rattle.ks_outside.specs.declared.entropy.Entropy.{Ghosts as EntropyGhosts}
use Rattle.turn_lock.specs.declared.lock.RestingPass.{RestingPass}
use Rattle.turn_lock.specs.Resting.{IsRestingPassAt, one_name}
use Rattle.service_book.specs.declared.entry.BookEntry.{BookEntry}
use Rattle.shared_service.specs.declared.name.ServiceId.{ServiceId}
use Rattle.shared_service.specs.Desks.{HasSeen}
use Rattle.shared_service.specs.Requests.{IsCaller}

-- what is seen under one name of the pass is seen under each
pub seen_named : {N : Type 0} {g : EntropyGhosts N} (pass : RestingPass BookEntry (ServiceId N)) (lock other : TableId) (name named : ServiceId N) (number : ℕ) (front : List BookEntry) (client : ℕ) (connected : Bool) → IsRestingPassAt lock name pass → IsRestingPassAt other named pass
    → ∥ HasSeen g name number front client connected ∥₁ → ∥ HasSeen g named number front client connected ∥₁
seen_named {N} {g} pass lock other name named number front client connected at there seen =
    subst (λ (n : ServiceId N). ∥ HasSeen g n number front client connected ∥₁) (one_name pass lock other name named at there) seen

pub caller_prop : (pass client : ℕ) (connected : Bool) (log : List BookEntry) → IsProp (IsCaller pass client connected log)
caller_prop pass client connected log = hlevel props
