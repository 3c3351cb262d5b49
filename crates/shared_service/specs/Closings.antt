-- What the last turn of a service has taken in.
use Rattle.std.specs.Prelude.{◌≡◌, ℕ, List}
use Rattle.ks_outside.specs.declared.disk.Disk.{Ghosts as DiskGhosts}
use Rattle.ks_outside.specs.declared.entropy.Entropy.{Ghosts as EntropyGhosts}
use Rattle.turn_lock.specs.declared.lock.LockPass.{LockPass}
use Rattle.turn_lock.specs.Passes.{Closing, Took, front, number_of}
use Rattle.service_book.specs.declared.entry.BookEntry.{BookEntry}
use Rattle.shared_service.specs.declared.desk.Desk.{Desk}
use Rattle.shared_service.specs.declared.name.ServiceId.{ServiceId}

-- a pass with this number and this front of the book
pub record TookFront {D N : Type 0} {d : DiskGhosts D} {n : EntropyGhosts N} (closing : Closing (Desk D N d n) BookEntry (ServiceId N)) (number : ℕ) (seen : List BookEntry) : Type 0 where
  pub pass : LockPass (Desk D N d n) BookEntry (ServiceId N)
  pub took : Took closing pass
  pub number_is : number_of pass ≡ number
  pub front_is : front pass ≡ seen
