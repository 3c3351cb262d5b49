-- What clauses say of a desk.
use Rattle.std.specs.Prelude.{ℕ, List}
use Rattle.ks_outside.specs.declared.disk.Disk.{Ghosts as DiskGhosts}
use Rattle.ks_outside.specs.declared.entropy.Entropy.{Ghosts as EntropyGhosts}
use Rattle.keystore_core.specs.declared.engine.Engine.{Engine}
use Rattle.service_book.specs.declared.entry.BookEntry.{BookEntry}
use Rattle.shared_service.specs.declared.desk.Desk.{Desk}
use Rattle.shared_service.specs.declared.name.ServiceId.{ServiceId}
use Rattle.shared_service.specs.Records.{book_in, places_in}

module _ {D N : Type 0} {d : DiskGhosts D} {n : EntropyGhosts N} where
  abbrev pub desk_name : Desk D N d n → ServiceId N
  desk_name desk = desk.name

  abbrev pub desk_book : Desk D N d n → List BookEntry
  desk_book desk = book_in desk.book

  abbrev pub desk_places : Desk D N d n → ℕ
  desk_places desk = places_in desk.book

  abbrev pub desk_engine : Desk D N d n → Engine
  desk_engine desk = desk.engine

  abbrev pub desk_disk : Desk D N d n → D
  desk_disk desk = desk.disk

  abbrev pub desk_entropy : Desk D N d n → N
  desk_entropy desk = desk.entropy
