-- The counts of a stamp.
use Rattle.service_book.specs.Book.{Counts}
use Rattle.shared_service.specs.declared.stamp.Stamp.{Stamp}

abbrev pub stamped_before : Stamp → Counts
stamped_before stamp = record { disk = stamp.disk_before; entropy = stamp.entropy_before }

abbrev pub stamped_behind : Stamp → Counts
stamped_behind stamp = record { disk = stamp.disk_after; entropy = stamp.entropy_after }
