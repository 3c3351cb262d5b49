-- The kinds of the records of a store of areas.
use Rattle.std.proofs.Common.{◌≡◌, ◌≤◌, ap, arith}
use Rattle.journal_records.specs.declared.change.Change.{Change}
use Rattle.journal_records.specs.declared.change.Change.TheVariants.{Create, Delete, Use, Grant, Ungrant, Clear, Removed, Upgrade}
use Rattle.journal_records.specs.declared.record.Record.TheVariants as records
use Rattle.journal_records.specs.Spelling.{kind_of}
use Rattle.journal_records.specs.Storable.{area_kinds}
use Rattle.record_areas.specs.Frames.{Frame}
use Rattle.journal_compact.specs.Stores.{IsAreasFrame}

-- it has the records of an area
pub kinds_are : (frame : Frame) → IsAreasFrame frame → frame.kinds ≡ area_kinds
kinds_are frame is = ap (λ (f : Frame). f.kinds) is.of.is

small_kind : (change : Change) → kind_of (records.Change change) ≤ area_kinds
small_kind (Create id domain nspace alias blob list limit) = omega arith
small_kind (Delete id) = omega arith
small_kind (Use id) = omega arith
small_kind (Grant row) = omega arith
small_kind (Ungrant grant) = omega arith
small_kind (Clear domain nspace) = omega arith
small_kind (Removed user) = omega arith
small_kind (Upgrade id blob list) = omega arith

-- the record of a change is one that such a store can hold
pub change_kind : (frame : Frame) (change : Change) → IsAreasFrame frame → kind_of (records.Change change) ≤ frame.kinds
change_kind frame change is = omega (arith, small_kind change, kinds_are frame is)
