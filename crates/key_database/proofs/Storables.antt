-- What a store stands for is what a store can hold.
use Rattle.std.proofs.Common.{◌≡◌, ℕ, ◌≤◌, List, [], ◌∷◌, Option, None, Some, refl, sym, subst, arith}
use Rattle.std.specs.Option.{option_map}
use Rattle.std.proofs.lemmas.Option.{none-some, same_Some}
use Rattle.journal_records.specs.declared.record.Record.{Record}
use Rattle.journal_records.specs.LastingPart.{Lasting}
use Rattle.journal_records.specs.States.{ReadState, state_of}
use Rattle.journal_records.specs.Storable.{IsStorable, LeavesStorable, area_kinds}
use Rattle.record_areas.specs.Frames.{AreRecords, Frame}
use Rattle.use_journal.specs.Journal.{AreChanges, journal_frame}
use Rattle.journal_compact.specs.Formats.{OfAreas, OfJournal}
use Rattle.journal_compact.specs.Stores.{IsAreasFrame}
use Rattle.key_database.specs.Frames.{IsStoreFrame}
use Rattle.key_database.specs.Store.{StandsFor, left_by, part_of}
use Rattle.key_database.proofs.RecordKinds.{kinds_are}

-- a store of areas has the records of an area, and no others
pub area_records : (frame : Frame) (past : List Record) → IsAreasFrame frame → AreRecords frame.kinds past → AreRecords area_kinds past
area_records frame past is are = subst (λ (kinds : ℕ). AreRecords kinds past) (kinds_are frame is) are

-- and the other way
pub frame_records : (frame : Frame) (past : List Record) → IsAreasFrame frame → AreRecords area_kinds past → AreRecords frame.kinds past
frame_records frame past is are = subst (λ (kinds : ℕ). AreRecords kinds past) (sym (kinds_are frame is)) are

-- those of fewer kinds are also of more
wider : (few many : ℕ) (past : List Record) → few ≤ many → AreRecords few past → AreRecords many past
wider few many [] less are = tt
wider few many (it ∷ past) less are = ((are.0.0, are.0.1, omega (arith, are.0.2, less)), wider few many past less are.1)

-- a journal has some of them
pub change_records : (past : List Record) → AreChanges past → AreRecords area_kinds past
change_records past are = wider journal_frame.kinds area_kinds past (omega arith) are

store_records : (frame : Frame) (past : List Record) → IsStoreFrame frame → AreRecords frame.kinds past → AreRecords area_kinds past
store_records frame past (OfAreas is) are = area_records frame past is are
store_records frame past (OfJournal is) are = change_records past (subst (λ (f : Frame). AreRecords f.kinds past) is are)

pub stored_part : LeavesStorable → (frame : Frame) (past : List Record) (part : Lasting) → IsStoreFrame frame → AreRecords frame.kinds past → left_by past ≡ Some part → IsStorable part
stored_part law frame past part is are left = of_state (state_of past) refl left where
  of_state : (found : Option ReadState) → state_of past ≡ found → option_map part_of found ≡ Some part → IsStorable part
  of_state None e left_is = absurd (none-some part left_is)
  of_state (Some state) e left_is = subst IsStorable (same_Some state.part part left_is) (law past state (store_records frame past is are) e)

pub stored_image : LeavesStorable → (part : Lasting) (image : List ℕ) → StandsFor part image → IsStorable part
stored_image law part image stands = stored_part law stands.frame stands.past part stands.is_frame stands.records stands.lasting
