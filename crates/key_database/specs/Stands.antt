-- When a database and a disk hold something.
use Rattle.std.specs.Prelude.{◌≡◌, ◌⊎◌, ℕ, List, ◌∷◌, ◌++◌, Bool, true, false, Option, Some, None, Result, Ok, Err, OnErr, length, ⊤}
use Rattle.std.specs.Option.{option_and_then, option_map}
use Rattle.std.proofs.Common.{inl, inr, refl, ⊎_elim, ap, ◌∙◌, subst}
use Rattle.std.proofs.lemmas.Option.{none-some, same_Some}
use Rattle.ks_outside.specs.Images.{AllImages, Passes}
use Rattle.ks_outside.specs.declared.disk.Disk.{Ghosts}
use Rattle.ks_outside.specs.declared.faults.Failed.{Failed}
use Rattle.tags.specs.declared.settled.Settled.{Settled}
use Rattle.tags.specs.declared.settled.Settled.TheVariants.{Kept, Lost}
use Rattle.journal_records.specs.declared.change.Change.{Change}
use Rattle.journal_records.specs.declared.fault.StoreFault.{StoreFault}
use Rattle.journal_records.specs.declared.fault.StoreFault.TheVariants as faults
use Rattle.journal_records.specs.Commits.{CommitState, Committed, InDoubt, NotBegun, is_in_doubt}
use Rattle.journal_records.specs.LastingPart.{Lasting}
use Rattle.journal_records.specs.Needs.{is_met}
use Rattle.journal_records.specs.Effects.{after}
use Rattle.journal_records.specs.Holding.{Holding, Sure, Unsure, after_commit}
use Rattle.journal_records.specs.Spelling.{closed_of}
use Rattle.journal_records.specs.States.{ReadState, state_of, stepped}
use Rattle.journal_records.specs.Storable.{area_kinds}
use Rattle.journal_records.specs.declared.record.Record.{Record}
use Rattle.journal_records.specs.declared.record.Record.TheVariants as records
use Rattle.record_areas.specs.Frames.{AreRecords, Frame, HasRecords, IsBrokenAt, IsStore}
use Rattle.record_areas.specs.Holding as lower
use Rattle.record_areas.specs.Readings as readings
use Rattle.record_areas.specs.Readings.{IsThrough}
use Rattle.record_areas.specs.declared.reading.Reading.{Reading}
use Rattle.journal_compact.specs.Formats.{IsOlder, OfAreas, OfJournal}
use Rattle.journal_compact.specs.Holding.{IsSettledOn, IsTurningOn, IsUnsettledOn, MayHold, area_of, end_of, is_waiting, selected_of, turn_of}
use Rattle.journal_compact.specs.Stores.{IsAreasFrame, IsFrameOf, IsStoreOf, frame_of, limit_of, other, start_of}
use Rattle.journal_compact.specs.declared.areas.Areas.{Areas}
use Rattle.journal_compact.specs.declared.areas.Turn.{Turn}
use Rattle.journal_compact.specs.declared.areas.Turn.TheVariants.{Idle, Copying, Selecting}
use Rattle.journal_compact.specs.declared.format.Format.{Format}
use Rattle.journal_compact.specs.declared.format.Format.TheVariants as formats
use Rattle.journal_compact.specs.declared.places.Selected.{Selected}
use Rattle.use_journal.specs.Journal.{AreChanges, IsJournal, journal_frame}
use Rattle.key_database.specs.declared.database.KeyDatabase.{KeyDatabase}
use Rattle.key_database.specs.declared.opening.Found.{Found}
use Rattle.key_database.specs.declared.opening.Found.TheVariants as founds
use Rattle.lasting_table.specs.TableView.{TableView, lasting_in}
use Rattle.key_database.specs.Store.{StandsFor, IsBadStore, IsUnmetIn, MayBe, Between, left_by, part_of}

-- the lasting part that its look-ups tell
abbrev pub lasting : KeyDatabase → Lasting
lasting database = lasting_in database.table

-- the table of its keys and grants, with its room
abbrev pub table_of : KeyDatabase → TableView
table_of database = database.table

-- the areas that they lie in
abbrev pub areas_of : KeyDatabase → Areas
areas_of database = database.areas

-- whether a change waits to be settled
abbrev pub is_unsettled : KeyDatabase → Bool
is_unsettled database = is_waiting (areas_of database)

-- how many bytes of a store a change takes: its record and the byte behind it
abbrev pub change_bytes : Change → ℕ
change_bytes change = length (closed_of change)

-- the lasting part after it: that with the change, where it is written
abbrev pub part_after : Change → CommitState → Lasting → Lasting
part_after change Committed part = after part change
part_after change InDoubt part = part
part_after change NotBegun part = part

-- the change that waits to be settled, where there is one
abbrev pub pending_of : KeyDatabase → Option Change
pending_of database = database.pending

-- the change that waits after the call that makes one
abbrev pub waiting_after : Change → CommitState → Option Change
waiting_after change Committed = None
waiting_after change InDoubt = Some change
waiting_after change NotBegun = None

-- the same lasting part in the same areas, where the same change waits; the room may be another
pub record SameStore (old new : KeyDatabase) : Type 0 where
  pub lasting_is : lasting new ≡ lasting old
  pub areas_is : areas_of new ≡ areas_of old
  pub pending_is : pending_of new ≡ pending_of old

-- the same lasting part, and as little waits; the records may end elsewhere
pub record SamePart (old new : KeyDatabase) : Type 0 where
  pub lasting_is : lasting new ≡ lasting old
  pub table_is : table_of new ≡ table_of old
  pub pending_is : pending_of new ≡ pending_of old

-- what a settling makes of a change that waits, by its answer: it is made, or not
abbrev pub SettledBy : Change → Result Settled Failed → KeyDatabase → KeyDatabase → Type 0
SettledBy change (Ok Kept) old new = (lasting new ≡ after (lasting old) change) × (pending_of new ≡ None)
SettledBy change (Ok Lost) old new = (lasting new ≡ lasting old) × (pending_of new ≡ None)
SettledBy change (Err fault) old new = ⊤

-- ---- areas and a disk

-- They hold a lasting part: each image is a store of areas with the same records, which leave it.
pub record KeepsPart {D : Type 0} (g : Ghosts D) (areas : Areas) (disk : D) (part : Lasting) : Type 0 where
  pub frame : Frame
  pub past : List Record
  pub settled : IsSettledOn g areas disk frame past
  pub left : left_by past ≡ Some part

-- A record of a change waits: each image has records that leave the part, or those and that of the change.
pub record BeginsChange {D : Type 0} (g : Ghosts D) (areas : Areas) (disk : D) (part : Lasting) (change : Change) : Type 0 where
  pub frame : Frame
  pub past : List Record
  pub unsettled : IsUnsettledOn g areas disk frame past (records.Change change)
  pub left : left_by past ≡ Some part

-- A compaction waits: each image has records in the one area or rows in the other, and both leave the part.
pub record TurnsPart {D : Type 0} (g : Ghosts D) (areas : Areas) (disk : D) (part : Lasting) : Type 0 where
  pub frame : Frame
  pub past : List Record
  pub rows : List Record
  pub turning : IsTurningOn g areas disk frame past rows
  pub left : left_by past ≡ Some part
  pub same : left_by rows ≡ Some part

-- a change waits whose record was begun, or before which a compaction was
abbrev pub WaitsOn : {D : Type 0} → Ghosts D → Areas → D → Lasting → Change → Type 0
WaitsOn g areas disk part change = BeginsChange g areas disk part change ⊎ TurnsPart g areas disk part

-- what a compaction leaves, by its answer
abbrev pub TurnedTo : {D : Type 0} → Ghosts D → Areas → D → Lasting → Result Unit Failed → Type 0
TurnedTo g areas disk part (Ok done) = KeepsPart g areas disk part
TurnedTo g areas disk part (Err fault) = TurnsPart g areas disk part

-- what the writing of a change leaves, by its answer
abbrev pub WrittenAs : {D : Type 0} → Ghosts D → Areas → D → Lasting → Change → Result Unit Failed → Type 0
WrittenAs g areas disk part change (Ok done) = KeepsPart g areas disk (after part change)
WrittenAs g areas disk part change (Err fault) = WaitsOn g areas disk part change

-- the image stands for the part, or for that with the change
abbrev pub StandsAround : Lasting → Change → List ℕ → Type 0
StandsAround part change image = StandsFor part image ⊎ StandsFor (after part change) image

-- A change is written, between the old disk and the new one: what that leaves; at each moment each image stands for the part before, or for
-- that with the change; and where a sure disk's call failed, each image stands for the part before.
pub record Writes {D : Type 0} (g : Ghosts D) (areas : Areas) (old new : D) (part : Lasting) (change : Change) (result : Result Unit Failed) : Type 0 where
  pub written : WrittenAs g areas new part change result
  pub passes : Passes g old new (StandsAround part change)
  pub nothing : g.is_sure old → OnErr result (AllImages g new (StandsFor part))

-- ---- a database and a disk

-- sure of this lasting part
pub record IsSure {D : Type 0} (g : Ghosts D) (database : KeyDatabase) (disk : D) (part : Lasting) : Type 0 where
  pub kept : KeepsPart g (areas_of database) disk part
  pub held : lasting database ≡ part

-- a change waits
pub record IsUnsure {D : Type 0} (g : Ghosts D) (database : KeyDatabase) (disk : D) (part later : Lasting) : Type 0 where
  pub change : Change
  pub waits : WaitsOn g (areas_of database) disk part change
  pub held : lasting database ≡ part
  pub met : is_met part change ≡ true
  pub after_it : after part change ≡ later
  pub pending : pending_of database ≡ Some change

-- the database and the disk hold what is known
abbrev pub Holds : {D : Type 0} → Ghosts D → KeyDatabase → D → Holding → Type 0
Holds g database disk (Sure part) = IsSure g database disk part
Holds g database disk (Unsure part later) = IsUnsure g database disk part later

-- A change of what is held, between the old disk and the new one: what is held then; at each moment each image stands for what was
-- held before, or is then; and where a sure disk's call failed, each image stands for what was held before.
pub record Commits {D : Type 0} (g : Ghosts D) (database : KeyDatabase) (old new : D) (change : Change) (state : CommitState) (before : Holding) : Type 0 where
  pub holds : Holds g database new (after_commit change state before)
  pub passes : Passes g old new (Between before (after_commit change state before))
  pub nothing : g.is_sure old → is_in_doubt state ≡ true → AllImages g new (MayBe before)

-- what a change leaves whose need is met
left_on : (before : Option ReadState) (change : Change) (part : Lasting) → option_map part_of before ≡ Some part → is_met part change ≡ true
    → option_map part_of (option_and_then (λ state. stepped state (records.Change change)) before) ≡ Some (after part change)
left_on None change part left met = absurd (none-some part left)
left_on (Some state) change part left met =
    let same : state.part ≡ part = same_Some state.part part left in
    let met_here : is_met state.part change ≡ true = ap (λ p. is_met p change) same ∙ met in
    rw met_here (ap (λ p. Some (after p change)) same)

pub left_after : (past : List Record) (change : Change) (part : Lasting) → left_by past ≡ Some part → is_met part change ≡ true → left_by (records.Change change ∷ past) ≡ Some (after part change)
left_after past change part left met = left_on (state_of past) change part left met

-- ---- what the images stand for

-- each image stands for the lasting part, now and at each moment since the old disk
pub record StaysFor {D : Type 0} (g : Ghosts D) (old new : D) (part : Lasting) : Type 0 where
  pub images : AllImages g new (StandsFor part)
  pub passes : Passes g old new (StandsFor part)

-- where an image comes from: it was there; or a journal was there, and it stands for the same
pub data ComesFrom {D : Type 0} (g : Ghosts D) (disk : D) (image : List ℕ) : Type 0 where
  WasThere : g.images disk image → ComesFrom g disk image
  WasBrought : (before : List ℕ) → g.images disk before → IsOlder before → (part : Lasting) → StandsFor part before → StandsFor part image → ComesFrom g disk image

-- each image, now and at each moment since, comes from one of the old disk
pub record Brings {D : Type 0} (g : Ghosts D) (old new : D) : Type 0 where
  pub images : AllImages g new (ComesFrom g old)
  pub passes : Passes g old new (ComesFrom g old)

-- a journal with records that leave a part
pub stands_older : (past : List Record) (part : Lasting) (image : List ℕ) → AreChanges past → left_by past ≡ Some part → IsJournal past image → StandsFor part image
stands_older past part image fits left store = record { frame = journal_frame; is_frame = OfJournal refl; past = past; records = fits; store = store; lasting = left }

-- a store of areas with records that leave a part
pub stands_in : (frame : Frame) (past : List Record) (part : Lasting) (image : List ℕ) → IsAreasFrame frame → AreRecords frame.kinds past → left_by past ≡ Some part → IsStore frame past image → StandsFor part image
stands_in frame past part image is fits left store = record { frame = frame; is_frame = OfAreas is; past = past; records = fits; store = store; lasting = left }

-- the same of a store of the version of a frame, of which an area is selected
pub stands_of : (selected found : Selected) (frame : Frame) (of : IsFrameOf selected frame) (past : List Record) (part : Lasting) (image : List ℕ) → AreRecords area_kinds past → left_by past ≡ Some part
    → IsStoreOf of.version found past image → StandsFor part image
stands_of selected found frame of past part image fits left s =
    stands_in (frame_of found of.version s.selector) past part image
    (record { selected = found; of = record { version = of.version; newer = of.newer; selector = s.selector; selects = s.selects; is = refl } }) fits left s.store

pub kept_stands : {D : Type 0} (g : Ghosts D) (areas : Areas) (disk : D) (part : Lasting) → KeepsPart g areas disk part → AllImages g disk (StandsFor part)
kept_stands g areas disk part kept c image =
    stands_in kept.frame kept.past part c (record { selected = selected_of areas; of = kept.settled.is_frame }) kept.settled.area.records kept.left (kept.settled.area.images c image)

begun_stands : {D : Type 0} (g : Ghosts D) (areas : Areas) (disk : D) (part : Lasting) (change : Change) → BeginsChange g areas disk part change → is_met part change ≡ true → AllImages g disk (StandsAround part change)
begun_stands g areas disk part change begun met c image =
    let is : IsAreasFrame begun.frame = record { selected = selected_of areas; of = begun.unsettled.is_frame } in
    ⊎_elim (λ j. inl (stands_in begun.frame begun.past part c is begun.unsettled.area.records.1 begun.left j))
    (λ j. inr (stands_in begun.frame (records.Change change ∷ begun.past) (after part change) c is begun.unsettled.area.records (left_after begun.past change part begun.left met) j))
    (begun.unsettled.area.images c image)

turn_stands : {D : Type 0} (g : Ghosts D) (disk : D) (part : Lasting) (frame : Frame) (selected : Selected) (of : IsFrameOf selected frame) (past rows : List Record)
    → AreRecords frame.kinds past → AreRecords area_kinds past → AreRecords area_kinds rows → left_by past ≡ Some part → left_by rows ≡ Some part
    → (turn : Turn) → MayHold g disk frame of.version selected past rows turn → AllImages g disk (StandsFor part)
turn_stands g disk part frame selected of past rows fits fit fit' left same Idle holds c image = absurd holds
turn_stands g disk part frame selected of past rows fits fit fit' left same Copying holds c image = stands_in frame past part c (record { selected = selected; of = of }) fits left (holds c image)
turn_stands g disk part frame selected of past rows fits fit fit' left same (Selecting next) holds c image =
    ⊎_elim (λ s. stands_of selected selected frame of past part c fit left s) (λ s. stands_of selected (other selected) frame of rows part c fit' same s) (holds.1 c image)

pub turning_stands : {D : Type 0} (g : Ghosts D) (areas : Areas) (disk : D) (part : Lasting) → TurnsPart g areas disk part → AllImages g disk (StandsFor part)
turning_stands g areas disk part t =
    let of = t.turning.is_frame in
    turn_stands g disk part t.frame (selected_of areas) of t.past t.rows t.turning.area.records
    (subst (λ (f : Frame). AreRecords f.kinds t.past) of.is t.turning.area.records) (subst (λ (f : Frame). AreRecords f.kinds t.rows) of.is t.turning.rows_are) t.left t.same (turn_of areas) t.turning.images

pub waiting_stands : {D : Type 0} (g : Ghosts D) (areas : Areas) (disk : D) (part : Lasting) (change : Change) → WaitsOn g areas disk part change → is_met part change ≡ true → AllImages g disk (StandsAround part change)
waiting_stands g areas disk part change waits met c image =
    ⊎_elim (λ begun. begun_stands g areas disk part change begun met c image) (λ turning. inl (turning_stands g areas disk part turning c image)) waits

pub held_images : {D : Type 0} (g : Ghosts D) (database : KeyDatabase) (disk : D) (held : Holding) → Holds g database disk held → AllImages g disk (MayBe held)
held_images g database disk (Sure part) is c image = kept_stands g (areas_of database) disk part is.kept c image
held_images g database disk (Unsure part later) is c image =
    subst (λ p. StandsFor part c ⊎ StandsFor p c) is.after_it (waiting_stands g (areas_of database) disk part is.change is.waits is.met c image)

-- what an opening read of these bytes, by its answer
abbrev pub ReadsStore : List ℕ → Result KeyDatabase StoreFault → Type 0
ReadsStore image (Ok database) = StandsFor (lasting database) image
ReadsStore image (Err faults.Device) = ⊤
ReadsStore image (Err (faults.Corrupted offset)) = IsBadStore image offset
ReadsStore image (Err faults.Memory) = ⊤

-- what an opening finds where the bytes stand for a lasting part
abbrev pub FindsStore : Lasting → Result KeyDatabase StoreFault → Type 0
FindsStore part (Ok database) = lasting database ≡ part
FindsStore part (Err faults.Device) = ⊤
FindsStore part (Err (faults.Corrupted offset)) = ⊥
FindsStore part (Err faults.Memory) = ⊤

-- an answer before which nothing was written: the store is refused, or memory was wanting
abbrev pub WhereRefused : {T : Type 0} → Result T StoreFault → Type 0 → Type 0
WhereRefused (Ok database) P = ⊤
WhereRefused (Err faults.Device) P = ⊤
WhereRefused (Err (faults.Corrupted offset)) P = P
WhereRefused (Err faults.Memory) P = P

-- what reading a store again answers where the bytes are told: they stand for what was held
abbrev pub IsReadAgain : Result Bool StoreFault → Type 0
IsReadAgain (Ok same) = same ≡ true
IsReadAgain (Err faults.Device) = ⊤
IsReadAgain (Err (faults.Corrupted offset)) = ⊥
IsReadAgain (Err faults.Memory) = ⊤

-- what it leaves of the areas, by its answer: those that were read, which hold the lasting part; or where it is another, or nothing is read,
-- those that were
abbrev pub TakesOver : {D : Type 0} → Ghosts D → KeyDatabase → KeyDatabase → D → Result Bool StoreFault → Type 0
TakesOver g old new disk (Ok true) = KeepsPart g (areas_of new) disk (lasting old)
TakesOver g old new disk (Ok false) = SameStore old new
TakesOver g old new disk (Err fault) = SameStore old new

-- what it read of these bytes, by its answer
abbrev pub Rereads : Lasting → List ℕ → Result Bool StoreFault → Type 0
Rereads part image (Ok true) = StandsFor part image
Rereads part image (Ok false) = ⊤
Rereads part image (Err faults.Device) = ⊤
Rereads part image (Err (faults.Corrupted offset)) = IsBadStore image offset
Rereads part image (Err faults.Memory) = ⊤

-- ---- an opening

-- records that were read to the gate that is shut, and what they leave
pub record IsReplayed {D : Type 0} (g : Ghosts D) (reading : Reading) (disk : D) (start limit kinds : ℕ) (part : Lasting) : Type 0 where
  pub past : List Record
  pub through : IsThrough g reading disk start limit kinds past
  pub left : left_by past ≡ Some part

-- records that are one list on each image, of which the first whose need is not met stands at this place
pub record IsUnmetOn {D : Type 0} (g : Ghosts D) (disk : D) (start limit kinds offset : ℕ) : Type 0 where
  pub past : List Record
  pub records : AreRecords kinds past
  pub images : AllImages g disk (HasRecords start limit past)
  pub first : IsUnmetIn start past offset

-- why records leave nothing: they are broken off, or a need is not met
pub data LeaveNothing {D : Type 0} (g : Ghosts D) (disk : D) (start limit kinds offset : ℕ) : Type 0 where
  AreBroken : AllImages g disk (λ image. IsBrokenAt start limit kinds image offset) → LeaveNothing g disk start limit kinds offset
  AreUnmet : IsUnmetOn g disk start limit kinds offset → LeaveNothing g disk start limit kinds offset

-- what the records of a reading leave, by the answer
abbrev pub Replays : {D : Type 0} → Ghosts D → Reading → D → ℕ → ℕ → ℕ → Result TableView StoreFault → Type 0
Replays g reading disk start limit kinds (Ok held) = IsReplayed g reading disk start limit kinds (lasting_in held)
Replays g reading disk start limit kinds (Err faults.Device) = ⊤
Replays g reading disk start limit kinds (Err (faults.Corrupted offset)) = LeaveNothing g disk start limit kinds offset
Replays g reading disk start limit kinds (Err faults.Memory) = ⊤

-- records that were read to their end behind others
pub record HasRest {D : Type 0} (g : Ghosts D) (reading : Reading) (disk : D) (start limit kinds : ℕ) (past : List Record) : Type 0 where
  pub later : List Record
  pub through : IsThrough g reading disk start limit kinds (later ++ past)

-- what is found behind records, by the answer
abbrev pub FindsRest : {D : Type 0} → Ghosts D → Reading → D → ℕ → ℕ → ℕ → List Record → Result Unit StoreFault → Type 0
FindsRest g reading disk start limit kinds past (Ok done) = HasRest g reading disk start limit kinds past
FindsRest g reading disk start limit kinds past (Err faults.Device) = ⊤
FindsRest g reading disk start limit kinds past (Err (faults.Corrupted offset)) = AllImages g disk (λ image. IsBrokenAt start limit kinds image offset)
FindsRest g reading disk start limit kinds past (Err faults.Memory) = ⊤

-- The disk holds a lasting part in a journal: each image is a journal with the same records, which leave it.
pub record KeepsJournal {D : Type 0} (g : Ghosts D) (disk : D) (part : Lasting) : Type 0 where
  pub past : List Record
  pub records : AreChanges past
  pub images : AllImages g disk (IsJournal past)
  pub left : left_by past ≡ Some part

-- these areas are those of a store of which this one is selected, and its records end where a reading has come to
pub record IsAreasAt (selected : Selected) (reading : Reading) (areas : Areas) : Type 0 where
  pub selects : selected_of areas ≡ selected
  pub start : lower.start_of (area_of areas) ≡ start_of selected
  pub limit : lower.limit_of (area_of areas) ≡ limit_of selected
  pub end : end_of areas ≡ readings.place_of reading
  pub idle : is_waiting areas ≡ false

-- a store of the format was found
abbrev pub IsFoundAt : Format → Reading → Found → Type 0
IsFoundAt formats.Journal reading founds.Journal = ⊤
IsFoundAt formats.Journal reading (founds.Areas areas) = ⊥
IsFoundAt (formats.Areas selected) reading founds.Journal = ⊥
IsFoundAt (formats.Areas selected) reading (founds.Areas areas) = IsAreasAt selected reading areas

-- it holds the lasting part in the format in which it was found
abbrev pub KeepsFound : {D : Type 0} → Ghosts D → D → Lasting → Found → Type 0
KeepsFound g disk part founds.Journal = KeepsJournal g disk part
KeepsFound g disk part (founds.Areas areas) = KeepsPart g areas disk part

-- nothing of the areas that were found waits
abbrev pub IsIdle : Found → Type 0
IsIdle founds.Journal = ⊤
IsIdle (founds.Areas areas) = is_waiting areas ≡ false

-- a store of areas was found
abbrev pub AreFound : Found → Type 0
AreFound founds.Journal = ⊥
AreFound (founds.Areas areas) = ⊤

-- what a store was read as, by the answer
abbrev pub ReadsKept : {D : Type 0} → Ghosts D → D → Result (Found × TableView) StoreFault → Type 0
ReadsKept g disk (Ok opened) = KeepsFound g disk (lasting_in opened.1) opened.0
ReadsKept g disk (Err faults.Device) = ⊤
ReadsKept g disk (Err (faults.Corrupted offset)) = AllImages g disk (λ image. IsBadStore image offset)
ReadsKept g disk (Err faults.Memory) = ⊤
