-- When a store is written anew before a change, and what that leaves of its areas.
use Rattle.std.specs.Prelude.{◌≡◌, ◌⊎◌, nat_lt, ◌||◌, ℕ, ◌+◌, ◌*◌, ◌-◌, Bool, true, Result, Ok, Err, if◌then◌else◌}
use Rattle.ks_outside.specs.declared.faults.Failed.{Failed}
use Rattle.journal_records.specs.Commits.{CommitState, Committed, InDoubt, NotBegun}
use Rattle.journal_compact.specs.Holding.{end_of, selected_of}
use Rattle.journal_compact.specs.Stores.{other, start_of}
use Rattle.journal_compact.specs.declared.areas.Areas.{Areas}
use Rattle.journal_compact.specs.declared.places.Selected.{Selected}
use Rattle.journal_compact.specs.declared.places.TheConstants.{AREA_BYTES}
use Rattle.key_database.specs.declared.compacting.TheConstants.{SLACK_BYTES}

-- how many bytes the records of a store may have, where its snapshot has so many
abbrev pub most_bytes : ℕ → ℕ
most_bytes snapshot = SLACK_BYTES + 2 * snapshot

-- Whether a store with so many bytes of records is written anew before a record: they are more than they may be, or the record with its
-- closing byte would pass the end of the area.
abbrev pub is_due : ℕ → ℕ → ℕ → Bool
is_due bytes snapshot count = nat_lt (most_bytes snapshot) bytes || nat_lt AREA_BYTES (bytes + count)

-- which area is selected, and the place of the gate behind its records
pub record Extent : Type 0 where
  pub selected : Selected
  pub end : ℕ

abbrev pub extent_of : Areas → Extent
extent_of areas = record { selected = selected_of areas; end = end_of areas }

-- the other area, with a snapshot of so many bytes
abbrev pub turned : ℕ → Extent → Extent
turned snapshot extent = record { selected = other extent.selected; end = start_of (other extent.selected) + snapshot }

-- that, where it is due
abbrev pub turned_if : Bool → ℕ → Extent → Extent
turned_if due snapshot extent = if due then turned snapshot extent else extent

-- a record more, of so many bytes with its closing byte
abbrev pub longer : ℕ → Extent → Extent
longer count extent = record { selected = extent.selected; end = extent.end + (count - 1) }

-- what a compaction leaves that is made where it is due, by its answer
abbrev pub TurnsIf : {T : Type 0} → Bool → ℕ → Extent → Extent → Result T Failed → Type 0
TurnsIf due snapshot old new (Ok done) = new ≡ turned_if due snapshot old
TurnsIf due snapshot old new (Err fault) = (due ≡ true) × (new ≡ old)

-- what a change leaves, by what became of it: where a call failed, it may have been one of the compaction, and then the areas are as they
-- were
abbrev pub ExtentAfter : Bool → ℕ → ℕ → Extent → Extent → CommitState → Type 0
ExtentAfter due snapshot count old new Committed = new ≡ longer count (turned_if due snapshot old)
ExtentAfter due snapshot count old new InDoubt = ((due ≡ true) × (new ≡ old)) ⊎ (new ≡ turned_if due snapshot old)
ExtentAfter due snapshot count old new NotBegun = new ≡ old
