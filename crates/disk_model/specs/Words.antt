-- A disk in memory in words: its calls, what a read gives, which calls are to fail, and how a call leaves it.
use Rattle.std.specs.Prelude.{◌≡◌, ℕ, ◌+◌, ◌^◌, ◌<◌, ◌≤◌, List, Contains, length, take, reverse}
use Rattle.std.specs.HashMap.{spare}
use Rattle.ks_outside.specs.Plans.{failing_in, asked_in}
use Rattle.disk_model.specs.DiskCalls.{DiskCall}
use Rattle.disk_model.specs.declared.memory.MemoryDisk.{MemoryDisk}
use Rattle.disk_model.specs.CrashImages.{content_of}
use Rattle.disk_model.specs.Pages.{pages_over}

-- its writes and syncs, the newest first
abbrev pub made_by : MemoryDisk → List DiskCall
made_by disk = reverse disk.calls.made

-- the first of its writes and syncs, the newest first
abbrev pub first_made_by : ℕ → MemoryDisk → List DiskCall
first_made_by count disk = reverse (take count disk.calls.made)

-- how many writes and syncs it made
abbrev pub count_of : MemoryDisk → ℕ
count_of disk = length disk.calls.made

-- what a read gives
abbrev pub reads : MemoryDisk → List ℕ
reads disk = content_of (made_by disk)

-- a call made no write and no sync
abbrev pub SameCalls : MemoryDisk → MemoryDisk → Type 0
SameCalls old new = new.calls.made ≡ old.calls.made

-- the numbers of the calls that are to fail, counted from 1
abbrev pub failing : MemoryDisk → List ℕ
failing disk = failing_in disk.plan

-- how many calls were asked of it, failed ones too
abbrev pub asked_of : MemoryDisk → ℕ
asked_of disk = asked_in disk.plan

-- its newest call was to fail
abbrev pub WasToFail : MemoryDisk → Type 0
WasToFail disk = Contains (failing disk) (asked_of disk)

-- how often it failed
abbrev pub faults_of : MemoryDisk → ℕ
faults_of disk = disk.faults.count

-- there is room for so many writes and syncs, bytes of pieces, and pages of 4,096 bytes
pub record HasRoom (disk : MemoryDisk) (calls bytes pages : ℕ) : Type 0 where
  pub calls_fit : calls ≤ disk.calls.calls_left
  pub bytes_fit : bytes ≤ disk.calls.bytes_left
  pub pages_fit : pages ≤ spare disk.pages.rows

-- there is room to write so many bytes at a place
abbrev pub HasRoomToWrite : MemoryDisk → ℕ → ℕ → Type 0
HasRoomToWrite disk at n = HasRoom disk 1 n (pages_over at n) × (at + n < 2 ^ 64)

-- a call took room for at most so many writes and syncs, bytes and pages
pub record TakesRoom (old new : MemoryDisk) (calls bytes pages : ℕ) : Type 0 where
  pub calls_kept : old.calls.calls_left ≤ new.calls.calls_left + calls
  pub bytes_kept : old.calls.bytes_left ≤ new.calls.bytes_left + bytes
  pub pages_kept : spare old.pages.rows ≤ spare new.pages.rows + pages
