-- How a run ends: what was taken from the source, what was served, what was drawn for it, what was written, and what is on the
-- disk, between two moments of all that a run is handed. What was served is one legal history with the text of its replies; what was
-- written is that text, or the trace of the history.
use Rattle.std.specs.Prelude.{◌≡◌, ℕ, ◌+◌, ◌<◌, ◌≤◌, ◌⊎◌, Bool, true, false, List, [], ◌∷◌, ◌++◌, length, Option, IfSome}
use Rattle.std.specs.Borrow.{MutBor}
use Rattle.std.specs.Io.KnownBytes.{IsAtEnd}
use Rattle.ks_outside.specs.Shown.{Outside, Put, Took}
use Rattle.ks_outside.specs.declared.disk.Disk.{Ghosts as DiskGhosts}
use Rattle.ks_outside.specs.declared.entropy.Entropy.{Ghosts as EntropyGhosts}
use Rattle.ks_outside.specs.declared.sink.Sink.{Ghosts as SinkGhosts}
use Rattle.ks_outside.specs.declared.source.Source.{Ghosts as SourceGhosts}
use Rattle.rule_model.specs.Entries.{History}
use Rattle.rule_model.specs.Legal.{Legal}
use Rattle.rule_model.specs.Setup.{Setup}
use Rattle.keystore_run.specs.declared.handed.Handed.{Handed}
use Rattle.keystore_run.specs.declared.written.Written.{Written}
use Rattle.keystore_run.specs.declared.status.Status.{Status}
use Rattle.keystore_run.specs.declared.status.Status.TheVariants as statuses
use Rattle.keystore_run.specs.Drawn.{DrewAll}
use Rattle.keystore_run.specs.Follows.{Follows}
use Rattle.keystore_run.specs.KeptStores.{Keeps}
use Rattle.line_members.specs.LineFeeds.{IsFree, ended, lines_of}
use Rattle.keystore_run.specs.Lines.{AreLines}
use Rattle.keystore_run.specs.Written.{Adds, written_of}
use Rattle.tags.specs.declared.limits.TheConstants.{LINE_BYTES, SCRIPT_BYTES}

-- all that a run is handed, at one moment
abbrev pub outside : {S K D N : Type 0} → S → K → D → N → Outside S K D N
outside source sink disk entropy = record { source = source; sink = sink; disk = disk; entropy = entropy }

-- the same of what was lent to a run, as it was handed in, and as the run left it
abbrev pub lent : {S K D N : Type 0} → Handed S K D N → Outside S K D N
lent handed = outside handed.source.now handed.sink.now handed.disk.now handed.entropy.now

abbrev pub given_back : {S K D N : Type 0} → MutBor S × (MutBor K × (MutBor D × (MutBor N × Unit {0}))) → Outside S K D N
given_back handed = outside handed.0.now handed.1.0.now handed.1.1.0.now handed.1.1.1.0.now

-- the statuses that tell a fault of the source, and of the sink
abbrev pub is_read_fault : Status → Bool
is_read_fault statuses.ReadFault = true
is_read_fault _ = false

abbrev pub is_write_fault : Status → Bool
is_write_fault statuses.WriteFault = true
is_write_fault _ = false

-- The bytes that were taken are these lines with their LF, and more; or the last line has no LF, at the source's end.
abbrev pub AreTaken : Option (List ℕ) → List ℕ → List (List ℕ) → Type 0
AreTaken left taken lines =
    ((rest : List ℕ) × (taken ≡ ended lines ++ rest))
    ⊎ ((front : List (List ℕ)) × (line : List ℕ) × (lines ≡ front ++ line ∷ []) × (taken ≡ ended front ++ line) × IsAtEnd left)

module _ {S K D N : Type 0} (s : SourceGhosts S) (k : SinkGhosts K) (d : DiskGhosts D) (n : EntropyGhosts N) where
  -- lines were served: a legal history follows them with a text of replies, drew what the entropy gave, and is kept on the disk
  pub record Served (setup : Setup) (old new : Outside S K D N) (lines : List (List ℕ)) (text : List ℕ) : Type 0 where
    pub history : History
    pub legal : Legal setup history
    pub follows : Follows [] lines history text
    pub drew : DrewAll n old.entropy new.entropy history
    pub keeps : Keeps d setup old.disk new.disk history

  -- The whole source was read: all its lines were served, and what is written of them was. No line and no script is too long, and
  -- no call failed.
  pub record EndsOk (written : Written) (setup : Setup) (old new : Outside S K D N) : Type 0 where
    pub lines : List (List ℕ)
    pub text : List ℕ
    pub taken : List ℕ
    pub served : Served setup old new lines text
    pub put : Put k old.sink new.sink (written_of written served.history text) false
    pub took : Took s old.source new.source taken false
    pub end : IsAtEnd (s.content new.source)
    pub all : lines ≡ lines_of taken
    pub known : IfSome (s.content old.source) (λ bytes. bytes ≡ taken)
    pub short : AreLines lines
    pub few : length taken < SCRIPT_BYTES

  -- The lines whose LF was taken were served, and what is written of them was; the bytes taken after them are no line yet. A read
  -- failed, or none did.
  pub record EndsAmid (written : Written) (setup : Setup) (old new : Outside S K D N) (lines : List (List ℕ)) (rest : List ℕ) (failed : Bool) : Type 0 where
    pub text : List ℕ
    pub served : Served setup old new lines text
    pub put : Put k old.sink new.sink (written_of written served.history text) false
    pub took : Took s old.source new.source (ended lines ++ rest) failed
    pub short : AreLines lines
    pub free : IsFree rest

  -- a read failed before any limit was reached
  pub record EndsRead (written : Written) (setup : Setup) (old new : Outside S K D N) : Type 0 where
    pub lines : List (List ℕ)
    pub rest : List ℕ
    pub amid : EndsAmid written setup old new lines rest true
    pub within : length rest ≤ LINE_BYTES
    pub few : length (ended lines ++ rest) < SCRIPT_BYTES

  -- line `line` passes 262,144 bytes without its LF, and the lines before it were served
  pub record EndsLong (written : Written) (setup : Setup) (old new : Outside S K D N) (line : ℕ) : Type 0 where
    pub lines : List (List ℕ)
    pub rest : List ℕ
    pub amid : EndsAmid written setup old new lines rest false
    pub number : line ≡ length lines + 1
    pub long : LINE_BYTES < length rest
    pub few : length (ended lines ++ rest) ≤ SCRIPT_BYTES

  -- 2^30 bytes were taken without an end, and the lines among them were served
  pub record EndsMany (written : Written) (setup : Setup) (old new : Outside S K D N) : Type 0 where
    pub lines : List (List ℕ)
    pub rest : List ℕ
    pub amid : EndsAmid written setup old new lines rest false
    pub within : length rest ≤ LINE_BYTES
    pub many : length (ended lines ++ rest) ≡ SCRIPT_BYTES

  -- The run stopped at a line. The lines before it were served and what is written of them was; it was served and a front of what is
  -- written of it was, or it was not served. What the entropy gave was drawn for these lines, and what they change of what lasts is on
  -- the disk. No read failed; a write did, or none.
  pub record EndsCut (written : Written) (setup : Setup) (old new : Outside S K D N) (failed : Bool) : Type 0 where
    pub front : List (List ℕ)
    pub last : List (List ℕ)
    pub one : length last ≤ 1
    pub mid : History
    pub later : History
    pub whole : List ℕ
    pub text : List ℕ
    pub part : List ℕ
    pub missing : List ℕ
    pub legal : Legal setup later
    pub drew : DrewAll n old.entropy new.entropy later
    pub keeps : Keeps d setup old.disk new.disk later
    pub served : Follows [] front mid whole
    pub stopped : Follows mid last later text
    pub adds : Adds written mid later text (part ++ missing)
    pub put : Put k old.sink new.sink (written_of written mid whole ++ part) failed
    pub taken : List ℕ
    pub took : Took s old.source new.source taken false
    pub are : AreTaken (s.content new.source) taken (front ++ last)
    pub short : AreLines (front ++ last)
    pub few : length taken ≤ SCRIPT_BYTES

  abbrev pub Ends : Written → Setup → Outside S K D N → Outside S K D N → Status → Type 0
  Ends written setup old new statuses.Ok = EndsOk written setup old new
  Ends written setup old new statuses.Memory = EndsCut written setup old new false
  Ends written setup old new statuses.ReadFault = EndsRead written setup old new
  Ends written setup old new statuses.WriteFault = EndsCut written setup old new true
  Ends written setup old new (statuses.LineTooLong line) = EndsLong written setup old new line
  Ends written setup old new statuses.ScriptTooLong = EndsMany written setup old new
  Ends written setup old new statuses.DiskFault = ⊥
  Ends written setup old new statuses.Usage = ⊥
  Ends written setup old new (statuses.Corrupted offset) = ⊥
  Ends written setup old new statuses.ListenFault = ⊥
