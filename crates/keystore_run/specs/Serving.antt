-- What serving a line leaves.
use Rattle.std.specs.Prelude.{ℕ, ◌⊎◌, Bool, true, false, List, [], ◌++◌, Result, Ok, Err}
use Rattle.ks_outside.specs.Shown.{Put}
use Rattle.ks_outside.specs.declared.disk.Disk.{Ghosts as DiskGhosts}
use Rattle.ks_outside.specs.declared.entropy.Entropy.{Ghosts as EntropyGhosts}
use Rattle.ks_outside.specs.declared.sink.Sink.{Ghosts as SinkGhosts}
use Rattle.rule_model.specs.Entries.{History}
use Rattle.rule_model.specs.Setup.{Setup}
use Rattle.keystore_run.specs.declared.serve.Halt.{Halt}
use Rattle.keystore_run.specs.declared.serve.Halt.TheVariants.{Memory, Write}
use Rattle.keystore_run.specs.declared.session.Session.{Session}
use Rattle.keystore_run.specs.declared.written.Written.{Written}
use Rattle.keystore_run.specs.Session.{Devices, GoesOn, Stays}
use Rattle.keystore_run.specs.Written.{Adds}

module _ {K D N : Type 0} (k : SinkGhosts K) (d : DiskGhosts D) (n : EntropyGhosts N) where
  -- the line was served, and what is written of it was
  pub record IsServed (written : Written) (setup : Setup) (past : History) (new : Session) (line : List ℕ) (sink sink' : K) (before after : Devices D N) : Type 0 where
    pub later : History
    pub text : List ℕ
    pub added : List ℕ
    pub goes_on : GoesOn d n setup past new line before after later text
    pub adds : Adds written past later text added
    pub put : Put k sink sink' added false

  -- the line was served, and a front of what is written of it was; then a write failed, or none did
  pub record IsServedInPart (written : Written) (setup : Setup) (past : History) (new : Session) (line : List ℕ) (sink sink' : K) (before after : Devices D N) (failed : Bool) : Type 0 where
    pub later : History
    pub text : List ℕ
    pub part : List ℕ
    pub missing : List ℕ
    pub goes_on : GoesOn d n setup past new line before after later text
    pub adds : Adds written past later text (part ++ missing)
    pub put : Put k sink sink' part failed

  -- the line was not served, and nothing was drawn or written
  pub record IsUnserved (setup : Setup) (past : History) (new : Session) (sink sink' : K) (before after : Devices D N) : Type 0 where
    pub stays : Stays d n setup past new before after
    pub put : Put k sink sink' [] false

  abbrev pub ServesLine : Written → Setup → History → Session → List ℕ → K → K → Devices D N → Devices D N → Result (Unit {0}) Halt → Type 0
  ServesLine written setup past new line sink sink' before after (Ok u) = IsServed written setup past new line sink sink' before after
  ServesLine written setup past new line sink sink' before after (Err Write) = IsServedInPart written setup past new line sink sink' before after true
  ServesLine written setup past new line sink sink' before after (Err Memory) =
      IsServedInPart written setup past new line sink sink' before after false ⊎ IsUnserved setup past new sink sink' before after
