-- What a source, a sink and an entropy show between two moments, each as one word over all that its trait tells. Calls made in turn join into one
-- (`proofs/Shown.antt`).
use Rattle.std.specs.Prelude.{ℕ, List, Bool}
use Rattle.std.specs.Io.KnownBytes.{Consumes, Appends}
use Rattle.ks_outside.specs.Draws.{Draws}
use Rattle.ks_outside.specs.Faults.{CountsFaults}
use Rattle.ks_outside.specs.declared.source.Source.{Ghosts as SourceGhosts}
use Rattle.ks_outside.specs.declared.sink.Sink.{Ghosts as SinkGhosts}
use Rattle.ks_outside.specs.declared.entropy.Entropy.{Ghosts as EntropyGhosts}

-- these bytes were taken from the source, in order, and a read failed or none did
pub record Took {S : Type 0} (g : SourceGhosts S) (old new : S) (taken : List ℕ) (failed : Bool) : Type 0 where
  pub bytes : Consumes (g.content old) (g.content new) taken
  pub faults : CountsFaults (g.fault_count old) (g.fault_count new) failed

-- these bytes were put into the sink, in order, and a write failed or none did
pub record Put {K : Type 0} (g : SinkGhosts K) (old new : K) (written : List ℕ) (failed : Bool) : Type 0 where
  pub bytes : Appends (g.content old) (g.content new) written
  pub faults : CountsFaults (g.fault_count old) (g.fault_count new) failed

-- the entropy gave these bytes, in order, and a draw failed or none did
pub record Drew {N : Type 0} (g : EntropyGhosts N) (old new : N) (drawn : List ℕ) (failed : Bool) : Type 0 where
  pub bytes : Draws (g.content old) (g.content new) drawn
  pub faults : CountsFaults (g.fault_count old) (g.fault_count new) failed

-- all that a run is handed, at one moment
pub record Outside (S K D N : Type 0) : Type 0 where
  pub source : S
  pub sink : K
  pub disk : D
  pub entropy : N
