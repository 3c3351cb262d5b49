-- What a link and a listener show between two moments, each as one word over all that its trait tells. Calls made in turn join into one
-- (`proofs/Carried.antt`).
use Rattle.std.specs.Prelude.{◌≡◌, ℕ, List, Bool}
use Rattle.std.specs.Io.KnownBytes.{Consumes, Appends}
use Rattle.ks_outside.specs.Faults.{CountsFaults}
use Rattle.ks_outside.specs.Listening.{raised}
use Rattle.ks_outside.specs.declared.link.Link.{Ghosts as LinkGhosts}
use Rattle.ks_outside.specs.declared.listener.Listener.{Ghosts as ListenerGhosts}

-- these bytes were taken from the link and these were put into it, each in order, and a call failed or none did
pub record Carried {L : Type 0} (g : LinkGhosts L) (old new : L) (taken written : List ℕ) (failed : Bool) : Type 0 where
  pub incoming : Consumes (g.incoming old) (g.incoming new) taken
  pub outgoing : Appends (g.outgoing old) (g.outgoing new) written
  pub faults : CountsFaults (g.fault_count old) (g.fault_count new) failed

-- the listener gave so many links and said so often that no more come, and a call failed or none did
pub record Listened {B L : Type 0} (g : ListenerGhosts B L) (old new : B) (links ends : ℕ) (failed : Bool) : Type 0 where
  pub given : g.given new ≡ raised links (g.given old)
  pub ended : g.ended new ≡ raised ends (g.ended old)
  pub faults : CountsFaults (g.fault_count old) (g.fault_count new) failed
