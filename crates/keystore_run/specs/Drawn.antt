-- What a history took of an entropy: the bytes that were drawn for its entries, and the draws that failed.
use Rattle.std.specs.Prelude.{◌≡◌, ℕ, ◌+◌, ◌-◌, ◌^◌, ◌<◌, ◌≤◌, Bool, List, ◌++◌, if◌then◌else◌}
use Rattle.ks_outside.specs.Draws.{Draws}
use Rattle.ks_outside.specs.Shown.{Drew}
use Rattle.ks_outside.specs.declared.entropy.Entropy.{Ghosts}
use Rattle.rule_model.specs.Drawn.{drawn_of, undrawn_of}
use Rattle.rule_model.specs.Entries.{History}

-- A history drew from an entropy between two moments: the bytes of its entries are, in order, all that the entropy gave. It
-- has at most as many entries that a failed draw stopped as the count rose, where the count ends below its greatest value;
-- and where it has none the count stayed.
pub record DrewAll {N : Type 0} (g : Ghosts N) (old new : N) (history : History) : Type 0 where
  pub bytes : Draws (g.content old) (g.content new) (drawn_of history)
  pub faults : g.fault_count new < 2 ^ 64 - 1 → undrawn_of history + g.fault_count old ≤ g.fault_count new
  pub none : undrawn_of history ≡ 0 → g.fault_count new ≡ g.fault_count old
  pub later : g.fault_count old ≤ g.fault_count new

-- A history went on and drew: the bytes of the entries that it added are, in order, all that the entropy gave, and one of
-- them was stopped by a failed draw exactly where one failed.
pub record DrewMore {N : Type 0} (g : Ghosts N) (old new : N) (past later : History) : Type 0 where
  pub drawn : List ℕ
  pub failed : Bool
  pub added : drawn_of later ≡ drawn_of past ++ drawn
  pub drew : Drew g old new drawn failed
  pub undrawn : undrawn_of later ≡ (if failed then undrawn_of past + 1 else undrawn_of past)
