use Rattle.std.proofs.Common.{◌≡◌, ℕ, ◌+◌, ◌-◌, ◌^◌, false, List, ◌++◌, length}
use Rattle.ks_outside.specs.Shown.{Took}
use Rattle.keystore_run.specs.Window.{HasNoFeedBelow}
use Rattle.keystore_run.proofs.reader.LineReader.seek.Given as goal
use Rattle.tags.specs.declared.limits.TheConstants.{SCRIPT_BYTES}

abbrev pub invariant-reads : goal.invariant-reads
invariant-reads g l = record {
  bytes : (piece : List ℕ) × (l.self.bytes ≡ l.fn.self.bytes ++ piece) × (l.self.taken ≡ l.fn.self.taken + length piece)
      × Took g.S.Source l.fn.source l.source piece false;
  free : HasNoFeedBelow l.self.bytes (length l.self.bytes);
}

abbrev pub decreases-reads : goal.decreases-reads
decreases-reads g l = SCRIPT_BYTES - l.self.taken
