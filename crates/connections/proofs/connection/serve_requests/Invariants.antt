use Rattle.std.proofs.Common.{◌≡◌, ◌+◌, ◌-◌, ◌^◌, ◌≤◌}
use Rattle.wire_frames.specs.Standing.{reach}
use Rattle.connections.proofs.Serving.{Going}
use Rattle.connections.proofs.connection.serve_requests.Given as goal

abbrev pub invariant-reads : goal.invariant-reads
invariant-reads g l = record {
  going : Going g.L.Link g.A.Answerer.answers l.fn.link l.link l.fn.answerer l.answerer l.frames l.progress l.taken;
  client : g.A.Answerer.connected l.answerer ≡ l.progress.joined;
  reach : reach l.frames ≤ l.taken;
  few : l.taken ≤ 2 ^ 61 + 16384;
}

abbrev pub decreases-reads : goal.decreases-reads
decreases-reads g l = 2 ^ 61 + 16384 - l.taken
