use Rattle.wire_frames.proofs.OneReading as law
use Rattle.wire_frames.proofs.laws.same_requests.Goals as goal

pub returns : goal.returns
returns c = law.same_requests
