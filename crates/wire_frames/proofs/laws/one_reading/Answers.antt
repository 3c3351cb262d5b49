use Rattle.wire_frames.proofs.OneReading as law
use Rattle.wire_frames.proofs.laws.one_reading.Goals as goal

pub returns : goal.returns
returns c = law.one_reading
