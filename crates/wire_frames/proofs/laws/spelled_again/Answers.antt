use Rattle.wire_frames.proofs.OneReading as law
use Rattle.wire_frames.proofs.laws.spelled_again.Goals as goal

pub returns : goal.returns
returns c = law.alone
