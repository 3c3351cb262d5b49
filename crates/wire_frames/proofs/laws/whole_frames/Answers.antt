use Rattle.wire_frames.proofs.OneReading as law
use Rattle.wire_frames.proofs.laws.whole_frames.Goals as goal

pub returns-clause-begins : goal.returns-clause-begins
returns-clause-begins c = law.begin_so

pub returns-clause-sound : goal.returns-clause-sound
returns-clause-sound c = law.never_bad_front

pub returns-clause-whole : goal.returns-clause-whole
returns-clause-whole c = law.never_part
