-- The records stay, and so does what they leave.
use Rattle.std.proofs.Common.{subst}
use Rattle.record_areas.specs.Frames.{AreRecords, Frame, IsStore}
use Rattle.key_database.specs.Stands.{stands_in, stands_older}
use Rattle.key_database.proofs.law.quiet_law.Goals as goal

pub returns-clause-areas : goal.returns-clause-areas
returns-clause-areas c = λ part image other stands is agree.
    stands_in stands.frame stands.past part other is stands.records stands.lasting (c.quiet_law.ensures stands.frame stands.past image other is stands.store agree)

pub returns-clause-older : goal.returns-clause-older
returns-clause-older c = λ part image other stands is agree.
    stands_older stands.past part other (subst (λ (f : Frame). AreRecords f.kinds stands.past) is stands.records) stands.lasting
    (c.older_law.ensures stands.past image other (subst (λ (f : Frame). IsStore f stands.past image) is stands.store) agree)
