-- A write that was made is the newest call.
use Rattle.std.proofs.Common.{List, ◌∷◌, reverse, ap, ◌∙◌}
use Rattle.disk_model.specs.DiskCalls.{DiskCall, Wrote}
use Rattle.disk_model.proofs.Elapsing.{write_holds, write_elapses}
use Rattle.disk_model.proofs.memory.MemoryDiskDisk.write_at.Goals as goal

pub returns-clause-written : goal.returns-clause-written
returns-clause-written c =
    write_holds c.args.self.now.calls.made c.goes_on.new.self.calls.made c.make_write.new.self.calls.made c.args.at c.args.piece.now
    (ap (λ v. v.made) c.in-Ok.ensures.calls) c.in-Ok-make_write.ensures.calls

pub returns-clause-time : goal.returns-clause-time
returns-clause-time c =
    write_elapses c.args.self.now.calls.made c.goes_on.new.self.calls.made c.make_write.new.self.calls.made c.args.at c.args.piece.now
    (ap (λ v. v.made) c.in-Ok.ensures.calls) c.in-Ok-make_write.ensures.calls c.in-Ok-make_write.ensures.count

pub returns-clause-made : goal.returns-clause-made
returns-clause-made c =
    c.in-Ok-make_write.ensures.calls ∙ ap (λ (l : List DiskCall). Wrote c.args.at c.args.piece.now ∷ reverse l) (ap (λ v. v.made) c.in-Ok.ensures.calls)
