-- The write is the newest call, and the pages have its piece.
use Rattle.std.proofs.Common.{refl, reverse, arith}
use Rattle.disk_model.specs.DiskCalls.{Wrote}
use Rattle.disk_model.specs.CrashImages.{content_of}
use Rattle.disk_model.specs.Pages.{byte_in}
use Rattle.disk_model.proofs.Elapsing.{newest}
use Rattle.disk_model.proofs.Writing.{laid_over, size_after}
use Rattle.disk_model.proofs.memory.MemoryDisk.make_write.Goals as goal

pub invariant_of-self-2 : goal.invariant_of-self-2
invariant_of-self-2 c =
    let old = c.args.self.now in
    let is = newest old.calls.made _ _ (Wrote c.args.at c.args.piece.now) c.in_ok-reserve.ensures.made c.push_write.ensures.made in
    rw is record {
      sized = omega (arith, size_after c.args.at c.args.piece.now (content_of (reverse old.calls.made)), c.max-self.ensures, c.in-Some.ensures, old.sized);
      kept = laid_over (byte_in old.pages.rows) (byte_in c.hold.new.self.rows) (byte_in c.write.new.self.rows) c.args.at c.args.piece.now (content_of (reverse old.calls.made))
          old.kept c.hold.ensures.bytes c.write.ensures.bytes;
    }

pub returns-clause-calls : goal.returns-clause-calls
returns-clause-calls c = newest c.args.self.now.calls.made _ _ (Wrote c.args.at c.args.piece.now) c.in_ok-reserve.ensures.made c.push_write.ensures.made

pub returns-clause-content : goal.returns-clause-content
returns-clause-content c =
    let is = newest c.args.self.now.calls.made _ _ (Wrote c.args.at c.args.piece.now) c.in_ok-reserve.ensures.made c.push_write.ensures.made in
    rw is refl
