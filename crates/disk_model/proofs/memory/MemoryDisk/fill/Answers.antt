-- The bytes of the pages are those of the model.
use Rattle.std.proofs.Common.{length, reverse, rules}
use Rattle.disk_model.specs.CrashImages.{content_of}
use Rattle.disk_model.specs.Pages.{byte_in}
use Rattle.disk_model.proofs.Elapsing.{read_is}
use Rattle.disk_model.proofs.memory.MemoryDisk.fill.Goals as goal

pub returns : goal.returns
returns c =
    read_is c.read.new.out (content_of (reverse c.args.self.now.calls.made)) c.args.at (length c.args.out.now) (byte_in c.args.self.now.pages.rows)
    (search rules) c.requires.there c.args.self.now.kept c.read.ensures
