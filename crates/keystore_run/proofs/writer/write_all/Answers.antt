use Rattle.std.proofs.Common.{Ok}
use Rattle.ks_outside.proofs.Shown.{counts_call}
use Rattle.keystore_run.proofs.Writing.{more_written}
use Rattle.keystore_run.proofs.writer.write_all.Goals as goal

pub pieces-preserved : goal.pieces-preserved
pieces-preserved g c =
    let written = c.pieces.invariant.written in
    record {
      written = more_written g.K.Sink _ c.pieces.sink _ c.args.text.now written.0 c.pieces.rest.now c.in_ok-count.count written.1 written.2
          (record { bytes = c.in_ok-count.ensures.bytes; faults = counts_call _ _ (Ok c.in_ok-count.count) c.in_ok-count.ensures.cause });
    }
