use Rattle.std.proofs.Common.{refl}
use Rattle.keystore_run.proofs.Soaking.{no_image, no_moment}
use Rattle.keystore_run.proofs.soak.summary_of.Goals as goal

pub summary_over-summary-requires-clause-empty : goal.summary_over-summary-requires-clause-empty
summary_over-summary-requires-clause-empty c = record {
  images = λ image is. no_image _ image c.in_ok-disk.ensures.empty is;
  moments = λ t image was. no_moment _ t image c.in_ok-disk.ensures.empty was;
  telling = refl;
}
