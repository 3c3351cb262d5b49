use Rattle.pruning.proofs.DigitCount.{counted_digits}
use Rattle.pruning.proofs.digits.count_digits.Goals as goal

pub returns-clause-digits : goal.returns-clause-digits
returns-clause-digits c = counted_digits c.args.number c.ranges.number.fits
