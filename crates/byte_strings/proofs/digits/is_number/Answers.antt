use Rattle.std.proofs.Common.{length}
use Rattle.std.proofs.lemmas.Bool.{le-leb}
use Rattle.byte_strings.proofs.digits.is_number.Goals as goal

pub returns-then-text-le-DIGITS : goal.returns-then-text-le-DIGITS
returns-then-text-le-DIGITS c =
    let n = length c.args.text.now in
    rw (le-leb 1 n c.if-text-le-DIGITS.true.0, le-leb n 20 c.if-text-le-DIGITS.true.1, c.are_digits.ensures)
