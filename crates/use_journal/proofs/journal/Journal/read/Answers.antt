-- Nothing was read yet behind the header.
use Rattle.std.proofs.Common.{arith}
use Rattle.std.proofs.lemmas.Result.{err_from_is_err_and}
use Rattle.use_journal.proofs.journal.Journal.read.Goals as goal

pub returns-in_err-find_header-clause-missing : goal.returns-in_err-find_header-clause-missing
returns-in_err-find_header-clause-missing g c =
    let p = err_from_is_err_and c.from_residual.result c.from_residual.ensures.1 in
    rw (p.1, p.2) c.in_err-find_header.ensures.missing

pub returns-clause-begins : goal.returns-clause-begins
returns-clause-begins g c = record {
  over = c.reading.ensures.over;
  place = omega (arith, c.reading.ensures.place);
  records = tt;
  images = λ image left. c.reading.ensures.begins image;
}
