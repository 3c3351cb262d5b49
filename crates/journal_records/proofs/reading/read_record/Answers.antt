-- Both ways of the grammar.
use Rattle.std.proofs.Common.{ap, ◌∙◌, arith}
use Rattle.journal_records.specs.Reading.{record_at}
use Rattle.journal_records.proofs.Bodies.{record_again}
use Rattle.journal_records.proofs.BothWays.{says_again, record_found}
use Rattle.journal_records.proofs.reading.read_record.Goals as goal

pub returns-clause-found : goal.returns-clause-found
returns-clause-found c = record_found (λ x. (x.0, x.1.now)) c.args.kinds c.record_at-read.result c.args.bytes.now (λ i. omega (arith, c.type_inv.bytes i)) c.record_at-read.ensures

pub returns-clause-again : goal.returns-clause-again
returns-clause-again c = λ it left fits is.
    says_again (λ x. (x.0, x.1.now)) c.record_at-read.result (record_at c.args.kinds c.args.bytes.now) (it, left)
    (ap (record_at c.args.kinds) is ∙ record_again c.args.kinds it left fits) c.record_at-read.ensures
