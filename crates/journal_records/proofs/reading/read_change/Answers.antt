-- Both ways of the grammar.
use Rattle.std.proofs.Common.{ap, ◌∙◌, arith}
use Rattle.journal_records.specs.Reading.{change_at}
use Rattle.journal_records.proofs.Bodies.{change_again}
use Rattle.journal_records.proofs.BothWays.{says_again, change_found}
use Rattle.journal_records.proofs.reading.read_change.Goals as goal

pub returns-clause-found : goal.returns-clause-found
returns-clause-found c = change_found (λ x. (x.0, x.1.now)) c.change_at-read.result c.args.bytes.now (λ i. omega (arith, c.type_inv.bytes i)) c.change_at-read.ensures

pub returns-clause-again : goal.returns-clause-again
returns-clause-again c = λ change left fits is.
    says_again (λ x. (x.0, x.1.now)) c.change_at-read.result (change_at c.args.bytes.now) (change, left) (ap change_at is ∙ change_again change left fits) c.change_at-read.ensures
