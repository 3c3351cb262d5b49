-- What is spelled is read again.
use Rattle.std.proofs.Common.{ap, ◌∙◌}
use Rattle.journal_records.specs.Reading.{record_in}
use Rattle.journal_records.proofs.BothWays.{says_again, parse_again}
use Rattle.journal_records.proofs.reading.parse.Goals as goal

pub returns-clause-again : goal.returns-clause-again
returns-clause-again c = λ change fits is.
    says_again (λ x. x) c.record_in-read.result (record_in c.args.bytes.now) change (ap record_in is ∙ parse_again change fits) c.record_in-read.ensures.exact
