use Rattle.std.proofs.Common.{◌∙◌}
use Rattle.keystore_run.proofs.Answering.{malformed_is}
use Rattle.keystore_run.proofs.answer.malformed.Goals as goal

pub returns-clause-is : goal.returns-clause-is
returns-clause-is c = malformed_is c.args.written c.in_ok-text.text (c.in_ok-text.ensures ∙ c.malformed_text.ensures)
