use Rattle.keystore_run.proofs.Answering.{replied}
use Rattle.keystore_run.proofs.answer.answer_of.Goals as goal

pub returns-clause-is : goal.returns-clause-is
returns-clause-is c = replied c.with_text.result c.args.stepped.settled c.args.stepped.reply (c.with_text.ensures.text _ c.line_of-line.ensures) c.with_text.ensures.settled c.with_text.ensures.code
