use Rattle.keystore_core.proofs.PutsOut.{few_told, puts_out}
use Rattle.keystore_core.proofs.engine.Engine.most_out.Goals as goal

pub returns-clause-out : goal.returns-clause-out
returns-clause-out c = λ setup past settled event drawn fields ticket stands is may told.
    puts_out setup past c.args.self.now.tables settled event drawn fields ticket c.most_out.result stands.tables may told (rw is c.most_out.ensures.out)

pub returns-clause-small : goal.returns-clause-small
returns-clause-small c = λ setup past stands. few_told setup past c.args.self.now.tables c.args.act.now c.most_out.result stands.tables c.most_out.ensures.small
