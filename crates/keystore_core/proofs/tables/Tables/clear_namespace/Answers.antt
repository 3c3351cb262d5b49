use Rattle.std.proofs.Common.{refl, rules}
use Rattle.journal_records.specs.declared.change.Change.TheVariants as changes
use Rattle.keystore_core.proofs.SameStores.{one_store_same}
use Rattle.rule_model.specs.declared.event.Act.TheVariants as acts
use Rattle.rule_model.specs.Replies.{no_fields}
use Rattle.keystore_core.proofs.Reading.{writes}
use Rattle.keystore_core.proofs.tables.Tables.clear_namespace.Goals as goal

pub returns-clause-serves : goal.returns-clause-serves
returns-clause-serves g c = λ setup past stands. rw (c.undrawn.ensures.reply, c.undrawn.ensures.job, c.undrawn.ensures.drawn)
    (writes setup past c.args.self.now c.args.caller (acts.ClearNamespace c.args.domain c.args.nspace) stands c.requires.caller
    (record { draws = refl; clients = refl; operations = refl; tickets = refl; restarts = refl; root = λ before. refl; boot = refl })
    c.args.self.now.keys c.write_change-reply.new.keys no_fields (changes.Clear c.owner_domain-domain.result c.args.nspace) c.write_change-reply.result
    (one_store_same c.args.self.now.keys) c.requires.settled (search rules) c.write_change-reply.ensures.written (search rules) refl)
