use Rattle.std.proofs.Common.{sym, ap, ◌∙◌, refl, rules}
use Rattle.std.specs.Option.{option_copied}
use Rattle.key_database.specs.Stands.{lasting}
use Rattle.rule_model.specs.Access.{id_of}
use Rattle.keystore_core.proofs.KeyTable.{found_live}
use Rattle.journal_records.specs.declared.change.Change.TheVariants as changes
use Rattle.keystore_core.proofs.SameStores.{one_store_same}
use Rattle.rule_model.specs.declared.event.Act.TheVariants as acts
use Rattle.rule_model.specs.Replies.{no_fields}
use Rattle.keystore_core.proofs.Reading.{writes}
use Rattle.keystore_core.proofs.tables.Tables.delete_key.Goals as goal

pub write_change-reply-requires-clause-can : goal.write_change-reply-requires-clause-can
write_change-reply-requires-clause-can g c =
    let key = rw c.table.ensures at c.key_call-facts.ensures.key in
    (found_live c.args.self.now.policy (lasting c.args.self.now.keys) c.args.caller c.args.key.now c.in-Some.found.now.id (ap id_of (sym key ∙ ap option_copied c.in-Some.is)), (λ e. cc, λ e. cc))

pub returns-clause-serves : goal.returns-clause-serves
returns-clause-serves g c = λ setup past stands. rw (c.undrawn.ensures.reply, c.undrawn.ensures.job, c.undrawn.ensures.drawn)
    (writes setup past c.args.self.now c.args.caller (acts.DeleteKey c.args.key.now) stands c.requires.caller
    (record { draws = refl; clients = refl; operations = refl; tickets = refl; restarts = refl; root = λ before. refl; boot = refl })
    c.args.self.now.keys c.write_change-reply.new.keys no_fields (changes.Delete c.in-Some.found.now.id) c.write_change-reply.result
    (one_store_same c.args.self.now.keys) c.requires.settled (search rules) c.write_change-reply.ensures.written (search rules) refl)
