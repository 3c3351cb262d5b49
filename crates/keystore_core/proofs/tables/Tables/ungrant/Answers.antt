use Rattle.std.proofs.Common.{sym, ◌∙◌, refl, rules}
use Rattle.std.specs.Option.{option_copied}
use Rattle.key_database.specs.Stands.{lasting}
use Rattle.rule_model.specs.Access.{id_of}
use Rattle.keystore_core.proofs.KeyTable.{grant_held}
use Rattle.journal_records.specs.declared.change.Change.TheVariants as changes
use Rattle.keystore_core.proofs.SameStores.{one_store_same}
use Rattle.rule_model.specs.declared.event.Act.TheVariants as acts
use Rattle.rule_model.specs.Replies.{no_fields}
use Rattle.keystore_core.proofs.Reading.{writes}
use Rattle.keystore_core.proofs.tables.Tables.ungrant.Goals as goal

pub write_change-reply-requires-clause-can : goal.write_change-reply-requires-clause-can
write_change-reply-requires-clause-can g c =
    let grant = rw c.table-2.ensures at c.grant_to-grant.ensures in
    (grant_held (lasting c.args.self.now.keys) (id_of (option_copied c.key_call-facts.result.0)) c.args.uid c.in-Some.grant (sym grant ∙ c.in-Some.is), (λ e. cc, λ e. cc))

pub returns-clause-serves : goal.returns-clause-serves
returns-clause-serves g c = λ setup past stands. rw (c.undrawn.ensures.reply, c.undrawn.ensures.job, c.undrawn.ensures.drawn)
    (writes setup past c.args.self.now c.args.caller (acts.Ungrant c.args.key.now c.args.uid) stands c.requires.caller
    (record { draws = refl; clients = refl; operations = refl; tickets = refl; restarts = refl; root = λ before. refl; boot = refl })
    c.args.self.now.keys c.write_change-reply.new.keys no_fields (changes.Ungrant c.in-Some.grant) c.write_change-reply.result
    (one_store_same c.args.self.now.keys) c.requires.settled (search rules) c.write_change-reply.ensures.written (search rules) refl)
