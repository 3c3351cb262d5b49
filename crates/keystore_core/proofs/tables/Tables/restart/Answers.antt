use Rattle.std.proofs.Common.{Bool, Ok, ap, subst, sym, ◌∙◌}
use Rattle.journal_records.specs.LastingPart.{Lasting}
use Rattle.key_database.specs.Stands.{Rereads, lasting}
use Rattle.key_database.specs.Store.{StandsFor}
use Rattle.keystore_core.proofs.Restarted.{other_store, read_stands, unread_store, unread_tables}
use Rattle.keystore_core.proofs.tables.Tables.restart.Goals as goal

pub returns-in-Ok-false-clause-serves : goal.returns-in-Ok-false-clause-serves
returns-in-Ok-false-clause-serves g c = λ setup past stands.
    rw (c.stopped.ensures.reply, c.stopped.ensures.job, c.stopped.ensures.drawn)
    (other_store setup past (record c.args.self.now { keys = c.read_again.new.self }) c.args.caller c.args.root
    (read_stands setup past c.args.self.now c.read_again.new.self c.read_again.ensures.part (c.read_again.ensures.settled ∙ sym c.requires) stands))

pub returns-in-Err-Corrupted-clause-serves : goal.returns-in-Err-Corrupted-clause-serves
returns-in-Err-Corrupted-clause-serves g c = λ setup past stands.
    rw (c.stopped-in-Err-Corrupted.ensures.reply, c.stopped-in-Err-Corrupted.ensures.job, c.stopped-in-Err-Corrupted.ensures.drawn)
    (other_store setup past (record c.args.self.now { keys = c.read_again.new.self }) c.args.caller c.args.root
    (read_stands setup past c.args.self.now c.read_again.new.self c.read_again.ensures.part (c.read_again.ensures.settled ∙ sym c.requires) stands))

pub returns-in-Err-Device-clause-serves : goal.returns-in-Err-Device-clause-serves
returns-in-Err-Device-clause-serves g c = λ setup past stands.
    rw (c.stopped-in-Err-Device.ensures.reply, c.stopped-in-Err-Device.ensures.job, c.stopped-in-Err-Device.ensures.drawn)
    (unread_store setup past (record c.args.self.now { keys = c.read_again.new.self }) c.args.caller c.args.root
    (read_stands setup past c.args.self.now c.read_again.new.self c.read_again.ensures.part (c.read_again.ensures.settled ∙ sym c.requires) stands))

pub returns-in-Ok-true-clause-reads : goal.returns-in-Ok-true-clause-reads
returns-in-Ok-true-clause-reads g c = λ done image left.
    subst (λ (part : Lasting). StandsFor part image) (sym (ap lasting c.forget.ensures.keys_are ∙ c.read_again.ensures.part.lasting_is))
    (subst (λ (b : Bool). Rereads (lasting c.args.self.now.keys) image (Ok b)) c.in-Ok-true.field-0-test (c.in-Ok-true.ensures.reads image left))

pub returns-in-Err-Memory-clause-serves : goal.returns-in-Err-Memory-clause-serves
returns-in-Err-Memory-clause-serves g c = unread_tables c.args.self.now c.read_again.new.self c.in-Err-Memory.ensures.taken
