use Rattle.journal_records.specs.declared.record.Record.TheVariants as records
use Rattle.journal_compact.specs.Holding.{selected_of}
use Rattle.key_database.proofs.RecordKinds.{change_kind}
use Rattle.key_database.proofs.appending.append_change.Goals as goal

pub returns-clause-appends : goal.returns-clause-appends
returns-clause-appends g c = λ frame past settled.
    c.append.ensures.appends frame past (records.Change c.args.change.now) settled
    (c.frame_into-count.ensures.fields, c.requires.short, change_kind frame c.args.change.now (record { selected = selected_of c.args.areas.now; of = settled.is_frame })) c.frame_into-count.ensures.front
