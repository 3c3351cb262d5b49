use Rattle.std.proofs.Common.{arith}
use Rattle.lasting_table.specs.TableView.{lasting_in}
use Rattle.key_database.proofs.Compacted.{added, turn_added, turn_failed}
use Rattle.key_database.proofs.Sizes.{small_record}
use Rattle.std.proofs.Common.{◌∙◌}
use Rattle.key_database.proofs.Addings.{steps_on}
use Rattle.key_database.proofs.Steps.{added_surely}
use Rattle.key_database.specs.Stands.{part_after}
use Rattle.journal_compact.specs.Holding.{write_state}
use Rattle.key_database.proofs.appending.write_change.Goals as goal

pub compact_if_due-requires-clause-small : goal.compact_if_due-requires-clause-small
compact_if_due-requires-clause-small g c = omega (arith, c.framed_length.ensures, small_record (lasting_in c.args.table.now) c.args.change.now c.requires.met)

pub append_change-requires-clause-small : goal.append_change-requires-clause-small
append_change-requires-clause-small g c = small_record (lasting_in c.args.table.now) c.args.change.now c.requires.met

pub returns-in-Err-clause-writes : goal.returns-in-Err-clause-writes
returns-in-Err-clause-writes g c = λ kept.
    turn_failed g.D.Disk c.compact_if_due.new.areas c.args.disk.now c.compact_if_due.new.disk (lasting_in c.args.table.now) c.args.change.now (c.compact_if_due.ensures.passes kept) _ (c.in-Err.ensures.turned kept)

pub returns-in-Ok-clause-writes : goal.returns-in-Ok-clause-writes
returns-in-Ok-clause-writes g c = λ kept.
    turn_added g.D.Disk c.append_change.new.areas c.args.disk.now c.compact_if_due.new.disk (lasting_in c.args.table.now) c.args.change.now (c.compact_if_due.ensures.passes kept) c.append_change.result c.append_change.new.disk
    c.compact_if_due.ensures.goes.sure
    (added g.D.Disk c.compact_if_due.new.areas c.append_change.new.areas c.compact_if_due.new.disk c.append_change.new.disk (lasting_in c.args.table.now) c.args.change.now c.requires.met (c.in-Ok.ensures.turned kept)
    c.append_change.result (λ frame past settled. c.append_change.ensures.appends frame past settled))

pub returns-in-Ok-clause-surely : goal.returns-in-Ok-clause-surely
returns-in-Ok-clause-surely g c = λ kept sure told.
    let part = lasting_in c.args.table.now in
    let sure_on = c.compact_if_due.ensures.goes.sure sure in
    let told_on = c.compact_if_due.ensures.goes.telling ∙ told in
    steps_on g.D.Disk c.args.areas.now c.compact_if_due.new.areas c.append_change.new.areas c.args.disk.now c.compact_if_due.new.disk c.append_change.new.disk part part
    (part_after c.args.change.now (write_state c.append_change.result) part) (c.compact_if_due.ensures.surely kept sure told)
    (added_surely g.D.Disk g.met.D.Disk.content_is_image c.compact_if_due.new.areas c.append_change.new.areas c.compact_if_due.new.disk c.append_change.new.disk part sure_on (c.append_change.ensures.goes.telling ∙ told_on)
    (c.in-Ok.ensures.turned kept) c.args.change.now c.requires.met (c.append_change.ensures.fields, c.requires.short) c.append_change.ensures.same c.append_change.ensures.compactions c.append_change.result
    (λ frame past settled. c.append_change.ensures.appends frame past settled) c.append_change.ensures.end (c.append_change.ensures.goes.sure sure_on))
