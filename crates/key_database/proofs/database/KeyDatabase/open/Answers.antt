-- What was read, and what bringing it to areas keeps.
use Rattle.std.proofs.Common.{◌∙◌}
use Rattle.lasting_table.specs.TableView.{lasting_in}
use Rattle.key_database.proofs.Adopted.{brings_open, brings_read, reads_newer, stays_open}
use Rattle.journal_compact.proofs.Surely.{told_image}
use Rattle.key_database.proofs.Opened.{bad_image, found_stands, no_fault_found}
use Rattle.key_database.proofs.database.KeyDatabase.open.Goals as goal

pub returns-in-Err-clause-reads : goal.returns-in-Err-clause-reads
returns-in-Err-clause-reads g c = λ image left. bad_image g.D.Disk c.read_store.new.disk c.in-Err.fault image c.in-Err.ensures.reads left

pub returns-in-Err-clause-stands : goal.returns-in-Err-clause-stands
returns-in-Err-clause-stands g c = λ part all told.
    let image = told_image g.D.Disk c.read_store.new.disk g.met.D.Disk.content_is_image (c.in-Err.ensures.goes.goes.telling ∙ told) in
    no_fault_found part c.in-Err.fault image.0 (λ offset. c.one_store.ensures.sound part offset image.0 (all image.0 (c.in-Err.ensures.goes.images image.0 image.1)))
    (bad_image g.D.Disk c.read_store.new.disk c.in-Err.fault image.0 c.in-Err.ensures.reads image.1)

pub returns-in-Ok-to_areas-clause-stands : goal.returns-in-Ok-to_areas-clause-stands
returns-in-Ok-to_areas-clause-stands g c = λ part all told.
    let image = told_image g.D.Disk c.read_store.new.disk g.met.D.Disk.content_is_image (c.in-Ok.ensures.goes.goes.telling ∙ told) in
    c.one_store.ensures.part (lasting_in c.in-Ok.read.1) part image.0 (found_stands g.D.Disk c.read_store.new.disk c.in-Ok.read.0 (lasting_in c.in-Ok.read.1) c.in-Ok.ensures.reads image.0 image.1)
    (all image.0 (c.in-Ok.ensures.goes.images image.0 image.1))

pub returns-in-Ok-to_areas-clause-stays : goal.returns-in-Ok-to_areas-clause-stays
returns-in-Ok-to_areas-clause-stays g c =
    stays_open g.D.Disk c.args.disk.now c.read_store.new.disk c.in-Ok.ensures.goes c.to_areas.new.disk c.in-Ok.read.0 (lasting_in c.in-Ok.read.1) c.in-Ok.ensures.reads c.to_areas.ensures.comes
    c.one_store.ensures.part (c.to_areas.ensures.stays c.in-Ok.ensures.reads)

pub returns-in-Ok-to_areas-clause-newer : goal.returns-in-Ok-to_areas-clause-newer
returns-in-Ok-to_areas-clause-newer g c =
    reads_newer g.D.Disk c.args.disk.now c.read_store.new.disk c.in-Ok.ensures.goes c.to_areas.new.disk c.in-Ok.read.0 (lasting_in c.in-Ok.read.1) c.in-Ok.ensures.reads c.to_areas.ensures.comes
    _ c.in-Ok-to_areas.ensures.goes c.one_format.ensures.older (λ areas. (c.to_areas.ensures.unwritten areas).0)

pub returns-in-Err-to_areas-clause-stays : goal.returns-in-Err-to_areas-clause-stays
returns-in-Err-to_areas-clause-stays g c =
    stays_open g.D.Disk c.args.disk.now c.read_store.new.disk c.in-Ok.ensures.goes c.to_areas.new.disk c.in-Ok.read.0 (lasting_in c.in-Ok.read.1) c.in-Ok.ensures.reads c.to_areas.ensures.comes
    c.one_store.ensures.part (c.to_areas.ensures.stays c.in-Ok.ensures.reads)

pub returns-in-Err-to_areas-clause-newer : goal.returns-in-Err-to_areas-clause-newer
returns-in-Err-to_areas-clause-newer g c =
    reads_newer g.D.Disk c.args.disk.now c.read_store.new.disk c.in-Ok.ensures.goes c.to_areas.new.disk c.in-Ok.read.0 (lasting_in c.in-Ok.read.1) c.in-Ok.ensures.reads c.to_areas.ensures.comes
    _ c.in-Err-to_areas.ensures.goes c.one_format.ensures.older (λ areas. (c.to_areas.ensures.unwritten areas).0)

pub returns-in-Err-clause-brings : goal.returns-in-Err-clause-brings
returns-in-Err-clause-brings g c = brings_read g.D.Disk c.args.disk.now c.read_store.new.disk _ c.in-Err.ensures.goes

pub returns-in-Ok-to_areas-clause-brings : goal.returns-in-Ok-to_areas-clause-brings
returns-in-Ok-to_areas-clause-brings g c =
    brings_open g.D.Disk c.args.disk.now c.read_store.new.disk c.in-Ok.ensures.goes c.to_areas.new.disk c.in-Ok.read.0 (lasting_in c.in-Ok.read.1) c.in-Ok.ensures.reads c.to_areas.ensures.comes
    (c.to_areas.ensures.stays c.in-Ok.ensures.reads) c.one_format.ensures.older (λ areas. (c.to_areas.ensures.unwritten areas).0)

pub returns-in-Err-to_areas-clause-brings : goal.returns-in-Err-to_areas-clause-brings
returns-in-Err-to_areas-clause-brings g c =
    brings_open g.D.Disk c.args.disk.now c.read_store.new.disk c.in-Ok.ensures.goes c.to_areas.new.disk c.in-Ok.read.0 (lasting_in c.in-Ok.read.1) c.in-Ok.ensures.reads c.to_areas.ensures.comes
    (c.to_areas.ensures.stays c.in-Ok.ensures.reads) c.one_format.ensures.older (λ areas. (c.to_areas.ensures.unwritten areas).0)
