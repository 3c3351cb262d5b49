use Rattle.std.proofs.Common.{sym, ◌∙◌}
use Rattle.lasting_table.specs.TableView.{lasting_in}
use Rattle.key_database.specs.Stands.{KeepsJournal, KeepsPart, kept_stands, lasting}
use Rattle.key_database.proofs.Applied.{passes_held}
use Rattle.journal_compact.proofs.Surely.{told_image}
use Rattle.key_database.proofs.Opened.{bad_image, no_fault_found}
use Rattle.key_database.proofs.Rereading.{bad_reread, fewer_holds, no_other, not_older, same_found}
use Rattle.std.proofs.Common.{◌≡◌, inl, refl, ap, subst}
use Rattle.journal_records.specs.Holding.{known}
use Rattle.journal_records.specs.LastingPart.{Lasting}
use Rattle.journal_compact.specs.Holding.{place_of}
use Rattle.key_database.specs.Stands.{areas_of}
use Rattle.key_database.proofs.Steps.{going_on, held_surely, reads_surely, reread_holds, reread_surely}
use Rattle.key_database.proofs.database.KeyDatabase.read_again.Goals as goal

pub returns-then-not-same-clause-holds : goal.returns-then-not-same-clause-holds
returns-then-not-same-clause-holds g c = λ held h. fewer_holds g.D.Disk c.args.disk.now c.read_store.new.disk c.read_store.ensures.goes.images c.args.self.now held h

pub returns-then-not-same-clause-passes : goal.returns-then-not-same-clause-passes
returns-then-not-same-clause-passes g c = λ held h. passes_held g.D.Disk c.args.self.now c.args.disk.now c.read_store.new.disk held h c.read_store.ensures.goes.passes

pub returns-then-not-same-clause-same : goal.returns-then-not-same-clause-same
returns-then-not-same-clause-same g c = λ held h told.
    let read = lasting_in c.in-Ok-Areas-default.table in
    let kept : KeepsPart g.D.Disk c.in-Ok-Areas-default.areas c.read_store.new.disk read = rw c.in-Ok-Areas-default.field-0-0-is at c.in-Ok-Areas-default.ensures.reads in
    let image = told_image g.D.Disk c.read_store.new.disk g.met.D.Disk.content_is_image (c.read_store.ensures.goes.goes.telling ∙ told) in
    let stands = kept_stands g.D.Disk c.in-Ok-Areas-default.areas c.read_store.new.disk read kept image.0 image.1 in
    let found = same_found g.D.Disk c.args.self.now c.args.disk.now c.requires held h read
    (λ part all. c.one_store.ensures.part read part image.0 stands (all image.0 (c.read_store.ensures.goes.images image.0 image.1))) in
    sym c.if-not-same.true ∙ c.same-same.ensures.no found

pub returns-else-not-same-clause-passes : goal.returns-else-not-same-clause-passes
returns-else-not-same-clause-passes g c = λ held h. passes_held g.D.Disk c.args.self.now c.args.disk.now c.read_store.new.disk held h c.read_store.ensures.goes.passes

pub returns-in-Ok-Journal-default-clause-holds : goal.returns-in-Ok-Journal-default-clause-holds
returns-in-Ok-Journal-default-clause-holds g c = λ held h. fewer_holds g.D.Disk c.args.disk.now c.read_store.new.disk c.read_store.ensures.goes.images c.args.self.now held h

pub returns-in-Ok-Journal-default-clause-passes : goal.returns-in-Ok-Journal-default-clause-passes
returns-in-Ok-Journal-default-clause-passes g c = λ held h. passes_held g.D.Disk c.args.self.now c.args.disk.now c.read_store.new.disk held h c.read_store.ensures.goes.passes

pub returns-in-Ok-Journal-default-clause-same : goal.returns-in-Ok-Journal-default-clause-same
returns-in-Ok-Journal-default-clause-same g c = λ held h told.
    let journal : KeepsJournal g.D.Disk c.read_store.new.disk (lasting_in c.in-Ok-Journal-default.table) = rw c.in-Ok-Journal-default.field-0-0-is at c.in-Ok-Journal-default.ensures.reads in
    let image = told_image g.D.Disk c.read_store.new.disk g.met.D.Disk.content_is_image (c.read_store.ensures.goes.goes.telling ∙ told) in
    absurd (not_older g.D.Disk c.args.self.now c.args.disk.now c.requires held h c.one_format.ensures.frame image.0 (c.read_store.ensures.goes.images image.0 image.1) (journal.images image.0 image.1).marked)

pub returns-in-Err-clause-holds : goal.returns-in-Err-clause-holds
returns-in-Err-clause-holds g c = λ held h. fewer_holds g.D.Disk c.args.disk.now c.read_store.new.disk c.read_store.ensures.goes.images c.args.self.now held h

pub returns-in-Err-clause-passes : goal.returns-in-Err-clause-passes
returns-in-Err-clause-passes g c = λ held h. passes_held g.D.Disk c.args.self.now c.args.disk.now c.read_store.new.disk held h c.read_store.ensures.goes.passes

pub returns-in-Err-clause-reads : goal.returns-in-Err-clause-reads
returns-in-Err-clause-reads g c = λ image left. bad_reread g.D.Disk c.read_store.new.disk (lasting c.args.self.now) c.in-Err.fault (rw c.in-Err.is at c.read_store.ensures.reads) image left

pub returns-in-Err-clause-same : goal.returns-in-Err-clause-same
returns-in-Err-clause-same g c = λ held h told.
    let image = told_image g.D.Disk c.read_store.new.disk g.met.D.Disk.content_is_image (c.read_store.ensures.goes.goes.telling ∙ told) in
    no_other g.D.Disk c.args.self.now c.args.disk.now c.requires held h c.in-Err.fault
    (λ part all. no_fault_found part c.in-Err.fault image.0 (λ offset. c.one_store.ensures.sound part offset image.0 (all image.0 (c.read_store.ensures.goes.images image.0 image.1)))
    (bad_image g.D.Disk c.read_store.new.disk c.in-Err.fault image.0 (rw c.in-Err.is at c.read_store.ensures.reads) image.1))

pub returns-then-not-same-clause-surely : goal.returns-then-not-same-clause-surely
returns-then-not-same-clause-surely g c = λ held h sure told.
    let goes = c.read_store.ensures.goes.goes in
    let keeps = held_surely g.D.Disk c.args.self.now c.args.disk.now held c.requires h sure told in
    reads_surely g.D.Disk g.met.D.Disk.content_is_image (areas_of c.args.self.now) (areas_of c.args.self.now) c.args.disk.now c.read_store.new.disk (known held) keeps c.read_store.ensures.goes.images
    (goes.telling ∙ told) (goes.sure sure) refl

pub returns-in-Ok-Journal-default-clause-surely : goal.returns-in-Ok-Journal-default-clause-surely
returns-in-Ok-Journal-default-clause-surely g c = λ held h sure told.
    let goes = c.read_store.ensures.goes.goes in
    let keeps = held_surely g.D.Disk c.args.self.now c.args.disk.now held c.requires h sure told in
    reads_surely g.D.Disk g.met.D.Disk.content_is_image (areas_of c.args.self.now) (areas_of c.args.self.now) c.args.disk.now c.read_store.new.disk (known held) keeps c.read_store.ensures.goes.images
    (goes.telling ∙ told) (goes.sure sure) refl

pub returns-in-Err-clause-surely : goal.returns-in-Err-clause-surely
returns-in-Err-clause-surely g c = λ held h sure told.
    let goes = c.read_store.ensures.goes.goes in
    let keeps = held_surely g.D.Disk c.args.self.now c.args.disk.now held c.requires h sure told in
    reads_surely g.D.Disk g.met.D.Disk.content_is_image (areas_of c.args.self.now) (areas_of c.args.self.now) c.args.disk.now c.read_store.new.disk (known held) keeps c.read_store.ensures.goes.images
    (goes.telling ∙ told) (goes.sure sure) refl

pub returns-else-not-same-clause-holds : goal.returns-else-not-same-clause-holds
returns-else-not-same-clause-holds g c = λ held h.
    let read = lasting_in c.in-Ok-Areas-default.table in
    let found = c.in-Ok-Areas-default.areas in
    let went = c.going_on-self.ensures in
    let same = c.same-same.ensures.yes c.if-not-same.false in
    let kept : KeepsPart g.D.Disk found c.read_store.new.disk read = rw c.in-Ok-Areas-default.field-0-0-is at c.in-Ok-Areas-default.ensures.reads in
    let kept_on = going_on g.D.Disk found c.going_on-self.result c.read_store.new.disk (lasting c.args.self.now) read went.selected went.area went.turn same kept in
    reread_holds g.D.Disk c.args.self.now c.args.disk.now c.requires _ c.read_store.new.disk held h kept_on refl

pub returns-else-not-same-clause-taken : goal.returns-else-not-same-clause-taken
returns-else-not-same-clause-taken g c =
    let read = lasting_in c.in-Ok-Areas-default.table in
    let found = c.in-Ok-Areas-default.areas in
    let went = c.going_on-self.ensures in
    let same = c.same-same.ensures.yes c.if-not-same.false in
    let kept : KeepsPart g.D.Disk found c.read_store.new.disk read = rw c.in-Ok-Areas-default.field-0-0-is at c.in-Ok-Areas-default.ensures.reads in
    let kept_on = going_on g.D.Disk found c.going_on-self.result c.read_store.new.disk (lasting c.args.self.now) read went.selected went.area went.turn same kept in
    kept_on

pub returns-else-not-same-clause-surely : goal.returns-else-not-same-clause-surely
returns-else-not-same-clause-surely g c = λ held h sure told.
    let goes = c.read_store.ensures.goes.goes in
    let read = lasting_in c.in-Ok-Areas-default.table in
    let found = c.in-Ok-Areas-default.areas in
    let went = c.going_on-self.ensures in
    let same = c.same-same.ensures.yes c.if-not-same.false in
    let kept : KeepsPart g.D.Disk found c.read_store.new.disk read = rw c.in-Ok-Areas-default.field-0-0-is at c.in-Ok-Areas-default.ensures.reads in
    let kept_on = going_on g.D.Disk found c.going_on-self.result c.read_store.new.disk (lasting c.args.self.now) read went.selected went.area went.turn same kept in
    reread_surely g.D.Disk c.args.self.now c.args.disk.now c.requires g.met.D.Disk.content_is_image found c.going_on-self.result c.read_store.new.disk read held h sure told
    c.read_store.ensures.goes.images (goes.telling ∙ told) (goes.sure sure) kept kept_on went.selected went.area went.compactions
