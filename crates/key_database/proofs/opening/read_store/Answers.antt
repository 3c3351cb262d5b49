-- What was read behind the marks.
use Rattle.std.proofs.lemmas.Result.{err_from_is_err_and}
use Rattle.journal_compact.specs.Formats.{HasFormat, kinds_in, limit_in, start_in}
use Rattle.lasting_table.specs.TableView.{lasting_in}
use Rattle.key_database.proofs.Opened.{bad_replay, format_fewer, keeps_found, no_marks}
use Rattle.key_database.proofs.opening.read_store.Goals as goal

pub returns-in_err-format-clause-reads : goal.returns-in_err-format-clause-reads
returns-in_err-format-clause-reads g c =
    let p = err_from_is_err_and c.from_residual.result c.from_residual.ensures.1 in
    rw (p.1, p.2) (no_marks g.D.Disk c.find_store.new.disk _ c.in_err-format.ensures.missing)

pub returns-in_err-table-clause-reads : goal.returns-in_err-table-clause-reads
returns-in_err-table-clause-reads g c =
    let format = c.in_ok-format.format in
    let p = err_from_is_err_and c.from_residual-in_err-table.result c.from_residual-in_err-table.ensures.1 in
    let has : HasFormat g.D.Disk c.replay.new.disk format = format_fewer g.D.Disk c.find_store.new.disk c.replay.new.disk format c.replay.ensures.goes.images c.in_ok-format.ensures.marked in
    rw (p.1, p.2) (bad_replay g.D.Disk c.replay.new.disk format has c.replay.new.reading _ (c.in_err-table.ensures.replays (start_in format) (limit_in format) (kinds_in format) c.in_ok-format.ensures.begins))

pub found_at-requires-clause-start : goal.found_at-requires-clause-start
found_at-requires-clause-start g c =
    let format = c.in_ok-format.format in
    (c.in_ok-table.ensures.replays (start_in format) (limit_in format) (kinds_in format) c.in_ok-format.ensures.begins).through.over.start_is

pub found_at-requires-clause-limit : goal.found_at-requires-clause-limit
found_at-requires-clause-limit g c =
    let format = c.in_ok-format.format in
    (c.in_ok-table.ensures.replays (start_in format) (limit_in format) (kinds_in format) c.in_ok-format.ensures.begins).through.over.limit_is

pub returns-clause-reads : goal.returns-clause-reads
returns-clause-reads g c =
    let format = c.in_ok-format.format in
    let has : HasFormat g.D.Disk c.replay.new.disk format = format_fewer g.D.Disk c.find_store.new.disk c.replay.new.disk format c.replay.ensures.goes.images c.in_ok-format.ensures.marked in
    keeps_found g.D.Disk c.replay.new.disk format has c.replay.new.reading c.found_at.result (lasting_in c.in_ok-table.table)
    (c.in_ok-table.ensures.replays (start_in format) (limit_in format) (kinds_in format) c.in_ok-format.ensures.begins) c.found_at.ensures
