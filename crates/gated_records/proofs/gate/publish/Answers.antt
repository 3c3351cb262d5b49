-- The exits of a publishing.
use Rattle.std.proofs.Common.{inl, ◌+◌, false, true, arith}
use Rattle.ks_outside.proofs.Goings.{goes_on}
use Rattle.ks_outside.proofs.Joins.{passes_as, passes_on}
use Rattle.gated_records.specs.Areas.{IsWithOrWithout}
use Rattle.gated_records.proofs.PlaceLemmas.{piece_is}
use Rattle.gated_records.proofs.Staging.{stays_all, staged_all, shut_all, gate_all, counts_all}
use Rattle.gated_records.proofs.Outside.{within, keeps_one, passes_one, passes_two}
use Rattle.gated_records.proofs.gate.publish.Goals as goal

pub returns-in_default-clause-torn : goal.returns-in_default-clause-torn
returns-in_default-clause-torn g c = λ start records more area is image left.
    inl (stays_all start c.args.at records more area.place g.D.Disk c.args.disk.now _ area.images image (c.write_synced.ensures.torn image left))

pub returns-in_default-clause-passes : goal.returns-in_default-clause-passes
returns-in_default-clause-passes g c = λ start records more area is.
    passes_as g.D.Disk c.args.disk.now c.write_synced.new.disk _ (IsWithOrWithout start records more) c.write_synced.ensures.passes
    (λ image torn. inl (stays_all start c.args.at records more area.place g.D.Disk c.args.disk.now _ area.images image torn))

pub returns-in_default-clause-nothing : goal.returns-in_default-clause-nothing
returns-in_default-clause-nothing g c = λ start records more area is sure image left.
    stays_all start c.args.at records more area.place g.D.Disk c.args.disk.now _ area.images image (c.write_synced.ensures.torn image left)

pub returns-in_default-write_synced-clause-torn : goal.returns-in_default-write_synced-clause-torn
returns-in_default-write_synced-clause-torn g c = λ start records more area is image left.
    let staged = staged_all start c.args.at records more area.place g.D.Disk c.args.disk.now c.write_synced.new.disk _ (piece_is more c.args.closed.now is) area.images c.in-Ok.ensures.written in
    gate_all start c.args.at records more area.place g.D.Disk c.write_synced.new.disk staged image (c.write_synced-2.ensures.torn image left)

pub returns-in_default-write_synced-clause-passes : goal.returns-in_default-write_synced-clause-passes
returns-in_default-write_synced-clause-passes g c = λ start records more area is.
    let staged = staged_all start c.args.at records more area.place g.D.Disk c.args.disk.now c.write_synced.new.disk _ (piece_is more c.args.closed.now is) area.images c.in-Ok.ensures.written in
    passes_on g.D.Disk c.args.disk.now c.write_synced.new.disk c.write_synced-2.new.disk _ _ (IsWithOrWithout start records more) c.write_synced.ensures.passes c.write_synced-2.ensures.passes
    (λ image torn. inl (stays_all start c.args.at records more area.place g.D.Disk c.args.disk.now _ area.images image torn))
    (λ image torn. gate_all start c.args.at records more area.place g.D.Disk c.write_synced.new.disk staged image torn)

pub returns-in_default-write_synced-clause-nothing : goal.returns-in_default-write_synced-clause-nothing
returns-in_default-write_synced-clause-nothing g c = λ start records more area is sure.
    let staged = staged_all start c.args.at records more area.place g.D.Disk c.args.disk.now c.write_synced.new.disk _ (piece_is more c.args.closed.now is) area.images c.in-Ok.ensures.written in
    shut_all start c.args.at records more area.place g.D.Disk c.write_synced.new.disk c.write_synced-2.new.disk staged
    (c.in_default-write_synced.ensures.nothing (c.write_synced.ensures.goes.sure sure))

pub returns-clause-done : goal.returns-clause-done
returns-clause-done g c = λ start records more area is.
    let staged = staged_all start c.args.at records more area.place g.D.Disk c.args.disk.now c.write_synced.new.disk _ (piece_is more c.args.closed.now is) area.images c.in-Ok.ensures.written in
    counts_all start c.args.at records more area.place g.D.Disk c.write_synced.new.disk c.write_synced-2.new.disk staged c.in-Ok-write_synced.ensures.written

pub returns-clause-passes : goal.returns-clause-passes
returns-clause-passes g c = λ start records more area is.
    let staged = staged_all start c.args.at records more area.place g.D.Disk c.args.disk.now c.write_synced.new.disk _ (piece_is more c.args.closed.now is) area.images c.in-Ok.ensures.written in
    passes_on g.D.Disk c.args.disk.now c.write_synced.new.disk c.write_synced-2.new.disk _ _ (IsWithOrWithout start records more) c.write_synced.ensures.passes c.write_synced-2.ensures.passes
    (λ image torn. inl (stays_all start c.args.at records more area.place g.D.Disk c.args.disk.now _ area.images image torn))
    (λ image torn. gate_all start c.args.at records more area.place g.D.Disk c.write_synced.new.disk staged image torn)

pub returns-in_default-write_synced-clause-goes : goal.returns-in_default-write_synced-clause-goes
returns-in_default-write_synced-clause-goes g c = goes_on g.D.Disk c.args.disk.now c.write_synced.new.disk c.write_synced-2.new.disk true c.in-Ok.ensures.goes c.in_default-write_synced.ensures.goes

pub returns-clause-goes : goal.returns-clause-goes
returns-clause-goes g c = goes_on g.D.Disk c.args.disk.now c.write_synced.new.disk c.write_synced-2.new.disk false c.in-Ok.ensures.goes c.in-Ok-write_synced.ensures.goes

-- what stands outside stays

pub returns-in_default-clause-keeps : goal.returns-in_default-clause-keeps
returns-in_default-clause-keeps g c = λ place bytes out all.
    keeps_one g.D.Disk place bytes c.args.disk.now c.write_synced.new.disk (c.args.at + 1) _ (within place bytes c.args.at _ (c.args.at + 1) _ out (omega arith) (omega (arith, c.requires.some))) all c.write_synced.ensures.torn

pub returns-in_default-clause-keeps_passing : goal.returns-in_default-clause-keeps_passing
returns-in_default-clause-keeps_passing g c = λ place bytes out all.
    passes_one g.D.Disk place bytes c.args.disk.now c.write_synced.new.disk (c.args.at + 1) _ (within place bytes c.args.at _ (c.args.at + 1) _ out (omega arith) (omega (arith, c.requires.some))) all c.write_synced.ensures.passes

pub returns-in_default-write_synced-clause-keeps : goal.returns-in_default-write_synced-clause-keeps
returns-in_default-write_synced-clause-keeps g c = λ place bytes out all.
    keeps_one g.D.Disk place bytes c.write_synced.new.disk c.write_synced-2.new.disk c.args.at 1 (within place bytes c.args.at _ c.args.at 1 out (omega arith) (omega (arith, c.requires.some)))
    (keeps_one g.D.Disk place bytes c.args.disk.now c.write_synced.new.disk (c.args.at + 1) _ (within place bytes c.args.at _ (c.args.at + 1) _ out (omega arith) (omega (arith, c.requires.some))) all c.write_synced.ensures.torn)
    c.write_synced-2.ensures.torn

pub returns-in_default-write_synced-clause-keeps_passing : goal.returns-in_default-write_synced-clause-keeps_passing
returns-in_default-write_synced-clause-keeps_passing g c = λ place bytes out all.
    passes_two g.D.Disk place bytes c.args.disk.now c.write_synced.new.disk c.write_synced-2.new.disk (c.args.at + 1) _ c.args.at 1 (within place bytes c.args.at _ (c.args.at + 1) _ out (omega arith) (omega (arith, c.requires.some))) (within place bytes c.args.at _ c.args.at 1 out (omega arith) (omega (arith, c.requires.some)))
    all c.write_synced.ensures.torn c.write_synced.ensures.passes c.write_synced-2.ensures.passes

pub returns-clause-keeps : goal.returns-clause-keeps
returns-clause-keeps g c = λ place bytes out all.
    keeps_one g.D.Disk place bytes c.write_synced.new.disk c.write_synced-2.new.disk c.args.at 1 (within place bytes c.args.at _ c.args.at 1 out (omega arith) (omega (arith, c.requires.some)))
    (keeps_one g.D.Disk place bytes c.args.disk.now c.write_synced.new.disk (c.args.at + 1) _ (within place bytes c.args.at _ (c.args.at + 1) _ out (omega arith) (omega (arith, c.requires.some))) all c.write_synced.ensures.torn)
    c.write_synced-2.ensures.torn

pub returns-clause-keeps_passing : goal.returns-clause-keeps_passing
returns-clause-keeps_passing g c = λ place bytes out all.
    passes_two g.D.Disk place bytes c.args.disk.now c.write_synced.new.disk c.write_synced-2.new.disk (c.args.at + 1) _ c.args.at 1 (within place bytes c.args.at _ (c.args.at + 1) _ out (omega arith) (omega (arith, c.requires.some))) (within place bytes c.args.at _ c.args.at 1 out (omega arith) (omega (arith, c.requires.some)))
    all c.write_synced.ensures.torn c.write_synced.ensures.passes c.write_synced-2.ensures.passes
