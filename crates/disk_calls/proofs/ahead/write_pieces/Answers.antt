use Rattle.std.proofs.Common.{◌+◌, ◌++◌, ◌∙◌, true, length, arith}
use Rattle.std.proofs.lemmas.List.{take-append-drop}
use Rattle.ks_outside.proofs.Goings.{goes_on}
use Rattle.disk_calls.proofs.Underway.{torn_more, passes_more, underway_on}
use Rattle.disk_calls.proofs.ahead.write_pieces.Goals as goal

pub returns-in_default-clause-torn : goal.returns-in_default-clause-torn
returns-in_default-clause-torn g c =
    torn_more g.D.Disk c.args.disk.now c.pieces.disk c.write_ahead.new.disk c.args.at c.pieces.place (length c.split_at.result.0.now) c.args.bytes.now c.pieces.rest.now c.pieces.invariant
    (omega (arith, c.split_at.ensures.front_len, c.pieces-test.true)) c.write_ahead.ensures.torn

pub returns-in_default-clause-passes : goal.returns-in_default-clause-passes
returns-in_default-clause-passes g c =
    passes_more g.D.Disk c.args.disk.now c.pieces.disk c.write_ahead.new.disk c.args.at c.pieces.place (length c.split_at.result.0.now) c.args.bytes.now c.pieces.rest.now c.pieces.invariant
    (omega (arith, c.split_at.ensures.front_len, c.pieces-test.true)) c.write_ahead.ensures.passes

pub returns-in_default-clause-goes : goal.returns-in_default-clause-goes
returns-in_default-clause-goes g c = goes_on g.D.Disk c.args.disk.now c.pieces.disk c.write_ahead.new.disk true c.pieces.invariant.goes c.in_default.ensures.goes

pub pieces-preserved : goal.pieces-preserved
pieces-preserved g c =
    let cut = (λ i. c.split_at.ensures.front i ++ c.split_at.ensures.back i) ∙ take-append-drop 65536 c.pieces.rest.now in
    underway_on g.D.Disk c.args.disk.now c.pieces.disk c.write_ahead.new.disk c.args.at c.pieces.place (c.pieces.place + 65536) c.args.bytes.now c.pieces.rest.now c.split_at.result.0.now c.split_at.result.1.now
    c.pieces.invariant cut (omega (arith, c.split_at.ensures.front_len)) c.in-Ok.ensures.ahead c.write_ahead.ensures.torn c.write_ahead.ensures.passes c.in-Ok.ensures.goes

pub returns-clause-torn : goal.returns-clause-torn
returns-clause-torn g c =
    torn_more g.D.Disk c.args.disk.now c.pieces.disk c.write_ahead-2.new.disk c.args.at c.pieces.place (length c.pieces.rest.now) c.args.bytes.now c.pieces.rest.now c.pieces.invariant (omega arith) c.write_ahead-2.ensures.torn

pub returns-clause-passes : goal.returns-clause-passes
returns-clause-passes g c =
    passes_more g.D.Disk c.args.disk.now c.pieces.disk c.write_ahead-2.new.disk c.args.at c.pieces.place (length c.pieces.rest.now) c.args.bytes.now c.pieces.rest.now c.pieces.invariant (omega arith) c.write_ahead-2.ensures.passes
