use Rattle.std.proofs.Common.{◌≡◌, ◌+◌, ◌-◌, ◌<◌, ◌∙◌, true, false, length, ap, arith, length-append, length-drop}
use Rattle.ks_outside.proofs.Shown.{counts_none, counts_on}
use Rattle.keystore_run.proofs.Going.{begins, cut_line, ends_amid, ends_empty, ends_last, fills, held_line, is_some_length, is_zero, passes, short_line, taken_feed, taken_last, whole_line}
use Rattle.keystore_run.proofs.LineLemmas.{free_whole}
use Rattle.keystore_run.proofs.run.serve_script.Goals as goal

pub lines-init : goal.lines-init
lines-init g c = record {
  going = λ setup begin for leaves. begins g.S.Source g.K.Sink g.D.Disk g.N.Entropy g.met.D.Disk.only_now c.args.written setup begin _ c.args.session.now c.args.reader.now.bytes c.args.reader.now.taken for leaves c.requires.nothing c.requires.untaken;
  entries = omega (arith, c.requires.fresh);
  bytes = omega (arith, ap length c.requires.nothing, c.requires.untaken);
  taken = omega (arith, c.requires.untaken);
  source = counts_none _;
  sink = counts_none _;
}

pub returns-in-Err-clause-ends : goal.returns-in-Err-clause-ends
returns-in-Err-clause-ends g c = λ setup begin for leaves.
    let more = c.in-Line.ensures.bytes in
    let going = fills g.S.Source g.K.Sink g.D.Disk g.N.Entropy g.met.D.Disk.only_now c.args.written setup _ _ c.fill.new.source _ _ c.fill.new.self.bytes more.0 _ c.fill.new.self.taken _ false (c.lines.invariant.going setup begin for leaves) more.1 more.2 more.3 in
    let found = c.in-Line.ensures.found in
    (cut_line g.S.Source g.K.Sink g.D.Disk g.N.Entropy g.met.D.Disk.only_now c.in-Err.halt _ c.args.written setup _ _ c.serve_line.new.sink c.serve_line.new.disk c.serve_line.new.entropy _ _ _ _ _ _ _ c.status.ensures going c.fill.ensures.taken
    (held_line c.fill.new.self.bytes c.in-Line.count found.feed) (short_line c.fill.new.self.bytes c.in-Line.count found.feed found.short) (taken_feed _ going.lines c.fill.new.self.bytes c.in-Line.count found.feed)
    c.line-line.ensures (c.in-Err.ensures.serves setup going.past going.stands))

pub lines-preserved : goal.lines-preserved
lines-preserved g c =
    let more = c.in-Line.ensures.bytes in
    let found = c.in-Line.ensures.found in
    let grown : length c.fill.new.self.bytes ≡ length c.lines.reader.bytes + length more.0 = ap length more.1 ∙ length-append c.lines.reader.bytes more.0 in
    let left : length c.pass.new.self.bytes ≡ length c.fill.new.self.bytes - (c.in-Line.count + 1) =
    ap length c.pass.ensures.bytes ∙ length-drop (c.in-Line.count + 1) c.fill.new.self.bytes in
    record {
      going = λ setup begin for leaves.
          let going = fills g.S.Source g.K.Sink g.D.Disk g.N.Entropy g.met.D.Disk.only_now c.args.written setup _ _ c.fill.new.source _ _ c.fill.new.self.bytes more.0 _ c.fill.new.self.taken _ false (c.lines.invariant.going setup begin for leaves) more.1 more.2 more.3 in
          rw (c.pass.ensures.bytes, c.pass.ensures.taken)
          (passes g.S.Source g.K.Sink g.D.Disk g.N.Entropy g.met.D.Disk.only_now c.args.written setup _ _ c.serve_line.new.sink c.serve_line.new.disk c.serve_line.new.entropy _ _ _ _ _ c.in-Line.count going found.feed found.short
          (rw c.line-line.ensures at (c.in_default.ensures.serves setup going.past going.stands)));
      entries = omega (arith, c.serve_line.ensures.entries, c.lines.invariant.entries);
      bytes = omega (arith, grown, left, more.2, found.feed.within, c.pass.ensures.taken, c.lines.invariant.bytes);
      taken = omega (arith, c.pass.ensures.taken, c.fill.ensures.taken);
      source = counts_on _ _ _ false false c.lines.invariant.source more.3.faults;
      sink = counts_on _ _ _ false false c.lines.invariant.sink c.in_default.ensures.sink_faults;
    }

pub returns-then-is_empty-clause-ends : goal.returns-then-is_empty-clause-ends
returns-then-is_empty-clause-ends g c = λ setup begin for leaves.
    let more = c.in-End.ensures.bytes in
    let going = fills g.S.Source g.K.Sink g.D.Disk g.N.Entropy g.met.D.Disk.only_now c.args.written setup _ _ c.fill.new.source _ _ c.fill.new.self.bytes more.0 _ c.fill.new.self.taken _ false (c.lines.invariant.going setup begin for leaves) more.1 more.2 more.3 in
    let found = c.in-End.ensures.found in
    let whole = whole_line c.fill.new.self.bytes c.line-line-in-End.result.now c.held.result c.line-line-in-End.ensures c.held.ensures in
    let none : length c.fill.new.self.bytes ≡ 0 = rw whole at (is_zero (length c.line-line-in-End.result.now) _ c.is_empty.ensures c.if-is_empty.true) in
    ends_empty g.S.Source g.K.Sink g.D.Disk g.N.Entropy g.met.D.Disk.only_now c.args.written setup _ _ _ _ _ _ going found.end found.few none

pub returns-in-End-clause-ends : goal.returns-in-End-clause-ends
returns-in-End-clause-ends g c = λ setup begin for leaves.
    let more = c.in-End.ensures.bytes in
    let going = fills g.S.Source g.K.Sink g.D.Disk g.N.Entropy g.met.D.Disk.only_now c.args.written setup _ _ c.fill.new.source _ _ c.fill.new.self.bytes more.0 _ c.fill.new.self.taken _ false (c.lines.invariant.going setup begin for leaves) more.1 more.2 more.3 in
    let found = c.in-End.ensures.found in
    let whole = whole_line c.fill.new.self.bytes c.line-line-in-End.result.now c.held.result c.line-line-in-End.ensures c.held.ensures in
    let some : 0 < length c.fill.new.self.bytes = rw whole at (is_some_length (length c.line-line-in-End.result.now) _ c.is_empty.ensures c.if-is_empty.false) in
    (ends_last g.S.Source g.K.Sink g.D.Disk g.N.Entropy g.met.D.Disk.only_now c.args.written setup _ _ c.serve_line-in-End.new.sink c.serve_line-in-End.new.disk c.serve_line-in-End.new.entropy _ _ _ _ _ going found.opened.free found.opened.short found.end found.few some
    (rw whole at (c.in_default-serve_line.ensures.serves setup going.past going.stands)))

pub returns-in-Err-serve_line-clause-ends : goal.returns-in-Err-serve_line-clause-ends
returns-in-Err-serve_line-clause-ends g c = λ setup begin for leaves.
    let more = c.in-End.ensures.bytes in
    let going = fills g.S.Source g.K.Sink g.D.Disk g.N.Entropy g.met.D.Disk.only_now c.args.written setup _ _ c.fill.new.source _ _ c.fill.new.self.bytes more.0 _ c.fill.new.self.taken _ false (c.lines.invariant.going setup begin for leaves) more.1 more.2 more.3 in
    let found = c.in-End.ensures.found in
    let whole = whole_line c.fill.new.self.bytes c.line-line-in-End.result.now c.held.result c.line-line-in-End.ensures c.held.ensures in
    (cut_line g.S.Source g.K.Sink g.D.Disk g.N.Entropy g.met.D.Disk.only_now c.in-Err-serve_line.halt _ c.args.written setup _ _ c.serve_line-in-End.new.sink c.serve_line-in-End.new.disk c.serve_line-in-End.new.entropy _ _ _ _ _ _ _ c.status-in-Err-serve_line.ensures going c.fill.ensures.taken
    (free_whole c.fill.new.self.bytes found.opened.free) found.opened.short (taken_last _ going.lines c.fill.new.self.bytes found.end)
    whole (c.in-Err-serve_line.ensures.serves setup going.past going.stands))

pub returns-in-TooLong-clause-ends : goal.returns-in-TooLong-clause-ends
returns-in-TooLong-clause-ends g c = λ setup begin for leaves.
    let more = c.in-TooLong.ensures.bytes in
    let going = fills g.S.Source g.K.Sink g.D.Disk g.N.Entropy g.met.D.Disk.only_now c.args.written setup _ _ c.fill.new.source _ _ c.fill.new.self.bytes more.0 _ c.fill.new.self.taken _ false (c.lines.invariant.going setup begin for leaves) more.1 more.2 more.3 in
    let found = c.in-TooLong.ensures.found in
    record {
      lines = going.lines;
      rest = c.fill.new.self.bytes;
      amid = ends_amid g.S.Source g.K.Sink g.D.Disk g.N.Entropy g.met.D.Disk.only_now c.args.written setup _ _ _ _ _ _ false going found.free;
      number = ap (λ n. n + 1) going.count;
      long = found.long;
      few = omega (arith, going.sum, c.fill.ensures.taken);
    }

pub returns-in-ScriptTooLong-clause-ends : goal.returns-in-ScriptTooLong-clause-ends
returns-in-ScriptTooLong-clause-ends g c = λ setup begin for leaves.
    let more = c.in-ScriptTooLong.ensures.bytes in
    let going = fills g.S.Source g.K.Sink g.D.Disk g.N.Entropy g.met.D.Disk.only_now c.args.written setup _ _ c.fill.new.source _ _ c.fill.new.self.bytes more.0 _ c.fill.new.self.taken _ false (c.lines.invariant.going setup begin for leaves) more.1 more.2 more.3 in
    let found = c.in-ScriptTooLong.ensures.found in
    record {
      lines = going.lines;
      rest = c.fill.new.self.bytes;
      amid = ends_amid g.S.Source g.K.Sink g.D.Disk g.N.Entropy g.met.D.Disk.only_now c.args.written setup _ _ _ _ _ _ false going found.opened.free;
      within = found.opened.short;
      many = omega (arith, going.sum, found.many);
    }

pub returns-in-Fault-clause-ends : goal.returns-in-Fault-clause-ends
returns-in-Fault-clause-ends g c = λ setup begin for leaves.
    let more = c.in-Fault.ensures.bytes in
    let going = fills g.S.Source g.K.Sink g.D.Disk g.N.Entropy g.met.D.Disk.only_now c.args.written setup _ _ c.fill.new.source _ _ c.fill.new.self.bytes more.0 _ c.fill.new.self.taken _ true (c.lines.invariant.going setup begin for leaves) more.1 more.2 more.3 in
    let found = c.in-Fault.ensures.found in
    record {
      lines = going.lines;
      rest = c.fill.new.self.bytes;
      amid = ends_amid g.S.Source g.K.Sink g.D.Disk g.N.Entropy g.met.D.Disk.only_now c.args.written setup _ _ _ _ _ _ true going found.opened.free;
      within = found.opened.short;
      few = omega (arith, going.sum, found.few);
    }
