use Rattle.std.proofs.Common.{◌≡◌, ◌+◌, ◌-◌, ◌++◌, length, take, drop, ap, sym, ◌∙◌, arith, length-take, length-drop}
use Rattle.std.proofs.Math.Seq.{take-add}
use Rattle.block_modes.proofs.SettleLemmas.{drop_further}
use Rattle.block_modes.proofs.RunLemmas.{after_more, outs_more}
use Rattle.block_modes.proofs.engine.Blocks.run.Goals as goal

pub groups-preserved : goal.groups-preserved
groups-preserved g c =
    let e = g.C.BlockCipher.cipher in
    let d = g.C.BlockCipher.inverse in
    let texts = c.args.texts.now in
    let done = c.groups.done in
    let count = c.min-count.result in
    let width : done + count - done ≡ count = omega arith in
    let group = take (done + count - done) (drop done texts) in
    let joined : take (done + count) texts ≡ take done texts ++ group = take-add done count texts ∙ ap (λ k. take done texts ++ take k (drop done texts)) (sym width) in
    let size : length group ≡ count = omega (arith, length-take (done + count - done) (drop done texts), length-drop done texts, c.groups.invariant.within) in
    record {
      within = omega (arith, c.groups.invariant.within);
      end_is = omega (arith, c.pass-end.ensures.count, size, c.groups.invariant.end_is);
      state = rw joined (after_more e d c.args.self.now c.groups.self c.pass-end.new.self (take done texts) group c.groups.invariant.state c.pass-end.ensures.state);
      front = rw joined (outs_more e d c.args.self.now c.groups.self (take done texts) group (take c.args.at c.args.out.now) _ _ c.groups.invariant.state c.groups.invariant.front c.pass-end.ensures.front);
      rest = c.pass-end.ensures.rest ∙ drop_further c.groups.end c.pass-end.result c.groups.out c.args.out.now c.groups.invariant.rest (omega (arith, c.pass-end.ensures.count));
      size = omega (arith, c.groups.invariant.size);
    }
