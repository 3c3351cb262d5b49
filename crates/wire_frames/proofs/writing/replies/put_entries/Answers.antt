use Rattle.std.proofs.Common.{rules, arith, ap, length, ◌∙◌}
use Rattle.byteorder.specs.Endian.{big_bytes}
use Rattle.wire_frames.specs.Spelling.{counted}
use Rattle.wire_frames.specs.Windows.{window_after}
use Rattle.wire_frames.proofs.Writes.{count_fits, alias_fits, entry_put}
use Rattle.wire_frames.proofs.writing.replies.put_entries.Goals as goal

pub overflow_cast-entries : goal.overflow_cast-entries
overflow_cast-entries c =
    let fits = count_fits c.args.entries.now c.requires in
    search (rules, fits)

pub put_counted-requires : goal.put_counted-requires
put_counted-requires c =
    let fits = alias_fits c.args.entries.now c.loop-alias.alias-index c.loop-alias-item.result (search rules) c.requires in
    let same = ap length c.as_slice.ensures in
    let item = ap (λ x. length x.0) c.loop-alias-item.is in
    omega (arith, fits, same, item)

pub loop-alias-preserved : goal.loop-alias-preserved
loop-alias-preserved c =
    let at = c.loop-alias in
    let item = c.loop-alias-item in
    let alias = c.put_counted.ensures ∙ ap (λ l. window_after at.out (counted l)) (c.as_slice.ensures ∙ ap (λ x. x.0) item.is) in
    let key = c.put_u64.ensures ∙ ap (λ x. window_after c.put_counted.new.out (big_bytes 8 x.1)) item.is in
    entry_put c.args.out.now at.out c.put_counted.new.out c.put_u64.new.out (big_bytes 4 (length c.args.entries.now)) c.args.entries.now at.alias-index item.result (search rules) at.invariant alias key
