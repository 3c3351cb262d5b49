use Rattle.wire_frames.specs.Spelling.{counted, key_of}
use Rattle.wire_frames.proofs.Writes.{five_fields}
use Rattle.wire_frames.proofs.writing.acts.put_wrapped.Goals as goal

pub returns : goal.returns
returns c =
    rw (← c.as_slice.ensures, ← c.as_slice-2.ensures, ← c.as_slice-3.ensures) (
    five_fields c.put_counted_u32-3.result c.args.out.now.items (key_of c.args.key.now) (counted c.as_slice.result.now) (key_of c.args.wrapping.now) (counted c.as_slice-2.result.now) (counted c.as_slice-3.result.now)
    c.put_key.new.out.items c.put_counted_u32.new.out.items c.put_key-2.new.out.items c.put_counted_u32-2.new.out.items c.put_counted_u32-3.new.out.items
    c.in_ok-put_key.ensures c.in_ok-put_counted_u32.ensures c.in_ok-put_key-2.ensures c.in_ok-put_counted_u32-2.ensures c.put_counted_u32-3.ensures)
