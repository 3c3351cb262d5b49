use Rattle.std.proofs.Common.{rules, ◌≡◌, ◌+◌, ◌-◌, ◌≤◌, ◌++◌, length, take, drop, ap, ◌∙◌, arith, length-take}
use Rattle.wire_frames.specs.PartialFrames.{bytes_in}
use Rattle.wire_frames.proofs.Filling.{still_enough, taken_more}
use Rattle.wire_frames.proofs.held.PartialFrame.complete.Goals as goal

pub parts-preserved : goal.parts-preserved
parts-preserved c =
    let piece = c.args.piece.now in
    let taken = c.parts.taken in
    let count = c.min-count.result in
    let i = c.parts.invariant in
    let part = take (taken + count - taken) (drop taken piece) in
    let put : bytes_in c.put.new.self ≡ bytes_in c.parts.self ++ part = search rules in
    let few : length part ≤ c.room-room.result = omega (arith, length-take (taken + count - taken) (drop taken piece)) in
    let room = c.room-room.ensures.within in
    let within : taken + count ≤ length piece = omega (arith, i.within) in
    record {
      within = within;
      taken = taken_more (bytes_in c.args.self.now) piece (bytes_in c.put.new.self) taken count (put ∙ ap (λ l. l ++ part) i.taken);
      enough = rw put (still_enough (bytes_in c.parts.self) part (omega (arith, few, room)));
    }
