use Rattle.std.proofs.Common.{◌≡◌, false, true, sym, subst}
use Rattle.wire_frames.specs.Apart.{HasInput}
use Rattle.wire_frames.proofs.held.PartialFrame.put.Goals as goal

pub invariant_of-self-else-is_before_input : goal.invariant_of-self-else-is_before_input
invariant_of-self-else-is_before_input c = record {
  apart = λ some.
      let not : c.is_before_input.result ≡ false = c.if-is_before_input.false in
      let is : c.is_before_input.result ≡ true = c.is_before_input.ensures.1 (subst HasInput (sym c.as_slice.ensures.value) (c.args.self.now.apart some)) in
      absurd cc;
}
