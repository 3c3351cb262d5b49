use Rattle.std.proofs.Common.{◌+◌, ◌*◌, min, ap, ◌∙◌, arith}
use Rattle.byte_strings.proofs.NumberLemmas.{value_step}
use Rattle.byte_strings.proofs.digits.capped_value.Goals as goal

pub loop-byte-preserved : goal.loop-byte-preserved
loop-byte-preserved c = record {
  few = omega (arith, c.min-value.ensures);
  same = value_step c.args.cap _ c.loop-byte.value c.min-value.result c.args.digits.now c.loop-byte.byte-index c.loop-byte-test.true
      (c.min-value.ensures ∙ ap (λ digit. min (c.loop-byte.value * 10 + digit) c.args.cap) (c.from-digit.ensures ∙ c.saturating_sub.ensures)) c.loop-byte.invariant.same;
}
