use Rattle.std.proofs.Common.{◌≡◌, ◌≤◌, min, drop}
use Rattle.byte_strings.specs.Numbers.{value_on}
use Rattle.byte_strings.proofs.digits.capped_value.Given as goal

abbrev pub invariant-loop-byte : goal.invariant-loop-byte
invariant-loop-byte l = record {
  few : l.value ≤ l.cap;
  same : min (value_on l.value (drop l.byte-index l.digits)) l.cap ≡ min (value_on 0 l.digits) l.cap;
}
