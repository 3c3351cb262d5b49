use Rattle.std.proofs.Common.{◌≡◌, take, ◌↔◌}
use Rattle.byte_strings.proofs.compare.same_bytes.Given as goal

abbrev pub invariant-bytes : goal.invariant-bytes
invariant-bytes l = (l.difference ≡ 0) ↔ (take l.i l.a ≡ take l.i l.b)
