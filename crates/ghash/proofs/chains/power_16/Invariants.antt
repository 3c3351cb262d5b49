use Rattle.std.proofs.Common.{◌≡◌}
use Rattle.ghash.specs.Chains.{repeated}
use Rattle.ghash.proofs.chains.power_16.Given as goal

abbrev pub invariant-powers : goal.invariant-powers
invariant-powers l = l.power ≡ repeated l.subkey l._i l.subkey
