use Rattle.std.proofs.Common.{sym, arith}
use Rattle.std.proofs.lemmas.List.{take_all, length-take, length-take-le}
use Rattle.key_maps.proofs.keys.cut.Goals as goal
use Rattle.tags.specs.declared.limits.TheConstants.{ALIAS_BYTES}

pub returns-then-alias-le-ALIAS_BYTES-clause-front : goal.returns-then-alias-le-ALIAS_BYTES-clause-front
returns-then-alias-le-ALIAS_BYTES-clause-front c = sym (take_all ALIAS_BYTES c.args.alias.now c.if-alias-le-ALIAS_BYTES.true)

pub slice_bounds-result-end : goal.slice_bounds-result-end
slice_bounds-result-end c = sym (length-take-le ALIAS_BYTES c.args.alias.now (omega (arith, c.if-alias-le-ALIAS_BYTES.false)))

pub returns-clause-short : goal.returns-clause-short
returns-clause-short c = omega (arith, length-take ALIAS_BYTES c.args.alias.now)
