use Rattle.std.proofs.Common.{◌+◌, sym, ap, arith}
use Rattle.byte_strings.proofs.NumberLemmas.{none_in, some_in}
use Rattle.byte_strings.proofs.digits.number_in.Goals as goal
use Rattle.byte_strings.proofs.digits.number_in.Goals.{else-from-value-via-then-from-value+else-value-from, else-from-value-via-else-from-value}

pub returns-then-value-from-clause-number : goal.returns-then-value-from-clause-number
returns-then-value-from-clause-number c =
    some_in c.args.least c.args.most _ c.capped_value-value.result c.args.text.now (sym c.if-not-is_number.ensures) (ap (λ n. n + 1) c.from.ensures) c.capped_value-value.ensures
    (omega (arith, c.from-2.ensures, c.if-from-value.true)) (omega (arith, c.from-then-from-value.ensures, c.if-value-from.true))

pub returns-else-from-value-clause-number : goal.returns-else-from-value-clause-number
returns-else-from-value-clause-number c =
    none_in c.args.least c.args.most _ c.capped_value-value.result c.args.text.now (sym c.if-not-is_number.ensures) (ap (λ n. n + 1) c.from.ensures) c.capped_value-value.ensures (λ from. elim c.else-from-value.branch [
      | else-from-value-via-then-from-value+else-value-from w ↦ omega (arith, w.from-then-from-value.ensures, w.if-value-from.false)
      | else-from-value-via-else-from-value w ↦ omega (arith, from, c.from-2.ensures, w.if-from-value.false)
    ])
