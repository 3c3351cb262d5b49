use Rattle.std.proofs.Common.{false, ◌++◌, ap, ◌∙◌, arith, append_assoc, length-append}
use Rattle.ks_outside.proofs.Shown.{took_on}
use Rattle.keystore_run.proofs.reader.LineReader.seek.Goals as goal

pub returns-in-Some-clause-bytes : goal.returns-in-Some-clause-bytes
returns-in-Some-clause-bytes g c =
    let before = c.reads.invariant.bytes in
    let more = c.in-Ok.ensures.bytes in (
      before.0 ++ more.0,
      ap (λ held. held.bytes) c.in-Some.ensures.same ∙ more.2 ∙ ap (λ l. l ++ more.0) before.1 ∙ append_assoc _ before.0 more.0,
      omega (arith, ap (λ held. held.taken) c.in-Some.ensures.same, more.1, more.3, before.2, length-append before.0 more.0),
      took_on g.S.Source _ _ _ before.0 more.0 false false before.3 more.4,
    )
