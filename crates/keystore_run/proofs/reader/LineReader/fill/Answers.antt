use Rattle.std.proofs.Common.{[], refl, ap, sym, ◌∙◌, arith, append-nil}
use Rattle.ks_outside.proofs.Shown.{took_none}
use Rattle.keystore_run.proofs.reader.LineReader.fill.Goals as goal

pub returns-in-Some-clause-bytes : goal.returns-in-Some-clause-bytes
returns-in-Some-clause-bytes g c = (
  [],
  ap (λ held. held.bytes) c.in-Some.ensures.same ∙ sym (append-nil _),
  omega (arith, ap (λ held. held.taken) c.in-Some.ensures.same),
  took_none g.S.Source c.args.source.now,
)

pub returns-in-Some-clause-held : goal.returns-in-Some-clause-held
returns-in-Some-clause-held g c = λ count first. refl
