use Rattle.std.proofs.Common.{◌∙◌, ap, arith, length, drop, ◌+◌, ◌-◌, ◌≤◌}
use Rattle.std.proofs.lemmas.List.{length-take}
use Rattle.keystore_run.proofs.Windows.{passed}
use Rattle.keystore_run.proofs.reader.LineReader.pass.Goals as goal

pub returns-clause-bytes : goal.returns-clause-bytes
returns-clause-bytes c =
    let reader = c.self.inside in
    let held = length-take (reader.end - reader.start) (drop reader.start reader.buffer.items) in
    let same = ap (λ held. length held.bytes) c.self.view_is in
    let within : reader.start + c.args.count + 1 ≤ reader.end = omega (arith, held, same) in
    passed reader.buffer.items reader.start reader.end c.args.count within ∙ ap (λ held. drop (c.args.count + 1) held.bytes) c.self.view_is
