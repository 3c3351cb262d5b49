use Rattle.std.proofs.Common.{◌+◌, ◌*◌, ◌≤◌, ◌∙◌, ap, sym, length, length-take, arith}
use Rattle.aes_core.specs.Expansion.{word}
use Rattle.aes_core.proofs.ScheduleLemmas.{piece_of_front}
use Rattle.aes_core.proofs.schedule.Schedule.word.Goals as goal

pub returns : goal.returns
returns c =
    let inside : 4 * c.args.index + 4 ≤ c.self.inside.len = omega (arith, ap length c.self.view_is, length-take c.self.inside.len c.self.inside.bytes) in
    c.word.ensures ∙ sym (piece_of_front (4 * c.args.index) 4 c.self.inside.len c.self.inside.bytes inside) ∙ ap (λ xs. word xs c.args.index) c.self.view_is
