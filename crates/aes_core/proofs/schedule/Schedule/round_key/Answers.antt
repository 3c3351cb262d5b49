use Rattle.std.proofs.Common.{◌≡◌, ◌+◌, ◌-◌, ◌*◌, ◌≤◌, ◌∙◌, ap, sym, take, drop, length, length-take, arith}
use Rattle.aes_core.specs.Expansion.{round_key}
use Rattle.aes_core.proofs.ScheduleLemmas.{piece_of_front}
use Rattle.aes_core.proofs.schedule.Schedule.round_key.Goals as goal

pub returns-clause-bytes : goal.returns-clause-bytes
returns-clause-bytes c =
    let inside : 16 * c.args.round + 16 ≤ c.self.inside.len = omega (arith, ap length c.self.view_is, length-take c.self.inside.len c.self.inside.bytes) in
    let size : 16 * c.args.round + 16 - 16 * c.args.round ≡ 16 = omega arith in
    ap (λ n. take n (drop (16 * c.args.round) c.self.inside.bytes)) size
    ∙ sym (piece_of_front (16 * c.args.round) 16 c.self.inside.len c.self.inside.bytes inside)
    ∙ ap (λ xs. round_key xs c.args.round) c.self.view_is
