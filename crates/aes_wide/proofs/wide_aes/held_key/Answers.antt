use Rattle.std.proofs.Common.{◌≡◌, ◌<◌, ◌∙◌, ap, sym, arith}
use Rattle.aes_core.specs.Expansion.{key_expansion, round_key}
use Rattle.aes_core.specs.KeyOf.{key_of}
use Rattle.aes_core.specs.State.{add_round_key}
use Rattle.aes_wide.specs.RoundKeyPlanes.{held_key}
use Rattle.aes_wide.specs.Steps.{constant}
use Rattle.aes_wide.proofs.SingleLemmas.{constant_row}
use Rattle.aes_wide.proofs.MovedLemmas.{held_later}
use Rattle.aes_wide.proofs.wide_aes.held_key.Goals as goal

pub returns-then-round-eq0 : goal.returns-then-round-eq0
returns-then-round-eq0 c =
    let none : 0 ≡ c.args.round = omega arith in
    let w = key_expansion (key_of c.args.plain.now) in
    c.round_key-key.ensures ∙ ap (round_key w) (sym none) ∙ ap (held_key w) none

pub returns : goal.returns
returns c =
    let some : 0 < c.args.round = omega arith in
    c.sum.ensures
    ∙ ap (add_round_key c.round_key-key.result) constant_row
    ∙ ap (λ t. add_round_key t constant) c.round_key-key.ensures
    ∙ sym (held_later (key_expansion (key_of c.args.plain.now)) c.args.round some)
