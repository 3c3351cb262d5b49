use Rattle.std.proofs.Common.{◌≡◌, ◌-◌, ◌<◌, ◌+◌, ◌∙◌, ap, arith}
use Rattle.aes_core.specs.Expansion.{key_expansion, rounds_of}
use Rattle.aes_wide.specs.Planes.{standing}
use Rattle.aes_wide.specs.WideKey.{wide_key_of}
use Rattle.aes_wide.proofs.GroupLemmas.{rounds_few, rounds_some}
use Rattle.aes_wide.proofs.BackLemmas.{back_begun, back_on, back_ended}
use Rattle.aes_wide.proofs.wide_aes.WideAes.decrypt_planes.Goals as goal

pub offset_bounds-self-count : goal.offset_bounds-self-count
offset_bounds-self-count c = omega (arith, c.rounds-count.ensures, rounds_few c.args.self.now.plain)

pub bounds-self-count : goal.bounds-self-count
bounds-self-count c = omega (arith, c.rounds-count.ensures, rounds_few c.args.self.now.plain)

pub rounds-init : goal.rounds-init
rounds-init c =
    let key = wide_key_of c.args.self.now in
    let is_count : c.rounds-count.result ≡ rounds_of key = c.rounds-count.ensures in
    let all : c.rounds-count.result - 1 - 0 ≡ c.rounds-count.result - 1 = omega arith in
    let some : 0 < c.rounds-count.result = omega (arith, is_count, rounds_some c.args.self.now.plain) in
    let last : c.rounds-count.result < rounds_of key + 1 = omega (arith, is_count) in
    back_begun (key_expansion key) c.rounds-count.result (c.rounds-count.result - 1 - 0) c.args.x c.added-state.result c.planes.result all some c.added-state.ensures.whole c.added-state.ensures.blocks
    (λ b h. ap (λ t. standing t b) c.planes.ensures ∙ c.args.self.now.has_keys.blocks c.rounds-count.result b last h)

pub rounds-preserved : goal.rounds-preserved
rounds-preserved c =
    let key = wide_key_of c.args.self.now in
    let one : c.rounds-count.result - 1 - c.rounds.done ≡ c.rounds-count.result - 1 - (c.rounds.done + 1) + 1 = omega arith in
    let few : c.rounds-count.result - 1 - c.rounds.done < rounds_of key + 1 = omega (arith, c.rounds-count.ensures) in
    back_on (key_expansion key) c.rounds-count.result (c.rounds-count.result - 1 - (c.rounds.done + 1)) (c.rounds-count.result - 1 - c.rounds.done)
    c.args.x c.rounds.state c.unsubbed-plain.result c.added-sum.result c.unmixed-next.result c.planes-in-rounds.result one c.rounds.invariant c.added-sum.ensures.whole c.unmixed-next.ensures.whole
    c.unsubbed-plain.ensures.blocks c.added-sum.ensures.blocks c.unmixed-next.ensures.blocks
    (λ b h. ap (λ t. standing t b) c.planes-in-rounds.ensures ∙ c.args.self.now.has_keys.blocks (c.rounds-count.result - 1 - c.rounds.done) b few h)

pub returns-clause-blocks : goal.returns-clause-blocks
returns-clause-blocks c =
    let key = wide_key_of c.args.self.now in
    let none : c.rounds-count.result - 1 - c.rounds.done ≡ 0 = omega arith in
    let some : 0 < rounds_of key + 1 = omega arith in
    back_ended key c.rounds-count.result (c.rounds-count.result - 1 - c.rounds.done) c.args.x c.rounds.state c.unsubbed-last.result c.added.result c.planes-2.result c.rounds-count.ensures none c.rounds.invariant c.unsubbed-last.ensures.blocks c.added.ensures.blocks
    (λ b h. ap (λ t. standing t b) c.planes-2.ensures ∙ c.args.self.now.has_keys.blocks 0 b some h)
