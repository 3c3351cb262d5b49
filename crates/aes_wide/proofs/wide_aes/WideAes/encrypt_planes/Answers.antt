use Rattle.std.proofs.Common.{◌≡◌, ◌-◌, ◌<◌, ◌+◌, ◌∙◌, ap, arith}
use Rattle.aes_core.specs.Expansion.{key_expansion, rounds_of}
use Rattle.aes_wide.specs.RoundKeyPlanes.{held_key}
use Rattle.aes_wide.specs.Planes.{standing}
use Rattle.aes_wide.specs.WideKey.{wide_key_of}
use Rattle.aes_wide.proofs.GroupLemmas.{begun, going_on, ended, rounds_few, rounds_some}
use Rattle.aes_wide.proofs.wide_aes.WideAes.encrypt_planes.Goals as goal

pub rounds-init : goal.rounds-init
rounds-init c =
    let some : 0 < rounds_of (wide_key_of c.args.self.now) + 1 = omega arith in
    begun (key_expansion (wide_key_of c.args.self.now)) c.args.x c.added-state.result c.planes.result c.added-state.ensures.whole c.added-state.ensures.blocks
    (λ b h. ap (λ t. standing t b) c.planes.ensures ∙ c.args.self.now.has_keys.blocks 0 b some h)

pub offset_bounds-self-done : goal.offset_bounds-self-done
offset_bounds-self-done c = omega (arith, c.rounds-count.ensures, rounds_few c.args.self.now.plain)

pub bounds-self-done : goal.bounds-self-done
bounds-self-done c = omega (arith, c.rounds-count.ensures, rounds_few c.args.self.now.plain)

pub rounds-preserved : goal.rounds-preserved
rounds-preserved c =
    let few : c.rounds.done + 1 < rounds_of (wide_key_of c.args.self.now) + 1 = omega (arith, c.rounds-count.ensures) in
    going_on (key_expansion (wide_key_of c.args.self.now)) c.rounds.done c.args.x c.rounds.state c.round-mixed.result c.added-next.result c.planes-in-rounds.result c.rounds.invariant
    c.added-next.ensures.whole c.round-mixed.ensures.blocks c.added-next.ensures.blocks
    (λ b h. ap (λ t. standing t b) c.planes-in-rounds.ensures ∙ c.args.self.now.has_keys.blocks (c.rounds.done + 1) b few h)

pub offset_bounds-self-count : goal.offset_bounds-self-count
offset_bounds-self-count c = omega (arith, c.rounds-count.ensures, rounds_few c.args.self.now.plain)

pub bounds-self-count : goal.bounds-self-count
bounds-self-count c = omega (arith, c.rounds-count.ensures, rounds_few c.args.self.now.plain)

pub returns-clause-blocks : goal.returns-clause-blocks
returns-clause-blocks c =
    let key = wide_key_of c.args.self.now in
    let is_count : c.rounds-count.result ≡ rounds_of key = c.rounds-count.ensures in
    let all : c.rounds.done ≡ rounds_of key - 1 = omega (arith, is_count, rounds_some c.args.self.now.plain) in
    let some : 0 < rounds_of key = omega (arith, rounds_some c.args.self.now.plain) in
    let last : c.rounds-count.result < rounds_of key + 1 = omega (arith, is_count) in
    ended key c.rounds.done c.args.x c.rounds.state c.last_round-last.result c.added.result c.planes-2.result all some c.rounds.invariant c.last_round-last.ensures.blocks c.added.ensures.blocks
    (λ b h. ap (λ t. standing t b) c.planes-2.ensures ∙ c.args.self.now.has_keys.blocks c.rounds-count.result b last h ∙ ap (λ n. held_key (key_expansion key) n) is_count)
