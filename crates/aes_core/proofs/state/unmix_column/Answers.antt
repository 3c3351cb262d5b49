use Rattle.std.proofs.Common.{◌≡◌, ◌<◌, ◌∙◌, ap, arith}
use Rattle.std.specs.Int.Bits.{bit_xor}
use Rattle.std.proofs.lemmas.Nat.{xor_comm}
use Rattle.aes_core.specs.Field.{x_times}
use Rattle.aes_core.proofs.MixLemmas.{unmixed_by_mixed}
use Rattle.aes_core.proofs.state.unmix_column.Goals as goal

pub returns : goal.returns
returns c =
    let la : c.args.a < 256 = omega arith in
    let lb : c.args.b < 256 = omega arith in
    let lc : c.args.c < 256 = omega arith in
    let ld : c.args.d < 256 = omega arith in
    let even : c.x_times-even.result ≡ x_times (x_times (bit_xor c.args.a c.args.c)) = cc in
    let even_turned : c.x_times-even.result ≡ x_times (x_times (bit_xor c.args.c c.args.a)) = even ∙ ap (λ y. x_times (x_times y)) (xor_comm c.args.a c.args.c) in
    let odd : c.x_times-odd.result ≡ x_times (x_times (bit_xor c.args.b c.args.d)) = cc in
    let odd_turned : c.x_times-odd.result ≡ x_times (x_times (bit_xor c.args.d c.args.b)) = odd ∙ ap (λ y. x_times (x_times y)) (xor_comm c.args.b c.args.d) in
    let first = unmixed_by_mixed c.args.a c.args.b c.args.c c.args.d c.x_times-even.result c.x_times-odd.result la lb lc ld even odd in
    let second = unmixed_by_mixed c.args.b c.args.c c.args.d c.args.a c.x_times-odd.result c.x_times-even.result lb lc ld la odd even_turned in
    let third = unmixed_by_mixed c.args.c c.args.d c.args.a c.args.b c.x_times-even.result c.x_times-odd.result lc ld la lb even_turned odd_turned in
    let fourth = unmixed_by_mixed c.args.d c.args.a c.args.b c.args.c c.x_times-odd.result c.x_times-even.result ld la lb lc odd_turned even in
    cc
