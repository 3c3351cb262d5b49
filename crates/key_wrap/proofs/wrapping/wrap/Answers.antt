use Rattle.std.proofs.Common.{◌∙◌, arith}
use Rattle.std.proofs.lemmas.List.{length-take-le}
use Rattle.key_wrap.proofs.Opening.{opens_wrapped, rest_same}
use Rattle.key_wrap.proofs.wrapping.wrap.Goals as goal

pub returns-clause-opens : goal.returns-clause-opens
returns-clause-opens g c =
    opens_wrapped (g.C.BlockCipher.cipher c.args.cipher.now) (g.C.BlockCipher.inverse c.args.cipher.now) c.args.text.now
    (record { keeps = g.met.C.BlockCipher.cipher_keeps c.args.cipher.now; undoes = g.met.C.BlockCipher.undoes c.args.cipher.now }) c.requires.text (λ i. omega (arith, c.type_inv.text i))

pub returns-clause-rest : goal.returns-clause-rest
returns-clause-rest g c =
    rest_same _ c.copy_from_slice-2.new.self c.wrapping-value.new.parts c.args.out.now c.split_at_mut-front.result.1.now (c.copy_from_slice-2.ensures.len ∙ c.split_at_mut-front.ensures.front_len)
    (c.wrapping-value.auto.parts ∙ c.copy_from_slice.ensures.len ∙ length-take-le _ c.split_at_mut-front.result.1.now (omega (arith, c.requires.room, c.split_at_mut-front.ensures.back_len))) c.split_at_mut-front.ensures.back
