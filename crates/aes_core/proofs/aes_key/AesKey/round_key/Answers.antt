use Rattle.std.proofs.Common.{◌∙◌, ap, arith}
use Rattle.aes_core.specs.Expansion.{round_key}
use Rattle.aes_core.specs.KeyOf.{key_of}
use Rattle.aes_core.proofs.KeyLemmas.{long_enough}
use Rattle.aes_core.proofs.aes_key.AesKey.round_key.Goals as goal

pub round_key-requires : goal.round_key-requires
unfolding key_of
round_key-requires c = omega (arith, long_enough c.args.self.now, c.args.self.now.rounds_are)

pub returns : goal.returns
unfolding key_of
returns c = c.block_of.ensures ∙ c.round_key.ensures.bytes ∙ ap (λ w. round_key w c.args.round) c.args.self.now.is_expanded
