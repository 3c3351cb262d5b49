use Rattle.std.proofs.Common.{ap, ◌∙◌}
use Rattle.aes_core.specs.Expansion.{rounds_of}
use Rattle.aes_core.specs.Cipher.{inverse_by, inverse_cipher}
use Rattle.aes_core.specs.Schedules.{key_in}
use Rattle.aes_core.specs.KeyOf.{key_of}
use Rattle.aes_core.proofs.KeyLemmas.{long_enough}
use Rattle.aes_core.proofs.aes_key.AesKeyBlockCipher.decrypt.Goals as goal

pub inverse_by-requires-clause-long : goal.inverse_by-requires-clause-long
inverse_by-requires-clause-long c = long_enough c.args.self.now

pub returns : goal.returns
unfolding inverse_cipher key_of
returns c =
    c.inverse_by.ensures
    ∙ ap (λ n. inverse_by c.args.self.now.schedule n c.args.block) c.args.self.now.rounds_are
    ∙ ap (λ w. inverse_by w (rounds_of (key_in c.args.self.now.schedule c.args.self.now.rounds)) c.args.block) c.args.self.now.is_expanded
