use Rattle.std.proofs.Common.{ap, ◌∙◌}
use Rattle.aes_core.specs.Expansion.{rounds_of}
use Rattle.aes_core.specs.Cipher.{cipher_by, cipher}
use Rattle.aes_core.specs.Schedules.{key_in}
use Rattle.aes_core.specs.KeyOf.{key_of}
use Rattle.aes_core.proofs.KeyLemmas.{long_enough}
use Rattle.aes_core.proofs.aes_key.AesKeyBlockCipher.encrypt.Goals as goal

pub cipher_by-requires-clause-long : goal.cipher_by-requires-clause-long
cipher_by-requires-clause-long c = long_enough c.args.self.now

pub returns : goal.returns
unfolding cipher key_of
returns c =
    c.cipher_by.ensures
    ∙ ap (λ n. cipher_by c.args.self.now.schedule n c.args.block) c.args.self.now.rounds_are
    ∙ ap (λ w. cipher_by w (rounds_of (key_in c.args.self.now.schedule c.args.self.now.rounds)) c.args.block) c.args.self.now.is_expanded
