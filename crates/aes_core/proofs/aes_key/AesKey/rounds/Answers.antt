use Rattle.aes_core.specs.KeyOf.{key_of}
use Rattle.aes_core.proofs.aes_key.AesKey.rounds.Goals as goal

pub returns : goal.returns
unfolding key_of
returns c = c.args.self.now.rounds_are
