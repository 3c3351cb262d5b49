use Rattle.aes_core.specs.Expansion.{sub_word}
use Rattle.aes_core.proofs.schedule.sub_word.Goals as goal

pub returns : goal.returns
unfolding sub_word
returns c = rw c.sub_bytes.ensures
