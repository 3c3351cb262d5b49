-- What is left of a word that was used up is nothing, and the next word follows.
use Rattle.std.proofs.Common.{rules}
use Rattle.std.proofs.lemmas.List.{drop_all}
use Rattle.ks_outside.proofs.WordLemmas.{refilled}
use Rattle.ks_outside.proofs.seeded.SeededEntropy.refill.Goals as goal

pub returns-then-self-ge4-clause-coming : goal.returns-then-self-ge4-clause-coming
returns-then-self-ge4-clause-coming c =
    refilled c.to_le_bytes-self.result _ c.next_word.result c.args.self.now.generator c.next_word.new.self
    (drop_all c.args.self.now.used c.args.self.now.word (search rules)) c.to_le_bytes-self.ensures c.next_word.ensures
