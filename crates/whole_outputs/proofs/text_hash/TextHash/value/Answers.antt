-- All blocks were taken.
use Rattle.std.proofs.Common.{List, ℕ, sym, ap, ◌∙◌}
use Rattle.ghash.specs.Hash.{ghash}
use Rattle.whole_outputs.proofs.Hashing.{blocks_taken}
use Rattle.whole_outputs.proofs.text_hash.TextHash.value.Goals as goal

pub returns : goal.returns
returns c = λ subkey bytes held whole.
    c.value.ensures subkey held.blocks held.hash ∙ ap (λ (l : List (List ℕ)). ghash subkey l) (sym (blocks_taken c.args.self.now subkey bytes held whole))
