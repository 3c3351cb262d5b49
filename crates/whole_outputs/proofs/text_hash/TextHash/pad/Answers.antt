-- Zeros were taken up to whole blocks.
use Rattle.std.proofs.Common.{◌≡◌, ℕ, ◌-◌, ◌%◌, List, length, take, replicate, ap, subst, arith}
use Rattle.whole_outputs.specs.Hashes.{Hashes}
use Rattle.std.proofs.lemmas.List.{take-replicate}
use Rattle.whole_outputs.proofs.Hashing.{padded_is}
use Rattle.whole_outputs.proofs.text_hash.TextHash.pad.Goals as goal

pub returns : goal.returns
returns c = λ subkey before held.
    let count : ℕ = (16 - c.len.result) % 16 in
    let is : count ≡ (16 - length c.args.self.now.rest) % 16 = ap (λ (n : ℕ). (16 - n) % 16) c.len.ensures.len in
    subst (λ (l : List ℕ). Hashes c.take.new.self subkey l) (padded_is c.args.self.now subkey before (take count (replicate 16 0)) count held is (take-replicate count 16 0 (omega arith)))
    (c.take.ensures subkey before held)
