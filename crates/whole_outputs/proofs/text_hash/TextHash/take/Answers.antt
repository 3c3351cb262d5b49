-- A block was filled, and the blocks behind it were taken.
use Rattle.std.proofs.Common.{◌≡◌, ℕ, ◌-◌, ◌*◌, ◌/◌, ◌≤◌, List, [], ◌∷◌, ◌++◌, length, take, drop, refl, sym, ap, ◌∙◌, arith, rules}
use Rattle.std.proofs.lemmas.List.{take_all, take_rest}
use Rattle.block_modes.specs.Texts.{pieces_of}
use Rattle.whole_outputs.proofs.Hashing.{taken_blocks, chunks_are}
use Rattle.whole_outputs.proofs.text_hash.TextHash.take.Goals as goal

pub returns : goal.returns
returns c = λ subkey before held.
    let bytes : List ℕ = c.args.bytes.now in
    let count : ℕ = c.fill-count.result in
    let more : List ℕ = take (length bytes - count) (drop count bytes) in
    let full : List ℕ = c.fill-count.new.self in
    let whole : length full ≡ 16 = omega (arith, c.len.ensures.len, c.len.ensures.most, c.if-len-lt16.false) in
    let long : length c.block.result ≡ 16 = search rules in
    let block : c.block.result ≡ full = sym (take_all (length full) c.block.result (omega (arith, whole, long))) ∙ c.block.ensures in
    let chunks : c.as_chunks.result.0.now ≡ pieces_of (length more / 16) more = c.as_chunks.ensures.front ∙ chunks_are (length more / 16) more in
    let place : length more / 16 * 16 ≡ 16 * (length more / 16) = omega arith in
    let end : c.as_chunks.result.1.now ≡ drop (16 * (length more / 16)) more = c.as_chunks.ensures.back ∙ ap (λ (n : ℕ). drop n more) place in
    let put : c.fill.new.self ≡ take c.fill.result c.as_chunks.result.1.now = c.fill.ensures.part ∙ ap (λ (l : List ℕ). l ++ take c.fill.result c.as_chunks.result.1.now) c.clear.ensures in
    let all : length c.as_chunks.result.1.now ≤ c.fill.result = omega (arith, c.fill.ensures.count, ap length c.clear.ensures, c.as_chunks.ensures.back_len) in
    taken_blocks c.args.self.now _ subkey before bytes full more count (length more / 16) held c.fill-count.ensures.part whole (take_rest bytes count) refl
    (put ∙ take_all c.fill.result c.as_chunks.result.1.now all ∙ end)
    (λ blocks holds.
    let one = c.absorb.ensures subkey blocks holds in
    let two = c.absorb_all.ensures subkey (blocks ++ c.block.result ∷ []) one in
    rw (block, chunks) at two)
