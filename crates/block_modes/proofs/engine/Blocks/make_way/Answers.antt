use Rattle.std.proofs.Common.{◌≡◌, ◌*◌, ◌/◌, ◌≤◌, length, take, ap, ◌∙◌, arith}
use Rattle.std.proofs.lemmas.List.{nil_from_length, length-take-le}
use Rattle.block_modes.proofs.SettleLemmas.{drop_further}
use Rattle.block_modes.proofs.RunLemmas.{chunks_front, going_on}
use Rattle.block_modes.proofs.engine.Blocks.make_way.Goals as goal

pub returns-clause-goes : goal.returns-clause-goes
returns-clause-goes g c cipher inverse plan nonce text before going =
    let none : length c.make_room-end.new.self.held ≡ 0 = omega arith in
    let fits : 16 * c.whole_blocks-count.result ≤ length c.args.input.now = c.whole_blocks-count.ensures.within in
    let few : c.whole_blocks-count.result ≤ length c.args.input.now / 16 = omega (arith, fits) in
    let blocks = take c.whole_blocks-count.result c.as_chunks.result.0.now in
    let size : length blocks ≡ c.whole_blocks-count.result = length-take-le c.whole_blocks-count.result c.as_chunks.result.0.now (omega (arith, few, c.as_chunks.ensures.front_len)) in
    going_on g.C.BlockCipher.cipher g.C.BlockCipher.inverse c.make_room-end.new.self c.run.new.self cipher inverse plan nonce text before c.args.input.now c.make_room-end.new.out c.run.new.out
    blocks c.whole_blocks-count.result c.make_room-end.result.1 c.make_room-end.result.0 c.run.result
    (c.make_room-end.ensures.goes cipher inverse plan nonce text before going) c.make_room-end.ensures.part none (nil_from_length c.make_room-end.new.self.held none)
    (ap (take c.whole_blocks-count.result) c.as_chunks.ensures.front ∙ chunks_front c.whole_blocks-count.result (length c.args.input.now / 16) c.args.input.now few) size fits
    c.run.ensures.state c.run.ensures.front (omega arith) (omega (arith, c.run.ensures.count, size, fits)) c.run.ensures.count

pub returns-clause-rest : goal.returns-clause-rest
returns-clause-rest g c =
    c.run.ensures.rest ∙ drop_further c.make_room-end.result.0 c.run.result c.make_room-end.new.out c.args.out.now c.make_room-end.ensures.rest (omega (arith, c.run.ensures.count))
