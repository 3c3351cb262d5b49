use Rattle.std.proofs.Common.{◌≡◌, length, ◌∙◌, arith}
use Rattle.std.proofs.lemmas.List.{take_at}
use Rattle.key_blobs.specs.Blobs.{blob_of}
use Rattle.key_blobs.proofs.sealing.seal.Goals as goal

pub returns-clause-blob : goal.returns-clause-blob
unfolding blob_of
returns-clause-blob c =
    let whole : length c.fill.new.out ≡ c.in_ok-blob.blob.len = omega (arith, c.fill.ensures.len, c.deref_mut.ensures.len) in
    let filled : c.of.result ≡ c.fill.new.out = c.of.ensures ∙ take_at c.fill.new.out _ c.in_ok-blob.blob.len whole in
    rw (filled, c.fill.ensures.blob, c.deref.ensures.value, c.in_ok-text.ensures.text)

pub returns-clause-opens : goal.returns-clause-opens
returns-clause-opens c =
    let whole : length c.fill.new.out ≡ c.in_ok-blob.blob.len = omega (arith, c.fill.ensures.len, c.deref_mut.ensures.len) in
    let filled : c.of.result ≡ c.fill.new.out = c.of.ensures ∙ take_at c.fill.new.out _ c.in_ok-blob.blob.len whole in
    rw (filled, c.fill.ensures.opens c.args.sealed.now (rw (c.deref.ensures.value) c.in_ok-text.ensures.again))
