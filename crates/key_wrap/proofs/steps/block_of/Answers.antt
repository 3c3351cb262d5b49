use Rattle.std.proofs.Common.{refl}
use Rattle.key_wrap.proofs.InPlace.{block_made}
use Rattle.key_wrap.proofs.steps.block_of.Goals as goal

pub returns : goal.returns
returns c = block_made c.copy_from_slice.new.self c.copy_from_slice-2.new.self _ c.args.value c.args.part.now c.copy_from_slice.ensures.after c.copy_from_slice-2.ensures.after c.copy_from_slice.ensures.len refl
