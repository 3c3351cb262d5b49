use Rattle.std.proofs.Common.{get_or, refl, sym}
use Rattle.std.proofs.lemmas.List.FromFn.{fill_by_all}
use Rattle.aes_core.proofs.aes_key.block_of.Goals as goal

pub returns : goal.returns
returns c = sym (fill_by_all (λ i. get_or c.args.bytes.now i 0) c.args.bytes.now 16 0 c.requires (λ k _. refl))
