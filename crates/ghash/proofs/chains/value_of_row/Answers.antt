use Rattle.std.proofs.Common.{◌∙◌, sym}
use Rattle.ghash.proofs.BlockLemmas.{block_element}
use Rattle.ghash.proofs.chains.value_of_row.Goals as goal

pub returns : goal.returns
returns c = c.element.ensures ∙ sym (block_element c.args.row c.requires.bytes)
