use Rattle.std.proofs.Common.{◌++◌, ◌∙◌, ap, length}
use Rattle.std.proofs.lemmas.List.{drop-replicate}
use Rattle.key_maps.specs.Names.{padded}
use Rattle.key_maps.proofs.names.padded.Goals as goal
use Rattle.tags.specs.declared.limits.TheConstants.{ALIAS_BYTES}

pub returns : goal.returns
unfolding padded
returns c = c.put_front.ensures ∙ ap (λ rest. c.args.alias.now ++ rest) (drop-replicate (length c.args.alias.now) ALIAS_BYTES 0)
