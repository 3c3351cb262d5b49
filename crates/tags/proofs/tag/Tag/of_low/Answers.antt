use Rattle.tags.proofs.Found.{told_low}
use Rattle.tags.proofs.tag.Tag.of_low.Goals as goal

pub returns : goal.returns
returns c = told_low c.args.low c.row_of_low.result c.row_of_low.ensures.found c.row_of_low.ensures.none
