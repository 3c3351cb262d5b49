use Rattle.tags.proofs.Found.{told_number}
use Rattle.tags.proofs.tag.Tag.of_number.Goals as goal

pub returns : goal.returns
returns c = told_number c.args.number c.row_of_number.result c.row_of_number.ensures.found c.row_of_number.ensures.none
