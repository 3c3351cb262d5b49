use Rattle.tags.proofs.tag.Tag.row_of_number.Goals as goal

pub returns-else-number-clause-found : goal.returns-else-number-clause-found
returns-else-number-clause-found c = tt
