use Rattle.tags.proofs.tag.Tag.row_of_low.Goals as goal

pub returns-in-305-clause-none : goal.returns-in-305-clause-none
returns-in-305-clause-none c = tt
