use Rattle.token_store.proofs.fitting.is_of_kind.Goals as goal

pub returns : goal.returns
returns c = rw (c.kinds_of.ensures, c.from.ensures)
