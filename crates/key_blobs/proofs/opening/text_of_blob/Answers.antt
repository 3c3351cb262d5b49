use Rattle.key_blobs.proofs.opening.text_of_blob.Goals as goal

pub returns-in-Err : goal.returns-in-Err
returns-in-Err c = rw (← c.is_blob.ensures, c.if-not-is_blob.false, c.in-Err.ensures)
