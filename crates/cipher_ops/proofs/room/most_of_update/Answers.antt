use Rattle.cipher_ops.proofs.OutSizes.{update_few}
use Rattle.cipher_ops.proofs.room.most_of_update.Goals as goal

pub returns-clause-out : goal.returns-clause-out
returns-clause-out c = λ key nonce before after more.
    rw (c.if-limited.false, c.piece_room.ensures) (update_few c.args.plan key nonce before after c.args.input more)
