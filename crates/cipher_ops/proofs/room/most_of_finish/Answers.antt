use Rattle.cipher_ops.proofs.OutSizes.{finish_few}
use Rattle.cipher_ops.proofs.room.most_of_finish.Goals as goal

pub returns-clause-out : goal.returns-clause-out
returns-clause-out c = λ key nonce aad before after signature old new.
    rw (c.finish_room.ensures.size, c.taken.ensures.size) (finish_few c.args.plan c.args.limited c.args.text c.args.input key nonce aad before after signature old new)
