use Rattle.std.proofs.Common.{arith, length, length-append}
use Rattle.wire_frames.specs.Replies.{numbers_of, texts_of, reply_body}
use Rattle.wire_frames.proofs.Adding.{size_two, size_exact}
use Rattle.wire_frames.proofs.writing.reply_sizes.reply_size.Goals as goal

pub returns-in-Done-clause-size : goal.returns-in-Done-clause-size
unfolding reply_body
returns-in-Done-clause-size c =
    let a = c.in-Done in
    rw a.is (size_two 6 c.numbers_size.result c.texts_size.result (length (numbers_of a.fields)) (length (texts_of a.fields)) _ (size_exact _ _ c.numbers_size.ensures.size) c.texts_size.ensures.size
    (omega (arith, length-append (numbers_of a.fields) (texts_of a.fields))))
