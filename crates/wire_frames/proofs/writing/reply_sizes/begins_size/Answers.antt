use Rattle.wire_frames.specs.Replies.{long_field}
use Rattle.wire_frames.proofs.Adding.{lengths_four}
use Rattle.wire_frames.proofs.writing.reply_sizes.begins_size.Goals as goal

pub returns-clause-size : goal.returns-clause-size
returns-clause-size c =
    let f = c.args.fields.now in
    lengths_four (long_field 1 f.client) (long_field 2 f.key) (long_field 3 f.op) (long_field 4 f.challenge) _ _ _ _
    (c.long_size.ensures.size 1) (c.long_size-2.ensures.size 2) (c.long_size-3.ensures.size 3) (c.long_size-4.ensures.size 4)
