use Rattle.wire_frames.specs.Replies.{long_field}
use Rattle.wire_frames.proofs.Adding.{lengths_four}
use Rattle.wire_frames.proofs.writing.reply_sizes.calls_size.Goals as goal

pub returns-clause-size : goal.returns-clause-size
returns-clause-size c =
    let f = c.args.fields.now in
    lengths_four (long_field 5 f.ticket) (long_field 6 f.pruned) (long_field 7 f.grant) (long_field 8 f.count) _ _ _ _
    (c.long_size.ensures.size 5) (c.long_size-2.ensures.size 6) (c.long_size-3.ensures.size 7) (c.long_size-4.ensures.size 8)
