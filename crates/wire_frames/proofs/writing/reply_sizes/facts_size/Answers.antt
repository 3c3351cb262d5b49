use Rattle.wire_frames.specs.Replies.{long_field, short_field}
use Rattle.wire_frames.proofs.Adding.{lengths_three}
use Rattle.wire_frames.proofs.writing.reply_sizes.facts_size.Goals as goal

pub returns-clause-size : goal.returns-clause-size
returns-clause-size c =
    let f = c.args.fields.now in
    lengths_three (short_field 9 f.uses) (short_field 10 f.domain) (long_field 11 f.nspace) _ _ _
    (c.short_size.ensures.size 9) (c.short_size-2.ensures.size 10) (c.long_size.ensures.size 11)
