use Rattle.wire_frames.specs.Replies.{begins_of, calls_of, facts_of}
use Rattle.wire_frames.proofs.Adding.{lengths_three}
use Rattle.wire_frames.proofs.writing.reply_sizes.numbers_size.Goals as goal

pub returns-clause-size : goal.returns-clause-size
returns-clause-size c =
    let f = c.args.fields.now in
    lengths_three (begins_of f) (calls_of f) (facts_of f) _ _ _ c.begins_size.ensures.size c.calls_size.ensures.size c.facts_size.ensures.size
