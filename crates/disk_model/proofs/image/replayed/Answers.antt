-- One more call was replayed.
use Rattle.std.proofs.Common.{rules}
use Rattle.disk_model.specs.Words.{reads}
use Rattle.disk_model.proofs.Replays.{replay_more}
use Rattle.disk_model.proofs.image.replayed.Goals as goal

pub calls-preserved : goal.calls-preserved
calls-preserved c =
    replay_more c.args.choices.now c.args.calls.now.made c.settled-start.result c.args.end c.calls.i c.choice_for.result (reads c.calls.disk) (reads c.replay.new.disk)
    c.settled-start.ensures.last c.settled-start.ensures.pending (search rules) c.requires c.choice_for.ensures.before c.choice_for.ensures.after c.calls.invariant
    c.in_ok-replay.ensures
