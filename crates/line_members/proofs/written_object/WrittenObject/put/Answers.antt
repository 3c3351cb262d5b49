use Rattle.line_members.proofs.NoFloats.{put_keeps}
use Rattle.line_members.proofs.written_object.WrittenObject.put.Goals as goal

pub invariant_of-self : goal.invariant_of-self
invariant_of-self c = record { no_float = put_keeps c.put.result _ _ _ _ c.put.ensures.ok c.put.ensures.err c.requires c.args.self.now.no_float }
