use Rattle.std.proofs.Common.{◌++◌, append_assoc}
use Rattle.rule_model.specs.declared.event.Act.TheVariants.{AddAuthToken}
use Rattle.wire_frames.specs.Spelling.{fields_of}
use Rattle.wire_frames.proofs.Writes.{at_last}
use Rattle.wire_frames.proofs.writing.acts.put_token.Goals as goal

pub returns : goal.returns
returns c = let a = c.in-AddAuthToken in rw a.is (at_last c.put_bytes.result c.put_bytes.new.out.items c.put_u64-4.new.out.items a.mac (c.args.out.now.items ++ fields_of (AddAuthToken a.challenge a.user a.authenticator a.kind a.time a.mac)) (simp (
  c.in_ok-put_u64-4.ensures,
  c.in_ok-put_u32.ensures,
  c.in_ok-put_u64-3.ensures,
  c.in_ok-put_u64-2.ensures,
  c.in_ok-put_u64.ensures,
  append_assoc,
)) c.put_bytes.ensures)
