-- A reply by its number.
use Rattle.std.proofs.Common.{◌≡◌, ℤ, Some, Result, codes}
use Rattle.serde_json.specs.Data.{Data}
use Rattle.serde_json.specs.Find.{get}
use Rattle.rule_model.specs.declared.reply.Reply.{Reply}
use Rattle.line_members.specs.declared.fault.LineFault.{LineFault}
use Rattle.line_members.specs.Reads.{Gives}
use Rattle.trace_lines.specs.ReplyReads.{reply_in, reply_numbered, signed_of}

pub reply_found : (result : Result Reply LineFault) (members value : Data) (number : ℤ) → get (codes "code") members ≡ Some value → signed_of value ≡ Some number → Gives result (reply_numbered number members) → Gives result (reply_in members)
reply_found result members value number e f h = rw (e, f) h
