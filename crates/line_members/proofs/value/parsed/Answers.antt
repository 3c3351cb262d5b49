use Rattle.line_members.proofs.Texts.{parsed_none, parsed_as_read}
use Rattle.line_members.proofs.value.parsed.Goals as goal

pub returns-in_default : goal.returns-in_default
returns-in_default c = parsed_none _ c.in_default.ensures.cases.0

pub returns-in-Ok-from_str : goal.returns-in-Ok-from_str
returns-in-Ok-from_str c = parsed_as_read _ _ c.in-Ok.ensures.cases.1 (rw (← c.in-Ok.ensures.cases.0) c.in-Ok-from_str.ensures.ok)

pub returns-in-Err : goal.returns-in-Err
returns-in-Err c = tt
