-- What a line of a script is answered.
use Rattle.std.specs.Prelude.{◌≡◌, ℕ, List, Option, Some, None, Result, Ok, Err}
use Rattle.tags.specs.declared.bytes.NoMemory.{NoMemory}
use Rattle.tags.specs.declared.code.Code.{Code}
use Rattle.rule_model.specs.declared.reply.Reply.{Reply}
use Rattle.rule_model.specs.declared.reply.Reply.TheVariants.{Done, Broken, Stopped}
use Rattle.script_lines.specs.Replies.{line_of}
use Rattle.keystore_run.specs.declared.written.Written.{Written}
use Rattle.keystore_run.specs.declared.written.Written.TheVariants.{Replies, Trace}
use Rattle.keystore_run.specs.declared.answer.Answer.{Answer}

-- the code of a reply, where it is no admission
abbrev pub code_of : Reply → Option Code
code_of (Done fields) = None
code_of (Broken rule code) = Some code
code_of (Stopped code) = Some code

-- the text is that of a reply with this code, behind the line of what was settled
pub record IsReplied (answer : Answer) : Type 0 where
  pub reply : Reply
  pub text_is : answer.text ≡ line_of answer.settled reply
  pub code_is : answer.code ≡ code_of reply

-- where replies are written
abbrev pub IsAnswer : Written → Answer → Type 0
IsAnswer Replies answer = IsReplied answer
IsAnswer Trace answer = Unit {0}

-- the text of an answer, where there is one
abbrev pub text_in : Result Answer NoMemory → Result (List ℕ) NoMemory
text_in (Ok answer) = Ok answer.text
text_in (Err fault) = Err fault
