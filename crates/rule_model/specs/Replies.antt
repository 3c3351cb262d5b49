-- Replies: without fields, and by the first rule of a table that does not hold.
use Rattle.std.specs.Prelude.{None, Result, Ok, Err}
use Rattle.tags.specs.declared.code.Code.{Code}
use Rattle.tags.specs.declared.rule.Rule.{Rule}
use Rattle.rule_model.specs.declared.reply.Fields.{Fields}
use Rattle.rule_model.specs.declared.reply.Reply.{Reply}
use Rattle.rule_model.specs.declared.reply.Reply.TheVariants.{Broken}

-- no field
abbrev pub no_fields : Fields
no_fields = record {
  client = None;
  key = None;
  op = None;
  challenge = None;
  ticket = None;
  pruned = None;
  grant = None;
  count = None;
  uses = None;
  domain = None;
  nspace = None;
  alias = None;
  nonce = None;
  out = None;
  blob = None;
  list = None;
  entries = None;
}

-- the first broken rule of a table, or else this reply
abbrev pub broken_or : {T : Type 0} → Result T (Rule × Code) → Reply → Reply
broken_or (Ok found) reply = reply
broken_or (Err (rule, code)) reply = Broken rule code
