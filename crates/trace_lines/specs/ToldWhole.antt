-- Which entries have a line that is read back as them. It holds for what a script, a frame or the service makes.
use Rattle.std.specs.Prelude.{◌<◌, ◌^◌, IfSome}
use Rattle.std.specs.List.{AllByRecursion}
use Rattle.hex.specs.Hex.{IsBytes}
use Rattle.rule_model.specs.declared.entry.Entry.{Entry}
use Rattle.rule_model.specs.declared.entry.Entry.TheVariants.{Acted, Settling}
use Rattle.rule_model.specs.declared.reply.Fields.{Fields}
use Rattle.rule_model.specs.declared.reply.Reply.{Reply}
use Rattle.rule_model.specs.declared.reply.Reply.TheVariants.{Done, Broken, Stopped}
use Rattle.line_members.specs.Whole.{IsAlias}
use Rattle.line_members.specs.declared.alias_form.AliasForm.TheVariants.{Text, TextOrHex}
use Rattle.script_lines.specs.ToldWhole.{IsToldWhole}

pub record AreReplyFields (fields : Fields) : Type 0 where
  pub uses : IfSome fields.uses (λ uses. uses < 2 ^ 32)
  pub domain : IfSome fields.domain (λ domain. domain < 2 ^ 32)
  pub alias : IfSome fields.alias (IsAlias Text)
  pub nonce : IfSome fields.nonce IsBytes
  pub out : IfSome fields.out IsBytes
  pub blob : IfSome fields.blob IsBytes
  pub list : IfSome fields.list IsBytes
  pub entries : IfSome fields.entries (AllByRecursion (λ entry. IsAlias Text entry.0))

abbrev pub IsReplyToldWhole : Reply → Type 0
IsReplyToldWhole (Done fields) = AreReplyFields fields
IsReplyToldWhole (Broken rule code) = rule.number < 2 ^ 8
IsReplyToldWhole (Stopped code) = Unit {0}

abbrev pub IsEntryToldWhole : Entry → Type 0
IsEntryToldWhole (Acted event drawn reply) = IsToldWhole TextOrHex event × IsBytes drawn × IsReplyToldWhole reply
IsEntryToldWhole (Settling settled) = Unit {0}
