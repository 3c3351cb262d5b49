-- The line that a reply spells: the compact JSON text of an object with its members in byte order, and LF.
use Rattle.std.specs.Prelude.{ℕ, pos, List, [], ◌++◌, codes, Option, Some, None}
use Rattle.tags.specs.Code.{code_number}
use Rattle.tags.specs.Rule.{rule_text}
use Rattle.tags.specs.declared.rule.RuleTable.TheVariants as tables
use Rattle.tags.specs.declared.code.Code.TheVariants.{InvalidArgument}
use Rattle.tags.specs.declared.settled.Settled.{Settled}
use Rattle.tags.specs.declared.settled.Settled.TheVariants.{Kept, Lost}
use Rattle.rule_model.specs.declared.reply.Fields.{Fields}
use Rattle.rule_model.specs.declared.reply.Reply.{Reply}
use Rattle.rule_model.specs.declared.reply.Reply.TheVariants.{Done, Broken, Stopped}
use Rattle.serde_json.specs.Data.{string, Members, no_members, put}
use Rattle.line_members.specs.Values.{number_data, signed_data, hex_data, text_data, entries_data, with_field, object_line}

-- ---- members

abbrev pub with_numbers : Fields → Members → Members
with_numbers fields members =
    with_field number_data (codes "nspace") fields.nspace
    (with_field number_data (codes "domain") fields.domain
    (with_field number_data (codes "uses") fields.uses
    (with_field number_data (codes "count") fields.count
    (with_field number_data (codes "grant") fields.grant
    (with_field number_data (codes "pruned") fields.pruned
    (with_field number_data (codes "ticket") fields.ticket
    (with_field number_data (codes "challenge") fields.challenge
    (with_field number_data (codes "op") fields.op
    (with_field number_data (codes "key") fields.key
    (with_field number_data (codes "client") fields.client members))))))))))

abbrev pub with_bytes : Fields → Members → Members
with_bytes fields members =
    with_field entries_data (codes "entries") fields.entries
    (with_field hex_data (codes "list") fields.list
    (with_field hex_data (codes "blob") fields.blob
    (with_field hex_data (codes "out") fields.out
    (with_field hex_data (codes "nonce") fields.nonce
    (with_field text_data (codes "alias") fields.alias members)))))

-- `code` is always there, `rule` where a rule is broken, and each field that there is, by its name
abbrev pub reply_members : Reply → Members
reply_members (Done fields) = with_bytes fields (with_numbers fields (put (codes "code") (signed_data (pos 0)) no_members))
reply_members (Broken rule code) = put (codes "rule") (string (rule_text rule)) (put (codes "code") (signed_data (code_number code)) no_members)
reply_members (Stopped code) = put (codes "code") (signed_data (code_number code)) no_members

-- ---- lines

abbrev pub settled_text : Settled → List ℕ
settled_text Kept = codes "kept"
settled_text Lost = codes "lost"

abbrev pub settled_members : Settled → Members
settled_members settled = put (codes "settled") (string (settled_text settled)) no_members

-- how an earlier change was settled, where that was due
abbrev pub settled_line : Option Settled → List ℕ
settled_line None = []
settled_line (Some settled) = object_line (settled_members settled)

-- the lines of a step: how an earlier change was settled, where that was due, and the reply
abbrev pub line_of : Option Settled → Reply → List ℕ
line_of settled reply = settled_line settled ++ object_line (reply_members reply)

-- the answer to a line that spells no event: rule L1 with INVALID_ARGUMENT
abbrev pub malformed_line : List ℕ
malformed_line = line_of None (Broken (record { table = tables.L; number = 1 }) InvalidArgument)
