-- An object that is written member by member.
use Rattle.serde_json.specs.Data.{Members}
use Rattle.serde_json.specs.View.{members_view}
use Rattle.line_members.specs.declared.written_object.WrittenObject.{WrittenObject}

-- its members
abbrev pub members_in : WrittenObject → Members
members_in object = members_view object.entries.entries
