-- How deep the object of an entry nests: at most four levels.
use Rattle.std.proofs.Common.{◌≤◌, codes, arith, refl}
use Rattle.rule_model.specs.declared.entry.Entry.{Entry}
use Rattle.rule_model.specs.declared.entry.Entry.TheVariants.{Acted, Settling}
use Rattle.serde_json.specs.Data.{string, object, Members, no_members, put, members_depth}
use Rattle.line_members.specs.Values.{hex_data}
use Rattle.line_members.proofs.Depths.{put_depth, least, flat}
use Rattle.script_lines.specs.EventLines.{event_members}
use Rattle.script_lines.specs.Replies.{reply_members, settled_text}
use Rattle.script_lines.proofs.Depths.{event_depth, reply_depth}
use Rattle.trace_lines.specs.Traces.{entry_members}

pub entry_depth : (entry : Entry) → members_depth (entry_members entry) ≤ 3
entry_depth (Acted event drawn reply) =
    let told = reply_depth reply in
    let act = event_depth event in
    let first : Members = put (codes "event") (object (event_members event)) no_members in
    let second : Members = put (codes "drawn") (hex_data drawn) first in
    put_depth 3 (codes "reply") (object (reply_members reply)) second (omega (arith, told))
    (flat (codes "drawn") (hex_data drawn) 3 first refl (put_depth 3 (codes "event") (object (event_members event)) no_members (omega (arith, act)) (least 3)))
entry_depth (Settling settled) = flat (codes "settled") (string (settled_text settled)) 3 no_members refl (least 3)
