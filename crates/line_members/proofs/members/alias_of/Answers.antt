use Rattle.std.proofs.Common.{◌≡◌, Some, rules, sym}
use Rattle.std.specs.Str.{IsUtf8}
use Rattle.serde_json.specs.Find.{as_str}
use Rattle.serde_json.specs.View.{view}
use Rattle.line_members.proofs.Texts.{alias_given}
use Rattle.line_members.proofs.members.alias_of.Goals as goal

pub returns-in-Some : goal.returns-in-Some
returns-in-Some c =
    let found : as_str (view c.args.value.now) ≡ Some c.in-Some.text.now = search rules in
    let utf8 : IsUtf8 c.in-Some.text.now = search rules in
    rw (c.in_ok-copy_of.ensures, c.as_bytes.ensures.value) (alias_given c.args.form (view c.args.value.now) c.in-Some.text.now found utf8)
