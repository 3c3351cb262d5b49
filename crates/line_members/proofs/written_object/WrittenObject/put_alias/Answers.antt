use Rattle.std.specs.Str.{IsUtf8}
use Rattle.line_members.proofs.Texts.{alias_is_text, alias_is_hex}
use Rattle.line_members.proofs.written_object.WrittenObject.put_alias.Goals as goal

pub returns-in-Ok : goal.returns-in-Ok
returns-in-Ok c =
    let utf8 : IsUtf8 c.args.alias.now = rw c.as_slice.ensures at c.in-Ok.ensures.cases.1 in
    rw (alias_is_text c.args.alias.now utf8) (rw (c.in-Ok.ensures.cases.0, c.as_slice.ensures) at c.put_str.ensures)

pub returns-in_ok-put_hex-in-Err : goal.returns-in_ok-put_hex-in-Err
returns-in_ok-put_hex-in-Err c =
    let none : IsUtf8 c.args.alias.now → ⊥ = rw c.as_slice.ensures at c.in-Err.ensures.cases.0 in
    rw (alias_is_hex c.args.alias.now none) (rw (c.in_ok-put_hex-in-Err.ensures, c.new-object.ensures, c.as_slice-in-Err.ensures) at c.put_object.ensures)
