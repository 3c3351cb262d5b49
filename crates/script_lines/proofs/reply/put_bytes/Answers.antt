use Rattle.script_lines.proofs.reply.put_bytes.Goals as goal

pub returns : goal.returns
returns c =
    rw (c.in_ok-put_hex_if-4.ensures, c.in_ok-put_hex_if-3.ensures, c.in_ok-put_hex_if-2.ensures, c.in_ok-put_hex_if.ensures, c.in_ok-put_text_if.ensures) at
    c.put_entries_if.ensures
