-- How many bytes a key's body has.
use Rattle.std.proofs.Common.{arith}
use Rattle.journal_records.proofs.SnapshotBytes.{key_long}
use Rattle.journal_records.proofs.writing.body_length.Goals as goal

pub returns-in-Create : goal.returns-in-Create
returns-in-Create c =
    let key = c.in-Create in
    record {
      length = rw (key.is, c.len.ensures, c.len-in-Create.ensures, c.len-in-Create-2.ensures)
          (omega (arith, key_long (record { id = key.id; domain = key.domain; nspace = key.nspace; limit = key.limit; left = key.limit }) key.alias key.blob key.list));
    }
