use Rattle.std.proofs.Common.{sym}
use Rattle.key_rules.proofs.Ids.{short_copy}
use Rattle.key_rules.proofs.creation.id_in.Goals as goal

pub returns-in_ok-copy_of-in-Some-clause-short : goal.returns-in_ok-copy_of-in-Some-clause-short
returns-in_ok-copy_of-in-Some-clause-short c =
    short_copy c.args.tag c.args.list.now c.in-Some.bytes.now c.in_ok-copy_of-in-Some.field-0 c.requires (sym c.in-Some.ensures.bytes) c.in_ok-copy_of-in-Some.ensures
