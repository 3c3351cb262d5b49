use Rattle.tag_lists.proofs.Numbers.{bytes_short}
use Rattle.tag_lists.proofs.list.AuthList.bytes.Goals as goal

pub returns-in-Some-clause-short : goal.returns-in-Some-clause-short
returns-in-Some-clause-short c =
    rw c.as_bytes.ensures (bytes_short c.args.tag c.args.self.now c.in-Some.param.now c.params-params.ensures.canonical c.in-Some.ensures)
