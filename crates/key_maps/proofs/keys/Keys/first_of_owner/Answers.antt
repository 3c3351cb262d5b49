use Rattle.std.proofs.Common.{Some, None}
use Rattle.journal_records.specs.Lookups.{IsNextName}
use Rattle.key_maps.proofs.Nexts.{none_owned, next_numbered}
use Rattle.key_maps.proofs.keys.Keys.first_of_owner.Goals as goal

pub returns-in_default-clause-none : goal.returns-in_default-clause-none
returns-in_default-clause-none c =
    let next : IsNextName c.args.self.now.rows c.args.domain c.args.nspace None None = rw c.in_default.is at c.next_name.ensures.next in
    none_owned c.args.domain c.args.nspace c.args.self.now.rows c.next_name.ensures.orderly next

pub returns-clause-found : goal.returns-clause-found
returns-clause-found c =
    let next : IsNextName c.args.self.now.rows c.args.domain c.args.nspace None (Some c.in-Some.key.now) = rw c.in-Some.is at c.next_name.ensures.next in
    next_numbered c.args.self.now.rows c.args.domain c.args.nspace c.in-Some.key.now c.next_name.ensures.orderly next
