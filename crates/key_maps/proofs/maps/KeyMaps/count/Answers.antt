use Rattle.std.proofs.Common.{arith}
use Rattle.std.specs.BTreeMap.{values}
use Rattle.journal_records.specs.LastingPart.{is_owned}
use Rattle.key_maps.proofs.Counting.{filter_le, length_values}
use Rattle.key_maps.proofs.maps.KeyMaps.count.Goals as goal

pub returns-clause-small : goal.returns-clause-small
returns-clause-small c =
    let rows = values c.self.inside.by_id in
    omega (arith, c.count_of.ensures, c.self.invariant.owned c.args.domain c.args.nspace, filter_le (is_owned c.args.domain c.args.nspace) rows, length_values c.self.inside.by_id.entries, c.len.ensures.len, c.len.ensures.small)
