use Rattle.std.proofs.Common.{arith}
use Rattle.std.specs.BTreeMap.{values}
use Rattle.journal_records.specs.LastingPart.{is_owned}
use Rattle.key_maps.proofs.KeyRows.{fit_last}
use Rattle.key_maps.proofs.Counting.{filter_le, length_values}
use Rattle.key_maps.proofs.Indexing.{pushed, pushed_rows, undone}
use Rattle.key_maps.proofs.maps.KeyMaps.insert.Goals as goal

pub name_of-name-requires : goal.name_of-name-requires
name_of-name-requires c = rw (c.as_slice.ensures) (fit_last c.args.self.now c.args.key c.requires.rows).0

pub raise-requires : goal.raise-requires
raise-requires c =
    let rows = values c.self.inside.by_id in
    omega (arith, c.self.invariant.owned c.args.key.domain c.args.key.nspace, filter_le (is_owned c.args.key.domain c.args.key.nspace) rows, length_values c.self.inside.by_id.entries, c.len.ensures.len, c.len.ensures.small)

pub invariant_of-self-in-Ok-insert-2 : goal.invariant_of-self-in-Ok-insert-2
invariant_of-self-in-Ok-insert-2 c =
    pushed c.self.inside c.insert-2.new.self c.insert.new.self c.raise.new.counts c.args.key c.self.invariant (rw (← c.self.view_is) at c.requires.rows) c.in-Ok-insert-2.ensures.entries
    (rw (c.name_of-name.ensures, c.as_slice.ensures) at c.in-Ok-insert.ensures.updates) c.in-Ok.ensures.ok

pub returns-in-Ok-insert-2-clause-ok : goal.returns-in-Ok-insert-2-clause-ok
returns-in-Ok-insert-2-clause-ok c =
    rw (← c.self.view_is) (pushed_rows c.self.inside c.insert-2.new.self c.args.key c.self.invariant (rw (← c.self.view_is) at c.requires.rows) c.in-Ok-insert-2.ensures.entries)

pub invariant_of-self-in-Err : goal.invariant_of-self-in-Err
invariant_of-self-in-Err c =
    undone c.self.inside c.insert-2.new.self c.insert.new.self c.remove.new.self c.raise.new.counts c.lower-in-Err.new.counts c.args.key c.self.invariant (rw (← c.self.view_is) at c.requires.rows) c.in-Err.ensures.err
    (rw (c.name_of-name.ensures, c.as_slice.ensures) at c.in-Ok-insert.ensures.updates) (rw (c.name_of-name.ensures, c.as_slice.ensures) at c.remove.ensures.updates)
    c.in-Ok.ensures.ok c.lower-in-Err.ensures
