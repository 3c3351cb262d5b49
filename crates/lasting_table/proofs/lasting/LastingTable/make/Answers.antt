use Rattle.std.proofs.Common.{◌≡◌, true, sym, subst}
use Rattle.journal_records.specs.Effects.{after}
use Rattle.journal_records.specs.Needs.{is_met}
use Rattle.journal_records.specs.Storable.{IsStorable}
use Rattle.journal_records.proofs.Leaving.{storable_after}
use Rattle.lasting_table.specs.Parts.{part_of}
use Rattle.lasting_table.proofs.Lengths.{snapshot_small}
use Rattle.lasting_table.proofs.lasting.LastingTable.make.Goals as goal

pub make-requires-clause-few : goal.make-requires-clause-few
make-requires-clause-few c =
    let met : is_met (part_of c.self.inside.part) c.args.change ≡ true = rw (← c.self.view_is) at c.requires.0 in
    snapshot_small (after (part_of c.self.inside.part) c.args.change)
    (storable_after (part_of c.self.inside.part) c.args.change (c.change_widths.ensures (part_of c.self.inside.part) met) met c.self.invariant)

pub invariant_of-self : goal.invariant_of-self
invariant_of-self c =
    let met : is_met (part_of c.self.inside.part) c.args.change ≡ true = rw (← c.self.view_is) at c.requires.0 in
    subst IsStorable (sym c.make.ensures) (storable_after (part_of c.self.inside.part) c.args.change (c.change_widths.ensures (part_of c.self.inside.part) met) met c.self.invariant)
