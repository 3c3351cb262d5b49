use Rattle.std.proofs.Common.{◌≡◌, true, sym, subst}
use Rattle.journal_records.specs.Effects.{after}
use Rattle.journal_records.specs.Needs.{is_met}
use Rattle.journal_records.specs.Storable.{IsStorable}
use Rattle.journal_records.proofs.Leaving.{storable_after}
use Rattle.lasting_table.specs.Parts.{part_of}
use Rattle.lasting_table.proofs.Lengths.{snapshot_small}
use Rattle.lasting_table.proofs.replay.TableReplay.make.Goals as goal

pub make-requires-clause-few : goal.make-requires-clause-few
make-requires-clause-few c =
    let part = part_of c.reserve.new.self in
    let met : is_met (part_of c.self.inside.part) c.args.change ≡ true = rw (← c.self.view_is) at c.requires in
    let met_then : is_met part c.args.change ≡ true = rw c.reserve.ensures.same met in
    let stored : IsStorable part = subst IsStorable (sym c.reserve.ensures.same) c.self.invariant.storable in
    snapshot_small (after part c.args.change) (storable_after part c.args.change (c.change_widths.ensures part met_then) met_then stored)

pub invariant_of-self-2 : goal.invariant_of-self-2
invariant_of-self-2 c =
    let part = part_of c.reserve.new.self in
    let met : is_met (part_of c.self.inside.part) c.args.change ≡ true = rw (← c.self.view_is) at c.requires in
    let met_then : is_met part c.args.change ≡ true = rw c.reserve.ensures.same met in
    let stored : IsStorable part = subst IsStorable (sym c.reserve.ensures.same) c.self.invariant.storable in
    record {
      storable = subst IsStorable (sym c.make.ensures) (storable_after part c.args.change (c.change_widths.ensures part met_then) met_then stored);
      nothing = λ begins. absurd (cc);
    }
