use Rattle.std.proofs.Common.{◌≡◌, ◌&&◌, ◌++◌, [], ◌∷◌, true, sym, subst, arith}
use Rattle.std.proofs.lemmas.Bool.{and_parts}
use Rattle.journal_records.specs.LastingPart.{Lasting}
use Rattle.journal_records.specs.States.{may_hold, takes_rows}
use Rattle.journal_records.specs.Storable.{IsStorable}
use Rattle.lasting_table.specs.Parts.{part_of}
use Rattle.lasting_table.specs.Replays.{phase_of}
use Rattle.lasting_table.proofs.Lengths.{snapshot_small}
use Rattle.lasting_table.proofs.Storing.{held_storable}
use Rattle.lasting_table.proofs.replay.TableReplay.hold.Goals as goal

pub hold-requires-clause-few : goal.hold-requires-clause-few
hold-requires-clause-few c =
    let part = part_of c.reserve_key.new.self in
    let met : takes_rows (phase_of c.self.inside.stage) && may_hold (part_of c.self.inside.part) c.args.key ≡ true = rw (← c.self.view_is) at c.requires in
    let may : may_hold part c.args.key ≡ true = subst (λ (p : Lasting). may_hold p c.args.key ≡ true) (sym c.reserve_key.ensures.same) (and_parts (takes_rows (phase_of c.self.inside.stage)) (may_hold (part_of c.self.inside.part) c.args.key) met).1 in
    let stored : IsStorable part = subst IsStorable (sym c.reserve_key.ensures.same) c.self.invariant.storable in
    let later = snapshot_small (record part { keys = part.keys ++ c.args.key ∷ [] }) (held_storable part c.args.key (c.key_widths.ensures part may) may stored) in
    omega (arith, later)

pub invariant_of-self-2 : goal.invariant_of-self-2
invariant_of-self-2 c =
    let part = part_of c.reserve_key.new.self in
    let met : takes_rows (phase_of c.self.inside.stage) && may_hold (part_of c.self.inside.part) c.args.key ≡ true = rw (← c.self.view_is) at c.requires in
    let may : may_hold part c.args.key ≡ true = subst (λ (p : Lasting). may_hold p c.args.key ≡ true) (sym c.reserve_key.ensures.same) (and_parts (takes_rows (phase_of c.self.inside.stage)) (may_hold (part_of c.self.inside.part) c.args.key) met).1 in
    let stored : IsStorable part = subst IsStorable (sym c.reserve_key.ensures.same) c.self.invariant.storable in
    record {
      storable = subst IsStorable (sym c.hold.ensures) (held_storable part c.args.key (c.key_widths.ensures part may) may stored);
      nothing = λ begins. absurd (cc);
    }
