use Rattle.std.proofs.Common.{◌≡◌, ◌&&◌, true, sym, subst}
use Rattle.std.proofs.lemmas.Bool.{and_parts}
use Rattle.journal_records.specs.LastingPart.{Lasting}
use Rattle.journal_records.specs.States.{may_hold_grant, takes_rows}
use Rattle.journal_records.specs.Storable.{IsStorable}
use Rattle.lasting_table.specs.Parts.{part_of}
use Rattle.lasting_table.specs.Replays.{phase_of}
use Rattle.lasting_table.proofs.Storing.{held_grant_storable}
use Rattle.lasting_table.proofs.replay.TableReplay.hold_grant.Goals as goal

pub invariant_of-self-2 : goal.invariant_of-self-2
invariant_of-self-2 c =
    let part = part_of c.reserve_grant.new.self in
    let met : takes_rows (phase_of c.self.inside.stage) && may_hold_grant (part_of c.self.inside.part) c.args.row ≡ true = rw (← c.self.view_is) at c.requires in
    let may : may_hold_grant part c.args.row ≡ true = subst (λ (p : Lasting). may_hold_grant p c.args.row ≡ true) (sym c.reserve_grant.ensures.same) (and_parts (takes_rows (phase_of c.self.inside.stage)) (may_hold_grant (part_of c.self.inside.part) c.args.row) met).1 in
    let stored : IsStorable part = subst IsStorable (sym c.reserve_grant.ensures.same) c.self.invariant.storable in
    record {
      storable = subst IsStorable (sym c.hold_grant.ensures) (held_grant_storable part c.args.row c.grant_widths.ensures may stored);
      nothing = λ begins. absurd (cc);
    }
