use Rattle.std.proofs.Common.{sym, ◌∙◌}
use Rattle.turn_lock.specs.Passes.{turn_number}
use Rattle.turn_lock.specs.Resting.{resting_front, resting_number}
use Rattle.shared_service.specs.DeskWords.{desk_book}
use Rattle.shared_service.specs.Passes.{service_name}
use Rattle.shared_service.proofs.FirstTurn.{seen_after}
use Rattle.shared_service.proofs.shared.Shared.turned_away.Goals as goal

pub seated-requires-clause-seen : goal.seated-requires-clause-seen
seated-requires-clause-seen g c =
    let desk = c.args.desk in
    let kept = c.args.kept in
    seen_after g.D.Disk g.N.Entropy desk.name (service_name c.args.self.now) desk.engine desk.disk desk.entropy (desk_book desk) (resting_front c.rest-pass.result) (turn_number c.args.turn) (resting_number c.rest-pass.result) kept.client kept.connected desk.stands
    c.requires.caller c.requires.fits (c.rest-pass.ensures.same.0 ∙ c.leave_seeing.ensures.number) (c.rest-pass.ensures.same.1 ∙ (c.leave_seeing.ensures.front ∙ sym c.requires.same))
