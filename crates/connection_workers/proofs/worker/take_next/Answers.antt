use Rattle.std.proofs.Common.{◌∙◌, arith}
use Rattle.turn_lock.specs.Passes.{front_before, name_of, seen, turn_number}
use Rattle.connection_workers.specs.Arrivals.{arrived}
use Rattle.connection_workers.proofs.Turning.{one_more}
use Rattle.connection_workers.proofs.worker.take_next.Goals as goal

pub leave-requires-clause-room : goal.leave-requires-clause-room
leave-requires-clause-room g c =
    let is = c.take.ensures.goes_on (name_of c.args.lock.now) c.enter-turn.ensures.fits in
    let noted = is.noted in
    let taken = is.taken in
    let few = is.few in
    omega (arith, noted, taken, few)

pub leave-requires-clause-fits : goal.leave-requires-clause-fits
leave-requires-clause-fits g c = c.take.ensures.goes_on (name_of c.args.lock.now) c.enter-turn.ensures.fits

pub leave_seeing-requires-clause-fits : goal.leave_seeing-requires-clause-fits
leave_seeing-requires-clause-fits g c = c.take.ensures.goes_on (name_of c.args.lock.now) c.enter-turn.ensures.fits

pub returns-in-Some-clause-arrives : goal.returns-in-Some-clause-arrives
returns-in-Some-clause-arrives g c =
    let turn = c.enter-turn.result.0 in
    let came = c.enter-turn.ensures in
    one_more c.args.pass c.leave.result (turn_number turn) (front_before turn) came.number (c.leave.ensures.number ∙ came.number) came.front
    c.number.result c.in-Some.link (seen turn) (arrived c.enter-turn.result.1) (arrived c.take.new.self) c.number.ensures came.value c.in-Some.ensures.arrives c.leave.ensures.own
