use denote.Param.Send.{sendable}
use Rattle.service_load.proofs.Beginning.{book_by}
use Rattle.service_load.proofs.Crossing.{calls_shown}
use Rattle.service_load.proofs.running.run.Goals as goal

pub perform_all-requires-sync-T : goal.perform_all-requires-sync-T
perform_all-requires-sync-T g c κs within = search (calls_shown, sendable) depth 60 fits 20000

pub close-requires-clause-numbers : goal.close-requires-clause-numbers
close-requires-clause-numbers g c = c.in-Ok.ensures.numbers

pub close-requires-clause-ours : goal.close-requires-clause-ours
close-requires-clause-ours g c = c.in-Ok.ensures.ours

pub returns-in-Ok : goal.returns-in-Ok
returns-in-Ok g c = record { book = book_by c.in_ok-service.service c.args.threads c.close.result c.in_ok-service.ensures.new c.in_ok-service.ensures.count.0 c.close.ensures.book }
