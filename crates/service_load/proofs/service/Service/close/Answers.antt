use Rattle.std.proofs.Common.{Some}
use Rattle.std.proofs.Math.Logic.{∥∥₁_map}
use Rattle.ks_outside.specs.Draws.{counting_from}
use Rattle.service_load.specs.Services.{count_of}
use Rattle.service_load.proofs.Numbers.{all_numbered}
use Rattle.service_load.proofs.service.Service.close.Goals as goal

pub close-engine-requires-clause-all : goal.close-engine-requires-clause-all
close-engine-requires-clause-all g c = all_numbered c.args.passes.items (count_of c.args.self) c.requires.count c.requires.numbers

pub returns-clause-own : goal.returns-clause-own
returns-clause-own g c = c.close-engine.ensures.own

pub returns-clause-book : goal.returns-clause-book
returns-clause-book g c = record { legal = c.close-engine.ensures.legal; caused = c.close-engine.ensures.caused; drew = ∥∥₁_map c.close-engine.ensures.drew (λ d. (Some (counting_from c.close-engine.result.2.next), d)); others = c.close-engine.ensures.none }
