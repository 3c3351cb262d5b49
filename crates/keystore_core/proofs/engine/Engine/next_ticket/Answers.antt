use Rattle.std.proofs.Common.{arith}
use Rattle.std.proofs.Math.Bridge.{le_prop}
use mathlib.Core.Logic.{∥∥₁_elim}
use Rattle.rule_model.specs.Acts.{is_enter}
use Rattle.rule_model.proofs.Counting.{count_few}
use Rattle.keystore_core.proofs.engine.Engine.next_ticket.Goals as goal

pub next-requires : goal.next-requires
next-requires c = ∥∥₁_elim c.requires.stands le_prop (λ t. omega (arith, t.stands.tables.tickets.given, count_few is_enter t.past, t.stands.entries, c.requires.few))
