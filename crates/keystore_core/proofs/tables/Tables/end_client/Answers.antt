use Rattle.std.proofs.Common.{List, ℕ, refl, ap, ◌∙◌}
use Rattle.operation_slots.specs.Table.{operations_of, without_all}
use Rattle.keystore_core.proofs.Booted.{same_boot}
use Rattle.keystore_core.proofs.Ended.{left_without}
use Rattle.keystore_core.proofs.KeyTable.{same_keys_as}
use Rattle.keystore_core.proofs.tables.Tables.end_client.Goals as goal

pub returns-clause-ends : goal.returns-clause-ends
returns-clause-ends c = λ setup past stands. record {
  goes = c.disconnect.ensures.goes;
  given = c.disconnect.ensures.given;
  keys = same_keys_as _ _ refl refl refl;
  rows = c.close_of.ensures;
  slots = record {
    operations = c.take_all_out.ensures.operations
        ∙ ap (λ (numbers : List ℕ). without_all numbers (operations_of c.args.self.now.slots)) c.numbers_of-numbers.ensures.numbers
        ∙ left_without setup past c.args.self.now c.args.client stands c.numbers_of-numbers.ensures.apart;
    capacity = c.take_all_out.ensures.capacity;
  };
  fresh = c.take_all_out.ensures.fresh;
  later = c.take_all_out.ensures.later;
  tickets = record { outs = λ ticket. refl; given = refl };
  boot = same_boot _;
}

pub returns-clause-keys : goal.returns-clause-keys
returns-clause-keys c = same_keys_as _ _ refl refl refl
