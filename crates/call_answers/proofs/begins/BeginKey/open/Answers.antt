use Rattle.std.proofs.Common.{refl, subst}
use Rattle.std.specs.Option.{option_copied}
use Rattle.rule_model.specs.BeginFacts.{begin_key}
use Rattle.call_answers.specs.Beginning.{IsBeginKey}
use Rattle.call_answers.proofs.BeginKeys.{own_key}
use Rattle.call_answers.proofs.begins.BeginKey.open.Goals as goal

pub returns-clause-opens : goal.returns-clause-opens
returns-clause-opens c =
    let told = rw c.as_slice.ensures at c.in_ok-asked.ensures in
    let found = c.find_for-access.ensures in
    let opened = rw c.blob_for.ensures at c.in_ok-opened.ensures.opened in
    record {
      key_is = refl;
      asked_is = told;
      access_is = found.access;
      own_is = subst (IsBeginKey _) (λ i. begin_key c.args.device.now (found.access i) (found.key i) c.args.key (told i))
          (own_key c.args.device.now c.find_for-access.result.0 (option_copied c.find_for-access.result.1) c.args.key c.in_ok-asked.asked _ opened c.is_found-found.ensures c.id_of-id.ensures c.limited_by-limited.ensures);
    }
