use Rattle.lasting_table.specs.TableView.{lasting_in}
use Rattle.call_answers.proofs.NewKeySources.{unwrapped_told}
use Rattle.call_answers.proofs.key_sources.unwrapped.Goals as goal

pub returns : goal.returns
returns c =
    let text = rw c.as_slice.ensures at c.in_ok-text.ensures.text in
    let facts = rw c.is_some.ensures at c.wrap_facts-facts.ensures in
    rw c.saturating_sub.ensures
    (unwrapped_told c.args.device.now c.args.policy.now (lasting_in c.args.table.now) c.args.caller c.args.wrapping c.args.unwrapping.now c.args.wrapped.now c.in_ok-own.own c.in_ok-own.ensures.opens
    c.in_ok-text.text c.wrap_facts-facts.result c.text_or_none.result text facts c.text_or_none.ensures)
