use Rattle.std.proofs.Common.{sym, ◌∙◌, ap}
use Rattle.std.specs.Option.{option_copied}
use Rattle.key_maps.specs.Maps.{id_of}
use Rattle.lasting_table.proofs.Rising.{keys_rise}
use Rattle.lasting_table.proofs.Lockstep.{empty_front, fewer_behind, steps_on, same_at_end}
use Rattle.lasting_table.proofs.Ends.{copied_none}
use Rattle.lasting_table.proofs.compared.same_keys.Goals as goal

pub keys-init : goal.keys-init
keys-init c = empty_front id_of c.args.keys.now.rows ∙ sym (empty_front id_of c.args.other.now.rows)

pub returns-in_default-clause-yes : goal.returns-in_default-clause-yes
returns-in_default-clause-yes c = λ yes_none.
    same_at_end id_of c.keys.past c.args.keys.now.rows c.args.other.now.rows c.keys.invariant (sym c.next_after.ensures.key ∙ ap option_copied c.in_default.is)
    (sym c.next_after-in_default.ensures.key ∙ copied_none c.next_after-in_default.result c.is_none.result c.is_none.ensures yes_none)

pub keys-smaller : goal.keys-smaller
keys-smaller c = fewer_behind id_of c.keys.past c.args.keys.now.rows c.in-Some.key.now (keys_rise c.args.keys.now.rows c.next_after.ensures.orderly) (sym c.next_after.ensures.key ∙ ap option_copied c.in-Some.is)

pub keys-preserved : goal.keys-preserved
keys-preserved c =
    steps_on id_of c.keys.past c.args.keys.now.rows c.args.other.now.rows c.in-Some.key.now c.in-Some-next_after.its.now (keys_rise c.args.keys.now.rows c.next_after.ensures.orderly) (keys_rise c.args.other.now.rows c.next_after-in-keys.ensures.orderly) c.keys.invariant
    (sym c.next_after.ensures.key ∙ ap option_copied c.in-Some.is) (sym c.next_after-in-keys.ensures.key ∙ ap option_copied c.in-Some-next_after.is)
    (c.same_key.ensures.yes c.if-not-same_key.false)
