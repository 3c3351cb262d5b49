use Rattle.std.proofs.Common.{sym, ◌∙◌, ap}
use Rattle.std.specs.Option.{option_copied}
use Rattle.lasting_table.proofs.Rising.{grant_of, grants_rise}
use Rattle.lasting_table.proofs.Lockstep.{empty_front, fewer_behind, steps_on, same_at_end}
use Rattle.lasting_table.proofs.Ends.{copied_none}
use Rattle.lasting_table.proofs.compared.same_grants.Goals as goal

pub rows-init : goal.rows-init
rows-init c = empty_front grant_of c.args.grants.now.rows ∙ sym (empty_front grant_of c.args.other.now.rows)

pub returns-in_default-clause-yes : goal.returns-in_default-clause-yes
returns-in_default-clause-yes c = λ yes_none.
    same_at_end grant_of c.rows.past c.args.grants.now.rows c.args.other.now.rows c.rows.invariant (sym c.next_after.ensures.row ∙ ap option_copied c.in_default.is)
    (sym c.next_after-in_default.ensures.row ∙ copied_none c.next_after-in_default.result c.is_none.result c.is_none.ensures yes_none)

pub rows-smaller : goal.rows-smaller
rows-smaller c = fewer_behind grant_of c.rows.past c.args.grants.now.rows c.in-Some.row.now (grants_rise c.args.grants.now.rows c.next_after.ensures.orderly) (sym c.next_after.ensures.row ∙ ap option_copied c.in-Some.is)

pub rows-preserved : goal.rows-preserved
rows-preserved c =
    steps_on grant_of c.rows.past c.args.grants.now.rows c.args.other.now.rows c.in-Some.row.now c.in-Some-next_after.its.now (grants_rise c.args.grants.now.rows c.next_after.ensures.orderly) (grants_rise c.args.other.now.rows c.next_after-in-rows.ensures.orderly) c.rows.invariant
    (sym c.next_after.ensures.row ∙ ap option_copied c.in-Some.is) (sym c.next_after-in-rows.ensures.row ∙ ap option_copied c.in-Some-next_after.is)
    (c.same_row.ensures.yes c.if-not-same_row.false)
