use Rattle.std.proofs.Common.{Some, None, sym, ◌∙◌}
use Rattle.std.specs.Option.{option_copied}
use Rattle.key_maps.specs.First.{IsFirstFrom, start_of}
use Rattle.key_maps.proofs.Nexts.{no_next, next_of_other, next_is}
use Rattle.key_maps.proofs.Whole.{owned_parts}
use Rattle.key_maps.proofs.keys.Keys.next_name.Goals as goal

pub returns-in_default-clause-next : goal.returns-in_default-clause-next
returns-in_default-clause-next c =
    let first : IsFirstFrom c.args.self.now.rows (start_of c.args.domain c.args.nspace (option_copied c.args.past)) None = rw (c.in_default.is, c.start_of.ensures) at c.first_from.ensures.first in
    no_next c.args.self.now.rows c.first_from.ensures.orderly c.args.domain c.args.nspace (option_copied c.args.past) first

pub returns-then-not-is_owned-clause-next : goal.returns-then-not-is_owned-clause-next
returns-then-not-is_owned-clause-next c =
    let first : IsFirstFrom c.args.self.now.rows (start_of c.args.domain c.args.nspace (option_copied c.args.past)) (Some c.in-Some.key.now) = rw (c.in-Some.is, c.start_of.ensures) at c.first_from.ensures.first in
    next_of_other c.args.self.now.rows c.first_from.ensures.orderly c.args.domain c.args.nspace (option_copied c.args.past) c.in-Some.key.now (sym c.is_owned.ensures ∙ c.if-not-is_owned.true) first

pub returns-clause-next : goal.returns-clause-next
returns-clause-next c =
    let first : IsFirstFrom c.args.self.now.rows (start_of c.args.domain c.args.nspace (option_copied c.args.past)) (Some c.in-Some.key.now) = rw (c.in-Some.is, c.start_of.ensures) at c.first_from.ensures.first in
    let owner = owned_parts c.args.domain c.args.nspace c.in-Some.key.now (sym c.is_owned.ensures ∙ c.if-not-is_owned.false) in
    next_is c.args.self.now.rows c.first_from.ensures.orderly c.args.domain c.args.nspace (option_copied c.args.past) c.in-Some.key.now owner.0 owner.1 first
