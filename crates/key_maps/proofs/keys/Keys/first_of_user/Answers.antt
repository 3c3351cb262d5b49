use Rattle.std.proofs.Common.{◌≡◌, true, ◌*◌, [], Some, None, sym, ◌∙◌}
use Rattle.std.specs.declared.ops.Bound.TheVariants.{Included}
use Rattle.journal_records.specs.LastingPart.{is_of_user}
use Rattle.key_maps.specs.First.{IsFirstFrom}
use Rattle.key_maps.specs.Names.{name_of}
use Rattle.key_maps.proofs.Nexts.{user_none, user_beyond, first_numbered}
use Rattle.key_maps.proofs.keys.Keys.first_of_user.Goals as goal
use Rattle.tags.specs.declared.limits.TheConstants.{USER_UIDS}

pub returns-in_default-clause-none : goal.returns-in_default-clause-none
returns-in_default-clause-none c =
    let first : IsFirstFrom c.args.self.now.rows (Included (name_of 0 (c.args.user * USER_UIDS) [])) None = rw (c.in_default.is, c.name_of.ensures) at c.first_from.ensures.first in
    user_none c.args.self.now.rows c.first_from.ensures.orderly c.args.user first

pub returns-then-not-is_of_user-clause-none : goal.returns-then-not-is_of_user-clause-none
returns-then-not-is_of_user-clause-none c =
    let first : IsFirstFrom c.args.self.now.rows (Included (name_of 0 (c.args.user * USER_UIDS) [])) (Some c.in-Some.key.now) = rw (c.in-Some.is, c.name_of.ensures) at c.first_from.ensures.first in
    user_beyond c.args.self.now.rows c.first_from.ensures.orderly c.args.user c.in-Some.key.now (sym c.is_of_user.ensures ∙ c.if-not-is_of_user.true) first

pub returns-clause-found : goal.returns-clause-found
returns-clause-found c =
    let first : IsFirstFrom c.args.self.now.rows (Included (name_of 0 (c.args.user * USER_UIDS) [])) (Some c.in-Some.key.now) = rw (c.in-Some.is, c.name_of.ensures) at c.first_from.ensures.first in
    first_numbered c.args.self.now.rows _ c.in-Some.key.now (λ key. is_of_user c.args.user key ≡ true) c.first_from.ensures.orderly first (sym c.is_of_user.ensures ∙ c.if-not-is_of_user.false)
