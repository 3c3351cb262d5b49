-- One grant more is told, until there is none.
use Rattle.std.proofs.Common.{ℕ, ◌∷◌, Option, refl, sym, ap, ◌∙◌, subst, arith}
use Rattle.std.specs.Option.{option_map}
use Rattle.grants.specs.declared.row.GrantRow.{GrantRow}
use Rattle.held_rows.specs.Rows.{held_row}
use Rattle.journal_records.specs.Storable.{held_grant}
use Rattle.journal_compact.specs.Gathering.{IsGathering}
use Rattle.journal_compact.proofs.Telling.{IsTelling, grants_length, grants_more, grants_rise, grants_some, next_grant, number_of, row_length, row_within, telling_ends, telling_gathers, telling_none, telling_on}
use Rattle.journal_compact.proofs.Walk.{next_is, none_left}
use Rattle.journal_compact.proofs.snapshot.put_grants.Goals as goal

pub grants-init : goal.grants-init
grants-init g c =
    let part = g.K.Held.part c.args.keys.now in
    telling_none g.D.Disk number_of held_grant grants_length row_length refl grants_more c.args.disk.now part.grants c.args.rows c.args.bytes.now (grants_some part.next_grant part.keys part.grants c.requires.storable.grants) c.requires.count

pub put_grant-requires-clause-end : goal.put_grant-requires-clause-end
put_grant-requires-clause-end g c =
    let part = g.K.Held.part c.args.keys.now in
    let next = next_grant part c.grants.past c.grants.invariant.before c.grants.invariant.left c.in-Some.row c.requires.storable c.grants.invariant.walk (sym c.grant_after.ensures ∙ c.in-Some.is) in
    let within = row_within g.D.Disk number_of held_grant grants_length row_length refl grants_more c.args.disk.now part.grants c.args.rows c.args.bytes.now c.grants.disk c.grants.disk c.grants.past c.grants.rows c.grants.rows c.grants.bytes c.grants.bytes
    c.grants.invariant next.grant next.rest next.first in
    omega (arith, within, c.requires.end)

pub returns-in_default-put_grant-clause-gathers : goal.returns-in_default-put_grant-clause-gathers
returns-in_default-put_grant-clause-gathers g c = λ old at most told is fits.
    let part = g.K.Held.part c.args.keys.now in
    let next = next_grant part c.grants.past c.grants.invariant.before c.grants.invariant.left c.in-Some.row c.requires.storable c.grants.invariant.walk (sym c.grant_after.ensures ∙ c.in-Some.is) in
    let within = row_within g.D.Disk number_of held_grant grants_length row_length refl grants_more c.args.disk.now part.grants c.args.rows c.args.bytes.now c.grants.disk c.grants.disk c.grants.past c.grants.rows c.grants.rows c.grants.bytes c.grants.bytes
    c.grants.invariant next.grant next.rest next.first in
    c.in_default-put_grant.ensures.gathers old at most _ (c.grants.invariant.gathers old at most told is fits) (omega (arith, fits, within))

pub grants-smaller : goal.grants-smaller
grants-smaller g c =
    let part = g.K.Held.part c.args.keys.now in
    let next = next_grant part c.grants.past c.grants.invariant.before c.grants.invariant.left c.in-Some.row c.requires.storable c.grants.invariant.walk (sym c.grant_after.ensures ∙ c.in-Some.is) in
    omega (arith, next.behind, next.below)

pub grants-preserved : goal.grants-preserved
grants-preserved g c =
    let part = g.K.Held.part c.args.keys.now in
    let next = next_grant part c.grants.past c.grants.invariant.before c.grants.invariant.left c.in-Some.row c.requires.storable c.grants.invariant.walk (sym c.grant_after.ensures ∙ c.in-Some.is) in
    let same = c.grant_row.ensures ∙ sym next.is in
    subst (λ (n : ℕ). IsTelling g.D.Disk number_of held_grant grants_length c.args.disk.now c.put_grant.new.disk part.grants n c.args.rows c.in-Ok.more c.args.bytes.now c.put_grant.new.bytes) next.number
    (telling_on g.D.Disk number_of held_grant grants_length row_length refl grants_more c.args.disk.now part.grants c.args.rows c.args.bytes.now c.grants.disk c.put_grant.new.disk c.grants.past c.grants.rows c.in-Ok.more c.grants.bytes c.put_grant.new.bytes
    c.grants.invariant next.grant next.rest next.first (grants_rise part.grants c.requires.storable.grants_differ) c.put_grant.ensures.size c.in-Ok.ensures.count c.in-Ok.ensures.end
    (λ start at most told was fits. subst (λ (row : GrantRow). IsGathering g.D.Disk start c.put_grant.new.disk at most c.in-Ok.more c.put_grant.new.bytes (held_grant row ∷ told)) same
    (c.in-Ok.ensures.gathers start at most told was fits)) c.in-Ok.ensures.goes)

pub returns-clause-end : goal.returns-clause-end
returns-clause-end g c =
    let part = g.K.Held.part c.args.keys.now in
    let last = none_left held_row c.grants.invariant.left (sym (ap (λ (o : Option GrantRow). option_map held_row o) (next_is number_of part.grants c.grants.past c.grants.invariant.before c.grants.invariant.left c.grants.invariant.walk)) ∙ sym c.grant_after.ensures ∙ c.in_default.is) in
    telling_ends g.D.Disk number_of held_grant grants_length row_length refl grants_more c.args.disk.now part.grants c.args.rows c.args.bytes.now c.grants.disk c.grants.disk c.grants.past c.grants.rows c.grants.rows c.grants.bytes c.grants.bytes c.grants.invariant last

pub returns-clause-gathers : goal.returns-clause-gathers
returns-clause-gathers g c =
    let part = g.K.Held.part c.args.keys.now in
    let last = none_left held_row c.grants.invariant.left (sym (ap (λ (o : Option GrantRow). option_map held_row o) (next_is number_of part.grants c.grants.past c.grants.invariant.before c.grants.invariant.left c.grants.invariant.walk)) ∙ sym c.grant_after.ensures ∙ c.in_default.is) in
    telling_gathers g.D.Disk number_of held_grant grants_length row_length refl grants_more c.args.disk.now part.grants c.args.rows c.args.bytes.now c.grants.disk c.grants.disk c.grants.past c.grants.rows c.grants.rows c.grants.bytes c.grants.bytes c.grants.invariant last
