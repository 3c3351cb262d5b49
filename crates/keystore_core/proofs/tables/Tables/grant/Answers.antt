use Rattle.std.proofs.Common.{◌≡◌, Option, Some, true, false, ap, refl, rules, subst, sym, ◌∙◌}
use Rattle.std.specs.Option.{option_copied}
use Rattle.key_database.specs.Stands.{lasting}
use Rattle.journal_records.specs.LastingPart.{Lasting, some_has_id}
use Rattle.rule_model.specs.Access.{id_of}
use Rattle.rule_model.specs.Changes.{grant_number}
use Rattle.rule_model.specs.Places.{has_grant_place}
use Rattle.keystore_core.proofs.KeyTable.{found_live, may_grant}
use Rattle.rule_model.specs.declared.event.Act.TheVariants as acts
use Rattle.rule_model.specs.Replies.{no_fields}
use Rattle.journal_records.specs.declared.change.Change.{Change}
use Rattle.keystore_core.specs.Writing.{StoreGoes}
use Rattle.keystore_core.proofs.Written.{goes_from}
use Rattle.keystore_core.proofs.Reading.{writes}
use Rattle.keystore_core.proofs.tables.Tables.grant.Goals as goal

pub write_change-reply-requires-clause-can : goal.write_change-reply-requires-clause-can
write_change-reply-requires-clause-can g c =
    let same = c.in_ok-reserve_grant.ensures.same.lasting_is in
    let found = rw c.table.ensures at c.key_call-facts.ensures.key in
    let id = c.in-Some.found.now.id in
    let live : some_has_id id (lasting c.args.self.now.keys).keys ≡ true =
    found_live c.args.self.now.policy (lasting c.args.self.now.keys) c.args.caller c.args.key.now id (ap id_of (sym found ∙ ap option_copied c.in-Some.is)) in
    let place = rw c.table-2.ensures at c.in-Some-grant_place.ensures.some in (
      may_grant (lasting c.reserve_grant.new.self) id c.args.uid c.of_bits-bits.result c.in-Some-grant_place.grant
          (ap (λ (part : Lasting). some_has_id id part.keys) same ∙ live) (ap (λ part. has_grant_place part id c.args.uid) same ∙ place.0) (place.1 ∙ sym (ap (λ part. grant_number part id c.args.uid) same)),
      (λ e. cc, λ e. c.in_ok-reserve_grant.ensures.room),
    )

pub returns-clause-serves : goal.returns-clause-serves
returns-clause-serves g c = λ setup past stands. rw (c.undrawn.ensures.reply, c.undrawn.ensures.job, c.undrawn.ensures.drawn)
    (writes setup past c.args.self.now c.args.caller (acts.Grant c.args.key.now c.args.uid c.args.bits) stands c.requires.caller
    (record { draws = refl; clients = refl; operations = refl; tickets = refl; restarts = refl; root = λ before. refl; boot = refl })
    c.reserve_grant.new.self c.write_change-reply.new.keys (record no_fields { grant = Some c.in-Some-grant_place.grant }) _ c.write_change-reply.result
    c.in_ok-reserve_grant.ensures.same c.requires.settled (search rules) c.write_change-reply.ensures.written (search rules) refl)

pub returns-clause-store : goal.returns-clause-store
returns-clause-store g c =
    rw c.undrawn.ensures.reply
    (subst (λ (change : Option Change). StoreGoes g.D.Disk c.args.self.now.keys c.write_change-reply.new.keys c.args.disk.now c.write_change-reply.new.disk false change c.write_change-reply.result) (search rules)
    (goes_from g.D.Disk c.args.self.now.keys c.reserve_grant.new.self c.write_change-reply.new.keys c.args.disk.now c.write_change-reply.new.disk false _ c.write_change-reply.result
    c.in_ok-reserve_grant.ensures.same c.write_change-reply.ensures.store))
