use Rattle.std.proofs.Common.{◌≡◌, ◌+◌, ◌<◌, ◌^◌, true, length, ap, sym, ◌∙◌, arith}
use Rattle.key_database.specs.Stands.{lasting}
use Rattle.rule_model.specs.Access.{owner_of}
use Rattle.rule_model.specs.Places.{has_key_place}
use Rattle.live_tables.specs.Device.{early_in}
use Rattle.keystore_core.proofs.Making.{full, keeps_goes, made, may_keep, place_is, planned_as, refused, unkept, without_entropy}
use Rattle.keystore_core.proofs.Standing.{same_but_keys}
use Rattle.keystore_core.proofs.tables.Tables.make_key.Goals as goal

pub returns-in-Err-Broken-clause-serves : goal.returns-in-Err-Broken-clause-serves
returns-in-Err-Broken-clause-serves g c = λ setup past stands.
    let asked = c.args.asked in
    let broken = planned_as setup past c.args.self.now c.args.caller asked.key asked.params asked.source stands c.requires.caller _
    (rw (c.in-Err-Broken.field-0-is, c.table.ensures, c.has_early_ended-early_ended.ensures) at c.in-Err-Broken.ensures.gives) in
    rw (c.refused.ensures.reply, c.refused.ensures.job, c.refused.ensures.drawn, c.in-Err-Broken.rule-is, c.in-Err-Broken.code-is)
    (refused setup past c.args.self.now c.args.caller asked.key asked.params asked.source stands c.requires.caller _ _ broken)

pub returns-in-Err-Full-clause-serves : goal.returns-in-Err-Full-clause-serves
returns-in-Err-Full-clause-serves g c = λ setup past stands.
    let asked = c.args.asked in
    let is = rw (c.in-Err-Full.field-0-is, c.table.ensures, c.has_early_ended-early_ended.ensures) at c.in-Err-Full.ensures.gives in
    let plan = planned_as setup past c.args.self.now c.args.caller asked.key asked.params asked.source stands c.requires.caller _ is.planned_is in
    rw (c.stopped.ensures.reply, c.stopped.ensures.job, c.stopped.ensures.drawn)
    (full setup past c.args.self.now c.args.caller asked.key asked.params asked.source stands c.requires.caller is.new plan
    (sym (place_is setup past c.args.self.now c.args.caller asked.key asked.params asked.source stands c.requires.caller) ∙ is.no_place))

pub returns-in-Err-clause-serves : goal.returns-in-Err-clause-serves
returns-in-Err-clause-serves g c = λ setup past stands.
    let asked = c.args.asked in
    let is = rw (c.table.ensures, c.has_early_ended-early_ended.ensures) at c.in-Ok.ensures.gives in
    let plan = planned_as setup past c.args.self.now c.args.caller asked.key asked.params asked.source stands c.requires.caller _ is.planned_is in
    let place = sym (place_is setup past c.args.self.now c.args.caller asked.key asked.params asked.source stands c.requires.caller) ∙ is.place in
    let few : length c.in-Err.drawn < c.in-Ok.admitted.new.plan.size + 12 = omega (arith, c.in-Err.ensures.part, c.in-Ok-make_ready.ensures.draws) in
    rw (c.without_entropy.ensures.reply, c.without_entropy.ensures.job, c.without_entropy.ensures.drawn)
    (without_entropy setup past c.args.self.now c.args.caller asked.key asked.params asked.source stands c.requires.caller _ c.in-Ok.admitted.new c.in-Err.drawn plan place
    (same_but_keys c.args.self.now c.make_ready.new.keys c.in-Ok-make_ready.ensures.same) few)

pub returns-in_default-sealed-clause-serves : goal.returns-in_default-sealed-clause-serves
returns-in_default-sealed-clause-serves g c = λ setup past stands.
    let asked = c.args.asked in
    let is = rw (c.table.ensures, c.has_early_ended-early_ended.ensures) at c.in-Ok.ensures.gives in
    let plan = planned_as setup past c.args.self.now c.args.caller asked.key asked.params asked.source stands c.requires.caller _ is.planned_is in
    let place = sym (place_is setup past c.args.self.now c.args.caller asked.key asked.params asked.source stands c.requires.caller) ∙ is.place in
    let long : length c.in-Ok-draw.drawn ≡ c.in-Ok.admitted.new.plan.size + 12 = omega (arith, c.in-Ok-draw.ensures.whole, c.in-Ok-make_ready.ensures.draws) in
    rw (c.without_memory.ensures.reply, c.without_memory.ensures.job, c.without_memory.ensures.drawn)
    (unkept setup past c.args.self.now c.args.caller asked.key asked.params asked.source stands c.requires.caller _ c.in-Ok.admitted.new c.in-Ok-draw.drawn plan place
    (same_but_keys c.args.self.now c.make_ready.new.keys c.in-Ok-make_ready.ensures.same) long)

pub keep-reply-requires-clause-can : goal.keep-reply-requires-clause-can
keep-reply-requires-clause-can g c =
    let asked = c.args.asked in
    let is = rw (c.table.ensures, c.has_early_ended-early_ended.ensures) at c.in-Ok.ensures.gives in
    let made = c.in-Ok-sealed.ensures.sealed in
    let place : has_key_place (lasting c.make_ready.new.keys) (owner_of c.args.caller) asked.key ≡ true =
    ap (λ part. has_key_place part (owner_of c.args.caller) asked.key) c.in-Ok-make_ready.ensures.same.lasting_is ∙ is.place in
    let small : owner_of c.args.caller < 2 ^ 32 = rw is.uid_is at c.in-Ok.ensures.small in
    rw (made.uid_is, is.uid_is, made.key_is, is.key_is, made.list_is)
    (may_keep c.args.self.now.device c.args.self.now.policy (lasting c.args.self.now.keys) c.args.caller asked.key asked.params asked.source _ c.make_ready.new.keys c.in-Ok.admitted.new.plan _ _ c.in-Ok.admitted.new.plan.limit c.in-Ok-make_ready.ensures.room place small
    is.fit c.in-Ok-sealed.ensures.few is.listed)

pub returns-clause-serves : goal.returns-clause-serves
returns-clause-serves g c = λ setup past stands.
    let asked = c.args.asked in
    let is = rw (c.table.ensures, c.has_early_ended-early_ended.ensures) at c.in-Ok.ensures.gives in
    let plan = planned_as setup past c.args.self.now c.args.caller asked.key asked.params asked.source stands c.requires.caller _ is.planned_is in
    let place = sym (place_is setup past c.args.self.now c.args.caller asked.key asked.params asked.source stands c.requires.caller) ∙ is.place in
    let long : length c.in-Ok-draw.drawn ≡ c.in-Ok.admitted.new.plan.size + 12 = omega (arith, c.in-Ok-draw.ensures.whole, c.in-Ok-make_ready.ensures.draws) in
    let sealed = rw (c.as_slice.ensures, is.material_is) at c.in-Ok-sealed.ensures.sealed in
    (made setup past c.args.self.now c.args.caller asked.key asked.params asked.source stands c.requires.caller (record c.args.self.now { keys = c.make_ready.new.keys }) c.keep-reply.new.keys c.in-Ok.admitted.new c.in-Ok-draw.drawn c.keep-reply.result plan place long
    (same_but_keys c.args.self.now c.make_ready.new.keys c.in-Ok-make_ready.ensures.same) c.requires.settled
    (rw (sealed.uid_is, is.uid_is, sealed.key_is, is.key_is, sealed.blob_is, sealed.list_is, sealed.limit_is) at c.keep-reply.ensures.written))

pub returns-clause-store : goal.returns-clause-store
returns-clause-store g c =
    let asked = c.args.asked in
    let is = rw (c.table.ensures, c.has_early_ended-early_ended.ensures) at c.in-Ok.ensures.gives in
    let sealed = rw (c.as_slice.ensures, is.material_is) at c.in-Ok-sealed.ensures.sealed in
    keeps_goes g.D.Disk c.args.self.now c.make_ready.new.keys c.keep-reply.new.keys c.args.disk.now c.keep-reply.new.disk c.args.caller asked.key asked.params asked.source
    (early_in c.args.self.now.boot.device) c.in-Ok.admitted.new c.in-Ok-draw.drawn c.keep-reply.result is.planned_is c.in-Ok-make_ready.ensures.same
    (rw (sealed.uid_is, is.uid_is, sealed.key_is, is.key_is, sealed.blob_is, sealed.list_is, sealed.limit_is) at c.keep-reply.ensures.store)
