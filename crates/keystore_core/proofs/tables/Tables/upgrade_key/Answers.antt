use Rattle.std.proofs.Common.{◌≡◌, length, ap, ◌∙◌, arith}
use Rattle.key_blobs.specs.Blobs.{blob_of}
use Rattle.call_answers.specs.Upgrading.{IsSmall}
use Rattle.keystore_core.proofs.Upgraded.{given, may_renew, none_sealed, refused, renewed, renewed_goes, some_sealed}
use Rattle.keystore_core.proofs.tables.Tables.upgrade_key.Goals as goal

pub returns-in-Err-Broken-clause-serves : goal.returns-in-Err-Broken-clause-serves
returns-in-Err-Broken-clause-serves g c = λ setup past stands.
    let broken = rw c.in-Err-Broken.field-0-is at c.in-Err-Broken.ensures in
    rw (c.refused.ensures.reply, c.refused.ensures.job, c.refused.ensures.drawn, c.in-Err-Broken.rule-is, c.in-Err-Broken.code-is)
    (refused setup past c.args.self.now c.args.caller c.args.key c.args.params.now stands c.requires.caller _ _ broken)

pub returns-in_default-clause-serves : goal.returns-in_default-clause-serves
returns-in_default-clause-serves g c = λ setup past stands.
    let is = c.in-Ok.ensures in
    let found = none_sealed _ c.in-Ok.admitted.upgraded is.sealed_is c.in_default.is in
    rw (c.undrawn.ensures.reply, c.undrawn.ensures.job, c.undrawn.ensures.drawn, c.given_back.ensures)
    (given setup past c.args.self.now c.args.caller c.args.key c.args.params.now stands c.requires.caller c.in-Ok.admitted.place found is.place_is is.handed_is c.requires.settled)

pub keep-reply-requires-clause-can : goal.keep-reply-requires-clause-can
keep-reply-requires-clause-can g c =
    let is = c.in-Ok.ensures in
    let small : IsSmall c.in-Some.upgraded = rw c.in-Some.is at is.small in
    may_renew c.args.self.now.policy c.args.caller c.args.key c.args.self.now.keys c.in-Ok.admitted.place _ _ is.place_is c.in-Ok-seal_upgraded.ensures.few small.listed

pub returns-clause-serves : goal.returns-clause-serves
returns-clause-serves g c = λ setup past stands.
    let is = c.in-Ok.ensures in
    let small : IsSmall c.in-Some.upgraded = rw c.in-Some.is at is.small in
    let found = some_sealed _ c.in-Ok.admitted.upgraded c.in-Some.upgraded is.sealed_is c.in-Some.is in
    let long : length c.in-Ok-draw.drawn ≡ 12 = omega (arith, c.in-Ok-draw.ensures.whole, c.in-Ok-of.ensures) in
    let blob : c.in-Ok-seal_upgraded.blob ≡ blob_of c.args.self.now.device.seal c.in-Ok-draw.drawn c.in-Some.upgraded.sealed =
    c.in-Ok-seal_upgraded.ensures.blob ∙ ap (λ nonce. blob_of c.args.self.now.device.seal nonce c.in-Some.upgraded.sealed) (c.nonce_in-nonce.ensures ∙ c.as_slice.ensures) in
    renewed setup past c.args.self.now c.args.caller c.args.key c.args.params.now stands c.requires.caller c.keep-reply.new.keys c.in-Ok.admitted.place c.in-Some.upgraded.sealed c.in-Ok-draw.drawn
    c.in-Ok-seal_upgraded.blob c.in-Some.upgraded.list c.keep-reply.result found is.place_is is.handed_is long blob small.list_is c.requires.settled c.keep-reply.ensures.written

pub returns-clause-store : goal.returns-clause-store
returns-clause-store g c =
    let is = c.in-Ok.ensures in
    let small : IsSmall c.in-Some.upgraded = rw c.in-Some.is at is.small in
    let found = some_sealed _ c.in-Ok.admitted.upgraded c.in-Some.upgraded is.sealed_is c.in-Some.is in
    let blob : c.in-Ok-seal_upgraded.blob ≡ blob_of c.args.self.now.device.seal c.in-Ok-draw.drawn c.in-Some.upgraded.sealed =
    c.in-Ok-seal_upgraded.ensures.blob ∙ ap (λ nonce. blob_of c.args.self.now.device.seal nonce c.in-Some.upgraded.sealed) (c.nonce_in-nonce.ensures ∙ c.as_slice.ensures) in
    renewed_goes g.D.Disk c.args.self.now c.args.caller c.args.key c.args.params.now c.keep-reply.new.keys c.args.disk.now c.keep-reply.new.disk c.in-Ok.admitted.place c.in-Some.upgraded.sealed
    c.in-Ok-draw.drawn c.in-Ok-seal_upgraded.blob c.in-Some.upgraded.list c.keep-reply.result found is.place_is blob small.list_is c.keep-reply.ensures.store
