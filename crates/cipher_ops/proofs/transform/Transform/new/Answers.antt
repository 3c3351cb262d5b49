use Rattle.std.proofs.Common.{Bool, refl, ap, ◌∙◌}
use Rattle.tags.specs.declared.plan.Plan.TheVariants.{Gcm}
use Rattle.cipher_ops.proofs.Beginning.{mac_fits, modes_begin, seal_begin, open_begin, sign_begin, verify_begin}
use Rattle.cipher_ops.proofs.transform.Transform.new.Goals as goal

pub returns-in-Ecb : goal.returns-in-Ecb
returns-in-Ecb c =
    modes_begin c.new.result c.aes_of.result c.args.plan c.args.key.now c.args.nonce.now _ c.aes_of.ensures (rw c.in-Ecb.is refl) c.new.ensures

pub returns-in-Cbc : goal.returns-in-Cbc
returns-in-Cbc c =
    modes_begin c.new-in-Cbc.result c.aes_of-in-Cbc.result c.args.plan c.args.key.now c.args.nonce.now c.array_of.result c.aes_of-in-Cbc.ensures
    (rw c.in-Cbc.is c.array_of.ensures) c.new-in-Cbc.ensures

pub returns-in-Ctr : goal.returns-in-Ctr
returns-in-Ctr c =
    modes_begin c.new-in-Ctr.result c.aes_of-in-Ctr.result c.args.plan c.args.key.now c.args.nonce.now c.array_of-in-Ctr.result c.aes_of-in-Ctr.ensures
    (rw c.in-Ctr.is c.array_of-in-Ctr.ensures) c.new-in-Ctr.ensures

pub returns-then-seal : goal.returns-then-seal
returns-then-seal c =
    seal_begin c.new-then-seal.result c.aes_of-then-seal.result c.args.plan c.in-Gcm.tag c.args.key.now c.args.nonce.now c.array_of-then-seal.result
    (c.in-Gcm.is ∙ ap (λ (b : Bool). Gcm b c.in-Gcm.tag) c.if-seal.true) c.aes_of-then-seal.ensures c.array_of-then-seal.ensures c.new-then-seal.ensures

pub returns-else-seal : goal.returns-else-seal
returns-else-seal c =
    open_begin c.new-else-seal.result c.aes_of-else-seal.result c.args.plan c.in-Gcm.tag c.args.key.now c.args.nonce.now c.array_of-else-seal.result
    (c.in-Gcm.is ∙ ap (λ (b : Bool). Gcm b c.in-Gcm.tag) c.if-seal.false) c.aes_of-else-seal.ensures c.array_of-else-seal.ensures c.new-else-seal.ensures

pub returns-in-HmacSign : goal.returns-in-HmacSign
returns-in-HmacSign c =
    let works = rw c.in-HmacSign.is at c.requires.works in
    sign_begin c.new-in-HmacSign.result c.args.plan c.in-HmacSign.digest c.in-HmacSign.size c.args.key.now c.args.nonce.now c.in-HmacSign.is (mac_fits c.in-HmacSign.digest c.in-HmacSign.size works) c.new-in-HmacSign.ensures

pub returns-in-HmacVerify : goal.returns-in-HmacVerify
returns-in-HmacVerify c =
    verify_begin c.new-in-HmacVerify.result c.args.plan c.in-HmacVerify.digest c.in-HmacVerify.least c.args.key.now c.args.nonce.now c.in-HmacVerify.is c.new-in-HmacVerify.ensures
