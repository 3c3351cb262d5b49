use Rattle.std.proofs.Common.{◌≡◌, ◌-◌, ◌++◌, length, drop, replicate, sym, ap, ◌∙◌, arith}
use Rattle.std.proofs.lemmas.List.{length-append, length-drop, length-take-le, take_at}
use Rattle.key_wrap.specs.Wrapping.{kw_wrap}
use Rattle.key_wrap.proofs.Opening.{left_of, none_wrapped, wraps_opened}
use Rattle.key_wrap.proofs.wrapping.unwrap.Goals as goal

pub returns-then-same_bytes-clause-wraps : goal.returns-then-same_bytes-clause-wraps
returns-then-same_bytes-clause-wraps g c =
    let cipher = g.C.BlockCipher.cipher c.args.cipher.now in
    let inverse = g.C.BlockCipher.inverse c.args.cipher.now in
    let parts = c.unwrapping-value.new.parts in
    let left = left_of inverse c.args.wrapped.now c.value_in.result c.copy_from_slice.new.self _ c.unwrapping-value.ensures.state c.value_in.ensures c.copy_from_slice.ensures.after in
    ap (kw_wrap cipher) (take_at parts _ _ (c.unwrapping-value.auto.parts ∙ c.copy_from_slice.ensures.len ∙ length-take-le _ c.args.out.now (omega (arith, c.requires.room))))
    ∙ wraps_opened cipher inverse c.args.wrapped.now c.unwrapping-value.result parts
    (record { keeps = g.met.C.BlockCipher.inverse_keeps c.args.cipher.now; undoes = g.met.C.BlockCipher.redoes c.args.cipher.now }) c.requires.wrapped (λ k. omega (arith, c.type_inv.wrapped k))
    left (sym c.same_bytes.ensures ∙ c.if-same_bytes.true)

pub returns-clause-none : goal.returns-clause-none
returns-clause-none g c is_none text is bytes same =
    let cipher = g.C.BlockCipher.cipher c.args.cipher.now in
    let inverse = g.C.BlockCipher.inverse c.args.cipher.now in
    let left = left_of inverse c.args.wrapped.now c.value_in.result c.copy_from_slice.new.self _ c.unwrapping-value.ensures.state c.value_in.ensures c.copy_from_slice.ensures.after in
    none_wrapped cipher inverse c.args.wrapped.now c.unwrapping-value.result c.unwrapping-value.new.parts
    (record { keeps = g.met.C.BlockCipher.cipher_keeps c.args.cipher.now; undoes = g.met.C.BlockCipher.undoes c.args.cipher.now })
    left (sym c.same_bytes.ensures ∙ c.if-same_bytes.false) text is bytes same

pub returns-clause-cleared : goal.returns-clause-cleared
returns-clause-cleared g c is_none =
    let out = c.args.out.now in
    let size = length c.args.wrapped.now - 8 in
    let whole : length (c.unwrapping-value.new.parts ++ drop size out) ≡ length out =
    length-append c.unwrapping-value.new.parts (drop size out)
    ∙ omega (arith, c.unwrapping-value.auto.parts, c.copy_from_slice.ensures.len, length-take-le size out (omega (arith, c.requires.room)), length-drop size out, c.requires.room) in
    c.fill.ensures.after (λ y is. is) ∙ ap (λ n. replicate n 0) whole
