use Rattle.std.proofs.Common.{◌≡◌, ◌-◌, ◌<◌, ◌++◌, length, take, drop, ap, sym, ◌∙◌, arith}
use Rattle.std.proofs.lemmas.Bool.{eqb-true, eqb-false}
use Rattle.std.proofs.lemmas.List.{take_rest}
use Rattle.block_modes.proofs.SettleLemmas.{drop_further, gives_from}
use Rattle.block_modes.proofs.Taking.{taken_all}
use Rattle.block_modes.proofs.UpdateLoop.{in_update_start, in_update_more}
use Rattle.block_modes.proofs.engine.Blocks.update.Goals as goal

pub pieces-init : goal.pieces-init
pieces-init g c = in_update_start g.C.BlockCipher.cipher g.C.BlockCipher.inverse c.args.self.now c.args.input.now c.args.out.now c.shown-skip.result c.shown-skip.ensures.out c.shown-skip.ensures.part c.shown-skip.ensures.room

pub pieces-preserved : goal.pieces-preserved
pieces-preserved g c =
    let some : 0 < length c.pieces.rest.now = omega (arith, eqb-false (length c.pieces.rest.now) 0 (sym c.is_empty.ensures ∙ c.pieces-test.true)) in
    let mid = take (length c.pieces.rest.now - c.make_way-end.result.2) (drop c.make_way-end.result.2 c.pieces.rest.now) in
    in_update_more g.C.BlockCipher.cipher g.C.BlockCipher.inverse c.args.self.now c.pieces.self c.make_way-end.new.self (record c.make_way-end.new.self { held = c.fill-taken.new.self })
    c.args.input.now c.pieces.rest.now mid (take (length mid - c.fill-taken.result) (drop c.fill-taken.result mid)) c.args.out.now c.pieces.out c.make_way-end.new.out
    c.pieces.at c.make_way-end.result.0 c.pieces.skip c.make_way-end.result.1 c.make_way-end.result.2 c.fill-taken.result
    c.pieces.invariant c.make_way-end.ensures.goes c.make_way-end.ensures.part (ap (λ h. record c.make_way-end.new.self { held = h }) c.fill-taken.ensures.bytes) c.make_way-end.ensures.space some
    c.make_way-end.ensures.taken c.make_way-end.ensures.behind c.fill-taken.ensures.count
    (take_rest c.pieces.rest.now c.make_way-end.result.2) (take_rest mid c.fill-taken.result) c.make_way-end.ensures.count c.make_way-end.ensures.within c.make_way-end.ensures.rest

pub returns-clause-holds : goal.returns-clause-holds
returns-clause-holds g c cipher inverse plan nonce text holds =
    let none : length c.pieces.rest.now ≡ 0 = eqb-true (length c.pieces.rest.now) 0 (sym c.is_empty.ensures ∙ c.pieces-test.false) in
    (taken_all g.C.BlockCipher.cipher g.C.BlockCipher.inverse c.args.self.now c.pieces.self c.settle.new.self c.args.input.now c.pieces.rest.now c.pieces.out c.settle.new.out
    c.pieces.at c.settle.result c.pieces.skip c.pieces.invariant.taking none c.settle.ensures.holds cipher inverse plan nonce text holds).holds

pub returns-clause-gives : goal.returns-clause-gives
returns-clause-gives g c cipher inverse plan nonce text holds =
    let none : length c.pieces.rest.now ≡ 0 = eqb-true (length c.pieces.rest.now) 0 (sym c.is_empty.ensures ∙ c.pieces-test.false) in
    gives_from g.C.BlockCipher.cipher g.C.BlockCipher.inverse c.args.self.now c.settle.new.self cipher inverse plan nonce text (text ++ c.args.input.now) (take c.settle.result c.settle.new.out) holds
    (taken_all g.C.BlockCipher.cipher g.C.BlockCipher.inverse c.args.self.now c.pieces.self c.settle.new.self c.args.input.now c.pieces.rest.now c.pieces.out c.settle.new.out
    c.pieces.at c.settle.result c.pieces.skip c.pieces.invariant.taking none c.settle.ensures.holds cipher inverse plan nonce text holds)

pub returns-clause-rest : goal.returns-clause-rest
returns-clause-rest g c = c.settle.ensures.rest ∙ drop_further c.pieces.at c.settle.result c.pieces.out c.args.out.now c.pieces.invariant.kept c.settle.ensures.within
